use Rattle.std.proofs.Common.{rules, arith, ◌≡◌, ◌++◌, ◌∙◌, ◌∷◌, [], length, map, refl, ap, subst, sym, append_assoc, List, ℕ, ◌<◌, ◌≤◌, ◌+◌, None, slice_index_or}
use Rattle.std.specs.Prelude.{All, vec_capacity}
use Rattle.std.specs.Vec.Iter.{into_iter_items}
use Rattle.std.proofs.lemmas.List.{length-append, append-nil}
use Rattle.run_engine.proofs.Joining.{numbers_done}
use Rattle.element_tree.specs.Names.{labels_of}
use Rattle.element_tree.specs.Tree.{Tree}
use Rattle.thread_machine.specs.declared.trace.TraceItem.{TraceItem}
use Rattle.thread_machine.specs.Bare.{IsLabelled}
use Rattle.thread_machine.specs.SectionOrder.{SectionsFrom}
use Rattle.phaser_core.specs.Views.{left_of}
use Rattle.phaser_core.specs.declared.view.ReporterView.{ReporterView}
use Rattle.recorder_core.specs.RecorderSeats.{reports, writes}
use Rattle.run_engine.specs.declared.job.Job.{Job}
use Rattle.run_engine.specs.Asked.{options_of}
use Rattle.run_engine.specs.Followed.{FollowsWhere}
use Rattle.run_engine.specs.Joins.{joined_of, trace_of, number_of, IsDone}
use Rattle.run_engine.proofs.Seqs.{more_each, first_each, rest_each, none_left}
use Rattle.critical_section.specs.SectionSeats.{view_of, IsSeatOf}
use Rattle.run_engine.specs.SectionsRun.{sections_of_all, Rises, HasTaken}
use Rattle.run_engine.proofs.Placing.{taken_none, taken_more, makes_still}
use Rattle.run_engine.proofs.joins.join_each.Goals as goal

pub join_seat-requires-clause-seats : goal.join_seat-requires-clause-seats
join_seat-requires-clause-seats g c =
    let inv = c.loop-job.invariant in
    let is = first_each (λ (_ : ℕ) (j : Job _). j.sections.now ≡ c.args.sections.now) 0 _ _ _ c.in-Some.ensures.steps.0 inv.among in
    (inv.taken.seat_of, subst (λ s. IsSeatOf s c.in-Some.job.section) is c.in-Some.job.entered.seat_of)

pub join_seat-requires-clause-first : goal.join_seat-requires-clause-first
join_seat-requires-clause-first g c =
    makes_still c.args.sections.now (view_of c.args.first.now) (sections_of_all c.loop-job.traces.items) c.loop-job.first c.loop-job.invariant.taken c.requires.first.1

pub join_seat-requires-clause-none_open : goal.join_seat-requires-clause-none_open
join_seat-requires-clause-none_open g c = c.in-Some.job.entered.none_open

pub loop-job-preserved : goal.loop-job-preserved
loop-job-preserved g c =
    let inv = c.loop-job.invariant in
    let step = c.in-Some.ensures.steps.0 in
    let rest = into_iter_items c.next.new.self in
    let account = g.W.Out.Outside.account in
    let job = c.in-Some.job in
    let n = length c.loop-job.traces.items in
    let plan = c.args.ask.now.plan.now in let options = options_of c.args.ask.now in
    let tells = g.W.World.tells c.args.world.now in
    let done = first_each (IsDone account c.args.recorder.now plan options (g.W.World.identity c.args.world.now) tells c.args.count) n _ _ _ step inv.left in
    let taken = c.join_writer.ensures.taken in
    let before = reports c.loop-job.seat in
    let is : c.of.result ≡ trace_of job = search rules in
    let pushed : c.push-pushed.new.self.items ≡ c.loop-job.traces.items ++ c.of.result ∷ [] = search rules in
    let grown : c.push-pushed.new.self.items ≡ c.loop-job.traces.items ++ trace_of job ∷ [] = pushed ∙ ap (λ (t : List TraceItem). c.loop-job.traces.items ++ t ∷ []) is in
    let more : length c.push-pushed.new.self.items ≡ n + 1 = ap length grown ∙ length-append c.loop-job.traces.items (trace_of job ∷ []) in
    record {
      seat = c.join_writer.ensures.seat;
      left = subst (λ (k : ℕ). (i : ℕ) (d : Job _) → i < length rest → IsDone account c.args.recorder.now plan options (g.W.World.identity c.args.world.now) tells c.args.count (k + i) (slice_index_or rest i d)) (sym more)
          (rest_each (IsDone account c.args.recorder.now plan options (g.W.World.identity c.args.world.now) tells c.args.count) n _ _ _ step inv.left);
      among = rest_each (λ (_ : ℕ) (j : Job _). j.sections.now ≡ c.args.sections.now) 0 _ _ _ step inv.among;
      taken = taken_more c.args.sections.now job.sections.now (view_of c.args.first.now) c.loop-job.traces.items c.push-pushed.new.self.items c.loop-job.first c.join_seat.new.into job.section job.worker inv.taken job.entered c.join_seat.ensures.seat c.join_seat.ensures.taken grown;
      rising = more_each (λ _ (t : List TraceItem). Rises t) c.loop-job.traces.items _ (trace_of job) n (search rules) grown inv.rising done.rises;
      sections = more_each (λ _ (t : List TraceItem). SectionsFrom None t None) c.loop-job.traces.items _ (trace_of job) n (search rules) grown inv.sections
          (subst (SectionsFrom None (trace_of job)) (c.into_trace.ensures.closed done.over)
          (subst (λ (t : List TraceItem). SectionsFrom None t job.worker.section) c.into_trace.ensures.items c.into_trace.ensures.sections));
      room = (let room = inv.room in let fewer = ap length step in let wide : vec_capacity c.loop-job.traces ≤ vec_capacity c.push-pushed.new.self = search rules in omega arith);
      only = record {
        interval = ap (λ (r : ReporterView). r.interval) taken ∙ inv.only.interval;
        closed = ap (λ (r : ReporterView). r.closed) taken ∙ inv.only.closed;
        raised = ap (λ (r : ReporterView). r.raised) taken ∙ inv.only.raised;
        ready = ap (λ (r : ReporterView). r.ready) taken ∙ inv.only.ready;
        labels = ap (λ (r : ReporterView). r.labels) taken ∙ inv.only.labels;
      };
      joined = ap (λ (r : ReporterView). r.joined ++ map joined_of rest) taken
          ∙ append_assoc before.joined (left_of (writes job.seat) ∷ []) (map joined_of rest)
          ∙ ap (λ (xs : List (Job _)). before.joined ++ map joined_of xs) (sym step)
          ∙ inv.joined;
      traces = ap (λ (ts : List (List TraceItem)). ts ++ map trace_of rest) grown
          ∙ append_assoc c.loop-job.traces.items (trace_of job ∷ []) (map trace_of rest)
          ∙ ap (λ (xs : List (Job _)). c.loop-job.traces.items ++ map trace_of xs) (sym step)
          ∙ inv.traces;
      labels = more_each (λ _ (t : List TraceItem). All (IsLabelled (length (labels_of plan.elements))) t) c.loop-job.traces.items _ (trace_of job) n (search rules) grown inv.labels
          (subst (λ (p : Tree). All (IsLabelled (length (labels_of p.elements))) (trace_of job)) done.plan_is
          (subst (All (IsLabelled (length (labels_of job.worker.plan.elements)))) c.into_trace.ensures.items c.into_trace.ensures.labels));
      follows = λ told. more_each (λ (k : ℕ) (t : List TraceItem). FollowsWhere plan k options (g.W.World.told c.close.new.self k) t) c.loop-job.traces.items _ (trace_of job) n (search rules) grown
          (λ k d low. subst (λ o. FollowsWhere plan k options o (slice_index_or c.loop-job.traces.items k d)) (sym (c.close.ensures.others k (λ e. let is : job.number ≡ n = done.number_is in absurd (omega arith)))) (inv.follows told k d low))
          (subst (λ o. FollowsWhere plan n options o (trace_of job)) (sym (ap (g.W.World.told c.close.new.self) (sym done.number_is) ∙ c.close.ensures.told)) (done.follows told));
      closed = ap (λ (l : List ℕ). l ++ map number_of rest) c.close.ensures.closed
          ∙ append_assoc (g.W.World.closed c.loop-job.world) (job.number ∷ []) (map number_of rest)
          ∙ ap (λ (xs : List (Job _)). g.W.World.closed c.loop-job.world ++ map number_of xs) (sym step)
          ∙ inv.closed;
      identity = c.close.ensures.same.0 ∙ inv.identity;
      tells = c.close.ensures.same.1 ∙ inv.tells;
      opened = c.close.ensures.same.2 ∙ inv.opened;
    }

pub loop-job-init : goal.loop-job-init
loop-job-init g c =
    let items : into_iter_items c.into_iter-job-iterator.result ≡ c.args.jobs.items = search rules in
    let none : c.args.traces.now.items ≡ [] = c.requires.room.0 in
    let zero : length c.args.traces.now.items ≡ 0 = ap length none in
    let account = g.W.Out.Outside.account in
    let plan = c.args.ask.now.plan.now in let options = options_of c.args.ask.now in
    let identity = g.W.World.identity c.args.world.now in let tells = g.W.World.tells c.args.world.now in
    let all = subst (λ (xs : List (Job _)). (i : ℕ) (d : Job _) → i < length xs → IsDone account c.args.recorder.now plan options identity tells c.args.count i (slice_index_or xs i d)) (sym items) c.requires.jobs in
    record {
      seat = c.requires.seat;
      left = λ i d low. subst (λ (k : ℕ). IsDone account c.args.recorder.now plan options identity tells c.args.count k (slice_index_or (into_iter_items c.into_iter-job-iterator.result) i d))
          (let e : i ≡ length c.args.traces.now.items + i = omega arith in e) (all i d low);
      among = subst (λ (xs : List (Job _)). (i : ℕ) (d : Job _) → i < length xs → (slice_index_or xs i d).sections.now ≡ c.args.sections.now) (sym items) c.requires.seats;
      taken = subst (λ ts. HasTaken c.args.sections.now (view_of c.args.first.now) (sections_of_all ts) c.args.first.now) (sym none) (taken_none c.args.sections.now c.args.first.now c.requires.first.0);
      rising = λ i d low. absurd (omega arith);
      sections = λ i d low. absurd (omega arith);
      room = (let few = c.requires.room.1 in let same = ap length items in omega arith);
      only = record { interval = refl; closed = refl; raised = refl; ready = refl; labels = refl };
      joined = ap (λ (xs : List (Job _)). (reports c.args.seat.now).joined ++ map joined_of xs) items;
      traces = ap (λ (ts : List (List TraceItem)). ts ++ map trace_of (into_iter_items c.into_iter-job-iterator.result)) none ∙ ap (map trace_of) items;
      labels = λ i d low. absurd (omega arith);
      follows = λ told i d low. absurd (omega arith);
      closed = ap (λ (xs : List (Job _)). g.W.World.closed c.args.world.now ++ map number_of xs) items;
      identity = refl;
      tells = refl;
      opened = refl;
    }

pub returns-clause-joined : goal.returns-clause-joined
returns-clause-joined g c =
    let zero : length (into_iter_items c.loop-job.job-iterator) ≡ 0 = search rules in let none : into_iter_items c.loop-job.job-iterator ≡ [] = none_left (into_iter_items c.loop-job.job-iterator) zero in
    sym (append-nil (reports c.loop-job.seat).joined) ∙ ap (λ (xs : List (Job _)). (reports c.loop-job.seat).joined ++ map joined_of xs) (sym none) ∙ c.loop-job.invariant.joined

pub returns-clause-traces : goal.returns-clause-traces
returns-clause-traces g c =
    let zero : length (into_iter_items c.loop-job.job-iterator) ≡ 0 = search rules in let none : into_iter_items c.loop-job.job-iterator ≡ [] = none_left (into_iter_items c.loop-job.job-iterator) zero in
    sym (append-nil c.loop-job.traces.items) ∙ ap (λ (xs : List (Job _)). c.loop-job.traces.items ++ map trace_of xs) (sym none) ∙ c.loop-job.invariant.traces

pub returns-clause-closed : goal.returns-clause-closed
returns-clause-closed g c =
    let zero : length (into_iter_items c.loop-job.job-iterator) ≡ 0 = search rules in let none : into_iter_items c.loop-job.job-iterator ≡ [] = none_left (into_iter_items c.loop-job.job-iterator) zero in
    sym (append-nil (g.W.World.closed c.loop-job.world)) ∙ ap (λ (xs : List (Job _)). g.W.World.closed c.loop-job.world ++ map number_of xs) (sym none) ∙ c.loop-job.invariant.closed
    ∙ ap (λ (l : List ℕ). g.W.World.closed c.args.world.now ++ l) (numbers_done g.W.Out.Outside.account c.args.recorder.now c.args.ask.now.plan.now (options_of c.args.ask.now) (g.W.World.identity c.args.world.now) (g.W.World.tells c.args.world.now) c.args.count c.args.jobs.items c.requires.jobs)
