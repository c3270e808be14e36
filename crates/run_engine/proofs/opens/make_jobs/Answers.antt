use Rattle.std.proofs.Common.{rules, arith, ◌≡◌, ◌≤◌, not, cond, ◌∙◌, ◌++◌, ◌∷◌, [], length, ap, subst, List, ℕ, Bool}
use Rattle.std.specs.Prelude.{vec_capacity}
use Rattle.std.proofs.lemmas.List.{length-append}
use Rattle.run_engine.specs.Asked.{options_of}
use Rattle.run_engine.specs.declared.job.Job.{Job}
use Rattle.run_engine.specs.Made.{IsNew, IsFresh}
use Rattle.run_engine.specs.SectionsRun.{IsFirstSeat}
use Rattle.run_engine.proofs.Seqs.{more_each, first_each, rest_each, not_yet}
use Rattle.reporter_loop.proofs.Numbers.{range_more}
use Rattle.run_engine.proofs.opens.make_jobs.Goals as goal

pub open_job-requires-clause-seat : goal.open_job-requires-clause-seat
open_job-requires-clause-seat g c κs within =
    let inv = c.loop-seat.invariant in
    first_each (IsNew c.args.recorder.now c.args.count) c.loop-seat.number _ _ _ c.in-Some.ensures.steps.0 inv.left

pub open_job-requires-clause-number : goal.open_job-requires-clause-number
open_job-requires-clause-number g c κs within =
    let inv = c.loop-seat.invariant in let count = inv.count in let step = ap length c.in-Some.ensures.steps.0 in let all = c.requires.count.0 in omega arith

pub open_job-requires-clause-first : goal.open_job-requires-clause-first
open_job-requires-clause-first g c κs within = c.loop-seat.invariant.first

pub open_job-requires-clause-room : goal.open_job-requires-clause-room
open_job-requires-clause-room g c κs within =
    let inv = c.loop-seat.invariant in let count = inv.count in let step = ap length c.in-Some.ensures.steps.0 in let more = c.requires.more in omega arith

pub open_job-requires-clause-closed : goal.open_job-requires-clause-closed
open_job-requires-clause-closed g c κs within = not_yet c.loop-seat.number (g.W.World.opened c.loop-seat.world) c.loop-seat.invariant.opened

pub loop-seat-preserved : goal.loop-seat-preserved
loop-seat-preserved g c =
    let inv = c.loop-seat.invariant in let step = c.in-Some.ensures.steps.0 in
    let n = c.loop-seat.number in let r = c.args.recorder.now in let count = c.args.count in
    let job = c.in_ok-job.job in let made = c.in_ok-job.ensures in
    let grown : c.push-pushed.new.self.items ≡ c.loop-seat.jobs.items ++ job ∷ [] = c.push-pushed.ensures.items ∙ ap (λ (b : Bool). cond b (c.loop-seat.jobs.items ++ job ∷ []) c.loop-seat.jobs.items) (c.is_err.ensures.negation ∙ ap not c.if-is_err.false) in
    let wide : vec_capacity c.loop-seat.jobs ≤ vec_capacity c.push-pushed.new.self = search rules in
    let account = g.W.Out.Outside.account in
    let plan = c.args.ask.now.plan.now in let options = options_of c.args.ask.now in
    let tells = g.W.World.tells c.args.world.now in
    let at = inv.at in let all = inv.count in let fewer = ap length step in
    let more = ap length grown ∙ length-append c.loop-seat.jobs.items (job ∷ []) in
    let fresh = subst (λ (b : Bool). IsFresh account r plan options (g.W.World.identity c.args.world.now) b count n job) inv.tells
    (subst (λ (k : ℕ). IsFresh account r plan options k (g.W.World.tells c.loop-seat.world) count n job) inv.identity made.fresh) in
    record {
      iterator = (tt, tt);
      at = omega arith;
      count = omega arith;
      room = (let room = inv.room in omega arith);
      left = rest_each (IsNew r count) n _ _ _ step inv.left;
      made = more_each (λ (i : ℕ) (j : Job _). IsFresh account r plan options (g.W.World.identity c.args.world.now) tells count i j) c.loop-seat.jobs.items _ job n inv.at grown inv.made fresh;
      first = made.first;
      among = more_each (λ (_ : ℕ) (j : Job _). j.sections.now ≡ c.args.sections.now) c.loop-seat.jobs.items _ job n inv.at grown inv.among made.among;
      opened = made.opened ∙ ap (λ (l : List ℕ). l ++ n ∷ []) inv.opened ∙ range_more n;
      identity = made.same.0 ∙ inv.identity;
      tells = made.same.1 ∙ inv.tells;
      closed = made.same.2 ∙ inv.closed;
    }

pub returns-clause-split : goal.returns-clause-split
returns-clause-split g c =
    let inv = c.loop-seat.invariant in subst (λ (n : ℕ). IsFirstSeat c.args.sections.now n c.loop-seat.first) inv.at inv.first
