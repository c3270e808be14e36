use Rattle.std.proofs.Common.{◌≡◌, ◌∙◌, refl, ◌+◌, ◌≤◌, sym, ap, subst, arith}
use Rattle.jm_base.specs.declared.types.End.TheVariants.{Stopped}
use Rattle.thread_machine.specs.declared.step.Step.TheVariants.{Sampled, Null, Leave, Ended}
use Rattle.thread_machine.proofs.Ends.{begun_on, noted_on, noted_is, entered_is}
use Rattle.thread_machine.proofs.PlaceLaws.{fewer_sampled, fewer_null, fewer_enters, fewer_leaves}
use Rattle.recorder_core.specs.RecorderSeats.{writes, numbers_of}
use Rattle.thread_machine.proofs.Ends.{over_with}
use Rattle.phaser_core.specs.Keeps.{KeepsTo}
use Rattle.run_engine.proofs.Finishing.{has_ended}
use Rattle.run_engine.proofs.Placing.{holding_first, holding_same, sections_noted, sections_same, lock_low, none_inside, few_own, holding_entered, known_so, open_so, holding_left, keeps_ended, rises_ended, keeps_stopped, rises_stopped}
use Rattle.thread_machine.proofs.Pairs.{pairs_step}
use Rattle.run_engine.proofs.Traces.{same_outside, same_then, pairs_entered, units_entered, units_leave, same_steps, pairs_noted, ends_with, not_stopped, label_low, label_fits, units_left, units_null, pairs_stopped, ends_stopped}
use Rattle.run_engine.proofs.Writing.{looked, seen, same_marked, writing_same, writing_more, writing_first, keeps_to}
use Rattle.run_engine.proofs.samples.run_samples.Goals as goal

pub steps-preserved-in-Sampled : goal.steps-preserved-in-Sampled
steps-preserved-in-Sampled g c =
    let i = c.steps.invariant in
    let h = looked c.args.recorder.now _ c.steps.seat c.stop_seen.new.seat c.steps.worker c.stop_seen.result i.writing c.stop_seen.ensures.seat c.stop_seen.ensures.mark c.if-stop_seen.false in
    let s = c.in-Sampled.ensures.steps in
    let begun = begun_on _ _ _ s.between s.begins in
    let given = s.gives in
    let k = c.record_entry-interval.result in
    let entry = c.in-Sampled.entry in
    let is = noted_is k c.step.new.self c.noted.new.self given.sample (ap (λ w. w.owed) given.new_is) c.noted.ensures.item in
    let on = noted_on k c.step.new.self c.noted.new.self given.sample is in
    let r = c.record_entry-interval.ensures in
    let used : c.step.new.self.units + 1 ≡ c.steps.worker.units = units_left _ _ _ _ entry s in
    let kept : c.noted.new.self.units ≡ c.step.new.self.units = ap (λ w. w.units) is in
    let label = label_fits c.steps.worker.plan c.args.worker.now.plan entry.label (numbers_of c.args.recorder.now).labels i.plan (label_low _ _ _ _ entry s) c.requires.labels in
    record {
      writing = writing_more c.args.recorder.now _ c.stop_seen.new.seat c.record_entry-interval.new.seat c.steps.worker c.noted.new.self k entry h r.seat r.list (pairs_noted _ _ _ c.step.new.self entry s c.noted.new.self k is)
          (omega (arith, used, kept)) label r.elapsed r.bytes;
      owed = on.owed;
      entering = on.entering ∙ ap (λ w. w.entering) given.new_is ∙ begun.entering ∙ i.entering;
      holding = holding_same c.args.sections.now c.steps.held c.steps.section c.steps.worker c.noted.new.self i.holding (on.section ∙ ap (λ w. w.section) given.new_is ∙ begun.section)
          (sections_noted c.step.new.self c.noted.new.self given.sample k is ∙ sections_same _ _ _ _ (Sampled entry) s) (on.plan ∙ ap (λ w. w.plan) given.new_is ∙ begun.plan) (omega (arith, used, kept));
      going = on.ended ∙ ap (λ w. w.ended) given.new_is ∙ begun.ended ∙ i.going;
      plan = on.plan ∙ ap (λ w. w.plan) given.new_is ∙ begun.plan ∙ i.plan;
      thread = on.thread ∙ ap (λ w. w.thread) given.new_is ∙ begun.thread ∙ i.thread;
      outside = same_then _ _ _ i.outside (same_steps _ _ _ _ _ s);
      stands = λ start options stands. c.noted.ensures.stands start _ options (c.in-Sampled.ensures.stands start options (i.stands start options stands));
    }

pub steps-preserved-in-Null : goal.steps-preserved-in-Null
steps-preserved-in-Null g c =
    let i = c.steps.invariant in
    let h = looked c.args.recorder.now _ c.steps.seat c.stop_seen.new.seat c.steps.worker c.stop_seen.result i.writing c.stop_seen.ensures.seat c.stop_seen.ensures.mark c.if-stop_seen.false in
    let s = c.in-Null.ensures.steps in
    let begun = begun_on _ _ _ s.between s.begins in
    let given = s.gives in
    let less : c.step.new.self.units ≤ c.steps.worker.units = units_null _ _ _ _ s in
    record {
      writing = writing_same c.args.recorder.now _ c.stop_seen.new.seat c.steps.worker c.step.new.self h (pairs_step _ _ _ _ Null s) less;
      owed = ap (λ w. w.owed) given.new_is ∙ begun.owed ∙ i.owed;
      entering = ap (λ w. w.entering) given.new_is ∙ begun.entering ∙ i.entering;
      holding = holding_same c.args.sections.now c.steps.held c.steps.section c.steps.worker c.step.new.self i.holding (ap (λ w. w.section) given.new_is ∙ begun.section)
          (sections_same _ _ _ _ Null s) (ap (λ w. w.plan) given.new_is ∙ begun.plan) less;
      going = ap (λ w. w.ended) given.new_is ∙ begun.ended ∙ i.going;
      plan = ap (λ w. w.plan) given.new_is ∙ begun.plan ∙ i.plan;
      thread = ap (λ w. w.thread) given.new_is ∙ begun.thread ∙ i.thread;
      outside = same_then _ _ _ i.outside (same_steps _ _ _ _ _ s);
      stands = λ start options stands. c.in-Null.ensures.stands start options (i.stands start options stands);
    }

pub steps-init : goal.steps-init
steps-init g c = record {
  writing = writing_first c.args.recorder.now c.args.seat.now c.args.worker.now c.requires.seat c.requires.none c.requires.listed c.requires.unseen c.requires.budget;
  owed = c.requires.owed;
  entering = c.requires.entering;
  holding = holding_first c.args.sections.now c.args.section.now c.args.worker.now c.requires.entered c.requires.closed c.requires.rises c.requires.few;
  going = c.requires.going;
  plan = refl;
  thread = refl;
  outside = same_outside _;
  stands = λ start options stands. stands;
}

pub enter-place-requires-clause-lock : goal.enter-place-requires-clause-lock
enter-place-requires-clause-lock g c = lock_low c.args.sections.now c.steps.held c.steps.section _ _ c.steps.worker c.step.new.self c.steps.invariant.holding c.in-Enter.lock c.in-Enter.ensures.steps

pub enter-place-requires-clause-none_open : goal.enter-place-requires-clause-none_open
enter-place-requires-clause-none_open g c = none_inside c.args.sections.now c.steps.held c.steps.section _ _ c.steps.worker c.step.new.self c.steps.invariant.holding c.in-Enter.lock c.in-Enter.ensures.steps

pub enter-place-requires-clause-few : goal.enter-place-requires-clause-few
enter-place-requires-clause-few g c = few_own c.args.sections.now c.steps.held c.steps.section _ _ c.steps.worker c.step.new.self c.steps.invariant.holding c.in-Enter.lock c.in-Enter.ensures.steps

pub steps-preserved-in-Enter : goal.steps-preserved-in-Enter
steps-preserved-in-Enter g c =
    let i = c.steps.invariant in
    let h = looked c.args.recorder.now _ c.steps.seat c.stop_seen.new.seat c.steps.worker c.stop_seen.result i.writing c.stop_seen.ensures.seat c.stop_seen.ensures.mark c.if-stop_seen.false in
    let s = c.in-Enter.ensures.steps in
    let lock = c.in-Enter.lock in
    let place = c.enter-place.result in
    let begun = begun_on _ _ _ s.between s.begins in
    let given = s.gives in
    let is = entered_is place c.step.new.self c.entered.new.self lock (ap (λ w. w.entering) given.new_is) c.entered.ensures.item in
    let less : c.step.new.self.units ≤ c.steps.worker.units = units_entered _ _ _ _ lock s in
    let kept : c.entered.new.self.units ≡ c.step.new.self.units = ap (λ w. w.units) is in
    record {
      writing = writing_same c.args.recorder.now _ c.stop_seen.new.seat c.steps.worker c.entered.new.self h (pairs_entered _ _ _ c.step.new.self lock place s c.entered.new.self is) (omega (arith, less, kept));
      owed = ap (λ w. w.owed) is ∙ ap (λ w. w.owed) given.new_is ∙ begun.owed ∙ i.owed;
      entering = ap (λ w. w.entering) is;
      holding = holding_entered c.args.sections.now c.steps.held c.steps.section _ _ c.steps.worker c.step.new.self i.holding lock s place c.enter-place.new.seat c.entered.new.self is c.enter-place.ensures.seat c.enter-place.ensures.entered;
      going = ap (λ w. w.ended) is ∙ ap (λ w. w.ended) given.new_is ∙ begun.ended ∙ i.going;
      plan = ap (λ w. w.plan) is ∙ ap (λ w. w.plan) given.new_is ∙ begun.plan ∙ i.plan;
      thread = ap (λ w. w.thread) is ∙ ap (λ w. w.thread) given.new_is ∙ begun.thread ∙ i.thread;
      outside = same_then _ _ _ i.outside (same_steps _ _ _ _ _ s);
      stands = λ start options stands. c.entered.ensures.stands start _ options (c.in-Enter.ensures.stands start options (i.stands start options stands));
    }

pub leave-requires-clause-lock : goal.leave-requires-clause-lock
leave-requires-clause-lock g c = known_so c.args.sections.now c.steps.held c.steps.section _ _ c.steps.worker c.step.new.self c.steps.invariant.holding c.in-Leave.lock c.in-Leave.ensures.steps

pub leave-requires-clause-open : goal.leave-requires-clause-open
leave-requires-clause-open g c = open_so c.args.sections.now c.steps.held c.steps.section _ _ c.steps.worker c.step.new.self c.steps.invariant.holding c.in-Leave.lock c.in-Leave.ensures.steps

pub steps-preserved : goal.steps-preserved
steps-preserved g c =
    let i = c.steps.invariant in
    let h = looked c.args.recorder.now _ c.steps.seat c.stop_seen.new.seat c.steps.worker c.stop_seen.result i.writing c.stop_seen.ensures.seat c.stop_seen.ensures.mark c.if-stop_seen.false in
    let s = c.in-Leave.ensures.steps in
    let lock = c.in-Leave.lock in
    let begun = begun_on _ _ _ s.between s.begins in
    let given = s.gives in
    let less : c.step.new.self.units ≤ c.steps.worker.units = units_leave _ _ _ _ lock s in
    record {
      writing = writing_same c.args.recorder.now _ c.stop_seen.new.seat c.steps.worker c.step.new.self h (pairs_step _ _ _ _ (Leave lock) s) less;
      owed = ap (λ w. w.owed) given.new_is ∙ begun.owed ∙ i.owed;
      entering = ap (λ w. w.entering) given.new_is ∙ begun.entering ∙ i.entering;
      holding = holding_left c.args.sections.now c.steps.held c.steps.section _ _ c.steps.worker c.step.new.self i.holding lock s c.leave.new.seat c.leave.ensures.seat c.leave.ensures.closed;
      going = ap (λ w. w.ended) given.new_is ∙ begun.ended ∙ i.going;
      plan = ap (λ w. w.plan) given.new_is ∙ begun.plan ∙ i.plan;
      thread = ap (λ w. w.thread) given.new_is ∙ begun.thread ∙ i.thread;
      outside = same_then _ _ _ i.outside (same_steps _ _ _ _ _ s);
      stands = λ start options stands. c.in-Leave.ensures.stands start options (i.stands start options stands);
    }

pub steps-smaller-in-Sampled : goal.steps-smaller-in-Sampled
steps-smaller-in-Sampled g c =
    let s = c.in-Sampled.ensures.steps in
    let k = c.record_entry-interval.result in
    fewer_sampled _ _ _ c.step.new.self c.noted.new.self k s (noted_is k c.step.new.self c.noted.new.self s.gives.sample (ap (λ w. w.owed) s.gives.new_is) c.noted.ensures.item)

pub steps-smaller-in-Null : goal.steps-smaller-in-Null
steps-smaller-in-Null g c = fewer_null _ _ _ c.step.new.self c.in-Null.ensures.steps

pub steps-smaller-in-Enter : goal.steps-smaller-in-Enter
steps-smaller-in-Enter g c =
    let s = c.in-Enter.ensures.steps in
    fewer_enters _ _ _ c.step.new.self c.entered.new.self c.in-Enter.lock c.enter-place.result s
    (entered_is c.enter-place.result c.step.new.self c.entered.new.self c.in-Enter.lock (ap (λ w. w.entering) s.gives.new_is) c.entered.ensures.item)

pub steps-smaller : goal.steps-smaller
steps-smaller g c = fewer_leaves _ _ _ c.step.new.self c.in-Leave.lock c.in-Leave.ensures.steps

pub record_entry-interval-requires-clause-room : goal.record_entry-interval-requires-clause-room
record_entry-interval-requires-clause-room g c =
    let h = looked c.args.recorder.now _ c.steps.seat c.stop_seen.new.seat c.steps.worker c.stop_seen.result c.steps.invariant.writing c.stop_seen.ensures.seat c.stop_seen.ensures.mark c.if-stop_seen.false in
    let used : c.step.new.self.units + 1 ≡ c.steps.worker.units = units_left _ _ _ _ c.in-Sampled.entry c.in-Sampled.ensures.steps in
    let room = h.room in omega (arith, used, room)

pub record_entry-interval-requires-clause-label : goal.record_entry-interval-requires-clause-label
record_entry-interval-requires-clause-label g c =
    label_fits c.steps.worker.plan c.args.worker.now.plan c.in-Sampled.entry.label (numbers_of c.args.recorder.now).labels c.steps.invariant.plan
    (label_low _ _ _ _ c.in-Sampled.entry c.in-Sampled.ensures.steps) c.requires.labels

-- ---- the worker has ended

pub leave_open-requires-in-Ended-clause-held : goal.leave_open-requires-in-Ended-clause-held
leave_open-requires-in-Ended-clause-held g c = c.steps.invariant.holding.open_

pub leave_open-requires-in-Ended-clause-lock : goal.leave_open-requires-in-Ended-clause-lock
leave_open-requires-in-Ended-clause-lock g c = c.steps.invariant.holding.known

pub returns-in-Ended-clause-rises : goal.returns-in-Ended-clause-rises
returns-in-Ended-clause-rises g c =
    rises_ended c.args.sections.now c.steps.held c.steps.section _ _ c.steps.worker c.step.new.self c.steps.invariant.holding c.in-Ended.end c.in-Ended.ensures.steps

pub returns-in-Ended-clause-entered : goal.returns-in-Ended-clause-entered
returns-in-Ended-clause-entered g c =
    keeps_ended c.args.sections.now c.steps.held c.steps.section _ _ c.steps.worker c.step.new.self c.steps.invariant.holding c.in-Ended.end c.in-Ended.ensures.steps
    c.leave_open-in-Ended.new.seat c.leave_open-in-Ended.ensures.seat c.leave_open-in-Ended.ensures.closed

pub returns-in-Ended-clause-listed : goal.returns-in-Ended-clause-listed
returns-in-Ended-clause-listed g c =
    let h = looked c.args.recorder.now _ c.steps.seat c.stop_seen.new.seat c.steps.worker c.stop_seen.result c.steps.invariant.writing c.stop_seen.ensures.seat c.stop_seen.ensures.mark c.if-stop_seen.false in
    h.listed ∙ sym (pairs_step _ _ _ _ (Ended c.in-Ended.end) c.in-Ended.ensures.steps)

pub returns-in-Ended-clause-same : goal.returns-in-Ended-clause-same
returns-in-Ended-clause-same g c =
    let h = looked c.args.recorder.now _ c.steps.seat c.stop_seen.new.seat c.steps.worker c.stop_seen.result c.steps.invariant.writing c.stop_seen.ensures.seat c.stop_seen.ensures.mark c.if-stop_seen.false in
    h.same

pub returns-in-Ended-clause-saw : goal.returns-in-Ended-clause-saw
returns-in-Ended-clause-saw g c =
    let h = looked c.args.recorder.now _ c.steps.seat c.stop_seen.new.seat c.steps.worker c.stop_seen.result c.steps.invariant.writing c.stop_seen.ensures.seat c.stop_seen.ensures.mark c.if-stop_seen.false in
    h.unseen ∙ sym (not_stopped _ _ _ c.step.new.self c.in-Ended.end c.in-Ended.ensures.steps)

pub returns-in-Ended-clause-keeps : goal.returns-in-Ended-clause-keeps
returns-in-Ended-clause-keeps g c =
    let h = looked c.args.recorder.now _ c.steps.seat c.stop_seen.new.seat c.steps.worker c.stop_seen.result c.steps.invariant.writing c.stop_seen.ensures.seat c.stop_seen.ensures.mark c.if-stop_seen.false in
    keeps_to c.args.recorder.now _ c.stop_seen.new.seat c.steps.worker h

pub returns-in-Ended-clause-runs : goal.returns-in-Ended-clause-runs
returns-in-Ended-clause-runs g c = λ start options stands.
    let i = c.steps.invariant in (
      c.in-Ended.end,
      has_ended start _ c.args.worker.now.plan c.args.worker.now.thread options c.step.new.self.trace c.in-Ended.end (rw (← i.plan, ← i.thread) (c.in-Ended.ensures.stands start options (i.stands start options stands))),
    )

pub returns-in-Ended-clause-ended : goal.returns-in-Ended-clause-ended
returns-in-Ended-clause-ended g c = ends_with _ _ _ c.step.new.self c.in-Ended.end c.in-Ended.ensures.steps

pub returns-in-Ended-clause-over : goal.returns-in-Ended-clause-over
returns-in-Ended-clause-over g c = over_with _ _ _ c.step.new.self c.in-Ended.end c.in-Ended.ensures.steps

-- ---- it was stopped

pub leave_open-requires-clause-held : goal.leave_open-requires-clause-held
leave_open-requires-clause-held g c = c.steps.invariant.holding.open_

pub leave_open-requires-clause-lock : goal.leave_open-requires-clause-lock
leave_open-requires-clause-lock g c = c.steps.invariant.holding.known

pub returns-then-stop_seen-clause-listed : goal.returns-then-stop_seen-clause-listed
returns-then-stop_seen-clause-listed g c =
    ap (λ w. w.list) c.stop_seen.ensures.mark ∙ c.steps.invariant.writing.listed ∙ sym (pairs_stopped c.steps.worker c.stop.new.self c.stop.ensures.stopped)

pub returns-then-stop_seen-clause-entered : goal.returns-then-stop_seen-clause-entered
returns-then-stop_seen-clause-entered g c =
    keeps_stopped c.args.sections.now c.steps.held c.steps.section c.steps.worker c.stop.new.self c.steps.invariant.holding c.stop.ensures.stopped
    c.leave_open.new.seat c.leave_open.ensures.seat c.leave_open.ensures.closed

pub returns-then-stop_seen-clause-rises : goal.returns-then-stop_seen-clause-rises
returns-then-stop_seen-clause-rises g c =
    rises_stopped c.args.sections.now c.steps.held c.steps.section c.steps.worker c.stop.new.self c.steps.invariant.holding c.stop.ensures.stopped

pub returns-then-stop_seen-clause-same : goal.returns-then-stop_seen-clause-same
returns-then-stop_seen-clause-same g c = same_marked (writes c.args.seat.now) (writes c.steps.seat) (writes c.stop_seen.new.seat) c.stop_seen.result c.stop_seen.ensures.mark c.steps.invariant.writing.same

pub returns-then-stop_seen-clause-saw : goal.returns-then-stop_seen-clause-saw
returns-then-stop_seen-clause-saw g c = seen _ _ _ c.stop_seen.ensures.mark c.if-stop_seen.true

pub returns-then-stop_seen-clause-keeps : goal.returns-then-stop_seen-clause-keeps
returns-then-stop_seen-clause-keeps g c =
    let list : (writes c.stop_seen.new.seat).list ≡ (writes c.steps.seat).list = ap (λ w. w.list) c.stop_seen.ensures.mark in
    subst (KeepsTo (numbers_of c.args.recorder.now).labels (numbers_of c.args.recorder.now).budget) (sym list)
    (keeps_to c.args.recorder.now _ c.steps.seat c.steps.worker c.steps.invariant.writing)

pub returns-then-stop_seen-clause-ended : goal.returns-then-stop_seen-clause-ended
returns-then-stop_seen-clause-ended g c = ends_stopped c.steps.worker c.stop.new.self c.stop.ensures.stopped

pub returns-then-stop_seen-clause-over : goal.returns-then-stop_seen-clause-over
returns-then-stop_seen-clause-over g c = ap (λ w. w.ended) c.stop.ensures.stopped

pub returns-then-stop_seen-clause-runs : goal.returns-then-stop_seen-clause-runs
returns-then-stop_seen-clause-runs g c = λ start options stands.
    let i = c.steps.invariant in
    (Stopped, rw (← i.plan, ← i.thread) (c.stop.ensures.follows start _ options (i.stands start options stands)))
