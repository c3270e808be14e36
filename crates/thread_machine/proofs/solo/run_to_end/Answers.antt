use Rattle.std.proofs.Common.{◌<◌, ◌+◌, ◌∷◌, [], ◌++◌, None, Some, length, refl, sym, ap, ◌∙◌, subst, arith}
use Rattle.std.proofs.lemmas.List.{length-replicate, length-set}
use Rattle.std.specs.Prelude.{slice_index}
use Rattle.element_tree.specs.Tree.{Tree}
use Rattle.element_tree.specs.Names.{locks_of}
use Rattle.thread_machine.specs.declared.step.Step.TheVariants.{Sampled, Null, Enter, Leave, Ended}
use Rattle.thread_machine.specs.declared.trace.TraceItem.TheVariants.{Entered as EnteredItem}
use Rattle.thread_machine.specs.SectionOrder.{PlacedAfter}
use Rattle.thread_machine.proofs.Ends.{over_with, begun_on, noted_on, noted_is, entered_is}
use Rattle.thread_machine.proofs.Intervals.{counted_noted, counted_entered, counted_behind}
use Rattle.thread_machine.proofs.Counts.{spent_behind, spent_noted, spent_entered}
use Rattle.thread_machine.proofs.Labels.{lock_within}
use Rattle.thread_machine.proofs.PlaceLaws.{few_of, grows_behind, grows_noted, next_first, next_grows, next_entered, placed_entered, fewer_sampled, fewer_null, fewer_enters, fewer_leaves}
use Rattle.thread_machine.proofs.solo.run_to_end.Goals as goal

pub returns-in-Ended-clause-has_run : goal.returns-in-Ended-clause-has_run
returns-in-Ended-clause-has_run g c = λ start options stands.
    let i = c.steps.invariant in
    rw (← i.plan, ← i.thread) (c.in-Ended.ensures.stands start options (i.stands start options stands))

pub returns-in-Ended-clause-intervals : goal.returns-in-Ended-clause-intervals
returns-in-Ended-clause-intervals g c = λ all. counted_behind 0 _ _ _ _ (Ended _) c.in-Ended.ensures.steps (c.steps.invariant.counted all)

pub returns-in-Ended-clause-over : goal.returns-in-Ended-clause-over
returns-in-Ended-clause-over g c = over_with _ _ _ _ _ c.in-Ended.ensures.steps

pub returns-in-Ended-clause-count : goal.returns-in-Ended-clause-count
returns-in-Ended-clause-count g c =
    let a = spent_behind _ _ _ _ (Ended _) c.steps.invariant.owed c.steps.invariant.entering c.in-Ended.ensures.steps in
    let b = c.steps.invariant.spent in
    omega (arith, a, b)

pub returns-in-Ended-clause-places : goal.returns-in-Ended-clause-places
returns-in-Ended-clause-places g c = (grows_behind _ _ _ _ (Ended _) c.in-Ended.ensures.steps).placed c.steps.invariant.placed

pub steps-init : goal.steps-init
steps-init g c = record {
  owed = c.requires.owed;
  entering = c.requires.entering;
  going = c.requires.going;
  plan = refl;
  thread = refl;
  counted = λ all. all;
  spent = rw (c.requires.no_items, c.requires.owed, c.requires.entering) (omega arith);
  long = ap length c.requires.places ∙ length-replicate (length (locks_of c.args.worker.now.plan.elements)) 0;
  next = next_first (length (locks_of c.args.worker.now.plan.elements)) c.args.places.now c.args.worker.now.trace c.requires.places c.requires.no_items;
  placed = subst (PlacedAfter []) (sym c.requires.no_items) tt;
  stands = λ start options stands. stands;
}

pub steps-preserved-in-Sampled : goal.steps-preserved-in-Sampled
steps-preserved-in-Sampled g c =
    let i = c.steps.invariant in
    let s = c.in-Sampled.ensures.steps in
    let begun = begun_on _ _ _ s.between s.begins in
    let given = s.gives in
    let is = noted_is 0 c.step.new.self c.noted.new.self given.sample (ap (λ w. w.owed) given.new_is) c.noted.ensures.item in
    let on = noted_on 0 c.step.new.self c.noted.new.self given.sample is in
    let grows = grows_behind _ _ _ _ (Sampled _) s in
    let then = grows_noted c.step.new.self c.noted.new.self given.sample 0 is in
    record {
      owed = on.owed;
      entering = on.entering ∙ ap (λ w. w.entering) given.new_is ∙ begun.entering ∙ i.entering;
      going = on.ended ∙ ap (λ w. w.ended) given.new_is ∙ begun.ended ∙ i.going;
      plan = on.plan ∙ ap (λ w. w.plan) given.new_is ∙ begun.plan ∙ i.plan;
      thread = on.thread ∙ ap (λ w. w.thread) given.new_is ∙ begun.thread ∙ i.thread;
      counted = λ all. counted_noted 0 c.step.new.self c.noted.new.self given.sample is (counted_behind 0 _ _ _ _ (Sampled _) s (i.counted all));
      spent =
          let a = spent_behind _ _ _ _ (Sampled _) i.owed i.entering s in
          let b = spent_noted c.step.new.self c.noted.new.self given.sample 0 (ap (λ w. w.owed) given.new_is) is in
          let k = i.spent in
          omega (arith, a, b, k);
      long = i.long;
      next = next_grows _ _ _ then (next_grows _ _ _ grows i.next);
      placed = then.placed (grows.placed i.placed);
      stands = λ start options stands. c.noted.ensures.stands start _ options (c.in-Sampled.ensures.stands start options (i.stands start options stands));
    }

pub steps-smaller-in-Sampled : goal.steps-smaller-in-Sampled
steps-smaller-in-Sampled g c =
    let s = c.in-Sampled.ensures.steps in
    fewer_sampled _ _ _ c.step.new.self c.noted.new.self 0 s (noted_is 0 c.step.new.self c.noted.new.self s.gives.sample (ap (λ w. w.owed) s.gives.new_is) c.noted.ensures.item)

pub steps-preserved-in-Null : goal.steps-preserved-in-Null
steps-preserved-in-Null g c =
    let i = c.steps.invariant in
    let s = c.in-Null.ensures.steps in
    let begun = begun_on _ _ _ s.between s.begins in
    let given = s.gives in
    let grows = grows_behind _ _ _ _ Null s in
    record {
      owed = ap (λ w. w.owed) given.new_is ∙ begun.owed ∙ i.owed;
      entering = ap (λ w. w.entering) given.new_is ∙ begun.entering ∙ i.entering;
      going = ap (λ w. w.ended) given.new_is ∙ begun.ended ∙ i.going;
      plan = ap (λ w. w.plan) given.new_is ∙ begun.plan ∙ i.plan;
      thread = ap (λ w. w.thread) given.new_is ∙ begun.thread ∙ i.thread;
      counted = λ all. counted_behind 0 _ _ _ _ Null s (i.counted all);
      spent = (let a = spent_behind _ _ _ _ Null i.owed i.entering s in let k = i.spent in omega (arith, a, k));
      long = i.long;
      next = next_grows _ _ _ grows i.next;
      placed = grows.placed i.placed;
      stands = λ start options stands. c.in-Null.ensures.stands start options (i.stands start options stands);
    }

pub steps-smaller-in-Null : goal.steps-smaller-in-Null
steps-smaller-in-Null g c = fewer_null _ _ _ c.step.new.self c.in-Null.ensures.steps

pub next_place-requires-clause-lock : goal.next_place-requires-clause-lock
next_place-requires-clause-lock g c =
    let i = c.steps.invariant in
    let s = c.in-Enter.ensures.steps in
    let begun = begun_on _ _ _ s.between s.begins in
    let within = lock_within s.between.plan.elements _ s.gives.lock_is in
    let same = ap (λ (p : Tree). length (locks_of p.elements)) (begun.plan ∙ i.plan) in
    let long = i.long in
    omega (arith, within, same, long)

pub next_place-requires-clause-few : goal.next_place-requires-clause-few
next_place-requires-clause-few g c =
    let i = c.steps.invariant in
    let at = i.next c.in-Enter.lock (next_place-requires-clause-lock g c) in
    let few = few_of c.in-Enter.lock c.steps.worker.trace in
    let spent = i.spent in
    let first = c.requires.few in
    omega (arith, at, few, spent, first)

pub steps-preserved-in-Enter : goal.steps-preserved-in-Enter
steps-preserved-in-Enter g c =
    let i = c.steps.invariant in
    let s = c.in-Enter.ensures.steps in
    let lock = c.in-Enter.lock in
    let begun = begun_on _ _ _ s.between s.begins in
    let given = s.gives in
    let entering = ap (λ w. w.entering) given.new_is in
    let item = entered_is c.next_place.result c.step.new.self c.entered.new.self lock entering c.entered.ensures.item in
    let is = item ∙ ap (λ n. record c.step.new.self { entering = None; section = Some lock; trace = c.step.new.self.trace ++ EnteredItem lock n ∷ [] }) c.next_place.ensures.place in
    let grows = grows_behind _ _ _ _ (Enter lock) s in
    let low = lock_within s.between.plan.elements lock s.gives.lock_is in
    let same = ap (λ (p : Tree). length (locks_of p.elements)) (begun.plan ∙ i.plan) in
    let long = i.long in
    let within : lock < length c.steps.places = omega (arith, low, same, long) in
    record {
      owed = ap (λ w. w.owed) is ∙ ap (λ w. w.owed) given.new_is ∙ begun.owed ∙ i.owed;
      entering = ap (λ w. w.entering) is;
      going = ap (λ w. w.ended) is ∙ ap (λ w. w.ended) given.new_is ∙ begun.ended ∙ i.going;
      plan = ap (λ w. w.plan) is ∙ ap (λ w. w.plan) given.new_is ∙ begun.plan ∙ i.plan;
      thread = ap (λ w. w.thread) is ∙ ap (λ w. w.thread) given.new_is ∙ begun.thread ∙ i.thread;
      counted = λ all. counted_entered 0 c.step.new.self c.entered.new.self lock _ is (counted_behind 0 _ _ _ _ (Enter lock) s (i.counted all));
      spent =
          let a = spent_behind _ _ _ _ (Enter lock) i.owed i.entering s in
          let b = spent_entered c.step.new.self c.entered.new.self lock _ entering is in
          let k = i.spent in
          omega (arith, a, b, k);
      long = ap length c.next_place.ensures.counted ∙ length-set c.steps.places lock (slice_index c.steps.places lock + 1) ∙ i.long;
      next = next_entered c.step.new.self c.entered.new.self c.steps.places c.next_place.new.places lock c.next_place.ensures.counted is (next_grows _ _ _ grows i.next);
      placed = placed_entered c.step.new.self c.entered.new.self c.steps.places lock within is (next_grows _ _ _ grows i.next) (grows.placed i.placed);
      stands = λ start options stands. c.entered.ensures.stands start _ options (c.in-Enter.ensures.stands start options (i.stands start options stands));
    }

pub steps-smaller-in-Enter : goal.steps-smaller-in-Enter
steps-smaller-in-Enter g c =
    let s = c.in-Enter.ensures.steps in
    fewer_enters _ _ _ c.step.new.self c.entered.new.self c.in-Enter.lock c.next_place.result s
    (entered_is c.next_place.result c.step.new.self c.entered.new.self c.in-Enter.lock (ap (λ w. w.entering) s.gives.new_is) c.entered.ensures.item)

pub steps-preserved : goal.steps-preserved
steps-preserved g c =
    let i = c.steps.invariant in
    let s = c.in-Leave.ensures.steps in
    let begun = begun_on _ _ _ s.between s.begins in
    let given = s.gives in
    let grows = grows_behind _ _ _ _ (Leave _) s in
    record {
      owed = ap (λ w. w.owed) given.new_is ∙ begun.owed ∙ i.owed;
      entering = ap (λ w. w.entering) given.new_is ∙ begun.entering ∙ i.entering;
      going = ap (λ w. w.ended) given.new_is ∙ begun.ended ∙ i.going;
      plan = ap (λ w. w.plan) given.new_is ∙ begun.plan ∙ i.plan;
      thread = ap (λ w. w.thread) given.new_is ∙ begun.thread ∙ i.thread;
      counted = λ all. counted_behind 0 _ _ _ _ (Leave _) s (i.counted all);
      spent = (let a = spent_behind _ _ _ _ (Leave _) i.owed i.entering s in let k = i.spent in omega (arith, a, k));
      long = i.long;
      next = next_grows _ _ _ grows i.next;
      placed = grows.placed i.placed;
      stands = λ start options stands. c.in-Leave.ensures.stands start options (i.stands start options stands);
    }

pub steps-smaller : goal.steps-smaller
steps-smaller g c = fewer_leaves _ _ _ c.step.new.self c.in-Leave.field-0 c.in-Leave.ensures.steps
