-- How many samples and sections a trace has, after a step and after what is owed is in it.
use Rattle.std.proofs.Common.{◌≡◌, ℕ, refl, ◌+◌, ◌-◌, ◌≤◌, List, [], ◌∷◌, ◌++◌, Some, None, ap, ◌∙◌, arith}
use Rattle.std.proofs.lemmas.List.Sums.{sum_by_push}
use Rattle.jm_base.specs.declared.types.Sample.{Sample}
use Rattle.jm_base.specs.Run.{Run}
use Rattle.jm_base.specs.Outside.{Account}
use Rattle.thread_machine.specs.declared.trace.TraceItem.{TraceItem}
use Rattle.thread_machine.specs.declared.trace.TraceItem.TheVariants.{Paused as PausedItem, Sampled as SampledItem, Null as NullItem, Entered as EnteredItem, Left as LeftItem, Ended as EndedItem}
use Rattle.thread_machine.specs.declared.step.Step.{Step}
use Rattle.thread_machine.specs.declared.step.Step.TheVariants.{Sampled, Null, Enter, Leave, Ended}
use Rattle.thread_machine.specs.SampleCounts.{one_if_sample, samples_in, uses_in}
use Rattle.thread_machine.specs.SectionOrder.{one_if_section, sections_in}
use Rattle.thread_machine.specs.Inside.{owed_count}
use Rattle.thread_machine.proofs.Ends.{begun_on, ended_on}
use Rattle.thread_machine.specs.Standing.{Standing, rest}
use Rattle.thread_machine.specs.Stepped.{Gives, Steps}
use Rattle.thread_machine.proofs.Appended.{after_step}

-- how many samples and sections there are
abbrev pub both_in : List TraceItem → ℕ
both_in trace = samples_in trace + sections_in trace

one_more : (old new : List TraceItem) (item : TraceItem) → new ≡ old ++ item ∷ [] → both_in new ≡ both_in old + (one_if_sample item + one_if_section item)
one_more old new item is =
    let a : samples_in new ≡ samples_in old + one_if_sample item = ap samples_in is ∙ sum_by_push one_if_sample old item in
    let b : sections_in new ≡ sections_in old + one_if_section item = ap sections_in is ∙ sum_by_push one_if_section old item in
    omega (arith, a, b)

-- an item that is neither
no_more : (t : List TraceItem) (item : TraceItem) → one_if_sample item ≡ 0 → one_if_section item ≡ 0 → both_in (t ++ item ∷ []) ≡ both_in t
no_more t item a b = let m = one_more t (t ++ item ∷ []) item refl in omega (arith, m, a, b)

both_same : (a b : Account) (old new : Standing) (step : Step) → Steps a b old new step → both_in new.trace ≡ both_in old.trace
both_same = after_step {R = λ s t. both_in t ≡ both_in s} (record {
  same = λ t. refl;
  further = λ s t u first then_. then_ ∙ first;
  paused = λ t ms. no_more t (PausedItem ms) refl refl;
  none = λ t number. no_more t (NullItem number) refl refl;
  left = λ t lock. no_more t (LeftItem lock) refl refl;
  ended = λ t end. no_more t (EndedItem end) refl refl;
})

-- what a thread shows and owes, with the units that are left
abbrev pub Spent : Standing → ℕ
Spent w = uses_in w + w.units

-- what a thread owes, with the units that are left
abbrev owing : Standing → ℕ
owing w = owed_count w.owed + owed_count w.entering + w.units

module _ (a b : Account) (run : Run (Unit {0})) (old new : Standing) where
  owes_less : (step : Step) → old.owed ≡ None → old.entering ≡ None → Gives a b run old new step → owing new ≤ old.units
  owes_less (Sampled entry) none free g =
      let owed : owed_count new.owed ≡ 1 = ap (λ s. owed_count s.owed) g.new_is in
      let entering : owed_count new.entering ≡ 0 = ap (λ s. owed_count s.entering) g.new_is ∙ ap owed_count free in
      let units : new.units ≡ old.units - 1 = ap (λ s. s.units) g.new_is in
      let unit = g.unit in omega (arith, owed, entering, units, unit)
  owes_less Null none free g =
      let owed : owed_count new.owed ≡ 0 = ap (λ s. owed_count s.owed) g.new_is ∙ ap owed_count none in
      let entering : owed_count new.entering ≡ 0 = ap (λ s. owed_count s.entering) g.new_is ∙ ap owed_count free in
      let units : new.units ≡ old.units - 1 = ap (λ s. s.units) g.new_is in omega (arith, owed, entering, units)
  owes_less (Enter lock) none free g =
      let owed : owed_count new.owed ≡ 0 = ap (λ s. owed_count s.owed) g.new_is ∙ ap owed_count none in
      let entering : owed_count new.entering ≡ 1 = ap (λ s. owed_count s.entering) g.new_is in
      let units : new.units ≡ old.units - 1 = ap (λ s. s.units) g.new_is in
      let unit = g.unit in omega (arith, owed, entering, units, unit)
  owes_less (Leave lock) none free g =
      let owed : owed_count new.owed ≡ 0 = ap (λ s. owed_count s.owed) g.new_is ∙ ap owed_count none in
      let entering : owed_count new.entering ≡ 0 = ap (λ s. owed_count s.entering) g.new_is ∙ ap owed_count free in
      let fewer = g.fewer in omega (arith, owed, entering, fewer)
  owes_less (Ended end) none free g =
      let on = ended_on a b run old new end g in
      let owed : owed_count new.owed ≡ 0 = ap owed_count (on.owed ∙ none) in
      let entering : owed_count new.entering ≡ 0 = ap owed_count (on.entering ∙ free) in
      let fewer = on.fewer in omega (arith, owed, entering, fewer)

-- a step, whatever it answers
pub spent_behind : (a b : Account) (old new : Standing) (step : Step) → old.owed ≡ None → old.entering ≡ None → Steps a b old new step → Spent new ≤ Spent old
spent_behind a b old new step none free s =
    let on = begun_on a s.begun old s.between s.begins in
    let trace : both_in new.trace ≡ both_in old.trace = both_same a b old new step s in
    let less : owing new ≤ s.between.units = owes_less s.begun b (rest s.between) s.between new step (on.owed ∙ none) (on.entering ∙ free) s.gives in
    let units : s.between.units ≡ old.units = on.units in omega (arith, trace, less, units)

-- a sample that is noted
pub spent_noted : (old new : Standing) (sample : Sample) (k : ℕ) → old.owed ≡ Some sample → new ≡ record old { owed = None; trace = old.trace ++ SampledItem sample k ∷ [] } → Spent new ≡ Spent old
spent_noted old new sample k owed is =
    let trace : both_in new.trace ≡ both_in old.trace + 1 = one_more old.trace new.trace (SampledItem sample k) (ap (λ s. s.trace) is) in
    let one : owed_count old.owed ≡ 1 = ap owed_count owed in
    let none : owed_count new.owed ≡ 0 = ap (λ s. owed_count s.owed) is in
    let entering : owed_count new.entering ≡ owed_count old.entering = ap (λ s. owed_count s.entering) is in
    let units : new.units ≡ old.units = ap (λ s. s.units) is in omega (arith, trace, one, none, entering, units)

-- a section that was entered
pub spent_entered : (old new : Standing) (lock place : ℕ) → old.entering ≡ Some lock → new ≡ record old { entering = None; section = Some lock; trace = old.trace ++ EnteredItem lock place ∷ [] }
    → Spent new ≡ Spent old
spent_entered old new lock place entering is =
    let trace : both_in new.trace ≡ both_in old.trace + 1 = one_more old.trace new.trace (EnteredItem lock place) (ap (λ s. s.trace) is) in
    let one : owed_count old.entering ≡ 1 = ap owed_count entering in
    let none : owed_count new.entering ≡ 0 = ap (λ s. owed_count s.entering) is in
    let owed : owed_count new.owed ≡ owed_count old.owed = ap (λ s. owed_count s.owed) is in
    let units : new.units ≡ old.units = ap (λ s. s.units) is in omega (arith, trace, one, none, owed, units)
