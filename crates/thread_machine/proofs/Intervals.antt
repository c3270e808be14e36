-- In which interval the samples of a trace are counted, after a step and after a sample that is noted.
use Rattle.std.proofs.Common.{◌≡◌, ℕ, List, [], ◌∷◌, ◌++◌, Some, None, refl, ap}
use Rattle.std.specs.Prelude.{All}
use Rattle.std.proofs.lemmas.List.Elements.{All-push}
use Rattle.jm_base.specs.declared.types.Sample.{Sample}
use Rattle.jm_base.specs.Outside.{Account}
use Rattle.thread_machine.specs.declared.trace.TraceItem.{TraceItem}
use Rattle.thread_machine.specs.declared.trace.TraceItem.TheVariants.{Paused as PausedItem, Sampled as SampledItem, Null as NullItem, Entered as EnteredItem, Left as LeftItem, Ended as EndedItem}
use Rattle.thread_machine.specs.declared.step.Step.{Step}
use Rattle.thread_machine.specs.Bare.{IsCountedIn}
use Rattle.thread_machine.specs.Standing.{Standing}
use Rattle.thread_machine.specs.Stepped.{Steps}
use Rattle.thread_machine.proofs.Appended.{after_step}

module _ (k : ℕ) where
  abbrev Counted : List TraceItem → Type 0
  Counted items = All (IsCountedIn k) items

  one_more : (t : List TraceItem) (item : TraceItem) → IsCountedIn k item → Counted t → Counted (t ++ item ∷ [])
  one_more t item one all = All-push (IsCountedIn k) t item all one

  pub counted_entered : (old new : Standing) (lock place : ℕ) → new ≡ record old { entering = None; section = Some lock; trace = old.trace ++ EnteredItem lock place ∷ [] } → Counted old.trace → Counted new.trace
  counted_entered old new lock place is all = rw (ap (λ s. s.trace) is) (one_more old.trace (EnteredItem lock place) (tt {0}) all)

  pub counted_noted : (old new : Standing) (sample : Sample) → new ≡ record old { owed = None; trace = old.trace ++ SampledItem sample k ∷ [] } → Counted old.trace → Counted new.trace
  counted_noted old new sample is all = rw (ap (λ s. s.trace) is) (one_more old.trace (SampledItem sample k) refl all)

  pub counted_behind : (a b : Account) (old new : Standing) (step : Step) → Steps a b old new step → Counted old.trace → Counted new.trace
  counted_behind = after_step {R = λ s t. Counted s → Counted t} (record {
    same = λ t all. all;
    further = λ s t u first then_ all. then_ (first all);
    paused = λ t ms. one_more t (PausedItem ms) (tt {0});
    none = λ t number. one_more t (NullItem number) (tt {0});
    left = λ t lock. one_more t (LeftItem lock) (tt {0});
    ended = λ t end. one_more t (EndedItem end) (tt {0});
  })
