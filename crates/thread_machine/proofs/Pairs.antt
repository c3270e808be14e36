-- What a step adds to a trace is no sample.
use Rattle.std.proofs.Common.{◌≡◌, ◌∙◌, List, [], ◌∷◌, ◌++◌, refl, sym, ap, append_assoc}
use Rattle.std.proofs.lemmas.List.{append-nil}
use Rattle.jm_base.specs.Outside.{Account}
use Rattle.thread_machine.specs.declared.step.Step.{Step}
use Rattle.thread_machine.specs.declared.trace.TraceItem.{TraceItem}
use Rattle.thread_machine.specs.Paired.{pairs_in, pairs}
use Rattle.thread_machine.specs.Standing.{Standing}
use Rattle.thread_machine.specs.Stepped.{Steps}
use Rattle.thread_machine.proofs.Appended.{HoldsOn, after_step, gathered}

pub pairs_snoc : (items : List TraceItem) (item : TraceItem) → pairs (items ++ item ∷ []) ≡ pairs items ++ pairs_in item
pairs_snoc [] item = append-nil (pairs_in item)
pairs_snoc (x ∷ items) item = ap (λ l. pairs_in x ++ l) (pairs_snoc items item) ∙ sym (append_assoc (pairs_in x) (pairs items) (pairs_in item))

pub same_pairs : HoldsOn (λ s t. pairs t ≡ pairs s)
same_pairs = gathered pairs pairs_in pairs_snoc (λ ms. refl) (λ number. refl) (λ lock. refl) (λ end. refl)

pub pairs_step : (a b : Account) (old new : Standing) (step : Step) → Steps a b old new step → pairs new.trace ≡ pairs old.trace
pairs_step = after_step same_pairs
