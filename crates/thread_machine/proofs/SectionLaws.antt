-- The sections of a trace, and its end, with more items.
use Rattle.std.proofs.Common.{◌≡◌, ℕ, List, [], ◌∷◌, ◌++◌, Option, Some, None, refl, sym, subst}
use Rattle.jm_base.specs.declared.types.End.{End}
use Rattle.thread_machine.specs.declared.trace.TraceItem.{TraceItem}
use Rattle.thread_machine.specs.declared.trace.TraceItem.TheVariants.{Entered, Left, Ended}
use Rattle.thread_machine.specs.Bare.{bare}
use Rattle.thread_machine.specs.SectionOrder.{SectionsFrom, open_from, left_traced}

pub sections-append : (a b c : Option ℕ) (xs ys : List TraceItem) → SectionsFrom a xs b → SectionsFrom b ys c → SectionsFrom a (xs ++ ys) c
sections-append a b c [] ys h k = subst (λ o. SectionsFrom o ys c) h k
sections-append a b c (Entered lock place ∷ xs) ys h k = (h.0, sections-append (Some lock) b c xs ys h.1 k)
sections-append a b c (Left lock ∷ xs) ys h k = (h.0, sections-append None b c xs ys h.1 k)
sections-append a b c (x ∷ xs) ys h k = sections-append a b c xs ys h k

-- the section that is open is the one that the bare trace has open
pub open-bare : (a b : Option ℕ) (xs : List TraceItem) → SectionsFrom a xs b → open_from a (bare xs) ≡ b
open-bare a b [] h = sym h
open-bare a b (Entered lock place ∷ xs) h = open-bare (Some lock) b xs h.1
open-bare a b (Left lock ∷ xs) h = open-bare None b xs h.1
open-bare a b (x ∷ xs) h = open-bare a b xs h

-- the open section is left, and then the thread has ended
pub left-ended : (o : Option ℕ) (end : End) → SectionsFrom o (left_traced o ++ Ended end ∷ []) None
left-ended None end = refl
left-ended (Some lock) end = (refl, refl)
