-- An Interleave's cursor that was entered stands at its element.
use Rattle.std.proofs.Common.{◌≡◌, ℕ, ◌<◌, List, length, Some, refl, sym, ap, ◌∙◌}
use Rattle.std.specs.Prelude.{slice_get, IfSome}
use Rattle.element_tree.specs.declared.kinds.Element.{Element}
use Rattle.element_tree.specs.declared.kinds.Kind.TheVariants as kinds
use Rattle.choice_controllers.specs.declared.interleave_cursor.InterleaveCursor.{InterleaveCursor}
use Rattle.cursor_steps.specs.CursorStep.{IsThere}
use Rattle.cursor_steps.specs.RunningChildren.{run_count}
use Rattle.jm_meaning.specs.Children.{children_of}
use Rattle.open_elements.specs.declared.cursor.Cursor.TheVariants.{Interleave}
use Rattle.open_elements.specs.Cursors.{FitsKind, begun_of}
use Rattle.open_elements.proofs.PassLaws.{counted}
use Rattle.open_elements.proofs.CursorCalls.{same_element}

pub interleave_fits : (elements : List Element) (n : ℕ) (d e : Element) → slice_get elements n ≡ Some e → (c : InterleaveCursor) → IsThere elements n d kinds.Interleave → c.element ≡ n
    → IfSome c.chosen (λ place. place < run_count elements e) → FitsKind n (length (children_of elements e)) e.kind (Interleave c) × (begun_of (Interleave c) ≡ 0)
interleave_fits elements n d e there c is place chosen =
    ((place, ap (λ (e : Element). e.kind) (sym (same_element elements n d e is.there there)) ∙ is.of_kind, counted (λ k. IfSome c.chosen (λ place. place < k)) elements e chosen), refl)
