-- The group's child.
use Rattle.std.proofs.Common.{◌≡◌, ℕ, ◌<◌, true, List, [], length, Some, None, ap, ◌∙◌, arith}
use Rattle.std.specs.Prelude.{slice_get, unwrap_or}
use Rattle.std.specs.Option.{option_map}
use Rattle.std.proofs.Math.ListN.{get_or}
use Rattle.std.proofs.lemmas.Option.{slice_get-get_or}
use Rattle.element_tree.specs.declared.kinds.Element.{Element}
use Rattle.cursor_steps.specs.declared.pass.Pass.{Pass}
use Rattle.cursor_steps.specs.RunningChildren.{is_left, after_child}
use Rattle.jm_meaning.specs.Children.{children_of}
use Rattle.open_elements.specs.ChildrenLeft.{remaining}
use Rattle.control_machine.specs.Left.{children_at}

pub some_left : (p : Pass) (place : ℕ) → place ≡ p.next → place < p.children → is_left p ≡ true
some_left p place at less = let n : p.next < p.children = omega (arith, at, less) in grind (arith, n)

pub taken_child : (elements : List Element) (n : ℕ) (e : Element) (place child : ℕ) → slice_get elements n ≡ Some e → slice_get (children_of elements e) place ≡ Some child → slice_get (children_at elements n) place ≡ Some child
taken_child elements n e place child there found = ap (λ o. slice_get (unwrap_or (option_map (children_of elements) o) []) place) there ∙ found

pub no_such_child : (elements : List Element) (e : Element) (p : Pass) (place : ℕ) → place < p.children → p.children ≡ length (children_of elements e) → None ≡ slice_get (children_of elements e) place → ⊥
no_such_child elements e p place less all none =
    let k : None ≡ Some (get_or (children_of elements e) place 0) = none ∙ slice_get-get_or (children_of elements e) place 0 (omega (arith, less, all)) in cc

pub fewer_remain : (p q r : Pass) (place : ℕ) → place ≡ p.next → place < p.children → q ≡ after_child p → r ≡ q → remaining r < remaining p
fewer_remain p q r place at less behind same =
    let n = ap (λ q. remaining q) (same ∙ behind) in
    omega (arith, at, less, n)
