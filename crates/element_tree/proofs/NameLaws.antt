-- The distinct names of elements, one element after another.
use Rattle.std.proofs.Common.{◌≡◌, ℕ, suc, ◌+◌, ◌<◌, ◌≤◌, Bool, true, false, List, [], ◌∷◌, ◌++◌, length, get_or, drop, Option, Some, None, cond, refl, sym, ap, ◌∙◌, add-one, drop-cons, arith, length-append}
use Rattle.std.specs.List.{list_any, filter_map}
use Rattle.jm_base.specs.Outside.{same_bytes}
use Rattle.element_tree.specs.declared.kinds.Element.{Element}
use Rattle.element_tree.specs.declared.names.Naming.{Naming}
use Rattle.element_tree.specs.Names.{name_by, with_text, with_name, distinct_after}

one_name : (naming : Naming) (seen : List (List ℕ)) (name : Option (List ℕ)) (e : Element) (es : List Element) → name_by naming e ≡ name
    → distinct_after seen (filter_map (name_by naming) (e ∷ es)) ≡ distinct_after (with_name seen name) (filter_map (name_by naming) es)
one_name naming seen None e es is = rw is refl
one_name naming seen (Some name) e es is = rw is refl

-- one more element
pub names_step : (naming : Naming) (seen : List (List ℕ)) (es : List Element) (i : ℕ) (e : Element) → i < length es → e ≡ get_or es i e
    → distinct_after seen (filter_map (name_by naming) (drop i es)) ≡ distinct_after (with_name seen (name_by naming e)) (filter_map (name_by naming) (drop (i + 1) es))
names_step naming seen es i e h is = rw add-one (ap (λ (xs : List Element). distinct_after seen (filter_map (name_by naming) xs)) (drop-cons es i e h)
    ∙ ap (λ (x : Element). distinct_after seen (filter_map (name_by naming) (x ∷ drop (suc i) es))) (sym is) ∙ one_name naming seen (name_by naming e) e (drop (suc i) es) refl)

one_longer : (b : Bool) (seen : List (List ℕ)) (x : List ℕ) → length seen ≤ length (cond b seen (seen ++ x ∷ []))
one_longer true seen x = omega arith
one_longer false seen x = omega (arith, length-append seen (x ∷ []))

-- texts that were seen stay
pub seen_stay : (seen xs : List (List ℕ)) → length seen ≤ length (distinct_after seen xs)
seen_stay seen [] = omega arith
seen_stay seen (x ∷ xs) =
    let here = one_longer (list_any (same_bytes x) seen) seen x in
    let later = seen_stay (with_text seen x) xs in
    omega (arith, here, later)

pub too_many : (limit : ℕ) (seen xs all : List (List ℕ)) → distinct_after seen xs ≡ all → limit < length seen → limit < length all
too_many limit seen xs all is more =
    let stay = seen_stay seen xs in
    let same = ap length is in
    omega (arith, stay, same)
