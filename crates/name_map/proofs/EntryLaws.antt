-- The entries of a hash map, listed in the order of their names.
use Rattle.std.proofs.Common.{◌≡◌, ℕ, List, [], ◌∷◌, Vec, Global, Bool, true, false, cond, Option, Some, None, refl, sym, ap, ◌∙◌}
use Rattle.std.specs.Prelude.{if◌then◌else◌, nat_eq}
use lib.Pointwise.{pointwise}
use Rattle.std.specs.Cmp.Lexicographic.{texts_ties, nat_list_eq_equiv}
use Rattle.std.specs.List.Sorted.{IsStrictlySortedBy}
use Rattle.std.specs.Map.{lookup, KeepsOthers}
use Rattle.name_map.specs.Names.{is_same, value_of, with_var, without_var, IsInOrder, listed}
use Rattle.name_map.proofs.NameLaws.{same_from_is, value_of-with_var, value_of-without_var, with_var-ordered, without_var-ordered, same_values}

abbrev pub Entry : Type 0
Entry = Vec ℕ Global × List ℕ

-- how the hash map tells names apart
abbrev pub is_name : List ℕ → Vec ℕ Global → Bool
is_name name key = pointwise nat_eq name key.items

abbrev pub are_same : Vec ℕ Global → Vec ℕ Global → Bool
are_same a b = pointwise nat_eq a.items b.items

pub listed-ordered : (es : List Entry) → IsInOrder (listed es)
unfolding IsStrictlySortedBy
listed-ordered [] = tt
listed-ordered (e ∷ es) = with_var-ordered e.0.items e.1 (listed es) (listed-ordered es)

-- the value of a name is what the hash map has at it
pub lookup-listed : (name : List ℕ) (es : List Entry) → lookup (is_name name) es ≡ value_of name (listed es)
lookup-listed name [] = refl
lookup-listed name (e ∷ es) =
    ap (λ b. cond b (Some e.1) (lookup (is_name name) es)) (texts_ties name e.0.items)
    ∙ ap (cond (is_same name e.0.items) (Some e.1)) (lookup-listed name es)
    ∙ sym (value_of-with_var name e.0.items e.1 (listed es))

others : (name : List ℕ) (es fs : List Entry) → KeepsOthers are_same (is_name name) es fs → (q : List ℕ) → is_same q name ≡ false → lookup (is_name q) fs ≡ lookup (is_name q) es
unfolding KeepsOthers
others name es fs keeps q apart =
    keeps (is_name q) (λ x y. nat_list_eq_equiv.congr q x.items y.items)
    (λ k h. nat_list_eq_equiv.symm q k.items ∙ sym (nat_list_eq_equiv.congr name k.items q h) ∙ nat_list_eq_equiv.symm name q ∙ texts_ties q name ∙ apart)

module _ (name : List ℕ) (es fs : List Entry) (now : Option (List ℕ)) (here : lookup (is_name name) fs ≡ now) (keeps : KeepsOthers are_same (is_name name) es fs) where
  -- the value of each name after one was changed
  changed : (q : List ℕ) → value_of q (listed fs) ≡ (if is_same q name then now else value_of q (listed es))
  changed q = by (is_same q name) refl
    where
      by : (b : Bool) → is_same q name ≡ b → value_of q (listed fs) ≡ cond b now (value_of q (listed es))
      by true h = sym (lookup-listed q fs) ∙ ap (λ n. lookup (is_name n) fs) (same_from_is q name h) ∙ here
      by false h = sym (lookup-listed q fs) ∙ others name es fs keeps q h ∙ lookup-listed q es

pub listed-with : (name value : List ℕ) (es fs : List Entry) → lookup (is_name name) fs ≡ Some value → KeepsOthers are_same (is_name name) es fs → listed fs ≡ with_var name value (listed es)
listed-with name value es fs here keeps =
    same_values (listed fs) (with_var name value (listed es)) (listed-ordered fs) (with_var-ordered name value (listed es) (listed-ordered es))
    (λ q. changed name es fs (Some value) here keeps q ∙ sym (value_of-with_var q name value (listed es)))

pub listed-without : (name : List ℕ) (es fs : List Entry) → lookup (is_name name) fs ≡ None → KeepsOthers are_same (is_name name) es fs → listed fs ≡ without_var name (listed es)
listed-without name es fs here keeps =
    same_values (listed fs) (without_var name (listed es)) (listed-ordered fs) (without_var-ordered name (listed es) (listed-ordered es))
    (λ q. changed name es fs None here keeps q ∙ sym (value_of-without_var q name (listed es) (listed-ordered es)))
