-- Values that are written one after another.
use Rattle.std.proofs.Common.{◌≡◌, ℕ, zero, suc, min, map, ◌+◌, ◌<◌, ◌≤◌, List, [], ◌∷◌, ◌++◌, length, get_or, drop, false, refl, sym, ap, ◌∙◌, add-one, drop-cons, nat_eq, arith, String, Global, string_bytes, string_cmp}
use Rattle.std.proofs.lemmas.List.{drop_all}
use Rattle.std.specs.BTreeMap.{insert_entry}
use Rattle.serde_json.specs.Data.{Data, Items, no_items, item, no_members, put}
use Rattle.serde_json.specs.View.{view, items_view, members_view}
use Rattle.serde_json.specs.declared.value.Value.{Value}
use Rattle.serde_json.proofs.Views.{Entry, members_view-insert_entry}
use Rattle.element_props.specs.declared.prop.Pair.{Pair}
use Rattle.element_props.specs.PropertiesWritten.{items_by, no_pair, written}
use Rattle.element_props.specs.declared.rows.Row.{Row}
use Rattle.element_props.specs.declared.written.NamedShown.{NamedShown}
use Rattle.element_props.specs.RowsSeen.{row_seen}
use Rattle.element_props.specs.ValueShown.{named_shown_seen}

-- one list after another
abbrev pub joined : Items → Items → Items
joined no_items es = es
joined (item d ds) es = item d (joined ds es)

one_more : (vs : List Value) (v : Value) (es : Items) → joined (items_view (vs ++ v ∷ [])) es ≡ joined (items_view vs) (item (view v) es)
one_more [] v es = refl
one_more (w ∷ vs) v es = ap (item (view w)) (one_more vs v es)

pub all_joined : (vs : List Value) → joined (items_view vs) no_items ≡ items_view vs
all_joined [] = refl
all_joined (v ∷ vs) = ap (item (view v)) (all_joined vs)

pub written_more : {A : Type 0} (f : A → Data) (vs : List Value) (v : Value) (xs : List A) (i : ℕ) (x : A) → i < length xs → x ≡ get_or xs i x → view v ≡ f x
    → joined (items_view vs) (items_by f (drop i xs)) ≡ items_by f xs → joined (items_view (vs ++ v ∷ [])) (items_by f (drop (i + 1) xs)) ≡ items_by f xs
written_more f vs v xs i x h is e kept =
    one_more vs v _ ∙ ap (λ d. joined (items_view vs) (item d (items_by f (drop (i + 1) xs)))) e ∙ ap (joined (items_view vs)) (sym (rw add-one (ap (items_by f) (drop-cons xs i x h) ∙ ap (λ y. item (f y) (items_by f (drop (suc i) xs))) (sym is)))) ∙ kept

pub written_all : {A : Type 0} (f : A → Data) (vs : List Value) (xs : List A) (i : ℕ) → length xs ≤ i → joined (items_view vs) (items_by f (drop i xs)) ≡ items_by f xs → items_view vs ≡ items_by f xs
written_all f vs xs i h kept = sym (all_joined vs) ∙ ap (λ ys. joined (items_view vs) (items_by f ys)) (sym (drop_all i xs h)) ∙ kept

pub put_seen : (es : List Entry) (k : String Global) (v : Value) → members_view (insert_entry string_cmp es k v) ≡ put (string_bytes k) (view v) (members_view es)
put_seen es k v = members_view-insert_entry es k v

not_zero : (n : ℕ) → nat_eq (suc n) 0 ≡ false
not_zero n = grind arith

pub no_pair_empty : (ps : List Pair) → nat_eq (length ps) 0 ≡ no_pair ps
no_pair_empty [] = refl
no_pair_empty (p ∷ ps) = not_zero (length ps)

-- where one of the lists has come to its end, there is nothing to write
pub written_none : (rows : List Row) (vs : List NamedShown) (n : ℕ) → n ≡ min (length rows) (length vs) → written (map row_seen (drop n rows)) (map named_shown_seen (drop n vs)) ≡ no_members
written_none [] vs n is = let over : drop n [] ≡ [] = drop_all {X = Row} n [] (omega arith) in ap (λ (rs : List Row). written (map row_seen rs) (map named_shown_seen (drop n vs))) over
written_none (r ∷ rows) [] n is = let none : n ≡ 0 = omega (arith, is) in rw none refl
written_none (r ∷ rows) (v ∷ vs) zero is = absurd (omega (arith, is))
written_none (r ∷ rows) (v ∷ vs) (suc n) is = written_none rows vs n (omega (arith, is))
