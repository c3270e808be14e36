-- Header fields in an ordered map.
use Rattle.std.proofs.Common.{◌≡◌, ℕ, ◌+◌, ◌<◌, Vec, Global, Bor, List, [], ◌∷◌, ◌++◌, length, drop, map, refl, sym, ap, ◌∙◌, add-one}
use Rattle.std.specs.declared.cmp.Ordering.{Ordering}
use Rattle.std.specs.declared.cmp.Ordering.TheVariants.{Less, Equal, Greater}
use Rattle.std.specs.Ordering.{nat_cmp, match_ordering}
use Rattle.std.specs.Cmp.Lexicographic.{slice_cmp}
use Rattle.std.specs.BTreeMap.{insert_entry}
use Rattle.std.specs.List.{flat_map}
use Rattle.std.specs.Str.{str_to_ascii_lowercase}
use Rattle.std.proofs.Math.ListN.{get_or}
use Rattle.std.proofs.Math.Seq.{drop-cons}
use Rattle.element_props.specs.declared.prop.Pair.{Pair}
use Rattle.thread_vars.specs.Vars.{by_bytes}
use Rattle.http_settings.specs.RequestSettings.{Fields, set_field, set_fields, pairs_seen, fields_seen}

-- ---- names as the map keeps them

abbrev pub Entry : Type 0
Entry = Vec ℕ Global × Bor Pair

abbrev pub by_items : Vec ℕ Global → Vec ℕ Global → Ordering
by_items a b = slice_cmp nat_cmp a.items b.items

insert-seen : (name : Vec ℕ Global) (p : Bor Pair) (es : List Entry) → fields_seen (insert_entry by_items es name p) ≡ insert_entry by_bytes (fields_seen es) name.items p.now
insert-seen name p [] = refl
insert-seen name p (e ∷ es) =
    elim (by_bytes name.items e.0.items) as (λ o. fields_seen (match_ordering o ((name, p) ∷ e ∷ es) ((e.0, p) ∷ es) (e ∷ insert_entry by_items es name p))
    ≡ match_ordering o ((name.items, p.now) ∷ (e.0.items, e.1.now) ∷ fields_seen es) ((e.0.items, p.now) ∷ fields_seen es) ((e.0.items, e.1.now) ∷ insert_entry by_bytes (fields_seen es) name.items p.now)) [
      | Less ↦ refl
      | Equal ↦ refl
      | Greater ↦ ap (λ l. (e.0.items, e.1.now) ∷ l) (insert-seen name p es)
    ]

-- a field is set
pub field-set : (name : Vec ℕ Global) (p : Bor Pair) (old new : List Entry) → name.items ≡ str_to_ascii_lowercase p.now.name → new ≡ insert_entry by_items old name p
    → fields_seen new ≡ set_field (fields_seen old) p.now
field-set name p old new lower is =
    ap fields_seen is ∙ insert-seen name p old ∙ ap (λ k. insert_entry by_bytes (fields_seen old) k p.now) lower

-- ---- one after another

-- the next of some fields
pub next-field : (ps : List Pair) (i : ℕ) (p : Pair) (old now all : Fields) → i < length ps → p ≡ get_or ps i p → now ≡ set_field old p
    → set_fields old (drop i ps) ≡ all → set_fields now (drop (i + 1) ps) ≡ all
next-field ps i p old now all within is set so_far =
    let here : drop i ps ≡ p ∷ drop (i + 1) ps = (rw (add-one i) (drop-cons ps i p within)) ∙ ap (λ q. q ∷ drop (i + 1) ps) (sym is) in
    ap (λ fs. set_fields fs (drop (i + 1) ps)) set ∙ ap (set_fields old) (sym here) ∙ so_far

set-append : (fields : Fields) (ps qs : List Pair) → set_fields fields (ps ++ qs) ≡ set_fields (set_fields fields ps) qs
set-append fields [] qs = refl
set-append fields (p ∷ ps) qs = set-append (set_field fields p) ps qs

-- the fields of the next of some elements
pub next-fields : (headers : ℕ → List Pair) (ns : List ℕ) (i : ℕ) (old now all : Fields) → i < length ns → now ≡ set_fields old (headers (get_or ns i 0))
    → set_fields old (flat_map headers (drop i ns)) ≡ all → set_fields now (flat_map headers (drop (i + 1) ns)) ≡ all
next-fields headers ns i old now all within set so_far =
    let here : drop i ns ≡ get_or ns i 0 ∷ drop (i + 1) ns = rw (add-one i) (drop-cons ns i 0 within) in
    ap (λ fs. set_fields fs (flat_map headers (drop (i + 1) ns))) set
    ∙ sym (set-append old (headers (get_or ns i 0)) (flat_map headers (drop (i + 1) ns)))
    ∙ ap (λ l. set_fields old (flat_map headers l)) (sym here) ∙ so_far

-- the values of the map
pub values-seen : (es : List Entry) → pairs_seen (map (λ e. e.1) es) ≡ map (λ f. f.1) (fields_seen es)
values-seen [] = refl
values-seen (e ∷ es) = ap (λ ps. e.1.now ∷ ps) (values-seen es)
