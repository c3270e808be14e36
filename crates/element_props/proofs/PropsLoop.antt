-- The properties of an element, one row after another.
use Rattle.std.proofs.lemmas.List.{append-nil, drop_all}
use Rattle.std.proofs.Common.{◌≡◌, Bool, true, false, ◌&&◌, ℕ, zero, suc, arith, ◌+◌, ◌<◌, ◌≤◌, List, [], ◌∷◌, ◌++◌, length, get_or, drop, map, Some, None, Result, refl, sym, ap, ◌∙◌, subst, append_assoc, add-one, drop-cons}
use Rattle.serde_json.specs.Data.{Data, null, boolean, number, string, array, object, Members}
use Rattle.plan_json.specs.Shape.{members_in}
use Rattle.serde_json.specs.Find.{get, get_member}
use Rattle.element_props.specs.declared.error.BuildError.{BuildError}
use Rattle.element_props.specs.declared.error.BuildError.TheVariants as errors
use Rattle.element_props.specs.declared.prop.Prop.{Prop}
use Rattle.element_props.specs.NamedProps.{NamedValue, ◌holds◌}
use Rattle.element_props.specs.declared.rows.Row.{Row}
use Rattle.element_props.specs.FormRows as table
use Rattle.element_props.specs.RowsSeen.{row_seen, presence_seen}
use Rattle.element_props.specs.FormRows.{is_short, are_short}
use Rattle.element_props.specs.Patterns.{Asked}
use Rattle.element_props.specs.Reads.{Reads, over, refuse, ask, ◌>>=◌, Goes, Fails, Gives}
use Rattle.element_props.specs.Forms.{given}
use Rattle.element_props.specs.Props.{prop_at, absent_value, property, properties, unknown, missing, own_properties}
use Rattle.element_props.proofs.ReadsLaws.{goes_nothing, goes_append, goes_bind, fails_after, fails_bind, fails_refuse}

pub property_absent : (places : List ℕ) (ms : Members) (row : table.Row) (a : Asked) (p : Prop) → get_member row.name ms ≡ None → p ≡ absent_value row.form row.presence → Goes a (property places ms row) (over p) a
unfolding property
property_absent places ms row a p h k = rw (h, k) (goes_nothing a _)

and_left : (a b : Bool) → (a && b) ≡ true → a ≡ true
and_left true b h = refl
and_left false b h = h

and_right : (a b : Bool) → (a && b) ≡ true → b ≡ true
and_right true b h = h
and_right false b h = cc

-- what was read, before what is left
abbrev pub props_before : List NamedValue → Reads (List NamedValue) → Reads (List NamedValue)
props_before prefix r = r >>= (λ ps. over (prefix ++ ps))

bind_over : (r : Reads (List NamedValue)) → r ≡ props_before [] r
bind_over (over ps) = refl
bind_over (refuse e) = refl
bind_over (ask p t r) = ap (ask p t) (bind_over r)

pub rows_start : (a : Asked) (r : Reads (List NamedValue)) → Goes a r (props_before [] r) a
rows_start a r = let P : Reads (List NamedValue) → Type 0 = λ s. Goes a r s a in subst P (bind_over r) (goes_nothing a r)

shift : (prefix : List NamedValue) (p : NamedValue) (r : Reads (List NamedValue)) → (r >>= (λ ps. over (p ∷ ps))) >>= (λ ps. over (prefix ++ ps)) ≡ props_before (prefix ++ p ∷ []) r
shift prefix p (over ps) = ap over (sym (append_assoc prefix (p ∷ []) ps))
shift prefix p (refuse e) = refl
shift prefix p (ask q t r) = ap (ask q t) (shift prefix p r)

rows_step : (rows : List Row) (i : ℕ) (row : Row) → i < length rows → row ≡ get_or rows i row → map row_seen (drop i rows) ≡ row_seen row ∷ map row_seen (drop (i + 1) rows)
rows_step rows i row h is = rw add-one (ap (map row_seen) (drop-cons rows i row h) ∙ ap (λ r. row_seen r ∷ map row_seen (drop (suc i) rows)) (sym is))

module _ (places : List ℕ) (ms : Members) (rows : List Row) (i : ℕ) (row : Row) (prefix : List NamedValue) (a b c : Asked) (h : i < length rows) (is : row ≡ get_or rows i row)
    (kept : Goes a (properties places ms (map row_seen rows)) (props_before prefix (properties places ms (map row_seen (drop i rows)))) b) where
  here : Goes a (properties places ms (map row_seen rows)) (props_before prefix (properties places ms (row_seen row ∷ map row_seen (drop (i + 1) rows)))) b
  here = let P : List table.Row → Type 0 = λ rs. Goes a (properties places ms (map row_seen rows)) (props_before prefix (properties places ms rs)) b in subst P (rows_step rows i row h is) kept

  pub row_done : (p : Prop) → Goes b (property places ms (row_seen row)) (over p) c
      → Goes a (properties places ms (map row_seen rows)) (props_before (prefix ++ (row.name.now holds p) ∷ []) (properties places ms (map row_seen (drop (i + 1) rows)))) c
  unfolding properties
  row_done p g =
      let rest = properties places ms (map row_seen (drop (i + 1) rows)) in
      let first = goes_bind (λ (q : Prop). rest >>= (λ ps. over ((row.name.now holds q) ∷ ps))) g in
      let second = goes_bind (λ ps. over (prefix ++ ps)) first in
      let P : Reads (List NamedValue) → Type 0 = λ r. Goes b (props_before prefix (properties places ms (row_seen row ∷ map row_seen (drop (i + 1) rows)))) r c in
      goes_append here (subst P (shift prefix (row.name.now holds p) rest) second)

  pub row_fails : (e : BuildError) → Fails b (property places ms (row_seen row)) e c → Fails a (properties places ms (map row_seen rows)) e c
  unfolding properties
  row_fails e s = fails_after here (fails_bind _ (fails_bind _ s))

pub rows_end : (places : List ℕ) (ms : Members) (rows : List Row) (i : ℕ) (prefix : List NamedValue) (a b : Asked) → length rows ≤ i
    → Goes a (properties places ms (map row_seen rows)) (props_before prefix (properties places ms (map row_seen (drop i rows)))) b
    → Goes a (properties places ms (map row_seen rows)) (over prefix) b
unfolding properties
rows_end places ms rows i prefix a b h kept =
    let e : props_before prefix (properties places ms (map row_seen (drop i rows))) ≡ over prefix =
    ap (λ (rs : List Row). props_before prefix (properties places ms (map row_seen rs))) (drop_all i rows h) ∙ ap over (append-nil prefix) in
    let P : Reads (List NamedValue) → Type 0 = λ r. Goes a (properties places ms (map row_seen rows)) r b in
    subst P e kept

pub property_given : {X : Type 0} (seen : X → Prop) (places : List ℕ) (ms : Members) (row : table.Row) (d : Data) (a b : Asked) (r : Result X BuildError) → get_member row.name ms ≡ Some d
    → Gives seen a (given row.form ms (prop_at places row.name) d) r b → Gives seen a (property places ms row) r b
unfolding property
property_given seen places ms row d a b r h g = rw h g

pub get_in : (k : List ℕ) (d : Data) → get_member k (members_in d) ≡ get k d
get_in k null = refl
get_in k (boolean b) = refl
get_in k (number n) = refl
get_in k (string s) = refl
get_in k (array ds) = refl
get_in k (object ms) = refl

pub same_row : (rows : List Row) (i : ℕ) (d : Row) → i < length rows → get_or rows i d ≡ get_or rows i (get_or rows i d)
same_row [] i d h = absurd (omega arith)
same_row (r ∷ rows) zero d h = refl
same_row (r ∷ rows) (suc i) d h = same_row rows i d (omega arith)

-- ---- an element's properties

pub unknown_fails : (places : List ℕ) (ms : Members) (rows : List table.Row) (name : List ℕ) (a : Asked) → unknown rows ms ≡ Some name → Fails a (own_properties places ms rows) (errors.BadProp (prop_at places name)) a
unfolding own_properties
unknown_fails places ms rows name a h = rw h (fails_refuse a _)

pub missing_fails : (places : List ℕ) (ms : Members) (rows : List table.Row) (name : List ℕ) (a : Asked) → unknown rows ms ≡ None → missing ms rows ≡ Some name → Fails a (own_properties places ms rows) (errors.MissingProp (prop_at places name)) a
unfolding own_properties
missing_fails places ms rows name a h k = rw (h, k) (fails_refuse a _)

pub own_gives : {X : Type 0} (seen : X → List NamedValue) (places : List ℕ) (ms : Members) (rows : List table.Row) (a b : Asked) (r : Result X BuildError) → unknown rows ms ≡ None → missing ms rows ≡ None
    → Gives seen a (properties places ms rows) r b → Gives seen a (own_properties places ms rows) r b
unfolding own_properties
own_gives seen places ms rows a b r h k g = rw (h, k) g

pub short_at : (rows : List Row) (i : ℕ) (row : Row) → i < length rows → row ≡ get_or rows i row → are_short (map row_seen rows) ≡ true → is_short (presence_seen row.presence) ≡ true
short_at [] i row h is all = absurd (omega arith)
short_at (r ∷ rows) zero row h is all = ap (λ q. is_short (presence_seen q.presence)) is ∙ and_left _ _ all
short_at (r ∷ rows) (suc i) row h is all = short_at rows i row (omega arith) is (and_right _ _ all)
