-- The walk over a tree, one element and one child after another.
use Rattle.std.proofs.lemmas.List.{append-nil, drop_all}
use Rattle.std.proofs.Common.{◌≡◌, ℕ, zero, suc, ◌+◌, ◌<◌, ◌≤◌, Bool, true, false, List, [], ◌∷◌, ◌++◌, ◌||◌, length, get_or, set, drop, map, Option, Some, None, Result, Ok, Err, refl, sym, ap, ◌∙◌, subst, append_assoc, add-one, drop-cons, arith, rules, length-append, ap₂}
use Rattle.std.specs.List.{list_any}
use Rattle.serde_json.specs.Data.{Members}
use Rattle.serde_json.specs.View.{view}
use Rattle.plan_json.specs.Shape.{Raw, raw, Raws, no_raws, raw_then, members_in}
use Rattle.plan_json.specs.Place.{Place, at}
use Rattle.plan_json.specs.TreeSeen.{raw_view, raws_of}
use Rattle.plan_json.specs.declared.raw.RawElement.{RawElement, out-RawElement, the_lemmas}
use Rattle.element_props.specs.declared.error.BuildError.{BuildError}
use Rattle.element_props.specs.declared.error.BuildError.TheVariants as errors
use Rattle.element_tree.specs.declared.kinds.Kind.{Kind}
use Rattle.element_props.specs.NamedProps.{NamedValue}
use Rattle.element_tree.specs.declared.kinds.Element.{Element}
use Rattle.element_tree.specs.declared.types.ElementType.{ElementType}
use Rattle.element_tree.specs.declared.tree_walk.Spot.{Spot as CodeSpot}
use Rattle.element_props.specs.FormRows as table
use Rattle.element_tree.specs.Table.{rows}
use Rattle.element_tree.specs.Types.{class_of_type, is_section_type}
use Rattle.element_tree.specs.Kinds.{kind_of}
use Rattle.element_props.specs.Patterns.{Asked}
use Rattle.element_props.specs.Props.{own_properties}
use Rattle.element_props.specs.Reads.{Reads, over, refuse, ask, ◌>>=◌, Goes, Fails, Gives}
use Rattle.element_tree.specs.Walk.{Spot, placed, own, own_of, child_spot, spot_of, at_place, node, elements, below, is_enabled, has_enabled, with_children}
use Rattle.element_props.proofs.ReadsLaws.{goes_nothing, goes_append, goes_bind, fails_after, fails_bind, fails_first, fails_refuse, no_memory}

-- an element is its fields
pub raw_seen : (r : RawElement) → raw_view r ≡ raw (out-RawElement r).kind (out-RawElement r).name (out-RawElement r).enabled (members_in (view (out-RawElement r).props)) (raws_of (map raw_view (out-RawElement r).children.items))
raw_seen r = search (rules, the_lemmas)

module _ (spot : Spot) (number : ℕ) (kind name : List ℕ) (enabled : Bool) (ms : Members) (cs : Raws) (a b : Asked) where
  pub own_unplaced : (e : BuildError) → ((e ≡ errors.NoMemory → ⊥) → placed spot number kind name enabled cs ≡ refuse e) → Fails a (own spot number kind name enabled ms cs) e a
  unfolding own
  own_unplaced e h = fails_bind _ (fails_first a _ e h)

  pub own_no_props : (t : ElementType) (rs : List table.Row) (e : BuildError) → placed spot number kind name enabled cs ≡ over t → rs ≡ rows spot.version t → Fails a (own_properties spot.places ms rs) e b
      → Fails a (own spot number kind name enabled ms cs) e b
  unfolding own
  own_no_props t rs e h k s = rw (h, ← k) (fails_bind _ s)

  pub own_no_kind : (t : ElementType) (rs : List table.Row) (ps : List NamedValue) → placed spot number kind name enabled cs ≡ over t → rs ≡ rows spot.version t → Goes a (own_properties spot.places ms rs) (over ps) b
      → kind_of t ps ≡ None → Fails a (own spot number kind name enabled ms cs) (errors.BadProp (at spot.places)) b
  unfolding own
  own_no_kind t rs ps h k g none = rw (h, ← k) (fails_after (goes_bind _ g) (rw none (fails_refuse b _)))

  pub own_cut : (t : ElementType) (rs : List table.Row) (ps : List NamedValue) (e : BuildError) → placed spot number kind name enabled cs ≡ over t → rs ≡ rows spot.version t → Goes a (own_properties spot.places ms rs) (over ps) b
      → e ≡ errors.NoMemory → Fails a (own spot number kind name enabled ms cs) e b
  unfolding own
  own_cut t rs ps e h k g none = rw (h, ← k) (fails_after (goes_bind _ g) (no_memory b _ e none))

  pub own_done : (t : ElementType) (rs : List table.Row) (ps : List NamedValue) (made : Kind) → placed spot number kind name enabled cs ≡ over t → rs ≡ rows spot.version t → Goes a (own_properties spot.places ms rs) (over ps) b
      → kind_of t ps ≡ Some made → Goes a (own spot number kind name enabled ms cs) (over (t, made)) b
  unfolding own
  own_done t rs ps made h k g some = rw (h, ← k) (goes_append (goes_bind _ g) (rw some (goes_nothing b _)))

is_enabled_seen : (r : RawElement) → is_enabled (raw_view r) ≡ (out-RawElement r).enabled
is_enabled_seen r = ap is_enabled (raw_seen r)

pub any_enabled : (cs : List RawElement) → list_any (λ c. is_enabled (raw_view c)) cs ≡ has_enabled (raws_of (map raw_view cs))
any_enabled [] = refl
any_enabled (c ∷ cs) = ap (λ b. is_enabled (raw_view c) || b) (any_enabled cs)

-- ---- the elements below one

-- what was read of an element and its children, before what is left of them
abbrev pub walk_before : List ℕ → Kind → ℕ → List ℕ → List Element → Reads (List ℕ × List Element) → Reads (List Element)
walk_before name made parent numbers xs r = r >>= (λ b. over (node name made parent (numbers ++ b.0) ∷ (xs ++ b.1)))

shift : (name : List ℕ) (made : Kind) (parent : ℕ) (numbers : List ℕ) (xs ys : List Element) (n : ℕ) (r : Reads (List ℕ × List Element))
    → walk_before name made parent numbers xs (r >>= (λ b. over (n ∷ b.0, ys ++ b.1))) ≡ walk_before name made parent (numbers ++ n ∷ []) (xs ++ ys) r
shift name made parent numbers xs ys n (over b) = ap₂ (λ (ms : List ℕ) (zs : List Element). over (node name made parent ms ∷ zs)) (sym (append_assoc numbers (n ∷ []) b.0)) (sym (append_assoc xs ys b.1))
shift name made parent numbers xs ys n (refuse e) = refl
shift name made parent numbers xs ys n (ask p t r) = ap (ask p t) (shift name made parent numbers xs ys n r)

raws_step : (cs : List RawElement) (i : ℕ) (v : RawElement) → i < length cs → v ≡ get_or cs i v → raws_of (map raw_view (drop i cs)) ≡ raw_then (raw_view v) (raws_of (map raw_view (drop (i + 1) cs)))
raws_step cs i v h is = rw add-one (ap (λ (vs : List RawElement). raws_of (map raw_view vs)) (drop-cons cs i v h) ∙ ap (λ w. raw_then (raw_view w) (raws_of (map raw_view (drop (suc i) cs)))) (sym is))

module _ (whole : Reads (List Element)) (spot : Spot) (name : List ℕ) (made : Kind) (parent : ℕ) (numbers : List ℕ) (xs : List Element) (cs : List RawElement) (i n : ℕ) (v : RawElement) (a b : Asked)
    (h : i < length cs) (is : v ≡ get_or cs i v)
    (kept : Goes a whole (walk_before name made parent numbers xs (below spot i n (raws_of (map raw_view (drop i cs))))) b) where
  here : Goes a whole (walk_before name made parent numbers xs (below spot i n (raw_then (raw_view v) (raws_of (map raw_view (drop (i + 1) cs)))))) b
  here = let P : Raws → Type 0 = λ rs. Goes a whole (walk_before name made parent numbers xs (below spot i n rs)) b in subst P (raws_step cs i v h is) kept

  pub child_skipped : (out-RawElement v).enabled ≡ false → Goes a whole (walk_before name made parent numbers xs (below spot (i + 1) n (raws_of (map raw_view (drop (i + 1) cs))))) b
  unfolding elements
  child_skipped off = let e = is_enabled_seen v ∙ off in rw e at here

  pub child_done : (c : Asked) (ys : List Element) → (out-RawElement v).enabled ≡ true → Goes b (elements (at_place spot i) n (raw_view v)) (over ys) c
      → Goes a whole (walk_before name made parent (numbers ++ n ∷ []) (xs ++ ys) (below spot (i + 1) (n + length ys) (raws_of (map raw_view (drop (i + 1) cs))))) c
  unfolding elements
  child_done c ys on g =
      let left = raws_of (map raw_view (drop (i + 1) cs)) in
      let e = is_enabled_seen v ∙ on in
      let first = goes_bind (λ (zs : List Element). below spot (i + 1) (n + length zs) left >>= (λ b. over (n ∷ b.0, zs ++ b.1))) g in
      let second = goes_bind (λ (b : List ℕ × List Element). over (node name made parent (numbers ++ b.0) ∷ (xs ++ b.1))) first in
      let P : Reads (List Element) → Type 0 = λ r. Goes b (walk_before name made parent numbers xs (elements (at_place spot i) n (raw_view v) >>= (λ zs. below spot (i + 1) (n + length zs) left >>= (λ b. over (n ∷ b.0, zs ++ b.1))))) r c in
      let opened : Goes a whole (walk_before name made parent numbers xs (elements (at_place spot i) n (raw_view v) >>= (λ zs. below spot (i + 1) (n + length zs) left >>= (λ b. over (n ∷ b.0, zs ++ b.1))))) b = rw e at here in
      goes_append opened (subst P (shift name made parent numbers xs ys n (below spot (i + 1) (n + length ys) left)) second)

  pub child_fails : (c : Asked) (e : BuildError) → (out-RawElement v).enabled ≡ true → Fails b (elements (at_place spot i) n (raw_view v)) e c → Fails a whole e c
  unfolding elements
  child_fails c e on s =
      let left = raws_of (map raw_view (drop (i + 1) cs)) in
      let t = is_enabled_seen v ∙ on in
      let opened : Goes a whole (walk_before name made parent numbers xs (elements (at_place spot i) n (raw_view v) >>= (λ zs. below spot (i + 1) (n + length zs) left >>= (λ b. over (n ∷ b.0, zs ++ b.1))))) b = rw t at here in
      fails_after opened (fails_bind _ (fails_bind _ s))

  pub child_added : (c : Asked) (ys : List Element) (now more : List ℕ) (k m : ℕ) → (out-RawElement v).enabled ≡ true → now ≡ spot.places ++ i ∷ [] → k ≡ n → more ≡ numbers ++ k ∷ [] → m ≡ n + length ys
      → Goes b (elements (record spot { places = now }) n (raw_view v)) (over ys) c
      → Goes a whole (walk_before name made parent more (xs ++ ys) (below spot (i + 1) m (raws_of (map raw_view (drop (i + 1) cs))))) c
  child_added c ys now more k m on at_now is_n is_more is_m g = rw (is_more, is_n, is_m) (child_done c ys on (rw at_now at g))

  pub child_stops : (c : Asked) (e : BuildError) (now : List ℕ) → (out-RawElement v).enabled ≡ true → now ≡ spot.places ++ i ∷ [] → Fails b (elements (record spot { places = now }) n (raw_view v)) e c → Fails a whole e c
  child_stops c e now on at_now s = child_fails c e on (rw at_now at s)

pub walk_end : (whole : Reads (List Element)) (spot : Spot) (name : List ℕ) (made : Kind) (parent : ℕ) (numbers : List ℕ) (xs : List Element) (cs : List RawElement) (i n : ℕ) (a b : Asked) → length cs ≤ i
    → Goes a whole (walk_before name made parent numbers xs (below spot i n (raws_of (map raw_view (drop i cs))))) b → Goes a whole (over (node name made parent numbers ∷ xs)) b
unfolding elements
walk_end whole spot name made parent numbers xs cs i n a b h kept =
    let e : walk_before name made parent numbers xs (below spot i n (raws_of (map raw_view (drop i cs)))) ≡ over (node name made parent numbers ∷ xs) =
    ap (λ (vs : List RawElement). walk_before name made parent numbers xs (below spot i n (raws_of (map raw_view vs)))) (drop_all i cs h)
    ∙ ap₂ (λ (ms : List ℕ) (zs : List Element). over (node name made parent ms ∷ zs)) (append-nil numbers) (append-nil xs) in
    let P : Reads (List Element) → Type 0 = λ r. Goes a whole r b in
    subst P e kept

-- ---- the first of them

start_raw : (spot : Spot) (number : ℕ) (kind name : List ℕ) (enabled : Bool) (ms : Members) (cs : Raws) (t : ElementType) (made : Kind) (a b : Asked) → Goes a (own spot number kind name enabled ms cs) (over (t, made)) b
    → Goes a (elements spot number (raw kind name enabled ms cs)) (walk_before name made spot.parent [] [] (below (child_spot spot t number) 0 (number + 1) cs)) b
unfolding elements
start_raw spot number kind name enabled ms cs t made a b g = goes_bind _ g

fails_raw : (spot : Spot) (number : ℕ) (kind name : List ℕ) (enabled : Bool) (ms : Members) (cs : Raws) (a b : Asked) (e : BuildError) → Fails a (own spot number kind name enabled ms cs) e b
    → Fails a (elements spot number (raw kind name enabled ms cs)) e b
unfolding elements
fails_raw spot number kind name enabled ms cs a b e s = fails_bind _ s

pub walk_start : (spot : Spot) (number : ℕ) (r : RawElement) (t : ElementType) (made : Kind) (a b : Asked) → Goes a (own_of spot number (raw_view r)) (over (t, made)) b
    → Goes a (elements spot number (raw_view r)) (walk_before (out-RawElement r).name made spot.parent [] [] (below (child_spot spot t number) 0 (number + 1) (raws_of (map raw_view (out-RawElement r).children.items)))) b
walk_start spot number r t made a b g = rw (raw_seen r) (start_raw spot number _ _ _ _ _ t made a b (rw (raw_seen r) at g))

pub walk_fails : (spot : Spot) (number : ℕ) (r : RawElement) (a b : Asked) (e : BuildError) → Fails a (own_of spot number (raw_view r)) e b → Fails a (elements spot number (raw_view r)) e b
walk_fails spot number r a b e s = rw (raw_seen r) (fails_raw spot number _ _ _ _ _ a b e (rw (raw_seen r) at s))

pub walk_init : (spot : Spot) (n m : ℕ) (r : RawElement) (t : ElementType) (code : CodeSpot) (made : Kind) (a b : Asked) (numbers : List ℕ) (cs : List RawElement) → numbers ≡ []
    → code ≡ record { above = Some (class_of_type t); depth = spot.depth + 1; inside = spot.inside || is_section_type t; parent = n; version = spot.version } → cs ≡ (out-RawElement r).children.items → m ≡ n + 1
    → Goes a (own_of spot n (raw_view r)) (over (t, made)) b
    → Goes a (elements spot n (raw_view r)) (walk_before (out-RawElement r).name made spot.parent numbers [] (below (spot_of code spot.places) 0 m (raws_of (map raw_view cs)))) b
walk_init spot n m r t code made a b numbers cs is_empty is_code is_children is_m g = rw (is_empty, is_code, is_children, is_m) (walk_start spot n r t made a b g)

-- ---- the list that is filled

pub with_middle : (prefix : List Element) (e : Element) (xs : List Element) (cs : List ℕ) (n : ℕ) → n ≡ length prefix → with_children ((prefix ++ e ∷ []) ++ xs) n cs ≡ prefix ++ record e { children = cs } ∷ xs
with_middle [] e xs cs n is = rw is refl
with_middle (z ∷ prefix) e xs cs n is = rw is (ap (λ (zs : List Element). z ∷ zs) (with_middle prefix e xs cs (length prefix) refl))

pub with_element : (es : List Element) (n : ℕ) (cs ks : List ℕ) (e : Element) → n < length es → e ≡ get_or es n e → ks ≡ cs
    → set es n (record { name = e.name; kind = e.kind; parent = e.parent; children = ks }) ≡ with_children es n cs
with_element [] n cs ks e h is same = absurd (omega arith)
with_element (x ∷ es) zero cs ks e h is same = ap₂ (λ (y : Element) (ms : List ℕ). record y { children = ms } ∷ es) is same
with_element (x ∷ es) (suc n) cs ks e h is same = ap (λ (zs : List Element). x ∷ zs) (with_element es n cs ks e (omega arith) is same)

pub len_with : (es : List Element) (n : ℕ) (cs : List ℕ) → length (with_children es n cs) ≡ length es
len_with [] n cs = refl
len_with (e ∷ es) zero cs = refl
len_with (e ∷ es) (suc n) cs = ap (λ (m : ℕ). suc m) (len_with es n cs)
