-- How the elements that were read stand to one another.
use Rattle.std.proofs.Common.{◌≡◌, ℕ, zero, suc, ◌+◌, ◌<◌, ◌≤◌, Bool, true, false, not, ◌&&◌, List, [], ◌∷◌, ◌++◌, length, Option, Some, Ok, refl, sym, ap, ap₂, ◌∙◌, subst, true≢false, arith, append_assoc, length-append, nat_lt, nat_le, slice_get, IsTrue}
use Rattle.std.specs.List.{AllByRecursion}
use Rattle.std.proofs.lemmas.Bool.Decides.{nat_tests}
use Rattle.serde_json.specs.Data.{Members}
use Rattle.plan_json.specs.Shape.{Raws}
use Rattle.element_props.specs.Props.{own_properties}
use Rattle.element_props.specs.Reads.{refuse_if, or_refuse, outcome}
use Rattle.element_tree.specs.declared.kinds.Kind.{Kind}
use Rattle.element_tree.specs.declared.kinds.Element.{Element}
use Rattle.element_tree.specs.declared.types.ElementType.{ElementType}
use Rattle.element_tree.specs.Types.{type_of, class_of, may_stand, is_leaf, is_section}
use Rattle.element_tree.specs.Table.{rows, type_of_name}
use Rattle.element_tree.specs.Kinds.{kind_of}
use Rattle.element_tree.specs.Tree.{Nests, Apart, IsBelow, IsChild}
use Rattle.element_tree.specs.Walk.{Spot, placed, own, node, has_enabled, is_right}
use Rattle.element_tree.proofs.Grown.{Grown, grown, Growns, none_grown, then_grown, size, sizes, numbers, flat, flats, Stand, spot_at, stand_below, WasRead, WereRead, AllRead}
use Rattle.element_tree.proofs.Outcomes.{bind_ok, over_ok, or_ok, refuse_ok, not_false, both, at_most}
use Rattle.element_tree.proofs.GrownLaws.{flat_size}

-- ---- one element

-- what the checks before the properties have found
pub record Placed (s : Spot) (number : ℕ) (kind name : List ℕ) (enabled : Bool) (below : Raws) (t : ElementType) : Type 0 where
  pub few : nat_le 4096 number ≡ false
  pub named : type_of_name kind ≡ Some t
  pub deep : nat_lt 32 s.depth ≡ false
  pub right : is_right s enabled below t ≡ true
  pub short : nat_lt 256 (length name) ≡ false

pub placed_ok : (s : Spot) (n : ℕ) (kind name : List ℕ) (enabled : Bool) (cs : Raws) (t : ElementType) → outcome (placed s n kind name enabled cs) ≡ Ok t → Placed s n kind name enabled cs t
placed_ok s n kind name enabled cs t h =
    let a = bind_ok (refuse_if (nat_le 4096 n) _) _ t h in
    let b = bind_ok (or_refuse (type_of_name kind) _) _ t a.2 in
    let c = bind_ok (refuse_if (nat_lt 32 s.depth) _) _ t b.2 in
    let d = bind_ok (refuse_if (not (is_right s enabled cs b.0)) _) _ t c.2 in
    let e = bind_ok (refuse_if (nat_lt 256 (length name)) _) _ t d.2 in
    let same = over_ok b.0 t e.2 in
    let P : ElementType → Type 0 = λ u. Placed s n kind name enabled cs u in
    subst P same (record {
      few = refuse_ok _ _ a.0 a.1;
      named = or_ok _ _ b.0 b.1;
      deep = refuse_ok _ _ c.0 c.1;
      right = not_false _ (refuse_ok _ _ d.0 d.1);
      short = refuse_ok _ _ e.0 e.1;
    })

-- what is known of an element that was read
pub record IsOwn (s : Stand) (name : List ℕ) (kind : Kind) (gs : Growns) : Type 0 where
  pub depth : s.depth ≤ 32
  pub place : may_stand s.above (class_of kind) ≡ true
  pub apart : not (s.inside && is_section kind) ≡ true
  pub leaf : is_leaf (class_of kind) ≡ true → gs ≡ none_grown
  pub name_ : length name ≤ 256

no_leaf : (a b : Bool) → not (a && b) ≡ true → a ≡ true → b ≡ false
no_leaf true true h k = absurd (true≢false (sym h))
no_leaf true false h k = refl
no_leaf false b h k = absurd (true≢false (sym k))

pub own_placed : (s : Spot) (n : ℕ) (kind name : List ℕ) (enabled : Bool) (ms : Members) (cs : Raws) (t : ElementType) (made : Kind)
    → outcome (own s n kind name enabled ms cs) ≡ Ok (t, made) → Placed s n kind name enabled cs t
unfolding own
own_placed s n kind name enabled ms cs t made h =
    let a = bind_ok (placed s n kind name enabled cs) _ (t, made) h in
    let b = bind_ok (own_properties s.places ms (rows s.version a.0)) _ (t, made) a.2 in
    let c = bind_ok (or_refuse (kind_of a.0 b.0) _) _ (t, made) b.2 in
    let is = ap (λ (o : ElementType × Kind). o.0) (over_ok (a.0, c.0) (t, made) c.2) in
    let P : ElementType → Type 0 = λ u. Placed s n kind name enabled cs u in
    subst P is (placed_ok s n kind name enabled cs a.0 a.1)

pub is_own : (s : Stand) (name : List ℕ) (kind : Kind) (gs : Growns) → WasRead s name kind gs → IsOwn s name kind gs
is_own s name kind gs r =
    let p = own_placed (spot_at s r.parent r.places) r.number r.written name r.enabled r.members r.below (type_of kind) kind r.own_ok in
    let a = both r.enabled _ p.right in
    let b = both (may_stand s.above (class_of kind)) _ a.1 in
    let c = both (not (s.inside && is_section kind)) _ b.1 in
    record {
      depth = at_most 32 s.depth p.deep;
      place = b.0;
      apart = c.0;
      leaf = λ l. r.empty (no_leaf (is_leaf (class_of kind)) (has_enabled r.below) c.1 l);
      name_ = at_most 256 (length name) p.short;
    }

-- ---- at a number and below it

-- the element of this number stands here
pub record Here (s : Stand) (parent : ℕ) (es : List Element) (n : ℕ) (e : Element) : Type 0 where
  pub there : slice_get es n ≡ Some e
  pub parent_ : e.parent ≡ parent
  pub place : may_stand s.above (class_of e.kind) ≡ true
  pub apart : not (s.inside && is_section e.kind) ≡ true

-- so do those below it, which nest at most that deep
unfoldable pub Good : ℕ → Stand → ℕ → List Element → ℕ → Type 0
Good zero s parent es n = ⊥
Good (suc d) s parent es n = (e : Element) × Here s parent es n e × AllByRecursion (λ c. (n < c) × Good d (stand_below s e.kind) n es c) e.children

pub get_middle : (prefix : List Element) (e : Element) (after : List Element) (n : ℕ) → length prefix ≡ n → slice_get (prefix ++ e ∷ after) n ≡ Some e
get_middle [] e after n h = rw (← h) refl
get_middle (x ∷ prefix) e after n h = rw (← h) (get_middle prefix e after (length prefix) refl)

pub get_at : (es prefix : List Element) (e : Element) (after : List Element) (n : ℕ) → es ≡ prefix ++ e ∷ after → length prefix ≡ n → slice_get es n ≡ Some e
get_at es prefix e after n is h = rw is (get_middle prefix e after n h)

-- after one element, and after those of a subtree
pub behind_one : (es prefix : List Element) (e : Element) (xs after : List Element) → es ≡ prefix ++ ((e ∷ xs) ++ after) → es ≡ (prefix ++ e ∷ []) ++ (xs ++ after)
behind_one es prefix e xs after is = is ∙ sym (append_assoc prefix (e ∷ []) (xs ++ after))

pub before_rest : (es prefix xs ys after : List Element) → es ≡ prefix ++ ((xs ++ ys) ++ after) → es ≡ prefix ++ (xs ++ (ys ++ after))
before_rest es prefix xs ys after is = is ∙ ap (λ (zs : List Element). prefix ++ zs) (append_assoc xs ys after)

pub behind_all : (es prefix xs ys after : List Element) → es ≡ prefix ++ ((xs ++ ys) ++ after) → es ≡ (prefix ++ xs) ++ (ys ++ after)
behind_all es prefix xs ys after is = before_rest es prefix xs ys after is ∙ sym (append_assoc prefix xs (ys ++ after))

pub one_longer : (prefix : List Element) (e : Element) (n : ℕ) → length prefix ≡ n → length (prefix ++ e ∷ []) ≡ n + 1
one_longer prefix e n h = length-append prefix (e ∷ []) ∙ ap (λ (m : ℕ). m + 1) h

pub all_longer : (prefix : List Element) (parent n : ℕ) (g : Grown) → length prefix ≡ n → length (prefix ++ flat parent n g) ≡ n + size g
all_longer prefix parent n g h = length-append prefix (flat parent n g) ∙ ap₂ (λ (a b : ℕ). a + b) h (flat_size parent n g)

mutual
  unfolding Good WereRead

  pub good_one : (g : Grown) (s : Stand) (parent n d : ℕ) (es prefix after : List Element) → WereRead s g → es ≡ prefix ++ (flat parent n g ++ after) → length prefix ≡ n → 33 ≤ d + s.depth → Good d s parent es n
  good_one (grown name kind gs) s parent n zero es prefix after r is len fuel = let o = is_own s name kind gs r.0 in absurd (omega (arith, o.depth))
  good_one (grown name kind gs) s parent n (suc d) es prefix after r is len fuel =
      let o = is_own s name kind gs r.0 in
      let e = node name kind parent (numbers (n + 1) gs) in (
        e,
        record { there = get_at es prefix e (flats n (n + 1) gs ++ after) n is len; parent_ = refl; place = o.place; apart = o.apart },
        good_all gs (stand_below s kind) n (n + 1) d es (prefix ++ e ∷ []) after r.1 (behind_one es prefix e (flats n (n + 1) gs) after is) (one_longer prefix e n len) (omega arith) (omega arith),
      )

  pub good_all : (gs : Growns) (s : Stand) (parent m d : ℕ) (es prefix after : List Element) → AllRead s gs → es ≡ prefix ++ (flats parent m gs ++ after) → length prefix ≡ m → 33 ≤ d + s.depth → parent < m
      → AllByRecursion (λ c. (parent < c) × Good d s parent es c) (numbers m gs)
  good_all none_grown s parent m d es prefix after r is len fuel later = tt
  good_all (then_grown g gs) s parent m d es prefix after r is len fuel later = (
    (later, good_one g s parent m d es prefix (flats parent (m + size g) gs ++ after) r.0 (before_rest es prefix (flat parent m g) (flats parent (m + size g) gs) after is) len fuel),
    good_all gs s parent (m + size g) d es (prefix ++ flat parent m g) after r.1 (behind_all es prefix (flat parent m g) (flats parent (m + size g) gs) after is) (all_longer prefix parent m g len) fuel (omega arith),
  )

-- ---- what follows

pub all_map : {A : Type 0} {P Q : A → Type 0} → ((x : A) → P x → Q x) → (xs : List A) → AllByRecursion P xs → AllByRecursion Q xs
all_map f [] h = tt
all_map f (x ∷ xs) h = (f x h.0, all_map f xs h.1)

pub nests : (d : ℕ) (s : Stand) (parent : ℕ) (es : List Element) (n : ℕ) → Good d s parent es n → Nests d es n
unfolding Good Nests
nests zero s parent es n g = g
nests (suc d) s parent es n g = (g.0, g.1.there, all_map (λ c k. nests d (stand_below s g.0.kind) n es c k.1) g.0.children g.2)

is_true : (b : Bool) → b ≡ true → IsTrue b
is_true b h = h

pub apart : (d : ℕ) (s : Stand) (parent : ℕ) (es : List Element) (n : ℕ) → Good d s parent es n → Apart d s.inside es n
unfolding Good Apart
apart zero s parent es n g = g
apart (suc d) s parent es n g = (g.0, g.1.there, is_true _ g.1.apart, all_map (λ c k. apart d (stand_below s g.0.kind) n es c k.1) g.0.children g.2)

-- the children of an element stand right below it
pub are_below : (d : ℕ) (s : Stand) (es : List Element) (n : ℕ) (e : Element) (cs : List ℕ) → AllByRecursion (λ c. (n < c) × Good d (stand_below s e.kind) n es c) cs → AllByRecursion (IsBelow es n e) cs
unfolding Good
are_below d s es n e cs h = all_map (λ c k. one d c k) cs h where
  one : (d c : ℕ) → (n < c) × Good d (stand_below s e.kind) n es c → IsBelow es n e c
  one zero c k = absurd k.1
  one (suc d) c k = record { element = k.1.0; there = k.1.1.there; later = k.0; parent = k.1.1.parent_; place = is_true _ k.1.1.place }

-- ---- at every number

pub get_mid : {A : Type 0} (prefix : List A) (x : A) (after : List A) → slice_get (prefix ++ x ∷ after) (length prefix) ≡ Some x
get_mid [] x after = refl
get_mid (y ∷ prefix) x after = get_mid prefix x after

-- the number is among the children, at some place
abbrev pub IsAmong : List ℕ → ℕ → Type 0
IsAmong cs c = (k : ℕ) × (slice_get cs k ≡ Some c)

among_from : (prefix cs all : List ℕ) → all ≡ prefix ++ cs → AllByRecursion (IsAmong all) cs
among_from prefix [] all is = tt
among_from prefix (c ∷ cs) all is =
    ((length prefix, rw is (get_mid prefix c cs)), among_from (prefix ++ c ∷ []) cs all (is ∙ sym (append_assoc prefix (c ∷ []) cs)))

-- the first element of a subtree
abbrev pub top : ℕ → ℕ → Grown → Element
top parent n (grown name kind gs) = node name kind parent (numbers (n + 1) gs)

pub top_there : (g : Grown) (parent n : ℕ) (es prefix after : List Element) → es ≡ prefix ++ (flat parent n g ++ after) → length prefix ≡ n → slice_get es n ≡ Some (top parent n g)
top_there (grown name kind gs) parent n es prefix after is len = get_at es prefix (node name kind parent (numbers (n + 1) gs)) (flats n (n + 1) gs ++ after) n is len

top_parent : (g : Grown) (parent n : ℕ) → (top parent n g).parent ≡ parent
top_parent (grown name kind gs) parent n = refl

pub same_some : {A : Type 0} (o : Option A) (x y : A) → o ≡ Some x → o ≡ Some y → x ≡ y
same_some {A} o x y h k = let e : ◌≡◌ {A = Option A} (Some x) (Some y) = sym h ∙ k in cc

-- what stands at and below the first element of a subtree, and what stands below an element
pub record Inner (es : List Element) (n i : ℕ) (e : Element) : Type 0 where
  pub children : AllByRecursion (IsBelow es i e) e.children
  pub parent : n < i → IsChild es i e.parent

pub record Outer (es : List Element) (i : ℕ) (e : Element) : Type 0 where
  pub children : AllByRecursion (IsBelow es i e) e.children
  pub parent : IsChild es i e.parent

is_first : (n i : ℕ) → n ≤ i → nat_lt n i ≡ false → i ≡ n
is_first n i h k = grind (arith, nat_tests)

is_later : (n i : ℕ) → nat_lt n i ≡ true → n < i
is_later n i h = grind (arith, nat_tests)

is_past : (n i : ℕ) → nat_lt i n ≡ false → n ≤ i
is_past n i h = grind (arith, nat_tests)

good_below : (d : ℕ) (s : Stand) (parent : ℕ) (es : List Element) (n : ℕ) (e : Element) → slice_get es n ≡ Some e → Good d s parent es n → AllByRecursion (IsBelow es n e) e.children
unfolding Good
good_below zero s parent es n e h g = absurd g
good_below (suc d) s parent es n e h g =
    let same = same_some (slice_get es n) g.0 e g.1.there h in
    let P : Element → Type 0 = λ x. AllByRecursion (IsBelow es n x) x.children in
    subst P same (are_below d s es n g.0 g.0.children g.2)

at_top : (g : Grown) (s : Stand) (parent n d : ℕ) (es prefix after : List Element) → WereRead s g → es ≡ prefix ++ (flat parent n g ++ after) → length prefix ≡ n → 33 ≤ d + s.depth
    → (i : ℕ) (e : Element) → slice_get es i ≡ Some e → i ≡ n → Inner es n i e
at_top g s parent n d es prefix after r is len fuel i e h same = record {
  children = good_below d s parent es i e h (rw same (good_one g s parent n d es prefix after r is len fuel));
  parent = λ later. absurd (omega (arith, later, same));
}

at_child : (g : Grown) (s : Stand) (parent n : ℕ) (es prefix after : List Element) (above : Element) → es ≡ prefix ++ (flat parent n g ++ after) → length prefix ≡ n
    → parent < n → slice_get es parent ≡ Some above → IsAmong above.children n → (i : ℕ) (e : Element) → slice_get es i ≡ Some e → Inner es n i e → (t : Bool) → nat_lt n i ≡ t → n ≤ i → Outer es i e
at_child g s parent n es prefix after above is len before there among i e h inner true later low = record { children = inner.children; parent = inner.parent (is_later n i later) }
at_child g s parent n es prefix after above is len before there among i e h inner false later low =
    let same = is_first n i low later in
    let first = same_some (slice_get es n) (top parent n g) e (top_there g parent n es prefix after is len) (ap (slice_get es) (sym same) ∙ h) in
    let from : parent ≡ e.parent = sym (top_parent g parent n) ∙ ap (λ (x : Element). x.parent) first in
    let P : ℕ → Type 0 = λ p. IsChild es i p in
    record { children = inner.children; parent = subst P from (record { above = above; there = there; earlier = omega arith; place = among.0; among = rw same among.1 }) }

stands_next : (es : List Element) (m i : ℕ) (e : Element) (k : ℕ) → m ≤ i → (i < m + k → Outer es i e) → (m + k ≤ i → Outer es i e) → (t : Bool) → nat_lt i (m + k) ≡ t → Outer es i e
stands_next es m i e k low one rest true h = one (is_later i (m + k) h)
stands_next es m i e k low one rest false h = rest (is_past (m + k) i h)

mutual
  unfolding WereRead

  pub stands_one : (g : Grown) (s : Stand) (parent n d : ℕ) (es prefix after : List Element) → WereRead s g → es ≡ prefix ++ (flat parent n g ++ after) → length prefix ≡ n → 33 ≤ d + s.depth
      → (i : ℕ) (e : Element) → slice_get es i ≡ Some e → n ≤ i → i < n + size g → (t : Bool) → nat_lt n i ≡ t → Inner es n i e
  stands_one g s parent n d es prefix after r is len fuel i e h low high false first = at_top g s parent n d es prefix after r is len fuel i e h (is_first n i low first)
  stands_one (grown name kind gs) s parent n zero es prefix after r is len fuel i e h low high true later = let o = is_own s name kind gs r.0 in absurd (omega (arith, o.depth))
  stands_one (grown name kind gs) s parent n (suc d) es prefix after r is len fuel i e h low high true later =
      let x = node name kind parent (numbers (n + 1) gs) in
      let o = stands_all gs (stand_below s kind) n (n + 1) d es (prefix ++ x ∷ []) after x r.1 (behind_one es prefix x (flats n (n + 1) gs) after is) (one_longer prefix x n len) (omega arith) (omega arith)
      (get_at es prefix x (flats n (n + 1) gs ++ after) n is len) (among_from [] (numbers (n + 1) gs) (numbers (n + 1) gs) refl) i e h (let l = is_later n i later in omega arith) (omega arith) in
      record { children = o.children; parent = λ l. o.parent }

  pub stands_all : (gs : Growns) (s : Stand) (parent m d : ℕ) (es prefix after : List Element) (above : Element) → AllRead s gs → es ≡ prefix ++ (flats parent m gs ++ after) → length prefix ≡ m → 33 ≤ d + s.depth → parent < m
      → slice_get es parent ≡ Some above → AllByRecursion (IsAmong above.children) (numbers m gs) → (i : ℕ) (e : Element) → slice_get es i ≡ Some e → m ≤ i → i < m + sizes gs → Outer es i e
  stands_all none_grown s parent m d es prefix after above r is len fuel before there among i e h low high = absurd (omega arith)
  stands_all (then_grown g gs) s parent m d es prefix after above r is len fuel before there among i e h low high =
      let first = before_rest es prefix (flat parent m g) (flats parent (m + size g) gs) after is in
      stands_next es m i e (size g) low
      (λ here. at_child g s parent m es prefix (flats parent (m + size g) gs ++ after) above first len before there among.0 i e h
      (stands_one g s parent m d es prefix (flats parent (m + size g) gs ++ after) r.0 first len fuel i e h low here (nat_lt m i) refl) (nat_lt m i) refl low)
      (λ past. stands_all gs s parent (m + size g) d es (prefix ++ flat parent m g) after above r.1 (behind_all es prefix (flat parent m g) (flats parent (m + size g) gs) after is) (all_longer prefix parent m g len) fuel (omega arith) there among.1 i e h past (omega arith))
      (nat_lt i (m + size g)) refl
