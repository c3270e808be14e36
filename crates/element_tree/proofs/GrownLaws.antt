-- What was read of a tree is a tree of elements.
use Rattle.std.proofs.Common.{◌≡◌, ℕ, suc, ◌+◌, Bool, true, false, ◌||◌, List, [], ◌∷◌, ◌++◌, length, Ok, refl, sym, ap, ap₂, ◌∙◌, subst, true≢false, length-append}
use Rattle.serde_json.specs.Data.{Members}
use Rattle.plan_json.specs.Shape.{Raw, raw, Raws, no_raws, raw_then}
use Rattle.element_props.specs.Reads.{over, outcome}
use Rattle.element_tree.specs.declared.kinds.Kind.{Kind}
use Rattle.element_tree.specs.declared.kinds.Element.{Element}
use Rattle.element_tree.specs.declared.types.ElementType.{ElementType}
use Rattle.element_tree.specs.Walk.{Spot, own, child_spot, at_place, node, elements, below, is_enabled, has_enabled}
use Rattle.element_tree.proofs.Outcomes.{bind_ok, over_ok}
use Rattle.element_tree.proofs.OwnLaws.{own_values}
use Rattle.element_tree.proofs.Grown.{Grown, grown, Growns, none_grown, then_grown, size, sizes, numbers, flat, flats, stand_of, WereRead, AllRead}

-- ---- how many

mutual
  pub flat_size : (parent n : ℕ) (g : Grown) → length (flat parent n g) ≡ size g
  flat_size parent n (grown name kind gs) = ap suc (flats_size n (n + 1) gs)

  pub flats_size : (parent n : ℕ) (gs : Growns) → length (flats parent n gs) ≡ sizes gs
  flats_size parent n none_grown = refl
  flats_size parent n (then_grown g gs) = length-append (flat parent n g) _ ∙ ap₂ (λ (a b : ℕ). a + b) (flat_size parent n g) (flats_size parent (n + size g) gs)

-- ---- the tree

-- the children that were read: their numbers and their elements
pub record Children (s : Spot) (n : ℕ) (b : List ℕ × List Element) : Type 0 where
  pub growns : Growns
  pub numbers_ : b.0 ≡ numbers n growns
  pub flats_ : b.1 ≡ flats s.parent n growns
  pub read : AllRead (stand_of s) growns

-- an element that was read, with those below it
pub record Tree (s : Spot) (n : ℕ) (xs : List Element) : Type 0 where
  pub tree : Grown
  pub flat_ : xs ≡ flat s.parent n tree
  pub read : WereRead (stand_of s) tree

no_children : (s : Spot) (place n : ℕ) (b : List ℕ × List Element) → outcome (below s place n no_raws) ≡ Ok b → Children s n b
unfolding elements AllRead
no_children s place n b h =
    let P : List ℕ × List Element → Type 0 = λ c. Children s n c in
    subst P (over_ok ([], []) b h) (record { growns = none_grown; numbers_ = refl; flats_ = refl; read = tt })

one_more : (s : Spot) (place n : ℕ) (xs : List Element) (c b : List ℕ × List Element) → Tree (at_place s place) n xs → Children s (n + length xs) c → outcome {A = List ℕ × List Element} (over (n ∷ c.0, xs ++ c.1)) ≡ Ok b → Children s n b
unfolding AllRead
one_more s place n xs c b first rest h =
    let len : length xs ≡ size first.tree = ap length first.flat_ ∙ flat_size s.parent n first.tree in
    let P : List ℕ × List Element → Type 0 = λ d. Children s n d in
    subst P (over_ok (n ∷ c.0, xs ++ c.1) b h) (record {
      growns = then_grown first.tree rest.growns;
      numbers_ = ap (λ (ms : List ℕ). n ∷ ms) (rest.numbers_ ∙ ap (λ (m : ℕ). numbers (n + m) rest.growns) len);
      flats_ = ap₂ (λ (ys zs : List Element). ys ++ zs) first.flat_ (rest.flats_ ∙ ap (λ (m : ℕ). flats s.parent (n + m) rest.growns) len);
      read = (first.read, rest.read);
    })

step : (s : Spot) (place n : ℕ) (r : Raw) (rs : Raws) (b : List ℕ × List Element)
    → ((xs : List Element) → outcome (elements (at_place s place) n r) ≡ Ok xs → Tree (at_place s place) n xs)
    → ((m : ℕ) (c : List ℕ × List Element) → outcome (below s (place + 1) m rs) ≡ Ok c → Children s m c)
    → (t : Bool) → is_enabled r ≡ t → outcome (below s place n (raw_then r rs)) ≡ Ok b → Children s n b
unfolding elements
step s place n r rs b one rest false is h = rest n b (rw is at h)
step s place n r rs b one rest true is h =
    let opened = rw is at h in
    let x = bind_ok (elements (at_place s place) n r) _ b opened in
    let c = bind_ok (below s (place + 1) (n + length x.0) rs) _ b x.2 in
    one_more s place n x.0 c.0 b (one x.0 x.1) (rest (n + length x.0) c.0 c.1) c.2

none_step : (s : Spot) (i n : ℕ) (r : Raw) (rs : Raws) (b : List ℕ × List Element) → (has_enabled rs ≡ false → outcome (below s (i + 1) n rs) ≡ Ok b → b.0 ≡ [])
    → (t : Bool) → is_enabled r ≡ t → has_enabled (raw_then r rs) ≡ false → outcome (below s i n (raw_then r rs)) ≡ Ok b → b.0 ≡ []
unfolding elements
none_step s i n r rs b later true is h k = absurd (true≢false (sym (ap (λ u. u || has_enabled rs) is) ∙ h))
none_step s i n r rs b later false is h k = later (rw is at h) (rw is at k)

pub none_below : (s : Spot) (i n : ℕ) (rs : Raws) (b : List ℕ × List Element) → has_enabled rs ≡ false → outcome (below s i n rs) ≡ Ok b → b.0 ≡ []
unfolding elements
none_below s i n no_raws b h k = sym (ap (λ (q : List ℕ × List Element). q.0) (over_ok ([], []) b k))
none_below s i n (raw_then r rs) b h k = none_step s i n r rs b (none_below s (i + 1) n rs b) (is_enabled r) refl h k

no_numbers : (n : ℕ) (gs : Growns) → numbers n gs ≡ [] → gs ≡ none_grown
no_numbers n none_grown h = refl
no_numbers n (then_grown g gs) h = cc

with_own : (s : Spot) (n : ℕ) (kind name : List ℕ) (enabled : Bool) (ms : Members) (cs : Raws) (t : ElementType) (made : Kind) (b : List ℕ × List Element) (xs : List Element)
    → outcome (own s n kind name enabled ms cs) ≡ Ok (t, made) → (has_enabled cs ≡ false → b.0 ≡ []) → Children (child_spot s t n) (n + 1) b → outcome (over (node name made s.parent b.0 ∷ b.1)) ≡ Ok xs → Tree s n xs
unfolding WereRead
with_own s n kind name enabled ms cs t made b xs h none children all =
    let same = (own_values s n kind name enabled ms cs t made h).of_type in
    let P : ElementType → Type 0 = λ u. outcome (own s n kind name enabled ms cs) ≡ Ok (u, made) in
    let Q : ElementType → Type 0 = λ u. AllRead (stand_of (child_spot s u n)) children.growns in
    record {
      tree = grown name made children.growns;
      flat_ = sym (over_ok (node name made s.parent b.0 ∷ b.1) xs all) ∙ ap₂ (λ (ns : List ℕ) (ys : List Element). node name made s.parent ns ∷ ys) children.numbers_ children.flats_;
      read = (
        record {
          parent = s.parent;
          places = s.places;
          number = n;
          written = kind;
          enabled = enabled;
          members = ms;
          below = cs;
          own_ok = subst P (sym same) h;
          empty = λ f. no_numbers (n + 1) children.growns (sym children.numbers_ ∙ none f);
        },
        subst Q (sym same) children.read,
      );
    }

mutual
  unfolding elements

  pub tree_read : (r : Raw) (s : Spot) (n : ℕ) (xs : List Element) → outcome (elements s n r) ≡ Ok xs → Tree s n xs
  tree_read (raw kind name enabled ms cs) s n xs h =
      let o = bind_ok (own s n kind name enabled ms cs) _ xs h in
      let b = bind_ok (below (child_spot s o.0.0 n) 0 (n + 1) cs) _ xs o.2 in
      with_own s n kind name enabled ms cs o.0.0 o.0.1 b.0 xs o.1 (λ f. none_below (child_spot s o.0.0 n) 0 (n + 1) cs b.0 f b.1) (children_read cs (child_spot s o.0.0 n) 0 (n + 1) b.0 b.1) b.2

  pub children_read : (rs : Raws) (s : Spot) (place n : ℕ) (b : List ℕ × List Element) → outcome (below s place n rs) ≡ Ok b → Children s n b
  children_read no_raws s place n b h = no_children s place n b h
  children_read (raw_then r rs) s place n b h =
      step s place n r rs b (λ xs k. tree_read r (at_place s place) n xs k) (λ m c k. children_read rs s (place + 1) m c k) (is_enabled r) refl h
