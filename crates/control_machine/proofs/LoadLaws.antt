-- Each turn that goes on lightens the load.
use Rattle.std.proofs.Common.{◌≡◌, inl, inr, ℕ, zero, suc, ◌+◌, ◌-◌, ◌*◌, ◌≤◌, ◌<◌, List, [], ◌∷◌, length, Some, refl, sym, ap, ◌∙◌, subst, arith}
use Rattle.std.specs.Prelude.{slice_get}
use Rattle.std.proofs.Math.Nat.{mul-le-mul_right}
use Rattle.std.proofs.lemmas.Option.{slice_get_within}
use Rattle.std.proofs.lemmas.List.{length-take}
use Rattle.std.proofs.lemmas.List.Sums.{length-filter, count_by-le-length}
use Rattle.element_tree.specs.declared.kinds.Element.{Element}
use Rattle.cursor_steps.specs.RunningChildren.{is_run_at, runs_of}
use Rattle.jm_meaning.specs.Children.{children_of}
use Rattle.open_elements.specs.ChildrenLeft.{children_left}
use Rattle.control_machine.specs.declared.stack.Frame.{Frame}
use Rattle.control_machine.specs.Load.{children_count, scale, load}
use Rattle.control_machine.specs.Turns.{IsOpened}

pub scale-positive : (c d : ℕ) → 1 ≤ scale c d
unfolding scale
scale-positive c zero = omega arith
scale-positive c (suc d) =
    let h = scale-positive c d in
    let e : 1 * scale c d ≤ (c + 2) * scale c d = mul-le-mul_right (scale c d) (omega arith) in
    omega arith

one_more : (c d : ℕ) → scale c d ≤ scale c (suc d)
unfolding scale
one_more c d = let e : 1 * scale c d ≤ (c + 2) * scale c d = mul-le-mul_right (scale c d) (omega arith) in omega arith

pub scale-grows : (c d n : ℕ) → scale c d ≤ scale c (n + d)
scale-grows c d zero = subst (λ m. scale c d ≤ scale c m) (plain d) (omega arith) where
  plain : (d : ℕ) → d ≡ zero + d
  plain d = omega arith
scale-grows c d (suc n) = subst (λ m. scale c d ≤ scale c m) (moved n d) (let h = scale-grows c d n in let e = one_more c (n + d) in omega (arith, h, e)) where
  moved : (n d : ℕ) → suc (n + d) ≡ suc n + d
  moved n d = omega arith

scale-le : (c d e : ℕ) → d ≤ e → scale c d ≤ scale c e
scale-le c d e h = subst (λ m. scale c d ≤ scale c m) (back d e h) (scale-grows c d (e - d)) where
  back : (d e : ℕ) → d ≤ e → (e - d) + d ≡ e
  back d e h = omega (arith, h)

-- a frame with few children to open weighs less than one child of the element around it
pub light : (c d r : ℕ) → r ≤ c → suc r * scale c d < scale c (suc d)
unfolding scale
light c d r few =
    let p = scale-positive c d in
    let e : suc r * scale c d ≤ (c + 1) * scale c d = mul-le-mul_right (scale c d) (omega (arith, few)) in
    let e' : (c + 2) * scale c d ≡ (c + 1) * scale c d + scale c d = grind arith in
    omega arith

pub load_front : (c : ℕ) (f : Frame) (fs : List Frame) → load c (f ∷ fs) ≡ suc (children_left f.cursor) * scale c f.depth + load c fs
unfolding load
load_front c f fs = refl

pub load_none : (c : ℕ) → load c [] ≡ 0
unfolding load
load_none c = refl

-- an element is left
pub left_light : (c : ℕ) (f : Frame) (fs : List Frame) → load c fs < load c (f ∷ fs)
left_light c f fs =
    let p = scale-positive c f.depth in
    let e : 1 * scale c f.depth ≤ suc (children_left f.cursor) * scale c f.depth = mul-le-mul_right (scale c f.depth) (omega arith) in
    let is = load_front c f fs in
    omega (arith, p, e, is)

-- a child is taken
taken : (c : ℕ) (f g : Frame) (fs : List Frame) → g.depth ≡ f.depth → children_left g.cursor < children_left f.cursor
    → load c (g ∷ fs) + scale c f.depth ≤ load c (f ∷ fs)
taken c f g fs same less =
    let e : suc (suc (children_left g.cursor)) * scale c f.depth ≤ suc (children_left f.cursor) * scale c f.depth = mul-le-mul_right (scale c f.depth) (omega (arith, less)) in
    let e' : suc (suc (children_left g.cursor)) * scale c f.depth ≡ suc (children_left g.cursor) * scale c f.depth + scale c f.depth = grind arith in
    let i = load_front c f fs in
    let j : load c (g ∷ fs) ≡ suc (children_left g.cursor) * scale c f.depth + load c fs = load_front c g fs ∙ ap (λ d. suc (children_left g.cursor) * scale c d + load c fs) same in
    omega (arith, e, e', i, j)

-- one more element is open
opened_light : (c depth : ℕ) (h : Frame) (fs : List Frame) → 1 ≤ depth → h.depth ≡ depth - 1 → children_left h.cursor ≤ c → load c (h ∷ fs) < load c fs + scale c depth
opened_light c depth h fs some is few =
    let l = light c h.depth (children_left h.cursor) few in
    let d : suc h.depth ≡ depth = omega (arith, some, is) in
    let s : scale c (suc h.depth) ≡ scale c depth = ap (scale c) d in
    let i = load_front c h fs in
    omega (arith, l, s, i)

-- a child that is taken lightens the load by itself
pub plain_light : (elements : List Element) (f g : Frame) (fs new : List Frame) → f.depth ≡ g.depth → children_left g.cursor < children_left f.cursor → new ≡ g ∷ fs
    → load (children_count elements) new < load (children_count elements) (f ∷ fs)
plain_light elements f g fs new same less is =
    let t = taken (children_count elements) f g fs (sym same) less in
    let p = scale-positive (children_count elements) f.depth in
    subst (λ l. load (children_count elements) l < load (children_count elements) (f ∷ fs)) (sym is) (omega (arith, t, p))

pub child_light : (elements : List Element) (depth : ℕ) (f g : Frame) (fs new : List Frame) → 1 ≤ depth → f.depth ≡ depth → g.depth ≡ depth → children_left g.cursor < children_left f.cursor
    → IsOpened elements depth (g ∷ fs) new → load (children_count elements) new < load (children_count elements) (f ∷ fs)
child_light elements depth f g fs new some fd gd less opened = elim opened [ inl is ↦ plain is | inr o ↦ more o ] where
  plain : new ≡ g ∷ fs → load (children_count elements) new < load (children_count elements) (f ∷ fs)
  plain is = let t = taken (children_count elements) f g fs (gd ∙ sym fd) less in let p = scale-positive (children_count elements) f.depth in rw is (omega (arith, t, p))

  more : (h : Frame) × (new ≡ h ∷ g ∷ fs) × (h.depth ≡ depth - 1) × (children_left h.cursor ≤ children_count elements) → load (children_count elements) new < load (children_count elements) (f ∷ fs)
  more o =
      let t = taken (children_count elements) f g fs (gd ∙ sym fd) less in
      let l = opened_light (children_count elements) depth o.0 (g ∷ fs) some o.2 o.3 in
      let s : scale (children_count elements) f.depth ≡ scale (children_count elements) depth = ap (scale (children_count elements)) fd in
      rw o.1 (omega (arith, t, l, s))

-- a round begins
pub round_light : (c r n m : ℕ) (f g : Frame) (fs : List Frame) → children_left g.cursor ≤ c → g.depth ≤ 29 → m ≡ suc n
    → load c (g ∷ fs) + (r + n) * scale c 31 < load c (f ∷ fs) + (r + m) * scale c 31
round_light c r n m f g fs few deep is =
    let l = light c g.depth (children_left g.cursor) few in
    let s = scale-le c (suc g.depth) 31 (omega (arith, deep)) in
    let i = load_front c g fs in
    let j = left_light c f fs in
    let e : (r + m) * scale c 31 ≡ (r + n) * scale c 31 + scale c 31 = rw is (grind arith) in
    omega (arith, l, s, i, j, e)

-- a child of the group is taken
pub group_light : (elements : List Element) (r s n : ℕ) (new : List Frame) → s < r → IsOpened elements 30 [] new
    → load (children_count elements) new + (s + n) * scale (children_count elements) 31 < load (children_count elements) [] + (r + n) * scale (children_count elements) 31
group_light elements r s n new less opened = elim opened [ inl is ↦ plain is | inr o ↦ more o ] where
  fewer : (s + n) * scale (children_count elements) 31 + scale (children_count elements) 31 ≤ (r + n) * scale (children_count elements) 31
  fewer =
      let e : suc (s + n) * scale (children_count elements) 31 ≤ (r + n) * scale (children_count elements) 31 = mul-le-mul_right (scale (children_count elements) 31) (omega (arith, less)) in
      let e' : suc (s + n) * scale (children_count elements) 31 ≡ (s + n) * scale (children_count elements) 31 + scale (children_count elements) 31 = grind arith in
      omega (arith, e, e')

  plain : new ≡ [] → load (children_count elements) new + (s + n) * scale (children_count elements) 31 < load (children_count elements) [] + (r + n) * scale (children_count elements) 31
  plain is = let f = fewer in let p = scale-positive (children_count elements) 31 in rw is (omega (arith, f, p))

  more : (h : Frame) × (new ≡ h ∷ []) × (h.depth ≡ 30 - 1) × (children_left h.cursor ≤ children_count elements)
      → load (children_count elements) new + (s + n) * scale (children_count elements) 31 < load (children_count elements) [] + (r + n) * scale (children_count elements) 31
  more o =
      let f = fewer in
      let l = opened_light (children_count elements) 30 o.0 [] (omega arith) o.2 o.3 in
      let g = scale-le (children_count elements) 30 31 (omega arith) in
      rw o.1 (omega (arith, f, l, g))

-- ---- children

few_children : (elements : List Element) (n : ℕ) (e : Element) → slice_get elements n ≡ Some e → length e.children ≤ children_count elements
unfolding children_count
few_children [] n e h = absurd (let w : n < 0 = slice_get_within [] n e h in omega arith)
few_children (x ∷ xs) zero e h = subst (λ y. length y.children ≤ length x.children + children_count xs) (first h) (omega arith) where
  first : slice_get (x ∷ xs) 0 ≡ Some e → x ≡ e
  first h = cc
few_children (x ∷ xs) (suc n) e h = let r = few_children xs n e h in omega arith

-- an element has no more children that run than all elements have children
pub few_runs : (elements : List Element) (n : ℕ) (e : Element) → slice_get elements n ≡ Some e → length (children_of elements e) ≤ children_count elements
few_runs elements n e there =
    let f = few_children elements n e there in
    let t = length-take 65535 (runs_of elements e) in
    let l = length-filter (is_run_at elements) e.children in
    let m = count_by-le-length (is_run_at elements) e.children in
    omega (arith, f, t, l, m)
