-- The elements of a plan, written as a tree, are read again.
use Rattle.std.proofs.Common.{◌≡◌, ℕ, zero, suc, ◌+◌, ◌≤◌, max, Bool, true, false, ◌||◌, List, [], ◌∷◌, ◌++◌, length, Option, Some, Ok, refl, sym, ap, ◌∙◌, subst, arith, append_assoc, length-append, if◌then◌else◌, IsUtf8}
use Rattle.std.specs.Str.Lossy.{utf8_lossy}
use Rattle.std.proofs.lemmas.Str.{utf8_lossy-IsUtf8}
use Rattle.serde_json.specs.Data.{Members}
use Rattle.plan_json.specs.Shape.{Raw, raw, Raws, no_raws, raw_then}
use Rattle.element_props.specs.Again.{HoldJson}
use Rattle.element_props.specs.Reads.{over, ◌>>=◌, outcome}
use Rattle.element_tree.specs.declared.kinds.Kind.{Kind}
use Rattle.element_tree.specs.declared.kinds.Element.{Element}
use Rattle.element_tree.specs.declared.types.ElementType.{ElementType}
use Rattle.element_tree.specs.declared.types.Class.{Class}
use Rattle.element_tree.specs.Types.{type_of, class_of_type, is_section_type}
use Rattle.element_tree.specs.Table.{type_name}
use Rattle.element_tree.specs.Walk.{Spot, own, child_spot, at_place, node, elements, below, is_enabled, has_enabled}
use Rattle.element_tree.specs.PlanWritten.{written_props, trees, written_tree}
use Rattle.element_tree.proofs.OfJson.{IsJsonTree, AreJsonTrees}
use Rattle.element_tree.proofs.Outcomes.{bind_ok, bind_again, over_ok}
use Rattle.element_tree.proofs.GrownLaws.{none_below}
use Rattle.element_tree.proofs.StandLaws.{get_middle}

abbrev pub spot : Option Class → ℕ → Bool → ℕ → List ℕ → ℕ → Spot
spot above depth inside parent places version = record { above = above; depth = depth; inside = inside; parent = parent; places = places; version = version }

abbrev pub tree_in : ℕ → ℕ → List Element → ℕ → Raw
tree_in version depth es n = written_tree depth (record { version = version; elements = es }) n

-- how deep the enabled elements of a tree nest
abbrev mutual
  pub height : Raw → ℕ
  height (raw kind name enabled ms cs) = suc (heights cs)

  pub heights : Raws → ℕ
  heights no_raws = 0
  heights (raw_then r rs) = if is_enabled r then max (height r) (heights rs) else heights rs

-- What is asked of one element whose properties are JSON: what is written of it is read again wherever it stands as before,
-- whatever its path, and whatever the version that its properties are written for.
abbrev pub OwnAgain : Type 0
OwnAgain = (above : Option Class) (depth : ℕ) (inside : Bool) (parent version written_for : ℕ) (places places' : List ℕ) (n : ℕ) (kind name : List ℕ) (enabled : Bool) (ms : Members) (cs cs' : Raws) (t : ElementType) (made : Kind)
    → HoldJson ms → outcome (own (spot above depth inside parent places version) n kind name enabled ms cs) ≡ Ok (t, made) → (has_enabled cs ≡ false → has_enabled cs' ≡ false)
    → outcome (own (spot above depth inside parent places' version) n (type_name (type_of made)) name true (written_props written_for made) cs') ≡ Ok (t, made)

head_again : OwnAgain → (above : Option Class) (depth : ℕ) (inside : Bool) (parent version w : ℕ) (places places' : List ℕ) (n : ℕ) (kind name : List ℕ) (enabled : Bool) (ms : Members) (cs : Raws) (t : ElementType) (made : Kind)
    (ns : List ℕ) (ys : List Element) (d : ℕ) (prefix after : List Element) → IsUtf8 name → HoldJson ms
    → outcome (own (spot above depth inside parent places version) n kind name enabled ms cs) ≡ Ok (t, made) → (has_enabled cs ≡ false → ns ≡ []) → length prefix ≡ n
    → outcome (below (child_spot (spot above depth inside parent places' version) t n) 0 (n + 1) (trees (tree_in w d (prefix ++ node name made parent ns ∷ (ys ++ after))) ns)) ≡ Ok (ns, ys)
    → outcome (elements (spot above depth inside parent places' version) n (tree_in w (suc d) (prefix ++ node name made parent ns ∷ (ys ++ after)) n)) ≡ Ok (node name made parent ns ∷ ys)
unfolding elements written_tree
head_again again above depth inside parent version w places places' n kind name enabled ms cs t made ns ys d prefix after utf8 json h none len ih =
    let es = prefix ++ node name made parent ns ∷ (ys ++ after) in
    let found = get_middle prefix (node name made parent ns) (ys ++ after) n len in
    let own_now = again above depth inside parent version w places places' n kind name enabled ms cs (trees (tree_in w d es) ns) t made json h (λ f. ap (λ (ms : List ℕ). has_enabled (trees (tree_in w d es) ms)) (none f)) in
    let children = trees (tree_in w d es) ns in
    let s = spot above depth inside parent places' version in
    let last = λ (b : List ℕ × List Element). over (node name made parent b.0 ∷ b.1) in
    let all = λ (o : ElementType × Kind). below (child_spot s o.0 n) 0 (n + 1) children >>= (λ b. over (node name o.1 parent b.0 ∷ b.1)) in
    let read : outcome (elements s n (raw (type_name (type_of made)) name true (written_props w made) children)) ≡ Ok (node name made parent ns ∷ ys) =
    bind_again (own s n (type_name (type_of made)) name true (written_props w made) children) all (t, made) _ own_now
    (bind_again (below (child_spot s t n) 0 (n + 1) children) last (ns, ys) _ ih refl) in
    let same : utf8_lossy name ≡ name = utf8_lossy-IsUtf8 name utf8 in
    let P : List ℕ → Type 0 = λ text. outcome (elements s n (raw (type_name (type_of made)) text true (written_props w made) children)) ≡ Ok (node name made parent ns ∷ ys) in
    rw found (subst P (sym same) read)

enabled_tree : (s : Spot) (n w : ℕ) (r : Raw) (xs : List Element) (d : ℕ) (prefix more : List Element) → outcome (elements s n r) ≡ Ok xs → length prefix ≡ n → is_enabled (tree_in w (suc d) (prefix ++ (xs ++ more)) n) ≡ true
unfolding elements written_tree
enabled_tree s n w (raw kind name enabled ms cs) xs d prefix more h len =
    let o = bind_ok (own s n kind name enabled ms cs) _ xs h in
    let b = bind_ok (below (child_spot s o.0.0 n) 0 (n + 1) cs) _ xs o.2 in
    let e : node name o.0.1 s.parent b.0.0 ∷ b.0.1 ≡ xs = over_ok _ _ b.2 in
    rw (← e, get_middle prefix (node name o.0.1 s.parent b.0.0) (b.0.1 ++ more) n len) refl

ok_pair : (ms ns : List ℕ) (xs ys : List Element) → outcome {A = List ℕ × List Element} (over (ms, xs)) ≡ Ok (ns, ys) → (ms ≡ ns) × (xs ≡ ys)
ok_pair ms ns xs ys h =
    let p : ◌≡◌ {A = List ℕ × List Element} (ms, xs) (ns, ys) = over_ok _ _ h in
    (ap (λ (q : List ℕ × List Element). q.0) p, ap (λ (q : List ℕ × List Element). q.1) p)

moved : (s : Spot) (i n d w : ℕ) (prefix after : List Element) (ms ns : List ℕ) (xs ys es : List Element) → ms ≡ ns → xs ≡ ys → prefix ++ (xs ++ after) ≡ es
    → outcome (below s i n (trees (tree_in w (suc d) es) ms)) ≡ Ok (ms, xs) → outcome (below s i n (trees (tree_in w (suc d) (prefix ++ (ys ++ after))) ns)) ≡ Ok (ns, ys)
moved s i n d w prefix after ms ns xs ys es p q r h = rw (← p, ← q, r) h

none_fits : 1 ≤ 0 → ⊥
none_fits h = omega arith

-- one child and those after it
step_again : (above : Option Class) (depth : ℕ) (inside : Bool) (parent version w : ℕ) (places places' : List ℕ) (i i' n : ℕ) (r : Raw) (rs : Raws) (ns : List ℕ) (ys : List Element) (d : ℕ) (prefix after : List Element)
    → (is_enabled r ≡ true → 1 ≤ d)
    → (is_enabled r ≡ true → (xs : List Element) (more : List Element) → outcome (elements (spot above depth inside parent (places ++ i ∷ []) version) n r) ≡ Ok xs → outcome (elements (spot above depth inside parent (places' ++ i' ∷ []) version) n (tree_in w d (prefix ++ (xs ++ more)) n)) ≡ Ok xs)
    → ((m : ℕ) (i i' : ℕ) (ms : List ℕ) (zs : List Element) (front' : List Element) → outcome (below (spot above depth inside parent places version) i m rs) ≡ Ok (ms, zs) → length front' ≡ m
    → outcome (below (spot above depth inside parent places' version) i' m (trees (tree_in w d (front' ++ (zs ++ after))) ms)) ≡ Ok (ms, zs))
    → (t : Bool) → is_enabled r ≡ t → outcome (below (spot above depth inside parent places version) i n (raw_then r rs)) ≡ Ok (ns, ys) → length prefix ≡ n
    → outcome (below (spot above depth inside parent places' version) i' n (trees (tree_in w d (prefix ++ (ys ++ after))) ns)) ≡ Ok (ns, ys)
unfolding elements
step_again above depth inside parent version w places places' i i' n r rs ns ys d prefix after room one rest false is h len = rest n (i + 1) i' ns ys prefix (rw is at h) len
step_again above depth inside parent version w places places' i i' n r rs ns ys zero prefix after room one rest true is h len = absurd (none_fits (room is))
step_again above depth inside parent version w places places' i i' n r rs ns ys (suc d) prefix after room one rest true is h len =
    let s = spot above depth inside parent places version in
    let s' = spot above depth inside parent places' version in
    let opened = rw is at h in
    let x = bind_ok (elements (at_place s i) n r) (λ xs. below s (i + 1) (n + length xs) rs >>= (λ b. over (n ∷ b.0, xs ++ b.1))) (ns, ys) opened in
    let b = bind_ok (below s (i + 1) (n + length x.0) rs) (λ b. over (n ∷ b.0, x.0 ++ b.1)) (ns, ys) x.2 in
    let are = ok_pair (n ∷ b.0.0) ns (x.0 ++ b.0.1) ys b.2 in
    let es = prefix ++ (x.0 ++ (b.0.1 ++ after)) in
    let same : prefix ++ ((x.0 ++ b.0.1) ++ after) ≡ es = ap (λ (zs : List Element). prefix ++ zs) (append_assoc x.0 b.0.1 after) in
    let tree = tree_in w (suc d) es n in
    let left = trees (tree_in w (suc d) es) b.0.0 in
    let on : is_enabled tree ≡ true = enabled_tree (at_place s i) n w r x.0 d prefix (b.0.1 ++ after) x.1 len in
    let first = one is x.0 (b.0.1 ++ after) x.1 in
    let longer : length (prefix ++ x.0) ≡ n + length x.0 = length-append prefix x.0 ∙ ap (λ (m : ℕ). m + length x.0) len in
    let after_it = rest (n + length x.0) (i + 1) (i' + 1) b.0.0 b.0.1 (prefix ++ x.0) b.1 longer in
    let later : outcome (below s' (i' + 1) (n + length x.0) left) ≡ Ok b.0 = rw (append_assoc prefix x.0 (b.0.1 ++ after)) at after_it in
    let all : outcome (below s' i' n (raw_then tree left)) ≡ Ok (n ∷ b.0.0, x.0 ++ b.0.1) =
    rw on (bind_again (elements (at_place s' i') n tree) (λ xs. below s' (i' + 1) (n + length xs) left >>= (λ b. over (n ∷ b.0, xs ++ b.1))) x.0 _ first
    (bind_again (below s' (i' + 1) (n + length x.0) left) (λ c. over (n ∷ c.0, x.0 ++ c.1)) b.0 _ later refl)) in
    moved s' i' n d w prefix after (n ∷ b.0.0) ns (x.0 ++ b.0.1) ys es are.0 are.1 same all

first_fits : (r : Raw) (rs : Raws) (d : ℕ) → is_enabled r ≡ true → heights (raw_then r rs) ≤ d → height r ≤ d
first_fits r rs d on nests = let m = rw on at nests in omega (arith, m)

one_fits : (r : Raw) (rs : Raws) (d : ℕ) → is_enabled r ≡ true → heights (raw_then r rs) ≤ d → 1 ≤ d
one_fits (raw kind name enabled ms cs) rs d on nests = let m = first_fits (raw kind name enabled ms cs) rs d on nests in omega (arith, m)

rest_fits : (t : Bool) (a b d : ℕ) → (if t then max a b else b) ≤ d → b ≤ d
rest_fits true a b d h = omega arith
rest_fits false a b d h = h

module _ (again : OwnAgain) where
  mutual
    unfolding elements

    pub elements_again : (r : Raw) (above : Option Class) (depth : ℕ) (inside : Bool) (parent version w : ℕ) (places places' : List ℕ) (n : ℕ) (xs : List Element) (d : ℕ) (prefix after : List Element)
        → IsJsonTree r → outcome (elements (spot above depth inside parent places version) n r) ≡ Ok xs → length prefix ≡ n → height r ≤ d
        → outcome (elements (spot above depth inside parent places' version) n (tree_in w d (prefix ++ (xs ++ after)) n)) ≡ Ok xs
    elements_again (raw kind name enabled ms cs) above depth inside parent version w places places' n xs zero prefix after json h len nests = absurd (omega arith)
    elements_again (raw kind name enabled ms cs) above depth inside parent version w places places' n xs (suc d) prefix after json h len nests =
        let s = spot above depth inside parent places version in
        let o = bind_ok (own s n kind name enabled ms cs) (λ o. below (child_spot s o.0 n) 0 (n + 1) cs >>= (λ b. over (node name o.1 parent b.0 ∷ b.1))) xs h in
        let b = bind_ok (below (child_spot s o.0.0 n) 0 (n + 1) cs) (λ b. over (node name o.0.1 parent b.0 ∷ b.1)) xs o.2 in
        let e : node name o.0.1 parent b.0.0 ∷ b.0.1 ≡ xs = over_ok (node name o.0.1 parent b.0.0 ∷ b.0.1) xs b.2 in
        let first = node name o.0.1 parent b.0.0 in
        let longer : length (prefix ++ first ∷ []) ≡ n + 1 = length-append prefix (first ∷ []) ∙ ap (λ (m : ℕ). m + 1) len in
        let ih = below_again cs (Some (class_of_type o.0.0)) (depth + 1) (inside || is_section_type o.0.0) n version w places places' 0 0 (n + 1) b.0.0 b.0.1 d (prefix ++ first ∷ []) after json.2 b.1 longer (omega arith) in
        let there : outcome (below (child_spot (spot above depth inside parent places' version) o.0.0 n) 0 (n + 1) (trees (tree_in w d (prefix ++ first ∷ (b.0.1 ++ after))) b.0.0)) ≡ Ok b.0 = rw (append_assoc prefix (first ∷ []) (b.0.1 ++ after)) at ih in
        rw (← e) (head_again again above depth inside parent version w places places' n kind name enabled ms cs o.0.0 o.0.1 b.0.0 b.0.1 d prefix after json.0 json.1 o.1 (λ f. none_below (child_spot s o.0.0 n) 0 (n + 1) cs b.0 f b.1) len there)

    pub below_again : (rs : Raws) (above : Option Class) (depth : ℕ) (inside : Bool) (parent version w : ℕ) (places places' : List ℕ) (i i' n : ℕ) (ns : List ℕ) (ys : List Element) (d : ℕ) (prefix after : List Element)
        → AreJsonTrees rs → outcome (below (spot above depth inside parent places version) i n rs) ≡ Ok (ns, ys) → length prefix ≡ n → heights rs ≤ d
        → outcome (below (spot above depth inside parent places' version) i' n (trees (tree_in w d (prefix ++ (ys ++ after))) ns)) ≡ Ok (ns, ys)
    below_again no_raws above depth inside parent version w places places' i i' n ns ys d prefix after json h len nests = let are = ok_pair [] ns [] ys h in rw (← are.0, ← are.1) refl
    below_again (raw_then r rs) above depth inside parent version w places places' i i' n ns ys d prefix after json h len nests =
        step_again above depth inside parent version w places places' i i' n r rs ns ys d prefix after
        (λ on. one_fits r rs d on nests)
        (λ on xs more k. elements_again r above depth inside parent version w (places ++ i ∷ []) (places' ++ i' ∷ []) n xs d prefix more json.0 k len (first_fits r rs d on nests))
        (λ m j j' ms zs front' k l. below_again rs above depth inside parent version w places places' j j' m ms zs d front' after json.1 k l (rest_fits (is_enabled r) (height r) (heights rs) d nests))
        (is_enabled r) refl h len
