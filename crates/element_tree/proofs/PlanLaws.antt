-- What holds of every plan that was read.
use Rattle.std.proofs.Common.{◌≡◌, ℕ, zero, suc, ◌+◌, ◌-◌, ◌<◌, ◌≤◌, Bool, true, false, not, ◌||◌, List, [], ◌∷◌, ◌++◌, length, Option, Some, None, Ok, refl, sym, ap, ◌∙◌, subst, true≢false, arith, append_assoc, length-append, nat_lt, slice_get, IsTrue, is_some}
use Rattle.std.specs.List.{AllByRecursion, list_any}
use Rattle.std.proofs.lemmas.List.{append-nil}
use Rattle.std.proofs.lemmas.Bool.Decides.{nat_tests}
use Rattle.plan_json.specs.Shape.{Raw}
use Rattle.element_props.specs.Reads.{over, refuse_if, outcome}
use Rattle.element_tree.specs.declared.kinds.Kind.{Kind}
use Rattle.element_tree.specs.declared.kinds.Kind.TheVariants as kinds
use Rattle.element_tree.specs.declared.kinds.Element.{Element}
use Rattle.element_tree.specs.declared.kinds.Loops.{Loops}
use Rattle.element_props.specs.declared.choices.OnError.{OnError}
use Rattle.element_tree.specs.declared.types.Class.{Class}
use Rattle.element_tree.specs.declared.types.Class.TheVariants as classes
use Rattle.element_tree.specs.declared.threads.Thread.{Thread}
use Rattle.element_tree.specs.Types.{class_of, may_stand, is_root, is_section}
use Rattle.element_tree.specs.Names.{labels_of, locks_of}
use Rattle.element_tree.specs.Threads.{threads_in, threads_from, threads_with, group_threads, group_size, is_group_element}
use Rattle.element_tree.specs.Tree.{Nests, Apart, IsBelow, IsChild, Stands, IsGroup, IsPlan, AreTables, IsWellKept}
use Rattle.element_tree.specs.Walk.{root_spot, version_of, props_of, version_in, version_in_kind, walked, counted, tree_of, IsWalked}
use Rattle.element_tree.proofs.Grown.{Grown, size, flat, Stand, stand_of, stand_below, WereRead}
use Rattle.element_tree.proofs.Outcomes.{bind_ok, not_false, refuse_ok, at_most}
use Rattle.element_tree.proofs.GrownLaws.{tree_read, flat_size}
use Rattle.element_tree.proofs.FormsLaws.{IsFormed, AreFormed, formed_one, has_thread}
use Rattle.element_tree.proofs.StandLaws.{Good, Inner, good_one, stands_one, nests, apart, all_map, get_mid, same_some}

-- ---- the root

root_kind : (kind : Kind) → is_root (class_of kind) ≡ true → kind ≡ kinds.TestPlan (version_in_kind kind)
root_kind (kinds.TestPlan version) h = refl
root_kind kind h = absurd (true≢false (sym h))

group_kind : (kind : Kind) → is_some (group_size kind) ≡ true → (loops : Loops) × (on_error : OnError) × (ramp_ms : ℕ) × (threads : ℕ) × (kind ≡ kinds.ThreadGroup loops on_error ramp_ms threads)
group_kind (kinds.ThreadGroup loops on_error ramp_ms threads) h = (loops, on_error, ramp_ms, threads, refl)
group_kind kind h = absurd (true≢false (sym h))

-- ---- what was read, in one place

-- the elements of a tree, each where it stands
pub record IsRead (es : List Element) : Type 0 where
  pub tree : Grown
  pub stand : Stand
  pub above : stand.above ≡ None
  pub depth : stand.depth ≡ 1
  pub inside : stand.inside ≡ false
  pub flat_ : es ≡ flat 0 0 tree
  pub read : WereRead stand tree

pub is_read : (tree : Raw) (es : List Element) → outcome (walked tree) ≡ Ok es → IsRead es
unfolding walked
is_read tree es h =
    let spot = root_spot (version_of (props_of tree)) in
    let t = tree_read tree spot 0 es h in
    record { tree = t.tree; stand = stand_of spot; above = refl; depth = refl; inside = refl; flat_ = t.flat_; read = t.read }

module _ (es : List Element) (r : IsRead es) where
  whole : es ≡ [] ++ (flat 0 0 r.tree ++ [])
  whole = r.flat_ ∙ sym (append-nil (flat 0 0 r.tree))

  good : Good 32 r.stand 0 es 0
  good = good_one r.tree r.stand 0 0 32 es [] [] r.read whole refl (omega (arith, r.depth))

  pub nests_all : Nests 32 es 0
  nests_all = nests 32 r.stand 0 es 0 good

  pub apart_all : Apart 32 false es 0
  apart_all = let P : Bool → Type 0 = λ b. Apart 32 b es 0 in subst P r.inside (apart 32 r.stand 0 es 0 good)

  within : (i : ℕ) (e : Element) → slice_get es i ≡ Some e → i < size r.tree
  within i e h = let n = ap length r.flat_ ∙ flat_size 0 0 r.tree in let m = get_within es i e h in omega (arith, n, m) where
    get_within : (xs : List Element) (i : ℕ) (e : Element) → slice_get xs i ≡ Some e → i < length xs
    get_within [] i e h = cc
    get_within (x ∷ xs) zero e h = omega arith
    get_within (x ∷ xs) (suc i) e h = let k = get_within xs i e h in omega (arith, k)

  inner : (i : ℕ) (e : Element) → slice_get es i ≡ Some e → Inner es 0 i e
  inner i e h = stands_one r.tree r.stand 0 0 32 es [] [] r.read whole refl (omega (arith, r.depth)) i e h (omega arith) (let k = within i e h in omega (arith, k)) (nat_lt 0 i) refl

  pub stands : (i : ℕ) (e : Element) → slice_get es i ≡ Some e → Stands es i e
  stands i e h = let s = inner i e h in record { children = s.children; parent = s.parent }

-- the root that stands at number 0
record RootHere (es : List Element) : Type 0 where
  element : Element
  there : slice_get es 0 ≡ Some element
  parent : element.parent ≡ 0
  kind : element.kind ≡ kinds.TestPlan (version_in es)
  below : (s : Stand) × AllByRecursion (λ c. (0 < c) × Good 31 s 0 es c) element.children
  free : below.0.inside ≡ false

first_version : (es : List Element) (e : Element) → slice_get es 0 ≡ Some e → version_in es ≡ version_in_kind e.kind
first_version [] e h = cc
first_version (x ∷ es) e h = let same : x ≡ e = cc in ap (λ (y : Element). version_in_kind y.kind) same

no_section : (b : Bool) (kind : Kind) (version : ℕ) → b ≡ false → kind ≡ kinds.TestPlan version → (b || is_section kind) ≡ false
no_section b kind version h k = rw (h, k) refl

root_here : (es : List Element) (r : IsRead es) → RootHere es
unfolding Good
root_here es r =
    let g = good es r in
    let e = g.0 in
    let place : is_root (class_of e.kind) ≡ true = (let P : Option Class → Type 0 = λ o. may_stand o (class_of e.kind) ≡ true in subst P r.above g.1.place) in
    let kind = root_kind e.kind place in
    let same = first_version es e g.1.there in
    record {
      element = e;
      there = g.1.there;
      parent = g.1.parent_;
      kind = kind ∙ ap kinds.TestPlan (sym same);
      below = (stand_below r.stand e.kind, g.2);
      free = no_section r.stand.inside e.kind _ r.inside kind;
    }

-- ---- groups

-- the element of this number is a thread group
abbrev pub IsGroupAt : List Element → ℕ → Type 0
IsGroupAt es n = (e : Element) × (slice_get es n ≡ Some e) × (is_group_element e ≡ true)

all_append : {A : Type 0} (P : A → Type 0) (xs ys : List A) → AllByRecursion P xs → AllByRecursion P ys → AllByRecursion P (xs ++ ys)
all_append P [] ys h k = k
all_append P (x ∷ xs) ys h k = (h.0, all_append P xs ys h.1 k)

all_get : {A : Type 0} (P : A → Type 0) (xs : List A) (i : ℕ) (x : A) → AllByRecursion P xs → slice_get xs i ≡ Some x → P x
all_get P [] i x h k = cc
all_get P (y ∷ xs) zero x h k = let same : y ≡ x = cc in subst P same h.0
all_get P (y ∷ xs) (suc i) x h k = all_get P xs i x h.1 k

group_threads_all : (P : ℕ → Type 0) (element group n : ℕ) → P element → AllByRecursion (λ (t : Thread). P t.element) (group_threads element group n)
group_threads_all P element group zero h = tt
group_threads_all P element group (suc n) h = all_append (λ (t : Thread). P t.element) (group_threads element group n) _ (group_threads_all P element group n h) (h, tt)

threads_step : (P : ℕ → Type 0) (base g : ℕ) (o : Option ℕ) (later : ℕ → List Thread) → (is_some o ≡ true → P base) → ((h : ℕ) → AllByRecursion (λ (t : Thread). P t.element) (later h))
    → AllByRecursion (λ (t : Thread). P t.element) (threads_with base g o later)
threads_step P base g None later here rest = rest g
threads_step P base g (Some n) later here rest = all_append (λ (t : Thread). P t.element) (group_threads base g n) (later (g + 1)) (group_threads_all P base g n (here refl)) (rest (g + 1))

threads_all : (es all prefix : List Element) (base g : ℕ) → all ≡ prefix ++ es → length prefix ≡ base → AllByRecursion (λ (t : Thread). IsGroupAt all t.element) (threads_from base g es)
threads_all [] all prefix base g is len = tt
threads_all (e ∷ es) all prefix base g is len =
    threads_step (IsGroupAt all) base g (group_size e.kind) (λ h. threads_from (base + 1) h es) (λ some. (e, rw is (let k = get_mid prefix e es in rw len at k), some))
    (λ h. threads_all es all (prefix ++ e ∷ []) (base + 1) h (is ∙ sym (append_assoc prefix (e ∷ []) es)) (length-append prefix (e ∷ []) ∙ ap (λ (m : ℕ). m + 1) len))

pub thread_group : (es : List Element) (thread : ℕ) (t : Thread) → slice_get (threads_in es) thread ≡ Some t → IsGroupAt es t.element
unfolding threads_in
thread_group es thread t h = all_get (λ (t : Thread). IsGroupAt es t.element) (threads_from 0 1 es) thread t (threads_all es es [] 0 1 refl refl) h

group_above : (above : Class) (kind : Kind) → IsTrue (may_stand (Some above) (class_of kind)) → is_some (group_size kind) ≡ true → is_root above ≡ true
group_above above (kinds.ThreadGroup loops on_error ramp_ms threads) h some = h
group_above above kind h some = absurd (true≢false (sym some))

no_root_below : (above : Class) (kind : Kind) → IsTrue (may_stand (Some above) (class_of kind)) → is_root (class_of kind) ≡ true → ⊥
no_root_below above kind h k = let f : false ≡ true = rw k at h in true≢false (sym f)

is_first : (n : ℕ) → nat_lt 0 n ≡ false → n ≡ 0
is_first n h = grind (arith, nat_tests)

is_later : (n : ℕ) → nat_lt 0 n ≡ true → 0 < n
is_later n h = grind (arith, nat_tests)

module _ (es : List Element) (r : IsRead es) where
  -- an element that isn't the root stands right below its parent
  below_parent : (n : ℕ) (e : Element) → slice_get es n ≡ Some e → (c : IsChild es n e.parent) → IsTrue (may_stand (Some (class_of c.above.kind)) (class_of e.kind))
  below_parent n e h c =
      let b = all_get (IsBelow es e.parent c.above) c.above.children c.place n (stands es r e.parent c.above c.there).children c.among in
      let same = same_some (slice_get es n) b.element e b.there h in
      let P : Element → Type 0 = λ x. IsTrue (may_stand (Some (class_of c.above.kind)) (class_of x.kind)) in
      subst P same b.place

  not_root : (n : ℕ) (e : Element) → slice_get es n ≡ Some e → is_some (group_size e.kind) ≡ true → (t : Bool) → nat_lt 0 n ≡ t → 0 < n
  not_root n e h some true later = is_later n later
  not_root n e h some false first =
      let root = root_here es r in
      let same = same_some (slice_get es 0) e root.element (ap (slice_get es) (sym (is_first n first)) ∙ h) root.there in
      let kind = ap (λ (x : Element). x.kind) same ∙ root.kind in
      absurd (true≢false (sym some ∙ ap (λ (k : Kind). is_some (group_size k)) kind))

  parent_zero : (p : ℕ) (above : Element) → slice_get es p ≡ Some above → is_root (class_of above.kind) ≡ true → (t : Bool) → nat_lt 0 p ≡ t → p ≡ 0
  parent_zero p above h root false first = is_first p first
  parent_zero p above h root true later =
      let c = (stands es r p above h).parent (is_later p later) in
      absurd (no_root_below (class_of c.above.kind) above.kind (below_parent p above h c) root)

abbrev Parts : List Element → ℕ → Element → Type 0
Parts es d e = AllByRecursion (Nests d es) e.children × AllByRecursion (Apart d false es) e.children

group_parts : (es : List Element) (d : ℕ) (s : Stand) (p n : ℕ) (e : Element) → slice_get es n ≡ Some e → s.inside ≡ false → is_section e.kind ≡ false → Good (suc d) s p es n → Parts es d e
unfolding Good
group_parts es d s p n e h outside plain g =
    let same = same_some (slice_get es n) g.0 e g.1.there h in
    let free : (s.inside || is_section g.0.kind) ≡ false = rw outside (ap (λ (x : Element). is_section x.kind) same ∙ plain) in
    let P : Element → Type 0 = λ x. Parts es d x in
    let Q : Bool → Type 0 = λ b. AllByRecursion (Apart d b es) g.0.children in
    subst P same (all_map (λ c k. nests d (stand_below s g.0.kind) n es c k.1) g.0.children g.2, subst Q free (all_map (λ c k. apart d (stand_below s g.0.kind) n es c k.1) g.0.children g.2))

section_of : (kind : Kind) (loops : Loops) (on_error : OnError) (ramp_ms threads : ℕ) → kind ≡ kinds.ThreadGroup loops on_error ramp_ms threads → is_section kind ≡ false
section_of kind loops on_error ramp_ms threads h = rw h refl

pub group_is : (es : List Element) → IsRead es → (n : ℕ) → IsGroupAt es n → IsGroup es n
group_is es r n g =
    let e = g.0 in
    let k = group_kind e.kind g.2 in
    let later = not_root es r n e g.1 g.2 (nat_lt 0 n) refl in
    let c = (stands es r n e g.1).parent later in
    let above_root = group_above (class_of c.above.kind) e.kind (below_parent es r n e g.1 c) g.2 in
    let zero_parent = parent_zero es r e.parent c.above c.there above_root (nat_lt 0 e.parent) refl in
    let root = root_here es r in
    let same = same_some (slice_get es 0) c.above root.element (ap (slice_get es) (sym zero_parent) ∙ c.there) root.there in
    let among = ap (λ (x : Element). slice_get x.children c.place) (sym same) ∙ c.among in
    let q = all_get (λ (m : ℕ). (0 < m) × Good 31 root.below.0 0 es m) root.element.children c.place n root.below.1 among in
    let parts = group_parts es 30 root.below.0 0 n e g.1 root.free (section_of e.kind k.0 k.1 k.2 k.3 k.4) q.1 in
    record {
      element = e;
      loops = k.0;
      on_error = k.1;
      ramp_ms = k.2;
      threads = k.3;
      there = g.1;
      kind = k.4;
      parent = zero_parent;
      nests = parts.0;
      apart = parts.1;
    }

are_formed : (es : List Element) → IsRead es → AreFormed es
are_formed es r = let P : List Element → Type 0 = λ xs. AreFormed xs in subst P (sym r.flat_) (formed_one r.tree r.stand 0 0 r.read)

pub plan_is : (es : List Element) → IsRead es → length es ≤ 4096 → length (labels_of es) ≤ 256 → length (locks_of es) ≤ 256 → 1 ≤ length (threads_in es) → length (threads_in es) ≤ 64 → IsPlan (tree_of es)
plan_is es r few labels locks some_thread few_threads =
    let root = root_here es r in
    let formed_at : (n : ℕ) (e : Element) → slice_get es n ≡ Some e → IsFormed e.kind = λ n e h. all_get (λ (x : Element). IsFormed x.kind) es n e (are_formed es r) h in
    record {
      count = few;
      labels = labels;
      locks = locks;
      some_thread = some_thread;
      few_threads = few_threads;
      root = record { element = root.element; there = root.there; kind = root.kind; parent = root.parent };
      nests = nests_all es r;
      apart = apart_all es r;
      stands = stands es r;
      forms = λ n e h. (formed_at n e h).forms;
      patterns = λ n e h. (formed_at n e h).patterns;
      groups = λ thread t h. group_is es r t.element (thread_group es thread t h);
    }

-- ---- the plan

-- what was counted of a plan that is read
record Counts (es : List Element) : Type 0 where
  group : list_any is_group_element es ≡ true
  threads : length (threads_in es) ≤ 64
  labels : length (labels_of es) ≤ 256
  locks : length (locks_of es) ≤ 256

counts : (es : List Element) → counted es ≡ over (tree_of es) → Counts es
unfolding counted
counts es h =
    let ok : outcome (counted es) ≡ Ok (tree_of es) = rw h refl in
    let a = bind_ok (refuse_if (not (list_any is_group_element es)) _) _ (tree_of es) ok in
    let b = bind_ok (refuse_if (nat_lt 64 (length (threads_in es))) _) _ (tree_of es) a.2 in
    let c = bind_ok (refuse_if (nat_lt 256 (length (labels_of es))) _) _ (tree_of es) b.2 in
    let d = bind_ok (refuse_if (nat_lt 256 (length (locks_of es))) _) _ (tree_of es) c.2 in
    record {
      group = not_false _ (refuse_ok _ _ a.0 a.1);
      threads = at_most 64 _ (refuse_ok _ _ b.0 b.1);
      labels = at_most 256 _ (refuse_ok _ _ c.0 c.1);
      locks = at_most 256 _ (refuse_ok _ _ d.0 d.1);
    }

pub has_threads : (tree : Raw) (es : List Element) → outcome (walked tree) ≡ Ok es → list_any is_group_element es ≡ true → 1 ≤ length (threads_in es)
unfolding threads_in
has_threads tree es h some =
    has_thread es 0 1 (are_formed es (is_read tree es h)) some

pub well_kept : (es : List Element) (version : ℕ) (labels : List (List ℕ)) (label_numbers : List ℕ) (locks : List (List ℕ)) (lock_numbers : List ℕ) (threads : List Thread) → IsWalked es → length es ≤ 4096 → version ≡ version_in es
    → counted es ≡ over (tree_of es) → AreTables es labels label_numbers locks lock_numbers threads
    → IsWellKept (record { version = version; elements = es }) labels label_numbers locks lock_numbers threads
well_kept es version labels label_numbers locks lock_numbers threads w few is counted_ tables =
    let n = counts es counted_ in
    rw is (record {
      plan_ = plan_is es (is_read w.0 es w.1) few n.labels n.locks (has_threads w.0 es w.1 n.group) n.threads;
      tables_ = tables;
    })
