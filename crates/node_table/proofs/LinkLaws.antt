-- The links of a plan's elements.
use Rattle.std.proofs.Common.{◌≡◌, ℕ, zero, suc, ◌+◌, ◌<◌, ◌≤◌, Bool, true, false, cond, List, [], ◌∷◌, length, get_or, map, reverse, Option, Some, None, refl, sym, ap, ◌∙◌, true≢false, arith}
use Rattle.std.specs.Prelude.{min, slice_get, unwrap_or, nat_eq, nat_lt}
use Rattle.std.specs.Option.{option_map, option_and_then}
use Rattle.std.specs.List.{AllByRecursion, find, filter, range_with_len}
use Rattle.std.proofs.lemmas.Bool.{eqb-true, lt-ltb, ltb-true}
use Rattle.std.proofs.lemmas.Bool.Decides.{nat_tests}
use Rattle.std.proofs.lemmas.List.{append-nil, reverse-append}
use Rattle.std.proofs.lemmas.List.FromFn.{length-map-range_with_len}
use Rattle.std.proofs.lemmas.Option.{slice_get_within, slice_get_read, slice_get_past}
use Rattle.element_tree.specs.declared.kinds.Element.{Element}
use Rattle.element_tree.specs.declared.kinds.Kind.{Kind}
use Rattle.element_tree.specs.Tree.{Tree, IsPlan, IsBelow}
use Rattle.element_tree.specs.Types.{type_of}
use Rattle.cursor_steps.specs.RunningChildren.{is_run_at, run_count}
use Rattle.scope_resolver.specs.Ancestry.{line}
use Rattle.scope_resolver.specs.Scoping.{parent_in, line_to}
use Rattle.scope_resolver.proofs.PlanLaws.{parent_read, root_parent, parent_below, up_step}
use Rattle.node_table.specs.declared.element_links.Link.{Link}
use Rattle.node_table.specs.ElementLinks.{children_at, runs_at, child_of, first_of, after_of, is_looping_type, is_looping_at, looping_above, link_of, links_of}
use Rattle.node_table.specs.Building.{AreAfters, above_at, after_or}
use Rattle.node_table.proofs.AfterLists.{is_in, LinkedBelow, linked_below}
use Rattle.node_table.proofs.Numbering.{numbered_get, numbered_at}

-- ---- siblings

pub children_read : (elements : List Element) (n : ℕ) (e : Element) → slice_get elements n ≡ Some e → children_at elements n ≡ e.children
children_read elements n e is = ap (λ (o : Option Element). unwrap_or (option_map (λ (x : Element). x.children) o) []) is

-- what is a child of an element has it as its parent
pub child_parent : (elements : List Element) (k : ℕ) (e : Element) (ms : List ℕ) (n : ℕ) → AllByRecursion (IsBelow elements k e) ms → is_in n ms ≡ true → parent_in elements n ≡ k
child_parent elements k e [] n below h = absurd (true≢false (sym h))
child_parent elements k e (m ∷ ms) n below h = by_test (nat_eq m n) refl (child_parent elements k e ms n below.1) h where
  by_test : (b : Bool) → nat_eq m n ≡ b → (is_in n ms ≡ true → parent_in elements n ≡ k) → cond b true (is_in n ms) ≡ true → parent_in elements n ≡ k
  by_test true same rest h = ap (parent_in elements) (sym (eqb-true m n same)) ∙ parent_read elements m below.0.element below.0.there ∙ below.0.parent
  by_test false other rest h = rest h

abbrev pub LinkedTo : List Element → ℕ → List (Option ℕ) → Type 0
LinkedTo elements k afters = LinkedBelow (is_run_at elements) (parent_in elements) (children_at elements) (length elements) k afters

module _ (plan : Tree) (is_plan : IsPlan plan) where
  parent_within : (n : ℕ) → n < length plan.elements → parent_in plan.elements n < length plan.elements
  parent_within zero h = omega (arith, root_parent plan is_plan)
  parent_within (suc n) h = omega (arith, parent_below plan is_plan n)

  pub all_linked : (k : ℕ) (afters : List (Option ℕ)) → k ≡ length plan.elements → LinkedTo plan.elements k afters → AreAfters plan.elements afters
  all_linked k afters is l = record {
    count = l.long;
    each = λ n h.
        let less : parent_in plan.elements n < k = omega (arith, parent_within n h) in
        l.each n h ∙ ap (λ (b : Bool). cond b (after_of plan.elements n) None) (lt-ltb (parent_in plan.elements n) k less);
  }

  pub children_linked : (elements : List Element) (k : ℕ) (e : Element) (cs : List ℕ) (now more : List (Option ℕ)) → elements ≡ plan.elements → k < length elements → e ≡ get_or elements k e → cs ≡ e.children
      → length more ≡ length now → ((n : ℕ) → n < length now → get_or more n None ≡ after_or (is_run_at plan.elements) cs n (get_or now n None)) → LinkedTo plan.elements k now → LinkedTo plan.elements (k + 1) more
  children_linked elements k e cs now more all there is same count each l =
      let there_k : k < length plan.elements = omega (arith, ap length all) in
      let e_there = slice_get_read plan.elements (length plan.elements) k e refl there_k (is ∙ ap (λ (xs : List Element). get_or xs k e) all) in
      linked_below (is_run_at plan.elements) (parent_in plan.elements) (children_at plan.elements) (length plan.elements) k cs now more (same ∙ sym (children_read plan.elements k e e_there))
      (λ n h. child_parent plan.elements k e e.children n (is_plan.stands k e e_there).children (ap (is_in n) (sym same) ∙ h)) l count each

  -- ---- rounds

  looping_read : (n : ℕ) (e : Element) → slice_get plan.elements n ≡ Some e → is_looping_at plan.elements n ≡ is_looping_type (type_of e.kind)
  looping_read n e is = ap (λ (o : Option Element). unwrap_or (option_map (λ (x : Element). is_looping_type (type_of x.kind)) o) false) is

  root_looping : is_looping_at plan.elements 0 ≡ false
  root_looping = looping_read 0 is_plan.root.element is_plan.root.there ∙ ap (λ (k : Kind). is_looping_type (type_of k)) is_plan.root.kind

  abbrev up : ℕ → List ℕ
  up n = reverse (line_to plan.elements n)

  up_below : (n : ℕ) → 0 < n → up n ≡ n ∷ up (parent_in plan.elements n)
  up_below n h =
      ap reverse (up_step plan is_plan n (parent_in plan.elements n) [] (n ∷ []) (line_to plan.elements n) h refl refl (sym (append-nil (line_to plan.elements n))))
      ∙ reverse-append (line_to plan.elements (parent_in plan.elements n)) (n ∷ [])

  up_root : up 0 ≡ 0 ∷ []
  unfolding line
  up_root = refl

  root_finds : find (is_looping_at plan.elements) (up 0) ≡ None
  root_finds = ap (find (is_looping_at plan.elements)) up_root ∙ ap (λ (b : Bool). cond b (Some 0) None) root_looping

  finds_up : (links : List Link) (n p : ℕ) → links ≡ map (link_of plan.elements) (range_with_len 0 n) → p < n
      → find (is_looping_at plan.elements) (up p) ≡ cond (is_looping_at plan.elements p) (Some p) (above_at links p)
  finds_up links n zero is before =
      root_finds ∙ sym (ap (λ (b : Bool). cond b (Some 0) (above_at links 0)) root_looping ∙ ap (option_and_then (λ (l : Link). l.above)) (ap (λ (xs : List Link). slice_get xs 0) is ∙ numbered_get (link_of plan.elements) n 0 before)
      ∙ ap (λ (p : ℕ). find (is_looping_at plan.elements) (up p)) (root_parent plan is_plan) ∙ root_finds)
  finds_up links n (suc p) is before =
      ap (find (is_looping_at plan.elements)) (up_below (suc p) (omega arith))
      ∙ ap (λ (o : Option ℕ). cond (is_looping_at plan.elements (suc p)) (Some (suc p)) o)
      (sym (ap (option_and_then (λ (l : Link). l.above)) (ap (λ (xs : List Link). slice_get xs (suc p)) is ∙ numbered_get (link_of plan.elements) n (suc p) before)))

  first_above : (links : List Link) → links ≡ [] → find (is_looping_at plan.elements) (up 0) ≡ cond (is_looping_at plan.elements 0) (Some 0) (above_at links 0)
  first_above links is = root_finds ∙ sym (ap (λ (b : Bool). cond b (Some 0) (above_at links 0)) root_looping ∙ ap (λ (xs : List Link). above_at xs 0) is)

  pub above_is : (links : List Link) (n : ℕ) (e : Element) → links ≡ map (link_of plan.elements) (range_with_len 0 n) → slice_get plan.elements n ≡ Some e
      → cond (is_looping_at plan.elements e.parent) (Some e.parent) (above_at links e.parent) ≡ looping_above plan.elements n
  above_is links zero e is there =
      let p : e.parent ≡ 0 = sym (parent_read plan.elements 0 e there) ∙ root_parent plan is_plan in
      ap (λ (m : ℕ). cond (is_looping_at plan.elements m) (Some m) (above_at links m)) p ∙ sym (first_above links is)
      ∙ ap (λ (m : ℕ). find (is_looping_at plan.elements) (up m)) (sym (root_parent plan is_plan))
  above_is links (suc n) e is there =
      let p = parent_read plan.elements (suc n) e there in
      let before : e.parent < suc n = omega (arith, parent_below plan is_plan n, p) in
      sym (ap (λ (m : ℕ). find (is_looping_at plan.elements) (up m)) p ∙ finds_up links (suc n) e.parent is before)

  -- ---- the links of one element

  pub link_is : (links : List Link) (afters : List (Option ℕ)) (n : ℕ) (e : Element) (runs : List ℕ) (first after above : Option ℕ) → links ≡ map (link_of plan.elements) (range_with_len 0 n)
      → slice_get plan.elements n ≡ Some e → AreAfters plan.elements afters → runs ≡ filter (is_run_at plan.elements) e.children → first ≡ find (is_run_at plan.elements) e.children → after ≡ get_or afters n None
      → above ≡ cond (is_looping_at plan.elements e.parent) (Some e.parent) (above_at links e.parent)
      → record { runs = runs; first = first; after = after; above = above } ≡ link_of plan.elements n
  link_is links afters n e runs first after above is there each are_runs is_first is_after is_above =
      let r : runs ≡ runs_at plan.elements n = are_runs ∙ ap (filter (is_run_at plan.elements)) (sym (children_read plan.elements n e there)) in
      let f : first ≡ first_of plan.elements n = is_first ∙ ap (find (is_run_at plan.elements)) (sym (children_read plan.elements n e there)) in
      let a : after ≡ after_of plan.elements n = is_after ∙ each.each n (slice_get_within plan.elements n e there) in
      let l : above ≡ looping_above plan.elements n = is_above ∙ above_is links n e is there in
      same_link runs (runs_at plan.elements n) first (first_of plan.elements n) after (after_of plan.elements n) above (looping_above plan.elements n) r f a l where
        same_link : (x y : List ℕ) (f g a b c d : Option ℕ) → x ≡ y → f ≡ g → a ≡ b → c ≡ d
            → ◌≡◌ {A = Link} (record { runs = x; first = f; after = a; above = c }) (record { runs = y; first = g; after = b; above = d })
        same_link x y f g a b c d o p q r = cc

link_at : (elements : List Element) (links : List Link) (n : ℕ) (d : Link) → n < length links → links ≡ links_of elements → get_or links n d ≡ link_of elements n
link_at elements links n d h is = numbered_at (link_of elements) (length elements) n d links h is

-- what was read at a place
pub link_read : (elements : List Element) (links now : List Link) (n place : ℕ) (l : Link) → l ≡ get_or links place l → place ≡ n → links ≡ now → n < length now → now ≡ links_of elements → l ≡ link_of elements n
link_read elements links now n place l read at_n same h is =
    read ∙ ap (λ (m : ℕ). get_or links m l) at_n ∙ ap (λ (xs : List Link). get_or xs n l) same ∙ link_at elements now n l h is

-- how many children of an element run, by its link
pub count_read : (elements : List Element) (n : ℕ) (e : Element) (l : Link) → l ≡ link_of elements n → slice_get elements n ≡ Some e → min (length l.runs) 65535 ≡ run_count elements e
count_read elements n e l is there =
    ap (λ (l : Link). min (length l.runs) 65535) is ∙ ap (λ (ms : List ℕ). min (length (filter (is_run_at elements) ms)) 65535) (children_read elements n e there)

-- ---- the children of one element

abbrev run_of : Option Link → ℕ → Option ℕ
run_of o place = option_and_then (λ (l : Link). slice_get l.runs place) o

no_children : (elements : List Element) (n : ℕ) → length elements ≤ n → runs_at elements n ≡ []
no_children elements n past = ap (λ (o : Option Element). filter (is_run_at elements) (unwrap_or (option_map (λ (x : Element). x.children) o) [])) (slice_get_past elements n past)

-- what was found at a place
pub child_read : (elements : List Element) (links : List Link) (n place : ℕ) → links ≡ links_of elements → run_of (slice_get links n) place ≡ child_of elements n place
child_read elements links n place is = by_test (nat_lt n (length elements)) refl where
  by_test : (b : Bool) → nat_lt n (length elements) ≡ b → run_of (slice_get links n) place ≡ child_of elements n place
  by_test true h =
      ap (λ (xs : List Link). run_of (slice_get xs n) place) is
      ∙ ap (λ (o : Option Link). run_of o place) (numbered_get (link_of elements) (length elements) n (ltb-true n (length elements) h))
  by_test false h =
      let past : length elements ≤ n = grind (arith, nat_tests) in
      let none : slice_get links n ≡ None = slice_get_past links n (omega (arith, ap length is, length-map-range_with_len (link_of elements) 0 (length elements))) in
      ap (λ (o : Option Link). run_of o place) none ∙ sym (ap (λ (ms : List ℕ). slice_get ms place) (no_children elements n past))
