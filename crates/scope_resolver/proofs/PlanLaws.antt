-- The parents of a plan's elements, and what the loops over them come to.
use Rattle.std.proofs.Common.{◌≡◌, ℕ, suc, ◌+◌, ◌<◌, ◌≤◌, Bool, true, false, ◌&&◌, eqb, ltb, List, [], ◌∷◌, ◌++◌, length, get_or, take, reverse, Option, Some, None, refl, sym, ap, ◌∙◌, arith}
use Rattle.std.specs.Prelude.{slice_get, unwrap_or}
use Rattle.std.specs.Option.{option_map}
use Rattle.std.specs.List.{filter, flat_map, range_with_len}
use Rattle.std.proofs.lemmas.List.{append-nil, take_more}
use Rattle.std.proofs.lemmas.List.Concat.{flat_map-append}
use Rattle.std.proofs.lemmas.Option.{slice_get_read}
use Rattle.element_tree.specs.declared.kinds.Element.{Element}
use Rattle.element_tree.specs.Tree.{Tree, IsPlan}
use Rattle.scope_resolver.specs.Ancestry.{hangs_by, hanging_by}
use Rattle.scope_resolver.specs.Scoping.{parent_in, line_to, hanging_on}
use Rattle.scope_resolver.proofs.LineLaws.{line_step, line_reached}
use Rattle.scope_resolver.proofs.MemberLaws.{passed_step, left_step}

pub parent_read : (elements : List Element) (n : ℕ) (e : Element) → slice_get elements n ≡ Some e → parent_in elements n ≡ e.parent
parent_read elements n e is = ap (λ (o : Option Element). unwrap_or (option_map (λ x. x.parent) o) 0) is

module _ (plan : Tree) (is_plan : IsPlan plan) where
  pub root_parent : parent_in plan.elements 0 ≡ 0
  root_parent = parent_read plan.elements 0 is_plan.root.element is_plan.root.there ∙ is_plan.root.parent

  -- but for the root, a parent comes before its children
  pub parent_before : (n : ℕ) (e : Element) → slice_get plan.elements n ≡ Some e → 0 < n → e.parent < n
  parent_before n e is h = ((is_plan.stands n e is).parent h).earlier

  parent_earlier : (n : ℕ) → 0 < n → parent_in plan.elements n < n
  parent_earlier n h = by_option (slice_get plan.elements n) refl where
    by_option : (o : Option Element) → slice_get plan.elements n ≡ o → unwrap_or (option_map (λ (x : Element). x.parent) o) 0 < n
    by_option None is = h
    by_option (Some e) is = parent_before n e is h

  pub parent_below : (n : ℕ) → parent_in plan.elements (suc n) ≤ n
  parent_below n = let e = parent_earlier (suc n) (omega arith) in omega arith

  pub up_step : (n m : ℕ) (below now whole : List ℕ) → 0 < n → m ≡ parent_in plan.elements n → now ≡ below ++ n ∷ []
      → whole ≡ line_to plan.elements n ++ reverse below → whole ≡ line_to plan.elements m ++ reverse now
  up_step n m below now whole h above pushed is =
      line_step (parent_in plan.elements) root_parent parent_below n below whole h is
      ∙ ap (λ (k : ℕ). line_to plan.elements k ++ reverse (below ++ n ∷ [])) (sym above)
      ∙ ap (λ (xs : List ℕ). line_to plan.elements m ++ reverse xs) (sym pushed)

  pub up_end : (n : ℕ) (below now whole turned : List ℕ) → n ≤ 0 → now ≡ below ++ n ∷ [] → turned ≡ reverse now
      → whole ≡ line_to plan.elements n ++ reverse below → turned ≡ whole
  up_end n below now whole turned h pushed is kept =
      is ∙ ap reverse pushed ∙ line_reached (parent_in plan.elements) root_parent parent_below n below whole h kept

pub up_start : (elements : List Element) (n : ℕ) → line_to elements n ≡ line_to elements n ++ reverse []
up_start elements n = sym (append-nil (line_to elements n))

-- ---- the elements one after another

hangs_read : (elements : List Element) (level i : ℕ) (e : Element) (b c : Bool) → i < length elements → e ≡ get_or elements i e
    → b ≡ (ltb 0 i && eqb e.parent level) → b ≡ c → hangs_by (parent_in elements) level i ≡ c
hangs_read elements level i e b c there is test answer =
    ap (λ (p : ℕ). ltb 0 i && eqb p level) (parent_read elements i e (slice_get_read elements (length elements) i e refl there is)) ∙ sym test ∙ answer

pub hanging_step : (elements : List Element) (level i : ℕ) (e : Element) (b : Bool) (old found now : List ℕ) → i < length elements → e ≡ get_or elements i e
    → b ≡ (ltb 0 i && eqb e.parent level) → b ≡ true → now ≡ found ++ i ∷ []
    → found ≡ old ++ filter (hangs_by (parent_in elements) level) (range_with_len 0 i)
    → now ≡ old ++ filter (hangs_by (parent_in elements) level) (range_with_len 0 (i + 1))
hanging_step elements level i e b old found now there is test answer pushed kept =
    pushed ∙ passed_step (hangs_by (parent_in elements) level) i old found (hangs_read elements level i e b true there is test answer) kept

pub not_hanging_step : (elements : List Element) (level i : ℕ) (e : Element) (b : Bool) (old found : List ℕ) → i < length elements → e ≡ get_or elements i e
    → b ≡ (ltb 0 i && eqb e.parent level) → b ≡ false
    → found ≡ old ++ filter (hangs_by (parent_in elements) level) (range_with_len 0 i)
    → found ≡ old ++ filter (hangs_by (parent_in elements) level) (range_with_len 0 (i + 1))
not_hanging_step elements level i e b old found there is test answer kept =
    left_step (hangs_by (parent_in elements) level) i old found (hangs_read elements level i e b false there is test answer) kept

pub hanging_end : (elements : List Element) (level i : ℕ) (old found : List ℕ) → i ≡ length elements
    → found ≡ old ++ filter (hangs_by (parent_in elements) level) (range_with_len 0 i) → found ≡ old ++ hanging_on elements level
unfolding hanging_by
hanging_end elements level i old found is kept = kept ∙ ap (λ (n : ℕ). old ++ filter (hangs_by (parent_in elements) level) (range_with_len 0 n)) is

pub level_step : (f : ℕ → List ℕ) (line : List ℕ) (i level : ℕ) (found now : List ℕ) → i < length line → level ≡ get_or line i 0
    → now ≡ found ++ f level → found ≡ flat_map f (take i line) → now ≡ flat_map f (take (i + 1) line)
level_step f line i level found now there is more kept =
    more ∙ ap (λ (xs : List ℕ). xs ++ f level) kept ∙ ap (λ (n : ℕ). flat_map f (take i line) ++ f n) is
    ∙ ap (λ (xs : List ℕ). flat_map f (take i line) ++ xs) (sym (append-nil (f (get_or line i 0))))
    ∙ sym (flat_map-append f (take i line) (get_or line i 0 ∷ [])) ∙ ap (flat_map f) (sym (take_more line i 0 there))
