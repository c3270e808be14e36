-- The children that are left in a pass.
use Rattle.std.proofs.Common.{◌≡◌, ℕ, ◌+◌, ◌≤◌, ◌<◌, true, false, List, [], ◌∷◌, length, drop, Some, sym, ap, ◌∙◌, subst, arith, add-one}
use Rattle.std.specs.Prelude.{slice_get, take}
use Rattle.std.proofs.Math.Seq.{drop-cons}
use Rattle.std.proofs.lemmas.List.{take_all, drop_all, length-take, get_or-take}
use Rattle.std.proofs.lemmas.Option.{slice_get-get_or}
use Rattle.std.proofs.Math.ListN.{get_or}
use Rattle.element_tree.specs.declared.kinds.Element.{Element}
use Rattle.cursor_steps.specs.declared.pass.Pass.{Pass}
use Rattle.element_tree.specs.declared.package.Turn.{Turn}
use Rattle.element_tree.specs.declared.package.Turn.TheVariants.{Child, Round, Over}
use Rattle.cursor_steps.specs.RunningChildren.{is_left, after_child, run_count, runs_of, Passes, TakesChild}
use Rattle.jm_meaning.specs.Children.{children_of}
use Rattle.open_elements.specs.Moves.{pass_left}
use Rattle.open_elements.specs.ChildrenLeft.{remaining}

left_means : (p : Pass) → is_left p ≡ true → p.next < p.children
left_means p h = grind (arith, h)

none_means : (p : Pass) → is_left p ≡ false → p.children ≤ p.next
none_means p h = grind (arith, h)

-- the next child is the first of those left
pub record Front (p : Pass) (children : List ℕ) : Type 0 where
  pub child : ℕ
  pub there : slice_get children p.next ≡ Some child
  pub is : pass_left p children ≡ child ∷ pass_left (after_child p) children

front_at : (xs : List ℕ) (i : ℕ) → i < length xs → drop i xs ≡ get_or xs i 0 ∷ drop (i + 1) xs
front_at xs i within = rw (add-one i) (drop-cons xs i 0 within)

taken_length : (xs : List ℕ) (n i : ℕ) → i < n → i < length xs → i < length (take n xs)
taken_length xs n i h k = let is = length-take n xs in omega (arith, h, k, is)

pub prefix : (p : Pass) (children : List ℕ) → is_left p ≡ true → p.children ≤ length children → Front p children
prefix p children h few =
    let less = left_means p h in
    let within : p.next < length children = omega (arith, less, few) in
    record {
      child = get_or children p.next 0;
      there = slice_get-get_or children p.next 0 within;
      is = front_at (take p.children children) p.next (taken_length children p.children p.next less within)
          ∙ ap (λ x. x ∷ drop (p.next + 1) (take p.children children)) (get_or-take p.children children p.next 0 less);
    }

-- no child is left
pub none-left : (p : Pass) (children : List ℕ) → is_left p ≡ false → pass_left p children ≡ []
none-left p children h = let le = none_means p h in drop_all p.next (take p.children children) (let is = length-take p.children children in omega (arith, le, is))

-- before the first child all are left
pub all-left : (p : Pass) (children : List ℕ) → p.next ≡ 0 → p.children ≡ length children → pass_left p children ≡ children
all-left p children first all = rw first (take_all p.children children (omega (arith, all)))

pub count-is : (elements : List Element) (e : Element) → length (children_of elements e) ≡ run_count elements e
count-is elements e = let is = length-take 65535 (runs_of elements e) in omega (arith, is)

-- a child that is run is taken from its pass
pub passes_fewer : (old new : Pass) (turn : Turn) → Passes old new turn → TakesChild (remaining old) (remaining new) turn
passes_fewer old new (Child place) p = let n = ap (λ q. remaining q) p.2 in omega (arith, n, p.1)
passes_fewer old new Round p = tt
passes_fewer old new Over p = tt

-- what is among the children that an element runs is among all of them that run
pub counted : (P : ℕ → Type 0) (elements : List Element) (e : Element) → P (run_count elements e) → P (length (children_of elements e))
counted P elements e h = subst P (sym (count-is elements e)) h

pub counted_back : (P : ℕ → Type 0) (elements : List Element) (e : Element) → P (length (children_of elements e)) → P (run_count elements e)
counted_back P elements e h = subst P (count-is elements e) h
