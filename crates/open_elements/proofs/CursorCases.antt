-- What holds of the cursor of each kind, at an element of its kind.
use Rattle.std.proofs.Common.{◌≡◌, ℕ, ◌≤◌, ◌<◌, Option, Some, None, sym, ap, arith}
use Rattle.std.specs.Prelude.{is_some, IfSome}
use Rattle.element_tree.specs.declared.kinds.Kind.{Kind}
use Rattle.element_tree.specs.Types.{is_section}
use Rattle.choice_controllers.specs.Chosen.{waiting}
use Rattle.open_elements.specs.declared.cursor.Cursor.{Cursor}
use Rattle.open_elements.specs.declared.cursor.Cursor.TheVariants.{Simple, Once, Loop, If, While, Each, Interleave, Random, Order, Switch, Transaction, Section}
use Rattle.open_elements.specs.Cursors.{shut_of, lock_in, FitsKind}
use Rattle.open_elements.specs.ChildrenLeft.{children_left}

few_chosen : (count : ℕ) (chosen : Option ℕ) → IfSome chosen (λ place. place < count) → waiting chosen ≤ count
few_chosen count None h = omega arith
few_chosen count (Some place) h = omega (arith, h)

-- a cursor has no more children left than run
pub few_in_pass : (n count : ℕ) (k : Kind) (c : Cursor) → FitsKind n count k c → children_left c ≤ count
few_in_pass n count k (Simple c) h = let e = h.2 in omega (arith, e)
few_in_pass n count k (Once c) h = let e = h.2 in omega (arith, e)
few_in_pass n count k (Loop c) h = let e = h.2 in omega (arith, e)
few_in_pass n count k (If c) h = let e = h.2 in omega (arith, e)
few_in_pass n count k (While c) h = let e = h.2 in omega (arith, e)
few_in_pass n count k (Each c) h = let e = h.2 in omega (arith, e)
few_in_pass n count k (Interleave c) h = few_chosen count c.chosen h.2
few_in_pass n count k (Random c) h = few_chosen count c.chosen h.2
few_in_pass n count k (Order c) h = let e = h.2 in omega (arith, e)
few_in_pass n count k (Switch c) h = few_chosen count c.chosen h.2
few_in_pass n count k (Transaction c) h = let e = h.2 in omega (arith, e)
few_in_pass n count k (Section c) h = let e = h.2 in omega (arith, e)

-- a cursor is that of a section exactly at a critical section
pub section_is : (n count : ℕ) (k : Kind) (c : Cursor) → FitsKind n count k c → is_some (lock_in (shut_of c) None) ≡ is_section k
section_is n count k (Simple c) h = sym (ap is_section h.1)
section_is n count k (Once c) h = sym (ap is_section h.1)
section_is n count k (Loop c) h = sym (ap is_section h.1.1)
section_is n count k (If c) h = sym (ap is_section h.1.2)
section_is n count k (While c) h = sym (ap is_section h.1.1)
section_is n count k (Each c) h = sym (ap is_section h.1.2)
section_is n count k (Interleave c) h = sym (ap is_section h.1)
section_is n count k (Random c) h = sym (ap is_section h.1)
section_is n count k (Order c) h = sym (ap is_section h.1)
section_is n count k (Switch c) h = sym (ap is_section h.1.1)
section_is n count k (Transaction c) h = sym (ap is_section h.1)
section_is n count k (Section c) h = sym (ap is_section h.1.1)
