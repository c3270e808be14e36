-- The plan that is read of the tree of a size.
use Rattle.std.proofs.Common.{◌≡◌, ℕ, ◌≤◌, sym, subst}
use Rattle.plan_json.specs.Shape.{Raw}
use Rattle.element_props.specs.Reads.{over}
use Rattle.element_tree.specs.Walk.{reading}
use Rattle.plan_maker.specs.Generated.{generated}
use Rattle.plan_maker.specs.Raws.{plan_raw}
use Rattle.plan_maker.proofs.TreeLaws.{the_elements}
use Rattle.plan_maker.proofs.CountLaws.{all_counted}

plan_read : (size : ℕ) → size ≤ 2047 → reading (plan_raw size) ≡ over (generated size)
unfolding reading generated
plan_read size h = rw (the_elements size h) (all_counted size)

pub tree_read : (tree : Raw) (size : ℕ) → tree ≡ plan_raw size → size ≤ 2047 → reading tree ≡ over (generated size)
tree_read tree size is h = let P : Raw → Type 0 = λ t. reading t ≡ over (generated size) in subst P (sym is) (plan_read size h)
