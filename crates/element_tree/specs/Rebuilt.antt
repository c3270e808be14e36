-- A plan that is written and built again.
use Rattle.std.specs.Prelude.{◌≡◌, ℕ, List, Ok}
use Rattle.plan_json.specs.Shape.{Raw, reading_of}
use Rattle.element_props.specs.Reads.{outcome}
use Rattle.element_tree.specs.Tree.{Tree}
use Rattle.element_tree.specs.Walk.{reading}
use Rattle.element_tree.specs.PlanWritten.{plan_tree}

-- From a text that is a plan, the tree that is written of the plan is that plan again.
abbrev pub BuiltAgain : Type 0
BuiltAgain = (text : List ℕ) (tree : Raw) (plan : Tree) → reading_of text ≡ Ok tree → outcome (reading tree) ≡ Ok plan → outcome (reading (plan_tree plan)) ≡ Ok plan
