-- How many children are still to be opened.
use Rattle.std.specs.Prelude.{ℕ, ◌-◌, length}
use Rattle.cursor_steps.specs.declared.pass.Pass.{Pass}
use Rattle.choice_controllers.specs.Chosen.{waiting}
use Rattle.choice_controllers.specs.RandomOrderController.{order_of}
use Rattle.open_elements.specs.declared.cursor.Cursor.{Cursor}
use Rattle.open_elements.specs.declared.cursor.Cursor.TheVariants.{Simple, Once, Loop, If, While, Each, Interleave, Random, Order, Switch, Transaction, Section}

-- the children that are still to be opened
abbrev pub remaining : Pass → ℕ
remaining p = p.children - p.next

abbrev pub children_left : Cursor → ℕ
children_left (Simple c) = remaining c.pass
children_left (Once c) = remaining c.pass
children_left (Loop c) = remaining c.rounds.pass
children_left (If c) = remaining c.pass
children_left (While c) = remaining c.rounds.pass
children_left (Each c) = remaining c.rounds.pass
children_left (Interleave c) = waiting c.chosen
children_left (Random c) = waiting c.chosen
children_left (Order c) = length (order_of c) - c.next
children_left (Switch c) = waiting c.chosen
children_left (Transaction c) = remaining c.children.pass
children_left (Section c) = remaining c.children.pass
