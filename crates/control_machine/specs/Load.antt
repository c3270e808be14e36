-- How many turns the open elements can still take, at most: the measure of the machine's search for its next move.
use Rattle.std.specs.Prelude.{ℕ, zero, suc, ◌+◌, ◌*◌, List, [], ◌∷◌, length}
use Rattle.element_tree.specs.declared.kinds.Element.{Element}
use Rattle.open_elements.specs.ChildrenLeft.{remaining, children_left}
use Rattle.control_machine.specs.declared.stack.Frame.{Frame}
use Rattle.control_machine.specs.declared.position.Position.{Position}

-- how many children the elements have together
unfoldable pub children_count : List Element → ℕ
children_count [] = 0
children_count (e ∷ es) = length e.children + children_count es

-- more than all that can happen below an element where elements nest that deep
unfoldable pub scale : ℕ → ℕ → ℕ
scale children zero = 1
scale children (suc depth) = (children + 2) * scale children depth

-- the load of the open elements
unfoldable pub load : ℕ → List Frame → ℕ
load children [] = 0
load children (f ∷ fs) = suc (children_left f.cursor) * scale children f.depth + load children fs

-- with that of the group's round and of the rounds left
abbrev pub load_of : List Element → Position → ℕ
load_of elements m =
    load (children_count elements) m.stack.frames + (remaining m.group.pass + m.rounds) * scale (children_count elements) 31
