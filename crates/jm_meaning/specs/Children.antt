-- What controllers make of their children.
use Rattle.std.specs.Prelude.{ℕ, List, [], ◌∷◌, Option, Some, None, Bool, true, false, take, ◌==◌, if◌then◌else◌}
use Rattle.jm_base.specs.Run.{over}
use Rattle.element_tree.specs.declared.kinds.Element.{Element}
use Rattle.cursor_steps.specs.RunningChildren.{runs_of}
use Rattle.logic_controllers.specs.IfController.{is_true}
use Rattle.jm_meaning.specs.State.{Part, normal, and_then, Try, tried}

-- the meaning of an element by its number, in a round of its nearest looping ancestor
abbrev pub Below : Type 0
Below = ℕ → ℕ → Part

-- The children of an element that are controllers or samplers, in order. A place among them has 16 bits, which the
-- children of no plan fill.
abbrev pub children_of : List Element → Element → List ℕ
children_of elements e = take 65535 (runs_of elements e)

-- children one after another, up to the first signal that isn't Normal
abbrev pub in_order : Below → ℕ → List ℕ → Part
in_order below round [] s = over (normal s)
in_order below round (c ∷ cs) s = and_then (below c round s) (in_order below round cs)

-- the child that was chosen, or nothing
abbrev pub one_of : Below → ℕ → Option ℕ → Part
one_of below round None s = over (normal s)
one_of below round (Some c) s = below c round s

-- Once Only: in the first round alone
abbrev pub once_only : Below → ℕ → List ℕ → Part
once_only below round children s = if round == 0 then in_order below round children s else over (normal s)

-- If: once on entry, or before each child
abbrev pub if_once : Below → ℕ → List ℕ → Try (List ℕ) → Part
if_once below round children text s = tried text s (λ x s. if is_true x then in_order below round children s else over (normal s))

abbrev pub if_each : Below → ℕ → List ℕ → Try (List ℕ) → Part
if_each below round [] text s = over (normal s)
if_each below round (c ∷ cs) text s =
    tried text s (λ x s. if is_true x then and_then (below c round s) (if_each below round cs text) else over (normal s))

abbrev pub if_part : Bool → Below → ℕ → List ℕ → Try (List ℕ) → Part
if_part true below round children text = if_each below round children text
if_part false below round children text = if_once below round children text
