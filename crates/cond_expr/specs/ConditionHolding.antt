-- How a parser holds a state: the steps of what was read, and what is open with the innermost last.
use Rattle.std.specs.Prelude.{◌≡◌, ℕ, Bool, true, false, List, [], ◌∷◌, ◌++◌, Option, Some, None}
use Rattle.cond_expr.specs.declared.cond.Step.{Step}
use Rattle.cond_expr.specs.declared.parse.Pending.{Pending}
use Rattle.cond_expr.specs.declared.parse.Pending.TheVariants.{Group, Not, Operator as Left}
use Rattle.cond_expr.specs.declared.parse.Parser.{Parser}
use Rattle.cond_expr.specs.ConditionTree.{Reading}
use Rattle.cond_expr.specs.Steps.{steps_of}
use Rattle.cond_expr.specs.ConditionMachine.{Frame, group, negation, left_side, State, awaiting, complete, strength, frame_strength, depth_of}

abbrev pub shape : Frame → Pending
shape group = Group
shape (negation at) = Not at
shape (left_side at op l) = Left at op

abbrev pub shape_strength : Pending → ℕ
shape_strength Group = 0
shape_strength (Not at) = 4
shape_strength (Left at op) = strength op

abbrev pub pending_of : List Frame → List Pending
pending_of [] = []
pending_of (f ∷ fs) = pending_of fs ++ shape f ∷ []

-- the steps of the left sides
abbrev pub left_steps : List Frame → List Step
left_steps [] = []
left_steps (group ∷ fs) = left_steps fs
left_steps (negation at ∷ fs) = left_steps fs
left_steps (left_side at op l ∷ fs) = left_steps fs ++ steps_of l

abbrev pub top_strength : List Frame → ℕ
top_strength [] = 0
top_strength (f ∷ fs) = frame_strength f

-- a parenthesis or `!`
abbrev pub IsOpening : Frame → Type 0
IsOpening group = Unit {0}
IsOpening (negation at) = Unit {0}
IsOpening (left_side at op l) = ⊥

pub record IsHeld (parser : Parser) (awaits : Bool) (fs : List Frame) (steps : List Step) : Type 0 where
  pub awaits_is : parser.awaiting ≡ awaits
  pub steps_are : parser.steps.items ≡ steps
  pub pending_is : parser.pending.items ≡ pending_of fs
  pub depth_is : parser.depth ≡ depth_of fs

abbrev pub IsOperandHeld : Parser → List Frame → Reading → Type 0
IsOperandHeld parser fs r = IsHeld parser false fs (left_steps fs ++ steps_of r)

abbrev pub Holds : Parser → State → Type 0
Holds parser (awaiting fs) = IsHeld parser true fs (left_steps fs)
Holds parser (complete fs r) = IsOperandHeld parser fs r

-- whether a token stands, and the state after it
abbrev pub Takes : Bool → Option State → Parser → Type 0
Takes true (Some s) parser = Holds parser s
Takes true None parser = ⊥
Takes false (Some s) parser = ⊥
Takes false None parser = Unit {0}
