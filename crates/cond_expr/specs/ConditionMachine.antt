-- How a condition is read, token by token, with what is still open.
use Rattle.std.specs.Prelude.{ℕ, suc, Bool, false, ◌&&◌, nat_lt, nat_le, List, [], ◌∷◌, length, Option, Some, None, Result, Ok, Err, if◌then◌else◌}
use Rattle.cond_expr.specs.declared.value.CondValue.{CondValue}
use Rattle.cond_expr.specs.declared.value.Operator.{Operator}
use Rattle.cond_expr.specs.declared.value.Operator.TheVariants.{Or, And, Equal, NotEqual, Less, LessOrEqual, Greater, GreaterOrEqual}
use Rattle.cond_expr.specs.declared.token.Token.{Token}
use Rattle.cond_expr.specs.declared.token.Token.TheVariants.{Value, Not, Open, Close, Operate, Unknown}
use Rattle.cond_expr.specs.Tokens.{Placed, tokens}
use Rattle.cond_expr.specs.ConditionTree.{Reading, constant, negated, operated}
use Rattle.cond_expr.specs.ConditionGrammar.{max_depth}
use Rattle.cond_expr.specs.ConditionWorth.{value_of}

-- what is open: a parenthesis, a `!`, or an operator with its left side
pub data Frame : Type 0 where
  group : Frame
  negation : (at : ℕ) → Frame
  left_side : (at : ℕ) → Operator → Reading → Frame

-- how strongly an operator binds
abbrev pub strength : Operator → ℕ
strength Or = 1
strength And = 2
strength Equal = 3
strength NotEqual = 3
strength Less = 3
strength LessOrEqual = 3
strength Greater = 3
strength GreaterOrEqual = 3

abbrev pub frame_strength : Frame → ℕ
frame_strength group = 0
frame_strength (negation at) = 4
frame_strength (left_side at op l) = strength op

-- the reading of a frame with its operand
abbrev pub closed : Frame → Reading → Reading
closed group r = r
closed (negation at) r = negated at r
closed (left_side at op l) r = operated at op l r

-- how many parentheses and `!` are open
abbrev pub depth_of : List Frame → ℕ
depth_of [] = 0
depth_of (group ∷ fs) = suc (depth_of fs)
depth_of (negation at ∷ fs) = suc (depth_of fs)
depth_of (left_side at op l ∷ fs) = depth_of fs

-- Either an operand has to come, or one has come. The innermost frame is first.
pub data State : Type 0 where
  awaiting : List Frame → State
  complete : List Frame → Reading → State

-- an operand has come: what is open and binds at least with this strength is closed over it
abbrev pub settled : ℕ → List Frame → Reading → State
settled s [] r = complete [] r
settled s (f ∷ fs) r = if nat_le s (frame_strength f) then settled s fs (closed f r) else complete (f ∷ fs) r

-- whether the operator would be a second comparison in a row
abbrev pub chains : Operator → List Frame → Bool
chains op [] = false
chains op (group ∷ fs) = false
chains op (negation at ∷ fs) = false
chains op (left_side at op' l ∷ fs) = nat_le 3 (strength op) && nat_le 3 (strength op')

abbrev pub operate : ℕ → Operator → State → Option State
operate at op (complete fs r) = Some (awaiting (left_side at op r ∷ fs))
operate at op (awaiting fs) = None

-- a closing parenthesis ends the innermost group
abbrev pub close : State → Option State
close (complete (group ∷ fs) r) = Some (settled 4 fs r)
close (complete (negation at ∷ fs) r) = None
close (complete (left_side at op l ∷ fs) r) = None
close (complete [] r) = None
close (awaiting fs) = None

abbrev pub open_frame : Frame → List Frame → Option State
open_frame f fs = if nat_lt (depth_of fs) max_depth then Some (awaiting (f ∷ fs)) else None

-- The state after a token, where it can stand.
abbrev pub next : ℕ → Token → State → Option State
next at (Value v) (awaiting fs) = Some (settled 4 fs (constant v))
next at Not (awaiting fs) = open_frame (negation at) fs
next at Open (awaiting fs) = open_frame group fs
next at (Operate op) (complete fs r) = if chains op fs then None else operate at op (settled (strength op) fs r)
next at Close (complete fs r) = close (settled 1 fs r)
next at Close (awaiting fs) = None
next at (Operate op) (awaiting fs) = None
next at Unknown (awaiting fs) = None
next at (Value v) (complete fs r) = None
next at Not (complete fs r) = None
next at Open (complete fs r) = None
next at Unknown (complete fs r) = None

-- the state after tokens, or the place of the first that can't stand
abbrev pub state_or_fault : ℕ → Option State → (State → Result State ℕ) → Result State ℕ
state_or_fault at None go = Err at
state_or_fault at (Some s) go = go s

unfoldable pub run : List Placed → State → Result State ℕ
run [] s = Ok s
run (t ∷ ts) s = state_or_fault t.at (next t.at t.token s) (run ts)

-- the reading of a state in which nothing is open
abbrev pub whole : ℕ → State → Result Reading ℕ
whole end (complete [] r) = Ok r
whole end (complete (f ∷ fs) r) = Err end
whole end (awaiting fs) = Err end

abbrev pub finish : ℕ → State → Result Reading ℕ
finish end (complete fs r) = whole end (settled 1 fs r)
finish end (awaiting fs) = Err end

abbrev pub or_else_fault : {A B : Type 0} → Result A ℕ → (A → Result B ℕ) → Result B ℕ
or_else_fault (Ok x) go = go x
or_else_fault (Err at) go = Err at

-- The reading of a text, or the place of its fault.
abbrev pub reading_of : List ℕ → Result Reading ℕ
reading_of text = or_else_fault (run (tokens text) (awaiting [])) (finish (length text))

-- The value of a text as a condition, or the place of its fault.
abbrev pub condition : List ℕ → Result CondValue ℕ
condition text = or_else_fault (reading_of text) value_of
