-- What a condition is worth.
use Rattle.std.specs.Prelude.{ℕ, ℤ, nat_eq, Bool, true, false, not, ◌&&◌, ◌||◌, int_lt, int_le, List, [], ◌∷◌, Option, Some, None, Result, Ok, Err}
use Rattle.cond_expr.specs.declared.value.CondValue.{CondValue}
use Rattle.cond_expr.specs.declared.value.CondValue.TheVariants.{Number, Text, Truth}
use Rattle.cond_expr.specs.declared.value.Operator.{Operator}
use Rattle.cond_expr.specs.declared.value.Operator.TheVariants.{Or, And, Equal, NotEqual, Less, LessOrEqual, Greater, GreaterOrEqual}
use Rattle.cond_expr.specs.ConditionTree.{Reading, constant, negated, operated}
use Rattle.std.specs.Option.{option_map}
use Rattle.std.specs.Ordering.{int_eq}

-- both bytes for byte
abbrev pub same_text : List ℕ → List ℕ → Bool
same_text [] [] = true
same_text (x ∷ xs) (y ∷ ys) = nat_eq x y && same_text xs ys
same_text [] (y ∷ ys) = false
same_text (x ∷ xs) [] = false

abbrev pub same_truth : Bool → Bool → Bool
same_truth true q = q
same_truth false q = not q

-- whether two operands of one kind are equal
abbrev pub equality : CondValue → CondValue → Option Bool
equality (Number x) (Number y) = Some (int_eq x y)
equality (Text x) (Text y) = Some (same_text x y)
equality (Truth p) (Truth q) = Some (same_truth p q)
equality _ _ = None

-- two operands, where both are numbers
abbrev pub numbers : CondValue → CondValue → Option (ℤ × ℤ)
numbers (Number x) (Number y) = Some (x, y)
numbers _ _ = None

-- two operands, where both are truths
abbrev pub truths : CondValue → CondValue → Option (Bool × Bool)
truths (Truth p) (Truth q) = Some (p, q)
truths _ _ = None

-- what an operator makes of its operands, where they are of the right kind
abbrev pub applied : Operator → CondValue → CondValue → Option Bool
applied Or v w = option_map (λ t. t.0 || t.1) (truths v w)
applied And v w = option_map (λ t. t.0 && t.1) (truths v w)
applied Equal v w = equality v w
applied NotEqual v w = option_map not (equality v w)
applied Less v w = option_map (λ n. int_lt n.0 n.1) (numbers v w)
applied LessOrEqual v w = option_map (λ n. int_le n.0 n.1) (numbers v w)
applied Greater v w = option_map (λ n. int_lt n.1 n.0) (numbers v w)
applied GreaterOrEqual v w = option_map (λ n. int_le n.1 n.0) (numbers v w)

-- `!` takes a truth
abbrev pub opposite : CondValue → Option Bool
opposite (Truth p) = Some (not p)
opposite (Number x) = None
opposite (Text x) = None

-- the truth, or a fault at the operator's place
abbrev pub truth_or_fault : ℕ → Option Bool → Result CondValue ℕ
truth_or_fault at (Some p) = Ok (Truth p)
truth_or_fault at None = Err at

infixl 10 ◌>>=◌
abbrev pub ◌>>=◌ : {A B : Type 0} → Result A ℕ → (A → Result B ℕ) → Result B ℕ
(Ok x) >>= f = f x
(Err at) >>= f = Err at

-- The value, or the place of the first operator, in the order of evaluation, with an operand of the wrong kind.
-- Both sides are always evaluated, the left before the right.
unfoldable pub value_of : Reading → Result CondValue ℕ
value_of (constant v) = Ok v
value_of (negated at r) = value_of r >>= λ v. truth_or_fault at (opposite v)
value_of (operated at op l r) = value_of l >>= λ v. value_of r >>= λ w. truth_or_fault at (applied op v w)
