-- The reading of a condition: its tree.
use Rattle.std.specs.Prelude.{ℕ}
use Rattle.cond_expr.specs.declared.value.CondValue.{CondValue}
use Rattle.cond_expr.specs.declared.value.Operator.{Operator}

-- A number, a text or a truth; `!` at a place over an operand; an operator at a place between two operands.
pub data Reading : Type 0 where
  constant : CondValue → Reading
  negated : (at : ℕ) → Reading → Reading
  operated : (at : ℕ) → Operator → (left right : Reading) → Reading
