-- The grammar of conditions.
use Rattle.std.specs.Prelude.{◌≡◌, ℕ, suc, List, [], ◌∷◌, ◌++◌, length}
use Rattle.cond_expr.specs.declared.value.CondValue.{CondValue}
use Rattle.cond_expr.specs.declared.value.Operator.{Operator}
use Rattle.cond_expr.specs.declared.value.Operator.TheVariants.{Or, And, Equal, NotEqual, Less, LessOrEqual, Greater, GreaterOrEqual}
use Rattle.cond_expr.specs.declared.token.Token.{Token}
use Rattle.cond_expr.specs.declared.token.Token.TheVariants.{Value, Not, Open, Close, Operate}
use Rattle.cond_expr.specs.Tokens.{Placed, tokens}
use Rattle.cond_expr.specs.ConditionTree.{Reading, constant, negated, operated}

-- from the weakest to the strongest
pub data Strength : Type 0 where
  disjunction : Strength
  conjunction : Strength
  comparison : Strength
  operand : Strength

abbrev pub placed : ℕ → Token → Placed
placed at token = record { at = at; token = token }

abbrev pub IsComparison : Operator → Type 0
IsComparison Or = ⊥
IsComparison And = ⊥
IsComparison Equal = Unit {0}
IsComparison NotEqual = Unit {0}
IsComparison Less = Unit {0}
IsComparison LessOrEqual = Unit {0}
IsComparison Greater = Unit {0}
IsComparison GreaterOrEqual = Unit {0}

-- Tokens and what they are read as, where that many parentheses and `!` may still be opened.
pub data Reads : Strength → ℕ → List Placed → Reading → Type 0 where
  -- a number, a text or a truth
  value : (levels at : ℕ) (v : CondValue) → Reads operand levels (placed at (Value v) ∷ []) (constant v)
  -- `!` and an operand
  negation : (levels at : ℕ) (ts : List Placed) (r : Reading) → Reads operand levels ts r → Reads operand (suc levels) (placed at Not ∷ ts) (negated at r)
  -- a condition in parentheses
  group : (levels at to : ℕ) (ts : List Placed) (r : Reading) → Reads disjunction levels ts r → Reads operand (suc levels) (placed at Open ∷ ts ++ placed to Close ∷ []) r
  -- a comparison between two operands, and no more than one
  compare : (levels at : ℕ) (op : Operator) (ts us : List Placed) (l r : Reading) → IsComparison op →
      Reads operand levels ts l → Reads operand levels us r → Reads comparison levels (ts ++ placed at (Operate op) ∷ us) (operated at op l r)
  -- `&&`, from left to right
  both : (levels at : ℕ) (ts us : List Placed) (l r : Reading) →
      Reads conjunction levels ts l → Reads comparison levels us r → Reads conjunction levels (ts ++ placed at (Operate And) ∷ us) (operated at And l r)
  -- `||`, from left to right
  either : (levels at : ℕ) (ts us : List Placed) (l r : Reading) →
      Reads disjunction levels ts l → Reads conjunction levels us r → Reads disjunction levels (ts ++ placed at (Operate Or) ∷ us) (operated at Or l r)
  -- what binds more strongly stands where what binds less strongly may
  one_operand : (levels : ℕ) (ts : List Placed) (r : Reading) → Reads operand levels ts r → Reads comparison levels ts r
  one_comparison : (levels : ℕ) (ts : List Placed) (r : Reading) → Reads comparison levels ts r → Reads conjunction levels ts r
  one_conjunction : (levels : ℕ) (ts : List Placed) (r : Reading) → Reads conjunction levels ts r → Reads disjunction levels ts r

-- how deep parentheses and `!` together may nest
abbrev pub max_depth : ℕ
max_depth = 64

-- these tokens are a condition with this reading
abbrev pub IsConditionOf : List Placed → Reading → Type 0
IsConditionOf ts r = Reads disjunction max_depth ts r

-- the text is a condition with this reading
abbrev pub IsReadingOf : List ℕ → Reading → Type 0
IsReadingOf text r = IsConditionOf (tokens text) r

-- some condition begins with these tokens
abbrev pub BeginsCondition : List Placed → Type 0
BeginsCondition ts = (more : List Placed) × (r : Reading) × IsConditionOf (ts ++ more) r

-- The tokens can stand, and the next one can't, or there is no next one and they are no condition.
abbrev pub StopsAt : ℕ → List Placed → List Placed → ℕ → Type 0
StopsAt end before [] at = (at ≡ end) × ((r : Reading) → IsConditionOf before r → ⊥)
StopsAt end before (t ∷ after) at = (at ≡ t.at) × (BeginsCondition (before ++ t ∷ []) → ⊥)

-- The first place that can't stand: the first byte of a token (an unknown one stands nowhere), or the length of the text.
pub record IsFaultOf (text : List ℕ) (at : ℕ) : Type 0 where
  pub before : List Placed
  pub after : List Placed
  pub all : tokens text ≡ before ++ after
  pub stands : BeginsCondition before
  pub stops : StopsAt (length text) before after at
