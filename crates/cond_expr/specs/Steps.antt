-- A reading as steps in the order of evaluation.
use Rattle.std.specs.Prelude.{◌≡◌, false, List, [], ◌∷◌, ◌++◌, refl}
use Rattle.std.proofs.Common.{ap, sym, ◌∙◌, append_assoc}
use Rattle.std.specs.Coded.{Coded, code_by, coded_list}
use Rattle.cond_expr.specs.contracts.cond.Step.{the_row}
use Rattle.cond_expr.specs.declared.value.CondValue.TheVariants.{Truth}
use Rattle.cond_expr.specs.declared.cond.Step.{Step}
use Rattle.cond_expr.specs.declared.cond.Step.TheVariants.{Value, Not, Apply}
use Rattle.cond_expr.specs.ConditionTree.{Reading, constant, negated, operated}

-- the operands' steps, the left before the right, and then the operator's
unfoldable pub steps_of : Reading → List Step
steps_of (constant v) = Value v ∷ []
steps_of (negated at r) = steps_of r ++ Not at ∷ []
steps_of (operated at op l r) = steps_of l ++ (steps_of r ++ Apply at op ∷ [])

-- the readings that steps leave, the last one first
unfoldable pub readings_after : List Step → List Reading → List Reading
readings_after [] rs = rs
readings_after (Value v ∷ ss) rs = readings_after ss (constant v ∷ rs)
readings_after (Not at ∷ ss) [] = []
readings_after (Not at ∷ ss) (r ∷ rs) = readings_after ss (negated at r ∷ rs)
readings_after (Apply at op ∷ ss) [] = []
readings_after (Apply at op ∷ ss) (r ∷ []) = []
readings_after (Apply at op ∷ ss) (r ∷ l ∷ rs) = readings_after ss (operated at op l r ∷ rs)

abbrev pub last_reading : List Reading → Reading
last_reading [] = constant (Truth false)
last_reading (r ∷ rs) = r

-- the reading that steps stand for
abbrev pub reading_of_steps : List Step → Reading
reading_of_steps ss = last_reading (readings_after ss [])

-- the steps are those of a reading
abbrev pub AreSteps : List Step → Type 0
AreSteps ss = (r : Reading) × (ss ≡ steps_of r)

readings_after-steps_of : (r : Reading) (ss : List Step) (rs : List Reading) → readings_after (steps_of r ++ ss) rs ≡ readings_after ss (r ∷ rs)
unfolding readings_after steps_of
readings_after-steps_of (constant v) ss rs = refl
readings_after-steps_of (negated at r) ss rs =
    ap (λ x. readings_after x rs) (append_assoc (steps_of r) (Not at ∷ []) ss) ∙ readings_after-steps_of r (Not at ∷ ss) rs
readings_after-steps_of (operated at op l r) ss rs =
    ap (λ x. readings_after x rs) (append_assoc (steps_of l) (steps_of r ++ Apply at op ∷ []) ss ∙ ap (λ x. steps_of l ++ x) (append_assoc (steps_of r) (Apply at op ∷ []) ss))
    ∙ readings_after-steps_of l (steps_of r ++ Apply at op ∷ ss) rs ∙ readings_after-steps_of r (Apply at op ∷ ss) (l ∷ rs)

append-nil : (ss : List Step) → ss ++ [] ≡ ss
append-nil [] = refl
append-nil (s ∷ ss) = ap (λ x. s ∷ x) (append-nil ss)

-- the steps of a reading stand for it
pub reading_of_steps-steps_of : (r : Reading) → reading_of_steps (steps_of r) ≡ r
unfolding readings_after
reading_of_steps-steps_of r =
    ap (λ x. last_reading (readings_after x [])) (sym (append-nil (steps_of r))) ∙ ap last_reading (readings_after-steps_of r [] [])

-- a reading is stored as its steps
abbrev pub reading_code : Coded Reading
reading_code = code_by (List Step) (coded_list the_row.coded) steps_of reading_of_steps reading_of_steps-steps_of
