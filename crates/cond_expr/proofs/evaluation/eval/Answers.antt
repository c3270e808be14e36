use Rattle.std.proofs.Common.{[], sym, ap, ◌∙◌, subst, arith}
use Rattle.std.proofs.lemmas.List.{drop_all}
use Rattle.cond_expr.specs.ConditionWorth.{value_of}
use Rattle.cond_expr.specs.Steps.{AreSteps, reading_of_steps}
use Rattle.cond_expr.specs.Piles.{outcome_of}
use Rattle.cond_expr.proofs.EvaluationLaws.{cond_outcome, first_step, ready, left_value, left_some}
use Rattle.cond_expr.proofs.evaluation.eval.Goals as goal

pub loop-step-init : goal.loop-step-init
loop-step-init c = (
  [],
  c.new-values.ensures.items,
  cond_outcome c.deref-step-items.result.now c.args.cond.now (subst AreSteps (sym c.deref-step-items.ensures.value) c.cond.invariant)
      (ap reading_of_steps c.deref-step-items.ensures.value ∙ c.cond.view_is),
)

pub advance-requires : goal.advance-requires
advance-requires c =
    let (ws, held, out) = c.loop-step.invariant in
    let prefix = first_step c.deref-step-items.result.now c.loop-step.step-index c.step-item.result c.loop-step-test.true c.step-item.is in
    ready c.step-item.result _ c.loop-step.values.items ws _ (value_of c.args.cond.now) c.loop-step.values.ok.0 held (ap (λ ss. outcome_of ss ws) (sym prefix) ∙ out)

pub loop-step-preserved : goal.loop-step-preserved
loop-step-preserved c =
    let (ws, held, out) = c.loop-step.invariant in
    let prefix = first_step c.deref-step-items.result.now c.loop-step.step-index c.step-item.result c.loop-step-test.true c.step-item.is in
    c.in_default.ensures _ ws (value_of c.args.cond.now) held (ap (λ ss. outcome_of ss ws) (sym prefix) ∙ out)

pub unreachable-requires : goal.unreachable-requires
unreachable-requires c =
    let (ws, held, out) = c.loop-step.invariant in
    let past = drop_all c.loop-step.step-index c.deref-step-items.result.now c.loop-step-test.false in
    let some = left_some c.loop-step.values.items ws _ (value_of c.args.cond.now) c.loop-step.values.ok.0 held (ap (λ ss. outcome_of ss ws) (sym past) ∙ out) in
    omega (arith, c.in-None.ensures.cases.0)

pub returns-clause-value : goal.returns-clause-value
returns-clause-value c =
    let (ws, held, out) = c.loop-step.invariant in
    let past = drop_all c.loop-step.step-index c.deref-step-items.result.now c.loop-step-test.false in
    left_value c.loop-step.values.items c.pop.new.self.items ws c.in-Some.value (value_of c.args.cond.now) held c.in-Some.ensures.items (ap (λ ss. outcome_of ss ws) (sym past) ∙ out)
