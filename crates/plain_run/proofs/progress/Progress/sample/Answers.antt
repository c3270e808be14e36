use Rattle.plain_run.proofs.StepLaws.{no-unit, sampler-runs, sampler-refused, sampler-cut, refused-runs}
use Rattle.plain_run.proofs.UnderWay.{at-start, runs-cut}
use Rattle.plain_run.proofs.progress.Progress.sample.Goals as goal

pub returns-then-self-eq0 : goal.returns-then-self-eq0
returns-then-self-eq0 g c = no-unit _ (g.O.Outside.account c.args.outside.now) c.args.self.now c.args.plan.now.elements c.args.number c.args.at_failure c.if-self-eq0.true

pub returns-in_err-scope : goal.returns-in_err-scope
returns-in_err-scope g c = runs-cut _ _ _ _ c.from_residual.result c.from_residual.ensures.1 (at-start _ _)

pub returns-in-Ok : goal.returns-in-Ok
returns-in-Ok g c =
    sampler-runs _ _ c.args.self.now c.args.plan.now.elements c.args.number c.args.at_failure c.if-self-eq0.false c.run_one-came.new.state c.in-Ok.field-0
    (rw c.in_ok-scope.ensures.package at c.in-Ok.ensures.came) c.show.new.self c.show.result c.show.ensures

pub returns-in-Err : goal.returns-in-Err
returns-in-Err g c = refused-runs c.refused.result c.in-Err.error c.refused.ensures
    (λ is. sampler-refused _ _ c.args.self.now c.args.plan.now.elements c.args.number c.args.at_failure c.if-self-eq0.false c.run_one-came.new.state c.in-Err.error
    (rw c.in_ok-scope.ensures.package at c.in-Err.ensures.came) is)
    (λ is. sampler-cut _ _ c.args.self.now c.args.plan.now.elements c.args.number c.args.at_failure c.if-self-eq0.false c.run_one-came.new.state c.in-Err.error
    (rw c.in_ok-scope.ensures.package at c.in-Err.ensures.came) is)
