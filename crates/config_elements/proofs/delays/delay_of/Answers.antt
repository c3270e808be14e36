use Rattle.std.proofs.lemmas.Result.{err_from_is_err_and}
use Rattle.std.proofs.Common.{arith, refl, ◌∙◌}
use Rattle.jm_base.proofs.RunLaws.{goes-nothing}
use Rattle.var_functions.proofs.LaterLaws.{later_same, later_then}
use Rattle.config_elements.proofs.DelayLaws.{timer_goes, timer_refused, timers_over}
use Rattle.config_elements.proofs.delays.delay_of.Goals as goal

pub timers-init : goal.timers-init
timers-init g c = record { goes = goes-nothing _ _; later = later_same _; vars = refl }

pub timers-preserved : goal.timers-preserved
timers-preserved g c =
    let i = c.timers.invariant in
    record {
      goes = timer_goes c.args.plan.now.elements _ c.args.numbers.now c.timers.number-index c.timers.sum c.in_ok-ms.ms c.sum_of-sum.result c.timers.state c.timer_at.new.state c.timers-test.true c.sum_of-sum.ensures
          i.goes c.in_ok-ms.ensures.came;
      later = later_then c.args.state.now.fns c.timers.state.fns c.timer_at.new.state.fns i.later c.in_ok-ms.ensures.later;
      vars = c.in_ok-ms.ensures.vars ∙ i.vars;
    }

pub returns-in_err-ms-clause-came : goal.returns-in_err-ms-clause-came
returns-in_err-ms-clause-came g c =
    let out = err_from_is_err_and c.from_residual.result c.from_residual.ensures.1 in
    rw (out.1, out.2) (timer_refused c.args.plan.now.elements _ c.args.numbers.now c.timers.number-index c.timers.sum c.timers.state c.timer_at.new.state c.in_err-ms.field-0.0 c.timers-test.true c.timers.invariant.goes c.in_err-ms.ensures.came)

pub returns-in_err-ms-clause-later : goal.returns-in_err-ms-clause-later
returns-in_err-ms-clause-later g c = later_then c.args.state.now.fns c.timers.state.fns c.timer_at.new.state.fns c.timers.invariant.later c.in_err-ms.ensures.later

pub returns-in_err-ms-clause-vars : goal.returns-in_err-ms-clause-vars
returns-in_err-ms-clause-vars g c = c.in_err-ms.ensures.vars ∙ c.timers.invariant.vars

pub returns-clause-came : goal.returns-clause-came
returns-clause-came g c = timers_over c.args.plan.now.elements _ c.args.numbers.now c.timers.number-index c.timers.sum c.timers.state (omega (arith, c.timers-test.false)) c.timers.invariant.goes
