use Rattle.std.proofs.lemmas.Result.{err_from_is_err_and}
use Rattle.jm_base.specs.Run.{over}
use Rattle.jm_base.proofs.RunLaws.{goes-bind}
use Rattle.var_functions.specs.Came.{by_memory}
use Rattle.trials.specs.Tried.{fine}
use Rattle.sampler_pipeline.proofs.run.exchange_for.Goals as goal

pub returns : goal.returns
returns g c = record { came = goes-bind (λ x. over (fine x c.args.state.now)) c.in_ok-exchange.ensures.done }

pub returns-in_err-exchange : goal.returns-in_err-exchange
returns-in_err-exchange g c =
    let out = err_from_is_err_and c.from_residual.result c.from_residual.ensures.1 in
    rw (out.1, out.2) (record { came = by_memory (_, goes-bind (λ x. over (fine x c.args.state.now)) c.in_err-exchange.ensures.cut.1) })
