use Rattle.std.proofs.lemmas.Result.{err_from_is_err_and}
use Rattle.jm_base.proofs.RunLaws.{goes-nothing, goes-tells_nothing}
use Rattle.var_functions.specs.Came.{by_memory}
use Rattle.sampler_pipeline.proofs.StageLaws.{paused, not-paused}
use Rattle.sampler_pipeline.proofs.pre.pause.Goals as goal

pub returns-then-ms-eq0 : goal.returns-then-ms-eq0
returns-then-ms-eq0 g c = record { came = not-paused _ c.args.ms c.args.state.now c.if-ms-eq0.true }

pub returns : goal.returns
returns g c = record { came = paused _ _ c.args.ms c.args.state.now c.if-ms-eq0.false c.in_ok-pause.ensures.ok }

pub returns-in_err-pause : goal.returns-in_err-pause
returns-in_err-pause g c =
    let out = err_from_is_err_and c.from_residual.result c.from_residual.ensures.1 in
    rw (out.1, out.2) (record { came = by_memory (_, goes-tells_nothing (goes-nothing _ _) c.in_err-pause.ensures.err) })
