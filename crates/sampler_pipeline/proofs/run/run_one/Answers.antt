use Rattle.std.proofs.lemmas.Result.{err_from_is_err_and}
use Rattle.var_functions.specs.Came.{by_memory}
use Rattle.sampler_pipeline.proofs.run.run_one.Goals as goal

pub returns-in_err-list-clause-came : goal.returns-in_err-list-clause-came
returns-in_err-list-clause-came g c =
    let out = err_from_is_err_and c.from_residual-in_err-list.result c.from_residual-in_err-list.ensures.1 in
    rw (out.1, out.2) (by_memory (_, c.in_ok-done.ensures.came))
