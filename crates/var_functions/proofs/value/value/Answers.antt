use Rattle.std.proofs.Common.{ap}
use Rattle.std.specs.Option.{option_map}
use Rattle.var_functions.specs.Functions.{value}
use Rattle.var_functions.specs.Texts.{value_bytes}
use Rattle.var_functions.proofs.Expanding.{nothing_told, read_value, known, here_left}
use Rattle.var_functions.proofs.LaterLaws.{later_same}
use Rattle.var_functions.proofs.value.value.Goals as goal

pub returns-in_err-now-in-Time-clause-cut : goal.returns-in_err-now-in-Time-clause-cut
returns-in_err-now-in-Time-clause-cut g c = nothing_told _ _ _ c.from_residual.result c.in_err-now-in-Time.ensures.err

pub returns-in_ok-now-in-Time-clause-ok : goal.returns-in_ok-now-in-Time-clause-ok
returns-in_ok-now-in-Time-clause-ok g c =
    rw c.count_value.ensures (read_value _ _ _ c.in_ok-now-in-Time.now c.args.fns.now (ap (λ f. value f c.args.args.now c.args.vars.now c.args.fns.now) c.in-Time.is) c.in_ok-now-in-Time.ensures.ok)

pub returns-in_default-clause-ok : goal.returns-in_default-clause-ok
returns-in_default-clause-ok g c = known (option_map value_bytes) _ _ c.kept_value.new.fns c.kept_value.result c.kept_value.ensures.value

pub returns-in_default-clause-cut : goal.returns-in_default-clause-cut
returns-in_default-clause-cut g c = here_left _ _ c.kept_value.result

pub returns-in_err-now-in-Time-clause-later : goal.returns-in_err-now-in-Time-clause-later
returns-in_err-now-in-Time-clause-later g c = later_same _

pub returns-in_ok-now-in-Time-clause-later : goal.returns-in_ok-now-in-Time-clause-later
returns-in_ok-now-in-Time-clause-later g c = later_same _
