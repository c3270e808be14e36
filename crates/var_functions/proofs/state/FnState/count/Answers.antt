use Rattle.std.proofs.Common.{◌≡◌, arith, rules, ap}
use Rattle.var_functions.specs.FunctionState.{Functions}
use Rattle.var_functions.proofs.LaterLaws.{later_count}
use Rattle.var_functions.proofs.state.FnState.count.Goals as goal

pub returns-clause-later : goal.returns-clause-later
returns-clause-later c =
    let is : c.self.inside.counted ≡ c.args.self.now.counted = ap (λ (f : Functions). f.counted) c.self.view_is in
    later_count _ _ (search rules) (omega (arith, is))
