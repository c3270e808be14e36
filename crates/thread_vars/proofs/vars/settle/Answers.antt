use Rattle.thread_vars.proofs.BesideLaws.{settled}
use Rattle.thread_vars.proofs.vars.settle.Goals as goal

pub returns-then-not-beside-clause-ok : goal.returns-then-not-beside-clause-ok
returns-then-not-beside-clause-ok c = settled c.args.name.now c.args.digits.now c.args.table.now c.kept.ensures c.args.ahead c.args.beside c.requires c.then-not-beside.either
