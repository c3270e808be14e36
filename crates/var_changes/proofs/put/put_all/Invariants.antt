use Rattle.std.specs.Prelude.{map}
use Rattle.var_changes.specs.Changes.{setting}
use Rattle.var_changes.proofs.ChangeLaws.{Standing}
use Rattle.var_changes.proofs.put.put_all.Given as goal

abbrev pub invariant-variables : goal.invariant-variables
invariant-variables l = Standing (map setting l.fn.variables.items) l.fn.vars (map setting l.variable-iterator.rest.items) l.vars
