use Rattle.std.proofs.Common.{◌≡◌, ◌++◌, reverse}
use Rattle.scope_resolver.specs.Scoping.{line_to}
use Rattle.scope_resolver.proofs.levels.line_to.Given as goal

abbrev pub invariant-up : goal.invariant-up
invariant-up l = line_to l.plan.elements l.fn.number ≡ line_to l.plan.elements l.here ++ reverse l.line.items

abbrev pub decreases-up : goal.decreases-up
decreases-up l = l.here
