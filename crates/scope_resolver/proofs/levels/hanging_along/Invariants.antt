use Rattle.std.proofs.Common.{◌≡◌, take}
use Rattle.std.specs.List.{flat_map}
use Rattle.scope_resolver.specs.Scoping.{hanging_on}
use Rattle.scope_resolver.proofs.levels.hanging_along.Given as goal

abbrev pub invariant-levels : goal.invariant-levels
invariant-levels l = l.found.items ≡ flat_map (hanging_on l.elements) (take l.level-index l.line)
