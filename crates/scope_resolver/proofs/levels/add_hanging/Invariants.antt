use Rattle.std.proofs.Common.{◌≡◌, ◌++◌}
use Rattle.std.specs.List.{filter, range_with_len}
use Rattle.scope_resolver.specs.Ancestry.{hangs_by}
use Rattle.scope_resolver.specs.Scoping.{parent_in}
use Rattle.scope_resolver.proofs.levels.add_hanging.Given as goal

abbrev pub invariant-elements : goal.invariant-elements
invariant-elements l = l.found.items ≡ l.initial.found.items ++ filter (hangs_by (parent_in l.elements) l.level) (range_with_len 0 l.number)
