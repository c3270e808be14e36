use Rattle.std.proofs.Common.{◌≡◌, take}
use Rattle.std.specs.List.{filter}
use Rattle.scope_resolver.specs.Scoping.{is_of_class}
use Rattle.scope_resolver.proofs.scope.of_class.Given as goal

abbrev pub invariant-numbers : goal.invariant-numbers
invariant-numbers l = l.found.items ≡ filter (is_of_class l.plan.elements l.class) (take l.number-index l.numbers)
