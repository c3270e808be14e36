use Rattle.std.proofs.Common.{◌≡◌, ◌++◌}
use Rattle.std.specs.List.{filter, range_with_len}
use Rattle.config_elements.specs.RoundStart.{is_advancing}
use Rattle.config_elements.proofs.state.add_all.Given as goal

abbrev pub invariant-elements : goal.invariant-elements
invariant-elements l = l.numbers.items ≡ l.fn.numbers.items ++ filter (is_advancing l.sort l.plan.elements l.group) (range_with_len 0 l.number)
