use Rattle.std.proofs.Common.{◌≡◌, ◌++◌, drop, map}
use Rattle.config_elements.specs.RoundStart.{feed_of}
use Rattle.config_elements.proofs.state.feeds_of.Given as goal

abbrev pub invariant-numbers : goal.invariant-numbers
invariant-numbers l = l.feeds.items ++ map (feed_of l.plan.elements) (drop l.number-index l.numbers) ≡ map (feed_of l.plan.elements) l.numbers
