use Rattle.std.proofs.Common.{◌≡◌}
use Rattle.config_elements.specs.RoundStart.{AreFed}
use Rattle.config_elements.proofs.FeedLaws.{FedSoFar}
use Rattle.config_elements.proofs.rounds.feed_all.Given as goal

abbrev pub invariant-feeds : goal.invariant-feeds
invariant-feeds l = record {
  fed : AreFed l.plan.elements l.feeds → FedSoFar l.plan.elements l.feeds l.feed-index l.fn.places.items l.fn.state l.places.items l.state;
  fns : l.state.fns ≡ l.fn.state.fns;
}
