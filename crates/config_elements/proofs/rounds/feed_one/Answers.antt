use Rattle.config_elements.proofs.FeedLaws.{none-set}
use Rattle.config_elements.proofs.rounds.feed_one.Goals as goal

pub returns-in_err-advance-clause-cut : goal.returns-in_err-advance-clause-cut
returns-in_err-advance-clause-cut c = λ fed none. none-set c.args.plan.now.elements c.args.feed.now.number c.args.places.now.items c.args.state.now
