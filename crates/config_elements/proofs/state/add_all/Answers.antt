use Rattle.config_elements.specs.RoundStart.{is_advancing}
use Rattle.config_elements.proofs.FeedLaws.{one-more}
use Rattle.config_elements.proofs.state.add_all.Goals as goal

pub elements-preserved : goal.elements-preserved
elements-preserved c =
    one-more (is_advancing c.args.sort c.args.plan.now.elements c.args.group) c.elements.number c.args.numbers.now.items c.elements.numbers.items c.add_one.new.numbers.items
    c.elements.invariant c.in_ok-add_one.ensures
