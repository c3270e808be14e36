use Rattle.http_settings.specs.RequestSettings.{gives}
use Rattle.http_settings.proofs.GiverLaws.{next-giver}
use Rattle.http_settings.proofs.defaults.last_giver.Goals as goal

pub numbers-preserved : goal.numbers-preserved
numbers-preserved c =
    next-giver (gives c.args.property c.args.plan.now.elements) c.args.numbers.now c.numbers.number-index c.numbers.found c.later_giver-found.result _
    c.numbers-test.true c.later_giver-found.ensures c.numbers.invariant
