use Rattle.http_sampler.proofs.Outcomes.{outcome_as}
use Rattle.http_sampler.proofs.asking.exchange.Goals as goal

pub returns-clause-outcome : goal.returns-clause-outcome
returns-clause-outcome g c = outcome_as _ _ _ _ c.args.head_only c.exchange_bytes.result c.bytes.ensures c.exchange_bytes.ensures.outcome
