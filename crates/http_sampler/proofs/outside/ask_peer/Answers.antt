use Rattle.http_sampler.proofs.Outcomes.{if_ok, on_err}
use Rattle.http_sampler.proofs.Accounts.{answered_by, given_up_by, counted_outcome, counted_given_up}
use Rattle.http_sampler.proofs.outside.ask_peer.Goals as goal

pub returns-clause-answered : goal.returns-clause-answered
returns-clause-answered g c = answered_by _ _ _ _ _ c.args.request.now c.is_head.result c.exchange_bytes-outcome.result
    c.in-Ok.ensures.fresh c.in-Ok.ensures.spent c.hang_up.ensures.spent c.is_head.ensures c.exchange_bytes-outcome.ensures.outcome

pub returns-clause-memory : goal.returns-clause-memory
returns-clause-memory g c = given_up_by _ _ _ _ _ c.args.request.now c.exchange_bytes-outcome.result
    c.in-Ok.ensures.fresh c.in-Ok.ensures.spent c.hang_up.ensures.spent c.exchange_bytes-outcome.ensures.memory

pub returns-clause-faults : goal.returns-clause-faults
returns-clause-faults g c =
    if_ok c.exchange_bytes-outcome.result _ _
    (λ o out. counted_outcome _ _ _ _ _ c.args.request.now _ o c.in-Ok.ensures.ok c.in-Ok.ensures.fresh.2 out c.hang_up.ensures.kept c.hang_up.ensures.counted)
    c.exchange_bytes-outcome.ensures.outcome

pub returns-clause-calm : goal.returns-clause-calm
returns-clause-calm g c =
    on_err c.exchange_bytes-outcome.result _ _
    (λ given_up. counted_given_up _ _ _ _ _ c.args.request.now c.in-Ok.ensures.ok c.in-Ok.ensures.fresh.2 given_up c.hang_up.ensures.kept)
    c.exchange_bytes-outcome.ensures.memory
