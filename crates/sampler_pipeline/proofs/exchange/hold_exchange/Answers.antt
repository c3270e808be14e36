use Rattle.std.proofs.Common.{refl}
use Rattle.sampler_pipeline.proofs.ExchangeLaws.{exchange_goes, on_err, not_begun, after_first, after_outcome, after_second}
use Rattle.sampler_pipeline.proofs.exchange.hold_exchange.Goals as goal

pub returns-clause-done : goal.returns-clause-done
returns-clause-done g c =
    exchange_goes c.args.number c.in_ok-first.first c.in_ok-second.second c.args.request.now c.in_ok-outcome.outcome
    c.in_ok-first.ensures.ok c.in_ok-outcome.ensures.ok c.in_ok-second.ensures.ok _
    (rw (c.answered.ensures, c.capped.ensures, c.saturating_sub.ensures, c.in_ok-reply.ensures) refl)

pub returns-in_err-first-clause-cut : goal.returns-in_err-first-clause-cut
returns-in_err-first-clause-cut g c = on_err c.from_residual.result _ (not_begun _ _ c.args.number c.args.request.now c.in_err-first.ensures.err)

pub returns-in_err-outcome-clause-cut : goal.returns-in_err-outcome-clause-cut
returns-in_err-outcome-clause-cut g c = on_err c.from_residual-in_err-outcome.result _
    (after_first _ _ _ c.args.number c.in_ok-first.first c.args.request.now c.in_ok-first.ensures.ok c.in_err-outcome.ensures.err)

pub returns-in_err-second-clause-cut : goal.returns-in_err-second-clause-cut
returns-in_err-second-clause-cut g c = on_err c.from_residual-in_err-second.result _
    (after_outcome _ _ _ _ c.args.number c.in_ok-first.first c.args.request.now c.in_ok-outcome.outcome c.in_ok-first.ensures.ok c.in_ok-outcome.ensures.ok c.in_err-second.ensures.err)

pub returns-in_err-reply-clause-cut : goal.returns-in_err-reply-clause-cut
returns-in_err-reply-clause-cut g c = on_err c.from_residual-in_err-reply.result _
    (after_second _ _ _ _ c.args.number c.in_ok-first.first c.in_ok-second.second c.args.request.now c.in_ok-outcome.outcome c.in_ok-first.ensures.ok c.in_ok-outcome.ensures.ok c.in_ok-second.ensures.ok)
