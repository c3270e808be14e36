use Rattle.std.proofs.Common.{refl}
use Rattle.sampler_pipeline.proofs.ExchangeLaws.{on_err, unasked_goes, none_read, one_read, both_read}
use Rattle.sampler_pipeline.proofs.exchange.leave_unasked.Goals as goal

pub returns-clause-done : goal.returns-clause-done
returns-clause-done g c =
    unasked_goes c.in_ok-earlier.earlier c.in_ok-later.later c.in_ok-earlier.ensures.ok c.in_ok-later.ensures.ok _
    (rw (c.answered.ensures, c.capped.ensures, c.saturating_sub.ensures, c.in_ok-reply.ensures) refl)

pub returns-in_err-earlier-clause-cut : goal.returns-in_err-earlier-clause-cut
returns-in_err-earlier-clause-cut g c = on_err c.from_residual.result _ (none_read _ _ c.in_err-earlier.ensures.err)

pub returns-in_err-later-clause-cut : goal.returns-in_err-later-clause-cut
returns-in_err-later-clause-cut g c = on_err c.from_residual-in_err-later.result _ (one_read _ _ _ c.in_ok-earlier.earlier c.in_ok-earlier.ensures.ok c.in_err-later.ensures.err)

pub returns-in_err-reply-clause-cut : goal.returns-in_err-reply-clause-cut
returns-in_err-reply-clause-cut g c = on_err c.from_residual-in_err-reply.result _
    (both_read _ _ _ c.in_ok-earlier.earlier c.in_ok-later.later c.in_ok-earlier.ensures.ok c.in_ok-later.ensures.ok)
