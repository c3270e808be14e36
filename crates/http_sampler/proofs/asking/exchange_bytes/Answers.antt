use Rattle.std.proofs.Common.{◌∙◌, subst}
use Rattle.jm_base.specs.FaultCounts.{Rose}
use Rattle.http_sampler.specs.Exchanges.{Settles, in_receiving, IsOpen, all_sent}
use Rattle.http_sampler.proofs.Moving.{moves_on}
use Rattle.http_sampler.proofs.Outcomes.{unsent_outcome, settled_outcome, ended_outcome, on_err_always}
use Rattle.http_sampler.proofs.asking.exchange_bytes.Goals as goal

pub returns-in-Err-clause-outcome : goal.returns-in-Err-clause-outcome
returns-in-Err-clause-outcome g c =
    unsent_outcome _ _ _ _ _ _ _ _ c.args.request.now c.args.head_only c.in-Err.ensures.prefix c.in-Err.ensures.given c.in-Err.ensures.left c.in-Err.ensures.cause

pub returns-in-Settled-clause-outcome : goal.returns-in-Settled-clause-outcome
returns-in-Settled-clause-outcome g c =
    let received = rw c.in-Settled.is at c.in_ok-receive_all.ensures.received in
    settled_outcome _ _ c.args.request.now received.0 c.args.head_only c.receive_all.new.reader c.outcome_of.result
    (moves_on _ _ _ _ _ _ _ _ _ _ _ _ c.args.request.now received.0 c.in-Ok.ensures.whole c.in-Ok.ensures.given c.in-Ok.ensures.left received.1)
    (received.2 ∙ c.in-Ok.ensures.ok)
    (subst (λ h. Settles h received.0 c.receive_all.new.reader) c.in_ok-reader.ensures.head_only received.3) c.outcome_of.ensures.done c.outcome_of.ensures.refused

pub returns-in-Settled-clause-memory : goal.returns-in-Settled-clause-memory
returns-in-Settled-clause-memory g c =
    let received = rw c.in-Settled.is at c.in_ok-receive_all.ensures.received in
    on_err_always c.outcome_of.result _ (all_sent {got = received.0}
    (moves_on _ _ _ _ _ _ _ _ _ _ _ _ c.args.request.now received.0 c.in-Ok.ensures.whole c.in-Ok.ensures.given c.in-Ok.ensures.left received.1)
    (received.2 ∙ c.in-Ok.ensures.ok))

pub returns-in-Ended-clause-outcome : goal.returns-in-Ended-clause-outcome
returns-in-Ended-clause-outcome g c =
    let received = rw c.in-Ended.is at c.in_ok-receive_all.ensures.received in
    ended_outcome _ _ c.args.request.now received.0 c.args.head_only _ c.outcome_of-in-Ended.result
    (moves_on _ _ _ _ _ _ _ _ _ _ _ _ c.args.request.now received.0 c.in-Ok.ensures.whole c.in-Ok.ensures.given c.in-Ok.ensures.left received.1)
    (received.2 ∙ c.in-Ok.ensures.ok) received.3 (received.5 ∙ c.in_ok-reader.ensures.head_only) (c.outcome_of-in-Ended.ensures.ended received.0 received.4)

pub returns-in-Ended-clause-memory : goal.returns-in-Ended-clause-memory
returns-in-Ended-clause-memory g c =
    let received = rw c.in-Ended.is at c.in_ok-receive_all.ensures.received in
    on_err_always c.outcome_of-in-Ended.result _ (all_sent {got = received.0}
    (moves_on _ _ _ _ _ _ _ _ _ _ _ _ c.args.request.now received.0 c.in-Ok.ensures.whole c.in-Ok.ensures.given c.in-Ok.ensures.left received.1)
    (received.2 ∙ c.in-Ok.ensures.ok))

pub returns-in_err-receive_all-clause-memory : goal.returns-in_err-receive_all-clause-memory
returns-in_err-receive_all-clause-memory g c =
    let took = c.in_err-receive_all.ensures.memory in
    on_err_always _ _ (all_sent {got = took.got}
    (moves_on _ _ _ _ _ _ _ _ _ _ _ _ c.args.request.now took.got c.in-Ok.ensures.whole c.in-Ok.ensures.given c.in-Ok.ensures.left took.moved)
    (took.kept ∙ c.in-Ok.ensures.ok))

pub returns-in-Failed-clause-outcome : goal.returns-in-Failed-clause-outcome
returns-in-Failed-clause-outcome g c =
    let received = rw c.in-Failed.is at c.in_ok-receive_all.ensures.received in (
      subst (λ f. Rose f (g.S.Stream.faults c.receive_all.new.stream)) c.in-Ok.ensures.ok received.2,
      in_receiving {got = received.0}
          (moves_on _ _ _ _ _ _ _ _ _ _ _ _ c.args.request.now received.0 c.in-Ok.ensures.whole c.in-Ok.ensures.given c.in-Ok.ensures.left received.1)
          (subst (λ h. IsOpen h received.0) c.in_ok-reader.ensures.head_only received.3),
    )
