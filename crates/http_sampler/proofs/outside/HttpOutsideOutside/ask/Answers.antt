use Rattle.std.proofs.Common.{refl, ap}
use Rattle.http_sampler.specs.Outsides.{both_faults}
use Rattle.http_sampler.proofs.Outcomes.{if_ok, on_err, on_err_always}
use Rattle.http_sampler.proofs.Accounts.{goes_asking, both_by_script, both_by_dialer}
use Rattle.http_sampler.proofs.outside.HttpOutsideOutside.ask.Goals as goal

pub returns-in-Script-clause-ok : goal.returns-in-Script-clause-ok
returns-in-Script-clause-ok g c = rw (← c.self.view_is)
    (if_ok c.ask.result _ _ (λ a counted. goes_asking _ _ _ c.args.sampler c.args.request.now a (both_by_script _ _ _ a counted)) c.ask.ensures.fault)

pub returns-in-Script-clause-fault : goal.returns-in-Script-clause-fault
returns-in-Script-clause-fault g c = rw (← c.self.view_is)
    (if_ok c.ask.result _ _ (λ a counted. both_by_script _ _ _ a counted) c.ask.ensures.fault)

pub returns-in-Script-clause-err : goal.returns-in-Script-clause-err
returns-in-Script-clause-err g c = rw (← c.self.view_is)
    (on_err c.ask.result _ _ (λ told. record { origin = refl; told = refl; value = refl; faults = ap (λ n. both_faults n (g.D.Dialer.faults c.self.inside.dialer)) told.faults })
    c.ask.ensures.err)

pub returns-in-Http-clause-ok : goal.returns-in-Http-clause-ok
returns-in-Http-clause-ok g c = rw (← c.self.view_is)
    (if_ok c.ask_peer.result _ _ (λ a counted. goes_asking _ _ _ c.args.sampler c.args.request.now a (both_by_dialer _ _ _ a counted)) c.ask_peer.ensures.faults)

pub returns-in-Http-clause-fault : goal.returns-in-Http-clause-fault
returns-in-Http-clause-fault g c = rw (← c.self.view_is)
    (if_ok c.ask_peer.result _ _ (λ a counted. both_by_dialer _ _ _ a counted) c.ask_peer.ensures.faults)

pub returns-in-Http-clause-err : goal.returns-in-Http-clause-err
returns-in-Http-clause-err g c = rw (← c.self.view_is)
    (on_err c.ask_peer.result _ _ (λ calm. record { origin = refl; told = refl; value = refl; faults = ap (both_faults c.self.inside.script.faults) calm }) c.ask_peer.ensures.calm)

pub returns-in-Script-clause-unscripted : goal.returns-in-Script-clause-unscripted
returns-in-Script-clause-unscripted g c = rw (← c.self.view_is) c.ask.ensures.err

pub returns-in-Http-clause-unscripted : goal.returns-in-Http-clause-unscripted
returns-in-Http-clause-unscripted g c = rw (← c.self.view_is) (on_err_always c.ask_peer.result _ (record { origin = refl; told = refl; value = refl; faults = refl }))
