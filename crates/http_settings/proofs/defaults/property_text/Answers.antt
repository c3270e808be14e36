use Rattle.std.specs.Prelude.{List, ℕ, Option, []}
use Rattle.jm_base.specs.Run.{over}
use Rattle.jm_base.specs.Outside.{Goes}
use Rattle.jm_base.proofs.RunLaws.{goes-nothing}
use Rattle.template_text.specs.Pieces.{Pieces}
use Rattle.var_functions.specs.Came.{CameTo}
use Rattle.var_functions.proofs.LaterLaws.{later_same}
use Rattle.std.proofs.Common.{refl, subst}
use Rattle.trials.specs.Tried.{fine, past_limit}
use Rattle.trials.proofs.TrialLaws.{text-came}
use Rattle.http_settings.specs.RequestSettings.{text_or_empty}
use Rattle.http_settings.proofs.defaults.property_text.Goals as goal

pub returns-in-Some-clause-came : goal.returns-in-Some-clause-came
returns-in-Some-clause-came g c =
    let new = c.expand.new.state in
    subst (λ (o : Option Pieces). CameTo (g.O.Outside.account c.args.outside.now) (text_or_empty o c.args.state.now) (g.O.Outside.account c.expand.new.outside)
    (λ (t : List ℕ). over (fine t new)) (over (past_limit new)) c.expand.result) c.in-Some.ensures
    (text-came _ _ c.in-Some.template.now c.args.state.now new c.expand.result c.expand.ensures.came c.expand.ensures.vars)

pub returns-in-Some-clause-stands : goal.returns-in-Some-clause-stands
returns-in-Some-clause-stands g c = record { vars = c.expand.ensures.vars; fns = c.expand.ensures.later }

pub returns-in-None-clause-came : goal.returns-in-None-clause-came
returns-in-None-clause-came g c =
    subst (λ (o : Option Pieces). Goes (g.O.Outside.account c.args.outside.now) (text_or_empty o c.args.state.now) [] (over (fine c.of.result c.args.state.now)) (g.O.Outside.account c.args.outside.now)) c.in-None.ensures
    (rw (c.of.ensures, c.new.ensures.items) (goes-nothing _ _))

pub returns-in-None-clause-stands : goal.returns-in-None-clause-stands
returns-in-None-clause-stands g c = record { vars = refl; fns = later_same _ }
