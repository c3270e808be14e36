use Rattle.std.proofs.Common.{List, ℕ, ap, ◌∙◌, subst}
use Rattle.jm_base.specs.Run.{over}
use Rattle.element_tree.specs.Scope.{Scope}
use Rattle.http_text.specs.declared.request.HttpSettings.{HttpSettings}
use Rattle.var_functions.specs.Came.{CameTo}
use Rattle.trials.specs.Tried.{fine, past_limit}
use Rattle.http_settings.specs.RequestSettings as meant
use Rattle.http_settings.proofs.request.settings.Goals as goal

pub returns-clause-came : goal.returns-clause-came
returns-clause-came g c =
    let new = c.settings_with.new.state in
    subst (λ (cs : List ℕ). CameTo (g.O.Outside.account c.args.outside.now) (meant.settings c.args.plan.now.elements cs c.args.sampler c.args.state.now) (g.O.Outside.account c.settings_with.new.outside)
    (λ (s : HttpSettings). over (fine s new)) (over (past_limit new)) c.settings_with.result)
    (c.as_slice.ensures.value ∙ ap (λ (s : Scope). s.config) c.scope.view_is) c.settings_with.ensures.came

pub returns-clause-later : goal.returns-clause-later
returns-clause-later g c = c.settings_with.ensures.stands.fns

pub returns-clause-vars : goal.returns-clause-vars
returns-clause-vars g c = c.settings_with.ensures.stands.vars
