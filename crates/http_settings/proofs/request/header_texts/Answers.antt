use Rattle.std.proofs.Common.{List, ap, ◌∙◌, subst}
use Rattle.std.proofs.lemmas.Result.{err_from_is_err_and}
use Rattle.jm_base.specs.Run.{over}
use Rattle.jm_base.proofs.RunLaws.{goes-nothing}
use Rattle.element_props.specs.declared.prop.Pair.{Pair}
use Rattle.http_text.specs.declared.request.NamedText.{NamedText}
use Rattle.var_functions.specs.Came.{CameTo, by_memory}
use Rattle.trials.specs.Tried.{fine, past_limit}
use Rattle.http_settings.specs.RequestSettings.{texts_of, pairs_seen}
use Rattle.http_settings.proofs.TextLaws.{stands-same}
use Rattle.http_settings.proofs.request.header_texts.Goals as goal

pub returns-clause-came : goal.returns-clause-came
returns-clause-came g c =
    let new = c.texts_of.new.state in
    subst (λ (ps : List Pair). CameTo (g.O.Outside.account c.args.outside.now) (texts_of ps c.args.state.now) (g.O.Outside.account c.texts_of.new.outside)
    (λ (texts : List NamedText). over (fine texts new)) (over (past_limit new)) c.texts_of.result)
    (ap pairs_seen c.as_slice.ensures.value ∙ c.in_ok-pairs.ensures) c.texts_of.ensures.came

pub returns-in_err-pairs-clause-came : goal.returns-in_err-pairs-clause-came
returns-in_err-pairs-clause-came g c =
    let out = err_from_is_err_and c.from_residual.result c.from_residual.ensures.1 in
    rw (out.1, out.2) (by_memory (_, goes-nothing _ _))

pub returns-in_err-pairs-clause-stands : goal.returns-in_err-pairs-clause-stands
returns-in_err-pairs-clause-stands g c = stands-same _
