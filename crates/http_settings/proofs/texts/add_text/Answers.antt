use Rattle.std.specs.Prelude.{Ok, Err, List, [], ◌∷◌, ◌++◌}
use Rattle.std.proofs.Common.{sym, subst}
use Rattle.std.proofs.lemmas.Result.{err_from_is_err_and}
use Rattle.jm_base.specs.Outside.{Goes}
use Rattle.jm_base.proofs.RunLaws.{goes-bind}
use Rattle.http_text.specs.declared.request.NamedText.{NamedText}
use Rattle.var_functions.specs.Came.{by_memory}
use Rattle.trials.specs.Tried.{on_tried, text}
use Rattle.trials.proofs.TrialLaws.{then-refused, text-came}
use Rattle.http_settings.specs.RequestSettings.{named, texts_after}
use Rattle.http_settings.proofs.texts.add_text.Goals as goal

pub returns-clause-came : goal.returns-clause-came
returns-clause-came g c = λ more.
    let p = c.args.pair.now in
    let old = c.args.texts.now.items in
    subst (λ (ts : List NamedText). Goes (g.O.Outside.account c.args.outside.now) (texts_after old (p ∷ more) c.args.state.now) [] (texts_after ts more c.expand.new.state) (g.O.Outside.account c.expand.new.outside))
    (sym c.in_ok-push_text.ensures)
    (goes-bind (on_tried (λ value. texts_after (old ++ named p value ∷ []) more))
    (text-came _ _ p.value c.args.state.now c.expand.new.state (Ok c.in_ok-value.value) c.in_ok-value.ensures.came c.in_ok-value.ensures.vars))

pub returns-in_err-push_text-clause-came : goal.returns-in_err-push_text-clause-came
returns-in_err-push_text-clause-came g c = λ more.
    let p = c.args.pair.now in
    let out = err_from_is_err_and c.from_residual-in_err-push_text.result c.from_residual-in_err-push_text.ensures.1 in
    rw (out.1, out.2) (by_memory (
      _,
      goes-bind (on_tried (λ value. texts_after (c.args.texts.now.items ++ named p value ∷ []) more))
          (text-came _ _ p.value c.args.state.now c.expand.new.state (Ok c.in_ok-value.value) c.in_ok-value.ensures.came c.in_ok-value.ensures.vars),
    ))

pub returns-in_err-value-clause-came : goal.returns-in_err-value-clause-came
returns-in_err-value-clause-came g c = λ more.
    let p = c.args.pair.now in
    let out = err_from_is_err_and c.from_residual.result c.from_residual.ensures.1 in
    rw (out.1, out.2) (then-refused _ _ (text p.value) (λ value. texts_after (c.args.texts.now.items ++ named p value ∷ []) more) c.args.state.now c.expand.new.state c.in_err-value.field-0.0
    (text-came _ _ p.value c.args.state.now c.expand.new.state (Err c.in_err-value.field-0.0) c.in_err-value.ensures.came c.in_err-value.ensures.vars))

pub returns-clause-stands : goal.returns-clause-stands
returns-clause-stands g c = record { vars = c.in_ok-value.ensures.vars; fns = c.in_ok-value.ensures.later }

pub returns-in_err-push_text-clause-stands : goal.returns-in_err-push_text-clause-stands
returns-in_err-push_text-clause-stands g c = record { vars = c.in_ok-value.ensures.vars; fns = c.in_ok-value.ensures.later }

pub returns-in_err-value-clause-stands : goal.returns-in_err-value-clause-stands
returns-in_err-value-clause-stands g c = record { vars = c.in_err-value.ensures.vars; fns = c.in_err-value.ensures.later }
