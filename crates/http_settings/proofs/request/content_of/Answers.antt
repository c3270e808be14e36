use Rattle.std.proofs.lemmas.Result.{err_from_is_err_and}
use Rattle.std.specs.Prelude.{Ok, Err, List, ℕ}
use Rattle.jm_base.specs.Run.{over}
use Rattle.jm_base.proofs.RunLaws.{goes-nothing}
use Rattle.http_text.specs.declared.request.NamedText.{NamedText}
use Rattle.trials.specs.Tried.{fine, past_limit, giving, ◌>=>◌}
use Rattle.trials.proofs.TrialLaws.{then-came, then-refused}
use Rattle.http_settings.specs.declared.defaults.Property.TheVariants.{Body}
use Rattle.http_settings.specs.declared.request.Content.{Content}
use Rattle.http_settings.specs.RequestSettings.{params_at, texts_of, property_text}
use Rattle.http_settings.proofs.TextLaws.{stands-then}
use Rattle.http_settings.proofs.request.content_of.Goals as goal

abbrev made : List NamedText → List ℕ → Content
made params body = record { params = params; body = body }

pub returns-clause-came : goal.returns-clause-came
returns-clause-came g c =
    let es = c.args.plan.now.elements in
    let n = c.args.sampler in
    let mid = c.param_texts.new.state in
    let new = c.property_text.new.state in
    let params = c.in_ok-params.params in
    let body = c.in_ok-body.body in
    then-came _ _ _ (texts_of (params_at es n)) (λ params. property_text Body es c.args.config.now n >=> λ body. giving (made params body)) c.args.state.now mid params
    (λ (x : Content). over (fine x new)) (over (past_limit new)) (Ok (made params body)) c.in_ok-params.ensures.came
    (then-came _ _ _ (property_text Body es c.args.config.now n) (λ body. giving (made params body)) mid new body
    (λ (x : Content). over (fine x new)) (over (past_limit new)) (Ok (made params body)) c.in_ok-body.ensures.came (goes-nothing _ _))

pub returns-in_err-body-clause-came : goal.returns-in_err-body-clause-came
returns-in_err-body-clause-came g c =
    let es = c.args.plan.now.elements in
    let n = c.args.sampler in
    let mid = c.param_texts.new.state in
    let new = c.property_text.new.state in
    let params = c.in_ok-params.params in
    let out = err_from_is_err_and c.from_residual-in_err-body.result c.from_residual-in_err-body.ensures.1 in
    rw (out.1, out.2) (then-came _ _ _ (texts_of (params_at es n)) (λ params. property_text Body es c.args.config.now n >=> λ body. giving (made params body)) c.args.state.now mid params
    (λ (x : Content). over (fine x new)) (over (past_limit new)) (Err c.in_err-body.field-0.0) c.in_ok-params.ensures.came
    (then-refused _ _ (property_text Body es c.args.config.now n) (λ body. giving (made params body)) mid new c.in_err-body.field-0.0 c.in_err-body.ensures.came))

pub returns-in_err-params-clause-came : goal.returns-in_err-params-clause-came
returns-in_err-params-clause-came g c =
    let es = c.args.plan.now.elements in
    let n = c.args.sampler in
    let out = err_from_is_err_and c.from_residual.result c.from_residual.ensures.1 in
    rw (out.1, out.2) (then-refused _ _ (texts_of (params_at es n)) (λ params. property_text Body es c.args.config.now n >=> λ body. giving (made params body)) c.args.state.now c.param_texts.new.state c.in_err-params.field-0.0
    c.in_err-params.ensures.came)

pub returns-clause-stands : goal.returns-clause-stands
returns-clause-stands g c = stands-then c.args.state.now c.param_texts.new.state c.property_text.new.state c.in_ok-params.ensures.stands c.in_ok-body.ensures.stands

pub returns-in_err-body-clause-stands : goal.returns-in_err-body-clause-stands
returns-in_err-body-clause-stands g c = stands-then c.args.state.now c.param_texts.new.state c.property_text.new.state c.in_ok-params.ensures.stands c.in_err-body.ensures.stands
