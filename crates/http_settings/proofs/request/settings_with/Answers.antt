use Rattle.std.proofs.lemmas.Result.{err_from_is_err_and}
use Rattle.std.specs.Prelude.{Ok, Err}
use Rattle.jm_base.specs.Run.{over}
use Rattle.jm_base.proofs.RunLaws.{goes-nothing}
use Rattle.http_text.specs.declared.request.HttpSettings.{HttpSettings}
use Rattle.trials.specs.Tried.{fine, past_limit}
use Rattle.trials.proofs.TrialLaws.{then-came, then-refused}
use Rattle.http_settings.specs.RequestSettings.{address, content, texts_of, merged_headers, settings}
use Rattle.http_settings.proofs.TextLaws.{stands-then}
use Rattle.http_settings.proofs.SettingsStages.{after_headers, after_content, after_address}
use Rattle.http_settings.proofs.request.settings_with.Goals as goal

pub returns-clause-came : goal.returns-clause-came
unfolding settings
returns-clause-came g c =
    let es = c.args.plan.now.elements in
    let cs = c.args.config.now in
    let n = c.args.sampler in
    let new = c.header_texts.new.state in
    let a = c.in_ok-address.address in
    let k = c.in_ok-content.content in
    let hs = c.in_ok-headers.headers in
    then-came _ _ _ (address es cs n) (after_address es cs n) c.args.state.now c.address_of.new.state a (λ (x : HttpSettings). over (fine x new)) (over (past_limit new)) (Ok c.settings_of.result) c.in_ok-address.ensures.came
    (then-came _ _ _ (content es cs n) (after_content es cs n a) c.address_of.new.state c.content_of.new.state k (λ (x : HttpSettings). over (fine x new)) (over (past_limit new)) (Ok c.settings_of.result) c.in_ok-content.ensures.came
    (then-came _ _ _ (texts_of (merged_headers es cs)) (after_headers es n a k) c.content_of.new.state new hs (λ (x : HttpSettings). over (fine x new)) (over (past_limit new)) (Ok c.settings_of.result) c.in_ok-headers.ensures.came
    (rw (c.settings_of.ensures, c.method_at.ensures) (goes-nothing _ _))))

pub returns-in_err-headers-clause-came : goal.returns-in_err-headers-clause-came
unfolding settings
returns-in_err-headers-clause-came g c =
    let es = c.args.plan.now.elements in
    let cs = c.args.config.now in
    let n = c.args.sampler in
    let new = c.header_texts.new.state in
    let a = c.in_ok-address.address in
    let k = c.in_ok-content.content in
    let e = c.in_err-headers.field-0.0 in
    let out = err_from_is_err_and c.from_residual-in_err-headers.result c.from_residual-in_err-headers.ensures.1 in
    rw (out.1, out.2) (then-came _ _ _ (address es cs n) (after_address es cs n) c.args.state.now c.address_of.new.state a (λ (x : HttpSettings). over (fine x new)) (over (past_limit new)) (Err e) c.in_ok-address.ensures.came
    (then-came _ _ _ (content es cs n) (after_content es cs n a) c.address_of.new.state c.content_of.new.state k (λ (x : HttpSettings). over (fine x new)) (over (past_limit new)) (Err e) c.in_ok-content.ensures.came
    (then-refused _ _ (texts_of (merged_headers es cs)) (after_headers es n a k) c.content_of.new.state new e c.in_err-headers.ensures.came)))

pub returns-in_err-content-clause-came : goal.returns-in_err-content-clause-came
unfolding settings
returns-in_err-content-clause-came g c =
    let es = c.args.plan.now.elements in
    let cs = c.args.config.now in
    let n = c.args.sampler in
    let new = c.content_of.new.state in
    let a = c.in_ok-address.address in
    let e = c.in_err-content.field-0.0 in
    let out = err_from_is_err_and c.from_residual-in_err-content.result c.from_residual-in_err-content.ensures.1 in
    rw (out.1, out.2) (then-came _ _ _ (address es cs n) (after_address es cs n) c.args.state.now c.address_of.new.state a (λ (x : HttpSettings). over (fine x new)) (over (past_limit new)) (Err e) c.in_ok-address.ensures.came
    (then-refused _ _ (content es cs n) (after_content es cs n a) c.address_of.new.state new e c.in_err-content.ensures.came))

pub returns-in_err-address-clause-came : goal.returns-in_err-address-clause-came
unfolding settings
returns-in_err-address-clause-came g c =
    let es = c.args.plan.now.elements in
    let cs = c.args.config.now in
    let n = c.args.sampler in
    let out = err_from_is_err_and c.from_residual.result c.from_residual.ensures.1 in
    rw (out.1, out.2) (then-refused _ _ (address es cs n) (after_address es cs n) c.args.state.now c.address_of.new.state c.in_err-address.field-0.0 c.in_err-address.ensures.came)

pub returns-clause-stands : goal.returns-clause-stands
returns-clause-stands g c =
    stands-then c.args.state.now c.address_of.new.state c.header_texts.new.state c.in_ok-address.ensures.stands
    (stands-then c.address_of.new.state c.content_of.new.state c.header_texts.new.state c.in_ok-content.ensures.stands c.in_ok-headers.ensures.stands)

pub returns-in_err-headers-clause-stands : goal.returns-in_err-headers-clause-stands
returns-in_err-headers-clause-stands g c =
    stands-then c.args.state.now c.address_of.new.state c.header_texts.new.state c.in_ok-address.ensures.stands
    (stands-then c.address_of.new.state c.content_of.new.state c.header_texts.new.state c.in_ok-content.ensures.stands c.in_err-headers.ensures.stands)

pub returns-in_err-content-clause-stands : goal.returns-in_err-content-clause-stands
returns-in_err-content-clause-stands g c = stands-then c.args.state.now c.address_of.new.state c.content_of.new.state c.in_ok-address.ensures.stands c.in_err-content.ensures.stands
