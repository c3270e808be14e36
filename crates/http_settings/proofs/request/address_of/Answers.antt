use Rattle.std.proofs.lemmas.Result.{err_from_is_err_and}
use Rattle.std.specs.Prelude.{Ok, Err, List, ℕ}
use Rattle.jm_base.specs.Run.{over}
use Rattle.jm_base.proofs.RunLaws.{goes-nothing}
use Rattle.trials.specs.Tried.{Try, fine, past_limit, giving, ◌>=>◌}
use Rattle.trials.proofs.TrialLaws.{then-came, then-refused}
use Rattle.http_settings.specs.declared.defaults.Property.TheVariants.{Host, Port, Path}
use Rattle.http_settings.specs.declared.request.Address.{Address}
use Rattle.http_settings.specs.RequestSettings.{property_text}
use Rattle.http_settings.proofs.TextLaws.{stands-then}
use Rattle.element_tree.specs.declared.kinds.Element.{Element}
use Rattle.http_settings.proofs.request.address_of.Goals as goal

abbrev made : List ℕ → List ℕ → List ℕ → Address
made host port path = record { host = host; port = port; path = path }

module _ (es : List Element) (cs : List ℕ) (n : ℕ) where
  abbrev after_path : List ℕ → List ℕ → List ℕ → Try Address
  after_path host port path = giving (made host port path)

  abbrev after_port : List ℕ → List ℕ → Try Address
  after_port host port = property_text Path es cs n >=> after_path host port

  abbrev after_host : List ℕ → Try Address
  after_host host = property_text Port es cs n >=> after_port host

pub returns-clause-came : goal.returns-clause-came
returns-clause-came g c =
    let es = c.args.plan.now.elements in
    let cs = c.args.config.now in
    let n = c.args.sampler in
    let new = c.property_text-3.new.state in
    let host = c.in_ok-host.host in
    let port = c.in_ok-port.port in
    let path = c.in_ok-path.path in
    then-came _ _ _ (property_text Host es cs n) (after_host es cs n) c.args.state.now c.property_text.new.state host (λ (x : Address). over (fine x new)) (over (past_limit new)) (Ok (made host port path)) c.in_ok-host.ensures.came
    (then-came _ _ _ (property_text Port es cs n) (after_port es cs n host) c.property_text.new.state c.property_text-2.new.state port (λ (x : Address). over (fine x new)) (over (past_limit new)) (Ok (made host port path)) c.in_ok-port.ensures.came
    (then-came _ _ _ (property_text Path es cs n) (after_path es cs n host port) c.property_text-2.new.state new path (λ (x : Address). over (fine x new)) (over (past_limit new)) (Ok (made host port path)) c.in_ok-path.ensures.came (goes-nothing _ _)))

pub returns-in_err-path-clause-came : goal.returns-in_err-path-clause-came
returns-in_err-path-clause-came g c =
    let es = c.args.plan.now.elements in
    let cs = c.args.config.now in
    let n = c.args.sampler in
    let new = c.property_text-3.new.state in
    let host = c.in_ok-host.host in
    let port = c.in_ok-port.port in
    let e = c.in_err-path.field-0.0 in
    let out = err_from_is_err_and c.from_residual-in_err-path.result c.from_residual-in_err-path.ensures.1 in
    rw (out.1, out.2) (then-came _ _ _ (property_text Host es cs n) (after_host es cs n) c.args.state.now c.property_text.new.state host (λ (x : Address). over (fine x new)) (over (past_limit new)) (Err e) c.in_ok-host.ensures.came
    (then-came _ _ _ (property_text Port es cs n) (after_port es cs n host) c.property_text.new.state c.property_text-2.new.state port (λ (x : Address). over (fine x new)) (over (past_limit new)) (Err e) c.in_ok-port.ensures.came
    (then-refused _ _ (property_text Path es cs n) (after_path es cs n host port) c.property_text-2.new.state new e c.in_err-path.ensures.came)))

pub returns-in_err-port-clause-came : goal.returns-in_err-port-clause-came
returns-in_err-port-clause-came g c =
    let es = c.args.plan.now.elements in
    let cs = c.args.config.now in
    let n = c.args.sampler in
    let new = c.property_text-2.new.state in
    let host = c.in_ok-host.host in
    let e = c.in_err-port.field-0.0 in
    let out = err_from_is_err_and c.from_residual-in_err-port.result c.from_residual-in_err-port.ensures.1 in
    rw (out.1, out.2) (then-came _ _ _ (property_text Host es cs n) (after_host es cs n) c.args.state.now c.property_text.new.state host (λ (x : Address). over (fine x new)) (over (past_limit new)) (Err e) c.in_ok-host.ensures.came
    (then-refused _ _ (property_text Port es cs n) (after_port es cs n host) c.property_text.new.state new e c.in_err-port.ensures.came))

pub returns-in_err-host-clause-came : goal.returns-in_err-host-clause-came
returns-in_err-host-clause-came g c =
    let es = c.args.plan.now.elements in
    let cs = c.args.config.now in
    let n = c.args.sampler in
    let out = err_from_is_err_and c.from_residual.result c.from_residual.ensures.1 in
    rw (out.1, out.2) (then-refused _ _ (property_text Host es cs n) (after_host es cs n) c.args.state.now c.property_text.new.state c.in_err-host.field-0.0 c.in_err-host.ensures.came)

pub returns-clause-stands : goal.returns-clause-stands
returns-clause-stands g c =
    stands-then c.args.state.now c.property_text.new.state c.property_text-3.new.state c.in_ok-host.ensures.stands
    (stands-then c.property_text.new.state c.property_text-2.new.state c.property_text-3.new.state c.in_ok-port.ensures.stands c.in_ok-path.ensures.stands)

pub returns-in_err-path-clause-stands : goal.returns-in_err-path-clause-stands
returns-in_err-path-clause-stands g c =
    stands-then c.args.state.now c.property_text.new.state c.property_text-3.new.state c.in_ok-host.ensures.stands
    (stands-then c.property_text.new.state c.property_text-2.new.state c.property_text-3.new.state c.in_ok-port.ensures.stands c.in_err-path.ensures.stands)

pub returns-in_err-port-clause-stands : goal.returns-in_err-port-clause-stands
returns-in_err-port-clause-stands g c =
    stands-then c.args.state.now c.property_text.new.state c.property_text-2.new.state c.in_ok-host.ensures.stands c.in_err-port.ensures.stands
