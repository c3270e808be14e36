use Rattle.std.proofs.lemmas.Result.{err_from_is_err_and}
use Rattle.std.specs.Prelude.{Err}
use Rattle.jm_base.specs.Run.{over}
use Rattle.trials.specs.Tried.{fine, past_limit, ◌>=>◌}
use Rattle.trials.proofs.TrialLaws.{then-came, then-refused}
use Rattle.sampler_pipeline.specs.SamplerPipeline.{requests_at, exchanging, following}
use Rattle.var_functions.proofs.LaterLaws.{later_then, later_same}
use Rattle.std.proofs.Common.{refl, inl, inr}
use Rattle.trials.proofs.CutLaws.{refused-left}
use Rattle.sampler_pipeline.proofs.run.ask.Goals as goal

pub returns-clause-came : goal.returns-clause-came
returns-clause-came g c =
    let es = c.args.plan.now.elements in
    let sc = c.args.scope.now in
    let n = c.args.sampler in
    let new = c.follow.new.state in
    then-came _ _ _ (requests_at es sc n) (λ request. exchanging n request >=> following es sc n) c.args.state.now c.request.new.state c.in_ok-request.request
    (λ s. over (fine s new)) (over (past_limit new)) c.follow.result c.in_ok-request.ensures.came
    (then-came _ _ _ (exchanging n c.in_ok-request.request) (following es sc n) c.request.new.state c.request.new.state c.in_ok-exchange.exchange
    (λ s. over (fine s new)) (over (past_limit new)) c.follow.result c.in_ok-exchange.ensures.came (c.follow.ensures.came _))

pub returns-in_err-exchange-clause-came : goal.returns-in_err-exchange-clause-came
returns-in_err-exchange-clause-came g c =
    let es = c.args.plan.now.elements in
    let sc = c.args.scope.now in
    let n = c.args.sampler in
    let new = c.request.new.state in
    let out = err_from_is_err_and c.from_residual-in_err-exchange.result c.from_residual-in_err-exchange.ensures.1 in
    rw (out.1, out.2) (then-came _ _ _ (requests_at es sc n) (λ request. exchanging n request >=> following es sc n) c.args.state.now new c.in_ok-request.request
    (λ s. over (fine s new)) (over (past_limit new)) (Err c.in_err-exchange.field-0.0) c.in_ok-request.ensures.came
    (then-refused _ _ (exchanging n c.in_ok-request.request) (following es sc n) new new c.in_err-exchange.field-0.0 c.in_err-exchange.ensures.came))

pub returns-in_err-request-clause-came : goal.returns-in_err-request-clause-came
returns-in_err-request-clause-came g c =
    let out = err_from_is_err_and c.from_residual.result c.from_residual.ensures.1 in
    rw (out.1, out.2) (then-refused _ _ (requests_at c.args.plan.now.elements c.args.scope.now c.args.sampler) (λ request. exchanging c.args.sampler request >=> following c.args.plan.now.elements c.args.scope.now c.args.sampler)
    c.args.state.now c.request.new.state c.in_err-request.field-0.0 c.in_err-request.ensures.came)

pub returns-clause-later : goal.returns-clause-later
returns-clause-later g c = later_then c.args.state.now.fns c.request.new.state.fns c.follow.new.state.fns c.in_ok-request.ensures.later c.follow.ensures.later

pub returns-clause-cut : goal.returns-clause-cut
returns-clause-cut g c = λ none. inr (record {
  came = c.in_ok-request.request;
  between = c.request.new.state;
  moment = _;
  whole = c.in_ok-request.ensures.came;
  next = inr (record { came = c.in_ok-exchange.exchange; between = c.request.new.state; moment = _; whole = c.in_ok-exchange.ensures.came; next = c.follow.ensures.cut _ none });
})

pub returns-in_err-exchange-clause-cut : goal.returns-in_err-exchange-clause-cut
returns-in_err-exchange-clause-cut g c =
    let out = err_from_is_err_and c.from_residual-in_err-exchange.result c.from_residual-in_err-exchange.ensures.1 in
    rw (out.1, out.2) (λ none. inr (record {
      came = c.in_ok-request.request;
      between = c.request.new.state;
      moment = _;
      whole = c.in_ok-request.ensures.came;
      next = inl (record { stands = record { vars = refl; fns = later_same _ }; rest = refused-left c.in_err-exchange.ensures.came });
    }))

pub returns-in_err-request-clause-cut : goal.returns-in_err-request-clause-cut
returns-in_err-request-clause-cut g c =
    let out = err_from_is_err_and c.from_residual.result c.from_residual.ensures.1 in
    rw (out.1, out.2) (λ none. inl (record {
      stands = record { vars = c.in_err-request.ensures.vars; fns = c.in_err-request.ensures.later };
      rest = refused-left c.in_err-request.ensures.came;
    }))
