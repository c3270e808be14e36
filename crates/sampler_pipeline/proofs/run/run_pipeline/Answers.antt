use Rattle.std.proofs.lemmas.Result.{err_from_is_err_and}
use Rattle.std.proofs.Common.{ap, ◌∙◌, refl, inl, inr}
use Rattle.element_tree.specs.Scope.{Scope}
use Rattle.std.specs.Prelude.{Ok, Err}
use Rattle.jm_base.specs.Run.{over}
use Rattle.jm_base.proofs.RunLaws.{goes-nothing}
use Rattle.trials.specs.Tried.{fine, past_limit}
use Rattle.trials.proofs.TrialLaws.{then-came, then-refused}
use Rattle.config_elements.specs.TimerDelay.{delay}
use Rattle.sampler_pipeline.specs.declared.run.Done.{Done}
use Rattle.sampler_pipeline.specs.SamplerPipeline.{pre_process, pausing, asking, pipeline}
use Rattle.var_functions.proofs.LaterLaws.{later_then, later_same}
use Rattle.trials.proofs.CutLaws.{refused-left}
use Rattle.sampler_pipeline.proofs.PipelineStages.{after_request, after_pause, after_delay, after_pre}
use Rattle.thread_vars.specs.declared.error.VarError.TheVariants.{NoMemory}
use Rattle.sampler_pipeline.proofs.StageLaws.{same-error}
use Rattle.sampler_pipeline.proofs.run.run_pipeline.Goals as goal

pub returns-clause-came : goal.returns-clause-came
unfolding pipeline
returns-clause-came g c =
    let es = c.args.plan.now.elements in
    let sc = c.args.scope.now in
    let new = c.ask.new.state in
    let done : Done = record { sample = c.in_ok-sample.sample; paused = c.in_ok-paused.paused } in
    then-came _ _ _ (pre_process es sc.pre) (λ u. after_pre es sc c.args.sampler) c.args.state.now c.pre_process.new.state tt (λ (x : Done). over (fine x new)) (over (past_limit new)) (Ok done) (rw (c.as_slice.ensures.value ∙ ap (λ (s : Scope). s.pre) c.scope.view_is) at c.in_ok-pre_process.ensures.came)
    (then-came _ _ _ (delay es sc.timers) (after_delay es sc c.args.sampler) c.pre_process.new.state c.delay.new.state c.in_ok-paused.paused (λ (x : Done). over (fine x new)) (over (past_limit new)) (Ok done) c.in_ok-paused.ensures.came
    (then-came _ _ _ (pausing c.in_ok-paused.paused) (λ u. after_pause es sc c.args.sampler c.in_ok-paused.paused) c.delay.new.state c.delay.new.state tt (λ (x : Done). over (fine x new)) (over (past_limit new)) (Ok done) c.in_ok-pause.ensures.came
    (then-came _ _ _ (asking es sc c.args.sampler) (after_request es sc c.args.sampler c.in_ok-paused.paused) c.delay.new.state new c.in_ok-sample.sample (λ (x : Done). over (fine x new)) (over (past_limit new)) (Ok done) c.in_ok-sample.ensures.came
    (goes-nothing _ _))))

pub returns-in_err-pre_process-clause-came : goal.returns-in_err-pre_process-clause-came
unfolding pipeline
returns-in_err-pre_process-clause-came g c =
    let out = err_from_is_err_and c.from_residual.result c.from_residual.ensures.1 in
    rw (out.1, out.2) (then-refused _ _ (pre_process c.args.plan.now.elements c.args.scope.now.pre) _ c.args.state.now c.pre_process.new.state c.in_err-pre_process.field-0.0 (rw (c.as_slice.ensures.value ∙ ap (λ (s : Scope). s.pre) c.scope.view_is) at c.in_err-pre_process.ensures.came))

pub returns-in_err-paused-clause-came : goal.returns-in_err-paused-clause-came
unfolding pipeline
returns-in_err-paused-clause-came g c =
    let es = c.args.plan.now.elements in
    let sc = c.args.scope.now in
    let new = c.delay.new.state in
    let out = err_from_is_err_and c.from_residual-in_err-paused.result c.from_residual-in_err-paused.ensures.1 in
    rw (out.1, out.2) (then-came _ _ _ (pre_process es sc.pre) (λ u. after_pre es sc c.args.sampler) c.args.state.now c.pre_process.new.state tt (λ done. over (fine done new)) (over (past_limit new)) (Err c.in_err-paused.field-0.0) (rw (c.as_slice.ensures.value ∙ ap (λ (s : Scope). s.pre) c.scope.view_is) at c.in_ok-pre_process.ensures.came)
    (then-refused _ _ (delay es sc.timers) (after_delay es sc c.args.sampler) c.pre_process.new.state new c.in_err-paused.field-0.0 c.in_err-paused.ensures.came))

pub returns-in_err-pause-clause-came : goal.returns-in_err-pause-clause-came
unfolding pipeline
returns-in_err-pause-clause-came g c =
    let es = c.args.plan.now.elements in
    let sc = c.args.scope.now in
    let new = c.delay.new.state in
    let out = err_from_is_err_and c.from_residual-in_err-pause.result c.from_residual-in_err-pause.ensures.1 in
    rw (out.1, out.2) (then-came _ _ _ (pre_process es sc.pre) (λ u. after_pre es sc c.args.sampler) c.args.state.now c.pre_process.new.state tt (λ done. over (fine done new)) (over (past_limit new)) (Err c.in_err-pause.field-0.0) (rw (c.as_slice.ensures.value ∙ ap (λ (s : Scope). s.pre) c.scope.view_is) at c.in_ok-pre_process.ensures.came)
    (then-came _ _ _ (delay es sc.timers) (after_delay es sc c.args.sampler) c.pre_process.new.state new c.in_ok-paused.paused (λ done. over (fine done new)) (over (past_limit new)) (Err c.in_err-pause.field-0.0) c.in_ok-paused.ensures.came
    (then-refused _ _ (pausing c.in_ok-paused.paused) (λ u. after_pause es sc c.args.sampler c.in_ok-paused.paused) new new c.in_err-pause.field-0.0 c.in_err-pause.ensures.came)))

pub returns-in_err-sample-clause-came : goal.returns-in_err-sample-clause-came
unfolding pipeline
returns-in_err-sample-clause-came g c =
    let es = c.args.plan.now.elements in
    let sc = c.args.scope.now in
    let new = c.ask.new.state in
    let out = err_from_is_err_and c.from_residual-in_err-sample.result c.from_residual-in_err-sample.ensures.1 in
    rw (out.1, out.2) (then-came _ _ _ (pre_process es sc.pre) (λ u. after_pre es sc c.args.sampler) c.args.state.now c.pre_process.new.state tt (λ done. over (fine done new)) (over (past_limit new)) (Err c.in_err-sample.field-0.0) (rw (c.as_slice.ensures.value ∙ ap (λ (s : Scope). s.pre) c.scope.view_is) at c.in_ok-pre_process.ensures.came)
    (then-came _ _ _ (delay es sc.timers) (after_delay es sc c.args.sampler) c.pre_process.new.state c.delay.new.state c.in_ok-paused.paused (λ done. over (fine done new)) (over (past_limit new)) (Err c.in_err-sample.field-0.0) c.in_ok-paused.ensures.came
    (then-came _ _ _ (pausing c.in_ok-paused.paused) (λ u. after_pause es sc c.args.sampler c.in_ok-paused.paused) c.delay.new.state c.delay.new.state tt (λ done. over (fine done new)) (over (past_limit new)) (Err c.in_err-sample.field-0.0) c.in_ok-pause.ensures.came
    (then-refused _ _ (asking es sc c.args.sampler) (after_request es sc c.args.sampler c.in_ok-paused.paused) c.delay.new.state new c.in_err-sample.field-0.0 c.in_err-sample.ensures.came))))

pub returns-clause-later : goal.returns-clause-later
returns-clause-later g c =
    later_then c.args.state.now.fns c.pre_process.new.state.fns c.ask.new.state.fns c.in_ok-pre_process.ensures.later
    (later_then c.pre_process.new.state.fns c.delay.new.state.fns c.ask.new.state.fns c.in_ok-paused.ensures.later c.in_ok-sample.ensures.later)

pub returns-in_err-paused-clause-later : goal.returns-in_err-paused-clause-later
returns-in_err-paused-clause-later g c = later_then c.args.state.now.fns c.pre_process.new.state.fns c.delay.new.state.fns c.in_ok-pre_process.ensures.later c.in_err-paused.ensures.later

pub returns-in_err-pause-clause-later : goal.returns-in_err-pause-clause-later
returns-in_err-pause-clause-later g c = later_then c.args.state.now.fns c.pre_process.new.state.fns c.delay.new.state.fns c.in_ok-pre_process.ensures.later c.in_ok-paused.ensures.later

pub returns-in_err-sample-clause-later : goal.returns-in_err-sample-clause-later
returns-in_err-sample-clause-later g c =
    later_then c.args.state.now.fns c.pre_process.new.state.fns c.ask.new.state.fns c.in_ok-pre_process.ensures.later
    (later_then c.pre_process.new.state.fns c.delay.new.state.fns c.ask.new.state.fns c.in_ok-paused.ensures.later c.in_err-sample.ensures.later)

pub returns-in_err-pre_process-clause-cut : goal.returns-in_err-pre_process-clause-cut
returns-in_err-pre_process-clause-cut g c =
    let out = err_from_is_err_and c.from_residual.result c.from_residual.ensures.1 in
    rw (out.1, out.2) (λ none. inl (rw (c.as_slice.ensures.value ∙ ap (λ (s : Scope). s.pre) c.scope.view_is) at (c.in_err-pre_process.ensures.cut (same-error c.in_err-pre_process.field-0.0 NoMemory none))))

pub returns-in_err-paused-clause-cut : goal.returns-in_err-paused-clause-cut
returns-in_err-paused-clause-cut g c =
    let out = err_from_is_err_and c.from_residual-in_err-paused.result c.from_residual-in_err-paused.ensures.1 in
    rw (out.1, out.2) (λ none. inr (record {
      came = tt;
      between = c.pre_process.new.state;
      moment = _;
      whole = rw (c.as_slice.ensures.value ∙ ap (λ (s : Scope). s.pre) c.scope.view_is) at c.in_ok-pre_process.ensures.came;
      next = inl (record {
        stands = record { vars = c.in_err-paused.ensures.vars; fns = c.in_err-paused.ensures.later };
        rest = refused-left c.in_err-paused.ensures.came;
      });
    }))

pub returns-in_err-pause-clause-cut : goal.returns-in_err-pause-clause-cut
returns-in_err-pause-clause-cut g c =
    let out = err_from_is_err_and c.from_residual-in_err-pause.result c.from_residual-in_err-pause.ensures.1 in
    rw (out.1, out.2) (λ none. inr (record {
      came = tt;
      between = c.pre_process.new.state;
      moment = _;
      whole = rw (c.as_slice.ensures.value ∙ ap (λ (s : Scope). s.pre) c.scope.view_is) at c.in_ok-pre_process.ensures.came;
      next = inr (record {
        came = c.in_ok-paused.paused;
        between = c.delay.new.state;
        moment = _;
        whole = c.in_ok-paused.ensures.came;
        next = inl (record { stands = record { vars = refl; fns = later_same _ }; rest = refused-left c.in_err-pause.ensures.came });
      });
    }))

pub returns-in_err-sample-clause-cut : goal.returns-in_err-sample-clause-cut
returns-in_err-sample-clause-cut g c =
    let out = err_from_is_err_and c.from_residual-in_err-sample.result c.from_residual-in_err-sample.ensures.1 in
    rw (out.1, out.2) (λ none. inr (record {
      came = tt;
      between = c.pre_process.new.state;
      moment = _;
      whole = rw (c.as_slice.ensures.value ∙ ap (λ (s : Scope). s.pre) c.scope.view_is) at c.in_ok-pre_process.ensures.came;
      next = inr (record {
        came = c.in_ok-paused.paused;
        between = c.delay.new.state;
        moment = _;
        whole = c.in_ok-paused.ensures.came;
        next = inr (record { came = tt; between = c.delay.new.state; moment = _; whole = c.in_ok-pause.ensures.came; next = c.in_err-sample.ensures.cut (same-error c.in_err-sample.field-0.0 NoMemory none) });
      });
    }))
