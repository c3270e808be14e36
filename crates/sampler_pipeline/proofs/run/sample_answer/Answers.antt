use Rattle.std.proofs.lemmas.Result.{err_from_is_err_and}
use Rattle.std.proofs.Common.{refl, ap, ◌∙◌, inl, inr}
use Rattle.element_tree.specs.Scope.{Scope}
use Rattle.sampler_pipeline.proofs.AnswerLaws.{answered-all, not-noted, not-judged, not-posted}
use Rattle.var_functions.proofs.LaterLaws.{later_then}
use Rattle.thread_vars.specs.declared.error.VarError.TheVariants.{NoMemory}
use Rattle.sampler_pipeline.proofs.StageLaws.{same-error}
use Rattle.sampler_pipeline.proofs.run.sample_answer.Goals as goal

pub returns-clause-came : goal.returns-clause-came
returns-clause-came c = λ a.
    answered-all c.args.plan.now.elements c.args.scope.now c.args.sampler c.args.stamp c.args.answer a c.args.state.now c.post_process.new.state c.as_slice.result.now (c.as_slice.ensures.value ∙ ap (λ (s : Scope). s.post) c.scope.view_is) (c.in_ok-post_process.ensures.came a)
    c.note.new.state c.in_ok-sample.sample c.in_ok-sample.ensures (c.in_ok-note.ensures.came a c.in_ok-sample.sample refl)

pub returns-in_err-note-clause-came : goal.returns-in_err-note-clause-came
returns-in_err-note-clause-came c =
    let out = err_from_is_err_and c.from_residual-in_err-note.result c.from_residual-in_err-note.ensures.1 in
    rw (out.1, out.2) (λ a.
    not-noted c.args.plan.now.elements c.args.scope.now c.args.sampler c.args.stamp c.args.answer a c.args.state.now c.post_process.new.state c.as_slice.result.now (c.as_slice.ensures.value ∙ ap (λ (s : Scope). s.post) c.scope.view_is) (c.in_ok-post_process.ensures.came a)
    c.note.new.state c.in_ok-sample.sample c.in_err-note.field-0.0 c.in_ok-sample.ensures (c.in_err-note.ensures.came a c.in_ok-sample.sample refl))

pub returns-in_err-sample-clause-came : goal.returns-in_err-sample-clause-came
returns-in_err-sample-clause-came c =
    let out = err_from_is_err_and c.from_residual-in_err-sample.result c.from_residual-in_err-sample.ensures.1 in
    rw (out.1, out.2) (λ a.
    not-judged c.args.plan.now.elements c.args.scope.now c.args.sampler c.args.stamp c.args.answer a c.args.state.now c.post_process.new.state c.as_slice.result.now (c.as_slice.ensures.value ∙ ap (λ (s : Scope). s.post) c.scope.view_is) (c.in_ok-post_process.ensures.came a) c.post_process.new.state)

pub returns-in_err-post_process-clause-came : goal.returns-in_err-post_process-clause-came
returns-in_err-post_process-clause-came c =
    let out = err_from_is_err_and c.from_residual.result c.from_residual.ensures.1 in
    rw (out.1, out.2) (λ a.
    not-posted c.args.plan.now.elements c.args.scope.now c.args.sampler c.args.stamp c.args.answer a c.args.state.now c.post_process.new.state
    c.as_slice.result.now c.in_err-post_process.field-0.0 (c.as_slice.ensures.value ∙ ap (λ (s : Scope). s.post) c.scope.view_is) (c.in_err-post_process.ensures.came a))

pub returns-clause-later : goal.returns-clause-later
returns-clause-later c = later_then c.args.state.now.fns c.post_process.new.state.fns c.note.new.state.fns c.in_ok-post_process.ensures.later c.in_ok-note.ensures.later

pub returns-in_err-note-clause-later : goal.returns-in_err-note-clause-later
returns-in_err-note-clause-later c = later_then c.args.state.now.fns c.post_process.new.state.fns c.note.new.state.fns c.in_ok-post_process.ensures.later c.in_err-note.ensures.later

pub returns-in_err-note-clause-cut : goal.returns-in_err-note-clause-cut
returns-in_err-note-clause-cut c =
    let out = err_from_is_err_and c.from_residual-in_err-note.result c.from_residual-in_err-note.ensures.1 in
    rw (out.1, out.2) (λ a none. inr (record {
      came = tt;
      between = c.post_process.new.state;
      moment = a;
      whole = rw (c.as_slice.ensures.value ∙ ap (λ (s : Scope). s.post) c.scope.view_is) at (c.in_ok-post_process.ensures.came a);
      next = record { outside = refl; state = c.in_err-note.ensures.kept };
    }))

pub returns-in_err-sample-clause-cut : goal.returns-in_err-sample-clause-cut
returns-in_err-sample-clause-cut c =
    let out = err_from_is_err_and c.from_residual-in_err-sample.result c.from_residual-in_err-sample.ensures.1 in
    rw (out.1, out.2) (λ a none. inr (record {
      came = tt;
      between = c.post_process.new.state;
      moment = a;
      whole = rw (c.as_slice.ensures.value ∙ ap (λ (s : Scope). s.post) c.scope.view_is) at (c.in_ok-post_process.ensures.came a);
      next = record { outside = refl; state = refl };
    }))

pub returns-in_err-post_process-clause-cut : goal.returns-in_err-post_process-clause-cut
returns-in_err-post_process-clause-cut c =
    let out = err_from_is_err_and c.from_residual.result c.from_residual.ensures.1 in
    rw (out.1, out.2) (λ a none. inl (rw (c.as_slice.ensures.value ∙ ap (λ (s : Scope). s.post) c.scope.view_is) at (c.in_err-post_process.ensures.cut a (same-error c.in_err-post_process.field-0.0 NoMemory none))))
