use Rattle.std.proofs.lemmas.Result.{err_from_is_err_and}
use Rattle.std.proofs.Common.{◌∙◌}
use Rattle.std.specs.Prelude.{ℕ, ◌+◌, Ok, Err}
use Rattle.jm_base.specs.Run.{over}
use Rattle.jm_base.proofs.RunLaws.{goes-nothing}
use Rattle.var_functions.proofs.LaterLaws.{later_then}
use Rattle.trials.specs.Tried.{Try, fine, past_limit, giving, ◌>=>◌}
use Rattle.trials.proofs.TrialLaws.{then-came, then-refused}
use Rattle.config_elements.specs.TimerDelay.{time_of, within}
use Rattle.config_elements.proofs.delays.uniform.Goals as goal

pub returns-clause-came : goal.returns-clause-came
returns-clause-came g c =
    let new = c.within-more.new.state in
    let sum : ℕ = c.from.result + c.from-2.result in
    let last : ℕ → ℕ → Try ℕ = λ ms more. giving (ms + more) in
    then-came _ _ _ (time_of c.args.offset.now) (λ ms. time_of c.args.range.now >=> λ r. within r >=> last ms) c.args.state.now c.time_of.new.state c.in_ok-offset.offset (λ ms. over (fine ms new)) (over (past_limit new)) (Ok sum) c.in_ok-offset.ensures.came
    (then-came _ _ _ (time_of c.args.range.now) (λ r. within r >=> last c.in_ok-offset.offset) c.time_of.new.state c.time_of-2.new.state c.in_ok-range.range (λ ms. over (fine ms new)) (over (past_limit new)) (Ok sum) c.in_ok-range.ensures.came
    (then-came _ _ _ (within c.in_ok-range.range) (last c.in_ok-offset.offset) c.time_of-2.new.state new c.within-more.result (λ ms. over (fine ms new)) (over (past_limit new)) (Ok sum) (c.within-more.ensures.came _)
    (rw (c.from.ensures, c.from-2.ensures) (goes-nothing _ _))))

pub returns-in_err-range-clause-came : goal.returns-in_err-range-clause-came
returns-in_err-range-clause-came g c =
    let new = c.time_of-2.new.state in
    let last : ℕ → ℕ → Try ℕ = λ ms more. giving (ms + more) in
    let out = err_from_is_err_and c.from_residual-in_err-range.result c.from_residual-in_err-range.ensures.1 in
    rw (out.1, out.2) (then-came _ _ _ (time_of c.args.offset.now) (λ ms. time_of c.args.range.now >=> λ r. within r >=> last ms) c.args.state.now c.time_of.new.state c.in_ok-offset.offset (λ (ms : ℕ). over (fine ms new)) (over (past_limit new)) (Err c.in_err-range.field-0.0) c.in_ok-offset.ensures.came
    (then-refused _ _ (time_of c.args.range.now) (λ r. within r >=> last c.in_ok-offset.offset) c.time_of.new.state new c.in_err-range.field-0.0 c.in_err-range.ensures.came))

pub returns-in_err-offset-clause-came : goal.returns-in_err-offset-clause-came
returns-in_err-offset-clause-came g c =
    let last : ℕ → ℕ → Try ℕ = λ ms more. giving (ms + more) in
    let out = err_from_is_err_and c.from_residual.result c.from_residual.ensures.1 in
    rw (out.1, out.2) (then-refused _ _ (time_of c.args.offset.now) (λ ms. time_of c.args.range.now >=> λ r. within r >=> last ms) c.args.state.now c.time_of.new.state c.in_err-offset.field-0.0 c.in_err-offset.ensures.came)

pub returns-clause-later : goal.returns-clause-later
returns-clause-later g c =
    later_then c.args.state.now.fns c.time_of.new.state.fns c.within-more.new.state.fns c.in_ok-offset.ensures.later
    (later_then c.time_of.new.state.fns c.time_of-2.new.state.fns c.within-more.new.state.fns c.in_ok-range.ensures.later c.within-more.ensures.later)

pub returns-clause-vars : goal.returns-clause-vars
returns-clause-vars g c = c.within-more.ensures.vars ∙ (c.in_ok-range.ensures.vars ∙ c.in_ok-offset.ensures.vars)

pub returns-in_err-range-clause-later : goal.returns-in_err-range-clause-later
returns-in_err-range-clause-later g c =
    later_then c.args.state.now.fns c.time_of.new.state.fns c.time_of-2.new.state.fns c.in_ok-offset.ensures.later c.in_err-range.ensures.later

pub returns-in_err-range-clause-vars : goal.returns-in_err-range-clause-vars
returns-in_err-range-clause-vars g c = c.in_err-range.ensures.vars ∙ c.in_ok-offset.ensures.vars
