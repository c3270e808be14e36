use Rattle.std.proofs.Common.{◌<◌, length, arith, sym, subst}
use Rattle.std.proofs.lemmas.List.{take_more, take_all}
use Rattle.weave_engine.specs.Woven.{AllRun, at_end}
use Rattle.weave_engine.proofs.StartLaws.{all_run_more}
use Rattle.weave_engine.proofs.rows.all_tokens.Goals as goal

pub tokens-init : goal.tokens-init
tokens-init c = record { on = λ n s runs. (s, at_end, runs); locked = c.requires.locked; keeps = λ plan start options h. h }

pub token_turns-requires : goal.token_turns-requires
token_turns-requires c = let r = c.requires.runs in let u = c.tokens.invariant.on r.0 r.1 r.2 in record { runs = (r.0, u.0, u.2); locked = c.tokens.invariant.locked }

pub tokens-preserved : goal.tokens-preserved
tokens-preserved c = record {
  on = λ n s runs.
      let i = c.tokens.token-index in
      let within : i < length c.args.tokens.now = omega (arith, c.tokens-test.true) in
      let u = c.tokens.invariant.on n s runs in
      let r = c.in_ok-token_turns.ensures.runs n u.0 u.2 in
      (r.0, subst (λ l. AllRun n l s r.0) (sym (take_more c.args.tokens.now i _ within)) (all_run_more _ u.1 r.1), r.2);
  locked = c.in_ok-token_turns.ensures.locked;
  keeps = λ plan start options h. c.in_ok-token_turns.ensures.keeps plan start options (c.tokens.invariant.keeps plan start options h);
}

pub returns-clause-runs : goal.returns-clause-runs
returns-clause-runs c = λ n s runs.
    let u = c.tokens.invariant.on n s runs in
    (u.0, subst (λ l. AllRun n l s u.0) (take_all c.tokens.token-index c.args.tokens.now (omega (arith, c.tokens-test.false))) u.1, u.2)

pub returns-clause-keeps : goal.returns-clause-keeps
returns-clause-keeps c = c.tokens.invariant.keeps

pub returns-clause-locked : goal.returns-clause-locked
returns-clause-locked c = c.tokens.invariant.locked
