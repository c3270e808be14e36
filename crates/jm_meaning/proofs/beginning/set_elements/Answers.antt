use Rattle.std.proofs.Common.{◌+◌, drop, arith}
use Rattle.jm_base.proofs.RunLaws.{goes-nothing}
use Rattle.var_functions.proofs.LaterLaws.{later_same, later_then}
use Rattle.jm_meaning.specs.State.{state_of}
use Rattle.jm_meaning.specs.Beginning.{set_all, user_variables, pairs_of}
use Rattle.jm_meaning.proofs.BeginningLaws.{pairs-goes, pairs-refused, element-step, none-of, part-goes, part-refused, no-elements}
use Rattle.jm_meaning.proofs.CutLaws.{pairs-cut, element-set, element-cut}
use Rattle.jm_meaning.proofs.beginning.set_elements.Goals as goal
use Rattle.jm_meaning.proofs.beginning.set_elements.Goals.{in-UserVariables+in-Ok, in_default}

pub loop-element-init : goal.loop-element-init
loop-element-init g c = record { goes = λ own. goes-nothing _ _; done = λ own. goes-nothing _ _; later = later_same _ }

pub loop-element-preserved : goal.loop-element-preserved
loop-element-preserved g c =
    let i = c.loop-element.invariant in
    record {
      goes = λ own.
          part-goes _ _ (set_all (pairs_of c.element-item.result.kind) (state_of c.loop-element.state own)) (set_all (user_variables (drop (c.loop-element.element-index + 1) c.args.elements.now)))
          (state_of c.match-element.state own)
          (element-step c.args.elements.now c.loop-element.element-index c.element-item.result (state_of c.loop-element.state own) c.loop-element-test.true c.element-item.is)
          (i.goes own)
          (elim c.match-element.branch [
            | in-UserVariables+in-Ok w ↦ rw (w.state-is, w.outside-is, w.in-UserVariables.is, ← w.as_slice.ensures) (pairs-goes own w.as_slice.result.now c.loop-element.state w.set_pairs.new.state tt w.in-Ok.ensures.came)
            | in_default w ↦ rw (w.state-is, w.outside-is, none-of c.element-item.result.kind w.in_default.not-UserVariables) (goes-nothing _ _)
          ]);
      done = λ own.
          element-set c.args.elements.now c.loop-element.element-index c.element-item.result (state_of c.args.state.now own) (state_of c.loop-element.state own) (state_of c.match-element.state own)
          c.loop-element-test.true c.element-item.is (i.done own)
          (elim c.match-element.branch [
            | in-UserVariables+in-Ok w ↦ rw (w.state-is, w.outside-is, w.in-UserVariables.is, ← w.as_slice.ensures) (pairs-goes own w.as_slice.result.now c.loop-element.state w.set_pairs.new.state tt w.in-Ok.ensures.came)
            | in_default w ↦ rw (w.state-is, w.outside-is, none-of c.element-item.result.kind w.in_default.not-UserVariables) (goes-nothing _ _)
          ]);
      later =
          elim c.match-element.branch [
            | in-UserVariables+in-Ok w ↦ rw w.state-is (later_then c.args.state.now.fns c.loop-element.state.fns _ i.later w.in-Ok.ensures.later)
            | in_default w ↦ rw w.state-is i.later
          ];
    }

pub returns-in-Err-clause-came : goal.returns-in-Err-clause-came
returns-in-Err-clause-came g c = λ own.
    part-refused _ _ (set_all (pairs_of c.element-item.result.kind) (state_of c.loop-element.state own)) (set_all (user_variables (drop (c.loop-element.element-index + 1) c.args.elements.now)))
    (state_of c.set_pairs.new.state own) c.in-Err.error
    (element-step c.args.elements.now c.loop-element.element-index c.element-item.result (state_of c.loop-element.state own) c.loop-element-test.true c.element-item.is)
    (c.loop-element.invariant.goes own)
    (rw (c.in-UserVariables.is, ← c.as_slice.ensures) (pairs-refused own c.as_slice.result.now c.loop-element.state c.set_pairs.new.state c.in-Err.error c.in-Err.ensures.came))

pub returns-in-Err-clause-later : goal.returns-in-Err-clause-later
returns-in-Err-clause-later g c = later_then c.args.state.now.fns c.loop-element.state.fns c.set_pairs.new.state.fns c.loop-element.invariant.later c.in-Err.ensures.later

pub returns-in-Err-clause-cut : goal.returns-in-Err-clause-cut
returns-in-Err-clause-cut g c =
    element-cut c.args.elements.now c.loop-element.element-index c.element-item.result c.args.state.now c.loop-element.state c.set_pairs.new.state
    c.loop-element-test.true c.element-item.is c.loop-element.invariant.done
    (rw (c.in-UserVariables.is, ← c.as_slice.ensures) (pairs-cut c.as_slice.result.now c.loop-element.state c.set_pairs.new.state c.in-Err.ensures.cut))

pub returns-clause-came : goal.returns-clause-came
returns-clause-came g c = λ own.
    no-elements _ c.args.elements.now c.loop-element.element-index (state_of c.loop-element.state own) (omega (arith, c.loop-element-test.false)) (c.loop-element.invariant.goes own)
