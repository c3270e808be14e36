use Rattle.std.proofs.Common.{arith}
use Rattle.jm_base.proofs.RunLaws.{goes-nothing}
use Rattle.var_functions.proofs.LaterLaws.{later_same, later_then}
use Rattle.trials.specs.Pairs.{set_pair}
use Rattle.trials.proofs.TrialLaws.{each-goes, each-refused, each-over}
use Rattle.trials.proofs.CutLaws.{each-done, each-cut}
use Rattle.trials.proofs.pairs.set_pairs.Goals as goal

pub pairs-init : goal.pairs-init
pairs-init g c = record { goes = goes-nothing _ _; done = goes-nothing _ _; later = later_same _ }

pub pairs-preserved : goal.pairs-preserved
pairs-preserved g c =
    let i = c.pairs.invariant in
    record {
      goes = each-goes set_pair _ c.args.pairs.now c.pairs.pair-index c.pair-item.result c.pairs.state c.set_pair.new.state _ c.pairs-test.true c.pair-item.is i.goes c.in-Ok.ensures.came;
      done = each-done set_pair c.args.pairs.now c.pairs.pair-index c.pair-item.result c.args.state.now c.pairs.state c.set_pair.new.state c.pairs-test.true c.pair-item.is i.done c.in-Ok.ensures.came;
      later = later_then c.args.state.now.fns c.pairs.state.fns c.set_pair.new.state.fns i.later c.in-Ok.ensures.later;
    }

pub returns-in-Err-clause-came : goal.returns-in-Err-clause-came
returns-in-Err-clause-came g c =
    each-refused set_pair _ c.args.pairs.now c.pairs.pair-index c.pair-item.result c.pairs.state c.set_pair.new.state c.in-Err.error c.pairs-test.true c.pair-item.is c.pairs.invariant.goes c.in-Err.ensures.came

pub returns-in-Err-clause-later : goal.returns-in-Err-clause-later
returns-in-Err-clause-later g c = later_then c.args.state.now.fns c.pairs.state.fns c.set_pair.new.state.fns c.pairs.invariant.later c.in-Err.ensures.later

pub returns-in-Err-clause-cut : goal.returns-in-Err-clause-cut
returns-in-Err-clause-cut g c =
    each-cut set_pair c.args.pairs.now c.pairs.pair-index c.pair-item.result c.args.state.now c.pairs.state c.set_pair.new.state c.in-Err.error
    c.pairs-test.true c.pair-item.is c.pairs.invariant.done c.in-Err.ensures.came c.in-Err.ensures.kept c.in-Err.ensures.later

pub returns-clause-came : goal.returns-clause-came
returns-clause-came g c = each-over set_pair _ c.args.pairs.now c.pairs.pair-index c.pairs.state (omega (arith, c.pairs-test.false)) c.pairs.invariant.goes
