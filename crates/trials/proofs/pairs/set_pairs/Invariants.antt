use Rattle.std.proofs.Common.{[], take, drop}
use Rattle.jm_base.specs.Run.{over}
use Rattle.jm_base.specs.Outside.{Goes}
use Rattle.var_functions.specs.FunctionState.{IsLater}
use Rattle.trials.specs.Tried.{fine, each_of}
use Rattle.trials.specs.Pairs.{set_pair, set_pairs}
use Rattle.trials.proofs.pairs.set_pairs.Given as goal

abbrev pub invariant-pairs : goal.invariant-pairs
invariant-pairs g l = record {
  goes : Goes (g.O.Outside.account l.fn.outside) (set_pairs l.fn.pairs l.fn.state) [] (each_of set_pair (drop l.pair-index l.fn.pairs) l.state) (g.O.Outside.account l.outside);
  done : Goes (g.O.Outside.account l.fn.outside) (each_of set_pair (take l.pair-index l.fn.pairs) l.fn.state) [] (over (fine tt l.state)) (g.O.Outside.account l.outside);
  later : IsLater l.fn.state.fns l.state.fns;
}
