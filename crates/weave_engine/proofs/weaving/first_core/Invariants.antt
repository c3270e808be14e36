use Rattle.std.proofs.Common.{◌≡◌, ◌-◌, ◌≤◌, length}
use Rattle.element_tree.specs.Tree.{threads_of}
use Rattle.jm_meaning.specs.Beginning.{Options}
use Rattle.weave_engine.specs.Woven.{numbers_of, split_to}
use Rattle.weave_engine.specs.Seats.{CoreIs}
use Rattle.weave_engine.proofs.weaving.first_core.Given as goal

abbrev pub invariant-writers : goal.invariant-writers
invariant-writers l = record {
  low : 1 ≤ l._writer;
  most : l._writer ≤ l._writer-end;
  end : l._writer-end ≡ length (threads_of l.plan);
  core : (options : Options) → options.budget ≡ l.budget → CoreIs l.core (numbers_of l.plan options) (split_to (numbers_of l.plan options) (l._writer - 1));
}
