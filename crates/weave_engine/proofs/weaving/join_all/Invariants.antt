use Rattle.std.proofs.Common.{◌≡◌, ◌≤◌, length}
use Rattle.phaser_core.specs.declared.view.Numbers.{Numbers}
use Rattle.weave_engine.specs.Turns.{Weave, joined_to}
use Rattle.weave_engine.specs.Seats.{Runs, CoreIs, JoinsTo}
use Rattle.weave_engine.proofs.weaving.join_all.Given as goal

abbrev pub invariant-writers : goal.invariant-writers
invariant-writers l = record {
  most : l.writer ≤ l.count;
  end : l.count ≡ length l.fn.seats.items;
  on : (n : Numbers) (s : Weave) → Runs n l.fn.seats.items l.fn.core s → CoreIs l.core n (joined_to n l.writer s.core) × JoinsTo l.writer l.fn.seats.items (joined_to n l.writer s.core).1;
}
