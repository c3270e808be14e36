use Rattle.std.proofs.Common.{take}
use Rattle.phaser_core.specs.declared.view.Numbers.{Numbers}
use Rattle.weave_engine.specs.Turns.{Weave}
use Rattle.weave_engine.specs.Woven.{AllRun}
use Rattle.weave_engine.specs.Seats.{RunsOn, Locked, AllKeepOn}
use Rattle.weave_engine.proofs.rows.all_tokens.Given as goal

abbrev pub invariant-tokens : goal.invariant-tokens
invariant-tokens l = record {
  on : (n : Numbers) (s : Weave) → RunsOn n l.fn.seats.items l.fn.core l.fn.locks.items s → (t : Weave) × AllRun n (take l.token-index l.tokens) s t × RunsOn n l.seats.items l.core l.locks.items t;
  locked : Locked l.seats.items l.locks.items;
  keeps : AllKeepOn l.fn.seats.items l.seats.items;
}
