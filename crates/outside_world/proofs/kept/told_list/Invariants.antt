use Rattle.std.proofs.Common.{◌≡◌, take}
use Rattle.outside_world.specs.Told.{told_of}
use Rattle.outside_world.proofs.kept.told_list.Given as goal

abbrev pub invariant-loop-call : goal.invariant-loop-call
invariant-loop-call l = l.told.items ≡ told_of l.replies (take l.call-index l.calls)
