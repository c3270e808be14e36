use Rattle.std.proofs.Common.{◌≡◌, ◌++◌, take, drop}
use Rattle.control_machine.specs.Hearing.{all_hearing}
use Rattle.control_machine.proofs.stack.hear_all.Given as goal

abbrev pub invariant-loop-frame : goal.invariant-loop-frame
invariant-loop-frame l = l.frame-items ≡ all_hearing l.sample (take l.frame-index l.fn.frames.items) ++ drop l.frame-index l.fn.frames.items
