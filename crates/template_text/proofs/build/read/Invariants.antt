use Rattle.std.proofs.Common.{◌≡◌, ◌-◌, ◌≤◌, length, drop}
use Rattle.template_text.specs.Scan.{reading}
use Rattle.template_text.specs.Builders.{joined}
use Rattle.template_text.proofs.build.read.Given as goal

-- what is built and the reading of what is left are the reading
abbrev pub invariant-loop-at : goal.invariant-loop-at
invariant-loop-at l = (l.at ≤ length l.text) × (reading l.text ≡ joined l.pieces (reading (drop l.at l.text)))

abbrev pub decreases-loop-at : goal.decreases-loop-at
decreases-loop-at l = length l.initial.text - l.at
