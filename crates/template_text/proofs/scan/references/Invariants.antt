use Rattle.std.proofs.Common.{◌≡◌, ◌≤◌, length, drop}
use Rattle.template_text.specs.Scan.{AreFound}
use Rattle.template_text.proofs.scan.references.Given as goal

-- from the place on, what begins at each is found
abbrev pub invariant-loop-at : goal.invariant-loop-at
invariant-loop-at l = (l.at ≤ length l.text) × (length l.found.items ≡ length l.text) × AreFound (drop l.at l.text) (drop l.at l.found.items)

abbrev pub decreases-loop-at : goal.decreases-loop-at
decreases-loop-at l = l.at
