use Rattle.std.proofs.Common.{◌≡◌, ◌-◌, ◌≤◌, length, drop, option_map}
use Rattle.template_text.specs.Scan.{arguments_at, extent_of, extent_after}
use Rattle.template_text.proofs.scan.arguments_extent.Given as goal

-- the extent of all is that of what is left, after what was passed
abbrev pub invariant-loop-at : goal.invariant-loop-at
invariant-loop-at l = (l.at ≤ length l.text) × (l.unclosed ≤ l.at)
    × (option_map extent_of (arguments_at l.text 0) ≡ option_map (extent_after l.at l.depth) (arguments_at (drop l.at l.text) l.unclosed))

abbrev pub decreases-loop-at : goal.decreases-loop-at
decreases-loop-at l = length l.initial.text - l.at
