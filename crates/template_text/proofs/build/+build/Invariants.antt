use Rattle.std.proofs.Common.{◌≡◌, ◌+◌, ◌-◌, ◌*◌, ◌≤◌, length, drop, option_map}
use Rattle.template_text.specs.Scan.{arguments_at}
use Rattle.template_text.specs.Builders.{joined_arguments}
use Rattle.template_text.proofs.build.+build.Given as goal

-- what is built and what is left are all arguments
abbrev pub invariant-arguments-loop-by : goal.invariant-arguments-loop-by
invariant-arguments-loop-by l = (l.at ≤ length l.text) × (l.unclosed ≤ l.at)
    × (arguments_at l.text 0 ≡ option_map (joined_arguments l.arguments) (arguments_at (drop l.at l.text) l.unclosed))

abbrev pub decreases-arguments-loop-by : goal.decreases-arguments-loop-by
decreases-arguments-loop-by l = length l.initial.text - l.at

-- a call's arguments are shorter than the call, and a reference in them no longer than what is left of them
abbrev pub decreases-piece : goal.decreases-piece
decreases-piece l = 3 * length l.text.now

abbrev pub decreases-arguments : goal.decreases-arguments
decreases-arguments l = 3 * length l.text.now + 1

abbrev pub decreases-call_arguments : goal.decreases-call_arguments
decreases-call_arguments l = 3 * length l.text.now + 2
