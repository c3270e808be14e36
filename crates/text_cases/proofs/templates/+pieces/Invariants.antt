use Rattle.std.proofs.Common.{◌≡◌, ◌+◌, ◌*◌}
use Rattle.template_text.specs.View.{pieces_of, arguments_of, weight, arguments_weight}
use Rattle.text_cases.proofs.templates.+pieces.Given as goal

abbrev pub invariant-write_pieces-loop-piece : goal.invariant-write_pieces-loop-piece
invariant-write_pieces-loop-piece l = pieces_of l.piece-items ≡ l.template

-- a call weighs more than its arguments
abbrev pub decreases-write_pieces : goal.decreases-write_pieces
decreases-write_pieces l = 2 * weight l.template.now

abbrev pub decreases-write_arguments : goal.decreases-write_arguments
decreases-write_arguments l = 2 * arguments_weight (arguments_of l.args.now) + 1
