use Rattle.std.proofs.Common.{◌≡◌, ◌+◌, ◌*◌, ◌≤◌, drop}
use Rattle.template_text.specs.View.{pieces_of, arguments_of, weight, arguments_weight}
use Rattle.element_props.specs.Conditions.{bad_condition, bad_argument, plain_bytes, arguments_bytes}
use Rattle.element_props.specs.PieceViews.{piece_weight}
use Rattle.element_props.proofs.conditions.+walk.Given as goal

-- what is left has the first condition that can't be read
abbrev pub invariant-bad_condition-loop-piece : goal.invariant-bad_condition-loop-piece
invariant-bad_condition-loop-piece l = record {
  pieces : pieces_of l.piece-items ≡ l.template;
  left : bad_condition (pieces_of (drop l.piece-index l.piece-items)) ≡ bad_condition l.template;
  room : plain_bytes (pieces_of (drop l.piece-index l.piece-items)) ≤ 65536;
}

abbrev pub invariant-bad_argument-loop-argument : goal.invariant-bad_argument-loop-argument
invariant-bad_argument-loop-argument l = record {
  left : bad_argument (arguments_of (drop l.argument-index l.args)) ≡ bad_argument (arguments_of l.args);
  room : arguments_bytes (arguments_of (drop l.argument-index l.args)) ≤ 65536;
}

-- an argument weighs no more than all of them, and a call weighs more than its arguments
abbrev pub decreases-bad_condition : goal.decreases-bad_condition
decreases-bad_condition l = 3 * weight l.template.now

abbrev pub decreases-bad_argument : goal.decreases-bad_argument
decreases-bad_argument l = 3 * arguments_weight (arguments_of l.args.now) + 1

abbrev pub decreases-bad_piece : goal.decreases-bad_piece
decreases-bad_piece l = 3 * piece_weight l.piece.now + 2
