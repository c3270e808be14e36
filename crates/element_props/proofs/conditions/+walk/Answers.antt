-- What stands in a template weighs less than it.
use Rattle.std.proofs.Common.{◌≡◌, ◌≤◌, get_or, arith, ap}
use Rattle.template_text.specs.View.{pieces_of, arguments_of, weight, arguments_weight}
use Rattle.template_text.proofs.Written.{argument_weight}
use Rattle.element_props.specs.PieceViews.{piece_weight}
use Rattle.element_props.proofs.ConditionLaws.{piece_falls, bytes_at, argument_bytes_at}
use Rattle.element_props.proofs.conditions.+walk.Goals as goal

pub bad_argument-bad_condition-requires : goal.bad_argument-bad_condition-requires
bad_argument-bad_condition-requires t c =
    let below : weight (get_or c.args.args.now c.loop-argument.argument-index c.argument-item.result) ≤ arguments_weight (arguments_of c.args.args.now) =
    argument_weight c.args.args.now c.loop-argument.argument-index c.argument-item.result c.loop-argument-test.true in
    let same : weight c.argument-item.result ≡ weight (get_or c.args.args.now c.loop-argument.argument-index c.argument-item.result) = ap weight c.argument-item.is in
    let room = argument_bytes_at c.args.args.now c.loop-argument.argument-index c.argument-item.result c.loop-argument-test.true c.argument-item.is in
    (omega (arith, below, same, c.decreases), omega (arith, room, c.loop-argument.invariant.room))

pub bad_condition-bad_piece-requires : goal.bad_condition-bad_piece-requires
bad_condition-bad_piece-requires t c =
    let below = piece_falls c.deref-piece-items.result.now c.loop-piece.piece-index c.piece-item.result c.loop-piece-test.true in
    let same : piece_weight c.piece-item.result ≡ piece_weight (get_or c.deref-piece-items.result.now c.loop-piece.piece-index c.piece-item.result) = ap piece_weight c.piece-item.is in
    let whole : weight (pieces_of c.deref-piece-items.result.now) ≡ weight c.args.template.now = ap weight c.loop-piece.invariant.pieces in
    let room = bytes_at c.deref-piece-items.result.now c.loop-piece.piece-index c.piece-item.result c.loop-piece-test.true c.piece-item.is in
    (omega (arith, below, same, whole, c.decreases), omega (arith, room, c.loop-piece.invariant.room))
