-- What stands in a template weighs less than it.
use Rattle.std.proofs.Common.{◌≡◌, ◌≤◌, ◌+◌, get_or, arith, sym, ◌∙◌, ap}
use Rattle.template_text.specs.View.{pieces_of, arguments_of, weight, arguments_weight}
use Rattle.template_text.proofs.Written.{call_weight, argument_weight}
use Rattle.text_cases.proofs.templates.+pieces.Goals as goal

pub write_pieces-write_arguments-requires : goal.write_pieces-write_arguments-requires
write_pieces-write_arguments-requires t c =
    let call : arguments_weight (arguments_of c.in-Call.args.items) + 1 ≤ weight (pieces_of c.deref-piece-items.result.now) =
    call_weight c.deref-piece-items.result.now c.loop-piece.piece-index c.piece-item.result c.in-Call.name c.in-Call.args c.loop-piece-test.true (sym c.piece-item.is ∙ c.in-Call.is) in
    let same : weight (pieces_of c.deref-piece-items.result.now) ≡ weight c.args.template.now = ap weight c.loop-piece.invariant in
    let args : arguments_weight (arguments_of c.deref.result.now) ≡ arguments_weight (arguments_of c.in-Call.args.items) = ap (λ w. arguments_weight (arguments_of w)) c.deref.ensures.value in
    (omega (arith, call, same, args, c.decreases), tt)

pub write_arguments-write_pieces-requires : goal.write_arguments-write_pieces-requires
write_arguments-write_pieces-requires t c =
    let below : weight (get_or c.args.args.now c.loop-argument.argument-index c.argument-item.result) ≤ arguments_weight (arguments_of c.args.args.now) =
    argument_weight c.args.args.now c.loop-argument.argument-index c.argument-item.result c.loop-argument-test.true in
    let same : weight c.argument-item.result ≡ weight (get_or c.args.args.now c.loop-argument.argument-index c.argument-item.result) = ap weight c.argument-item.is in
    (omega (arith, below, same, c.decreases), tt)
