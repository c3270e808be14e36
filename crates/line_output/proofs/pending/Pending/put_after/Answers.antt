use Rattle.std.proofs.Common.{sym, subst}
use Rattle.std.proofs.lemmas.Result.{on_ok_weaker, on_err_weaker}
use Rattle.line_output.specs.OutputPieces.{Moves}
use Rattle.line_output.proofs.PieceLaws.{moves_out, front_after}
use Rattle.line_output.proofs.pending.Pending.put_after.Goals as goal

pub returns-then-text-gt-MOST-clause-moved : goal.returns-then-text-gt-MOST-clause-moved
returns-then-text-gt-MOST-clause-moved g c =
    let before = g.K.Sink.written c.args.sink.now in
    let between = g.K.Sink.written c.hand_over.new.sink in
    let after = g.K.Sink.written c.write_all.new.sink in
    on_ok_weaker c.write_all.result
    (λ out. subst (λ held. Moves before after c.args.self.now held c.args.text.now) (sym c.hand_over.ensures.gone)
    (moves_out before between after c.args.self.now c.args.text.now c.in_ok-hand_over.ensures.whole out))
    c.write_all.ensures.whole

pub returns-then-text-gt-MOST-clause-prefix : goal.returns-then-text-gt-MOST-clause-prefix
returns-then-text-gt-MOST-clause-prefix g c =
    on_err_weaker c.write_all.result
    (λ prefix. front_after (g.K.Sink.written c.args.sink.now) (g.K.Sink.written c.hand_over.new.sink) (g.K.Sink.written c.write_all.new.sink) c.args.self.now c.args.text.now
    c.in_ok-hand_over.ensures.whole prefix)
    c.write_all.ensures.prefix
