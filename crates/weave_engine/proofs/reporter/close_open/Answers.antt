use Rattle.std.proofs.Common.{◌≡◌, true, false, ap, sym, ◌∙◌}
use Rattle.weave_engine.specs.Turns.{reporter_turn, idle_after, is_idle}
use Rattle.weave_engine.specs.Seats.{Runs}
use Rattle.weave_engine.proofs.RowLaws.{row_of, continues_more}
use Rattle.weave_engine.proofs.ReporterLaws.{close_moves, close_nears, closes}
use Rattle.weave_engine.proofs.reporter.close_open.Goals as goal

pub returns-then-is_idle-2-clause-closes : goal.returns-then-is_idle-2-clause-closes
returns-then-is_idle-2-clause-closes c = λ n s runs.
    let seats = c.args.seats.now.items in
    let after = c.reporter_turn.new.core in
    let is : c.is_idle-in-turns.result ≡ is_idle after.reporter.closing = c.is_idle-in-turns.ensures ∙ ap is_idle c.closing-in-turns.ensures in
    closes n seats c.args.core.now after s runs false (sym (c.is_idle.ensures ∙ ap is_idle c.closing.ensures) ∙ c.if-is_idle.false)
    (row_of (reporter_turn n) (idle_after n) (Runs n seats c.args.core.now) (Runs n seats c.turns.core) (Runs n seats after) (c.turns.invariant.on n)
    (close_moves n seats c.turns.core after true c.in_ok-reporter_turn.ensures (sym c.if-is_idle-2.true ∙ is)) s runs)

pub turns-smaller : goal.turns-smaller
turns-smaller c =
    let seats = c.args.seats.now.items in
    let after = c.reporter_turn.new.core in
    let is : c.is_idle-in-turns.result ≡ is_idle after.reporter.closing = c.is_idle-in-turns.ensures ∙ ap is_idle c.closing-in-turns.ensures in
    let r = c.requires.runs in
    let u = c.turns.invariant.on r.0 r.1 r.2 in
    close_nears r.0 seats c.turns.core after u.0 u.1 (c.in_ok-reporter_turn.ensures r.0 seats u.0 u.1) c.requires.quiet (sym is ∙ c.if-is_idle-2.false)

pub turns-preserved : goal.turns-preserved
turns-preserved c = record {
  on = λ n.
      let seats = c.args.seats.now.items in
      let after = c.reporter_turn.new.core in
      let is : c.is_idle-in-turns.result ≡ is_idle after.reporter.closing = c.is_idle-in-turns.ensures ∙ ap is_idle c.closing-in-turns.ensures in
      continues_more (reporter_turn n) (idle_after n) (Runs n seats c.args.core.now) (Runs n seats c.turns.core) (Runs n seats after) (c.turns.invariant.on n)
      (close_moves n seats c.turns.core after false c.in_ok-reporter_turn.ensures (sym c.if-is_idle-2.false ∙ is));
}
