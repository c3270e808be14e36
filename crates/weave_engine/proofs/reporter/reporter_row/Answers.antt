use Rattle.std.proofs.Common.{◌≡◌, true, false, ap, sym, ◌∙◌}
use Rattle.std.specs.Prelude.{◌||◌, ◌&&◌}
use Rattle.weave_engine.specs.Turns.{reporter_turn, ends_reporters_row, is_idle, is_waiting}
use Rattle.weave_engine.specs.Seats.{Runs}
use Rattle.weave_engine.proofs.RowLaws.{row_of, continues_more}
use Rattle.weave_engine.proofs.ReporterLaws.{reporter_moves, row_nears}
use Rattle.weave_engine.proofs.reporter.reporter_row.Goals as goal

pub returns-then-ends_row : goal.returns-then-ends_row
returns-then-ends_row c = λ n seats s runs.
    let before = c.turns.core.reporter.closing in
    let after = c.reporter_turn.new.core.reporter.closing in
    let is : c.ends_row.result ≡ (is_idle after || (is_waiting before && is_waiting after)) =
    c.ends_row.ensures ∙ ap (λ b. is_idle c.closing-in-turns.result || (b && is_waiting c.closing-in-turns.result)) (c.is_waiting-waited.ensures ∙ ap is_waiting c.closing.ensures)
    ∙ ap (λ k. is_idle k || (is_waiting before && is_waiting k)) c.closing-in-turns.ensures in
    row_of (reporter_turn n) (ends_reporters_row n) (Runs n seats c.args.core.now) (Runs n seats c.turns.core) (Runs n seats c.reporter_turn.new.core) (c.turns.invariant.on n seats)
    (reporter_moves n seats c.turns.core c.reporter_turn.new.core true c.in_ok-reporter_turn.ensures (sym c.if-ends_row.true ∙ is)) s runs

pub turns-smaller : goal.turns-smaller
turns-smaller c =
    let before = c.turns.core.reporter.closing in
    let after = c.reporter_turn.new.core.reporter.closing in
    let is : c.ends_row.result ≡ (is_idle after || (is_waiting before && is_waiting after)) =
    c.ends_row.ensures ∙ ap (λ b. is_idle c.closing-in-turns.result || (b && is_waiting c.closing-in-turns.result)) (c.is_waiting-waited.ensures ∙ ap is_waiting c.closing.ensures)
    ∙ ap (λ k. is_idle k || (is_waiting before && is_waiting k)) c.closing-in-turns.ensures in
    let r = c.requires in
    let u = c.turns.invariant.on r.0 r.1 r.2 r.3 in
    row_nears r.0 r.1 c.turns.core c.reporter_turn.new.core u.0 u.1 (c.in_ok-reporter_turn.ensures r.0 r.1 u.0 u.1) (sym is ∙ c.if-ends_row.false)

pub turns-preserved : goal.turns-preserved
turns-preserved c = record {
  on = λ n seats.
      let before = c.turns.core.reporter.closing in
      let after = c.reporter_turn.new.core.reporter.closing in
      let is : c.ends_row.result ≡ (is_idle after || (is_waiting before && is_waiting after)) =
      c.ends_row.ensures ∙ ap (λ b. is_idle c.closing-in-turns.result || (b && is_waiting c.closing-in-turns.result)) (c.is_waiting-waited.ensures ∙ ap is_waiting c.closing.ensures)
      ∙ ap (λ k. is_idle k || (is_waiting before && is_waiting k)) c.closing-in-turns.ensures in
      continues_more (reporter_turn n) (ends_reporters_row n) (Runs n seats c.args.core.now) (Runs n seats c.turns.core) (Runs n seats c.reporter_turn.new.core) (c.turns.invariant.on n seats)
      (reporter_moves n seats c.turns.core c.reporter_turn.new.core false c.in_ok-reporter_turn.ensures (sym c.if-ends_row.false ∙ is));
}
