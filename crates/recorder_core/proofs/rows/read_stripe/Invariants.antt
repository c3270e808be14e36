use Rattle.std.proofs.Common.{◌≡◌, length}
use Rattle.interval_tables.specs.Rows.{merged_rows}
use Rattle.phaser_core.specs.Cells.{merged_to, stripe_rows}
use Rattle.phaser_words.specs.WordSeats.{reading, numbers, IsReporterOf}
use Rattle.recorder_core.specs.Folds.{open_cell}
use Rattle.recorder_core.proofs.rows.read_stripe.Given as goal

abbrev pub invariant-loop-label : goal.invariant-loop-label
invariant-loop-label l = record {
  seated : IsReporterOf l.words l.seat;
  same : reading l.seat ≡ reading l.initial.seat;
  long : length l.into.rows ≡ length l.initial.into.rows;
  folded : l.into.rows ≡ merged_rows (merged_to (numbers l.words).labels (open_cell (numbers l.words).labels (reading l.initial.seat)) l.fn.stripe) (stripe_rows (numbers l.words).labels (open_cell (numbers l.words).labels (reading l.initial.seat)) l.fn.stripe l.label);
}
