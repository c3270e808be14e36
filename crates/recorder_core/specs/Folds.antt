-- How far the stripes of an interval are folded into a report.
use Rattle.std.specs.Prelude.{◌≡◌, ℕ, ◌*◌, List, length, slice_index}
use Rattle.interval_tables.specs.declared.row.Row.{Row}
use Rattle.phaser_core.specs.declared.view.ReporterView.{ReporterView}
use Rattle.phaser_core.specs.Cells.{merged_to}
use Rattle.phaser_core.specs.Views.{joined_at}
use Rattle.phaser_core.specs.Shares.{SumsOfStripes}
use Rattle.phaser_core.specs.CoreMoves.{gathered}

-- The reporter, which began as r, has taken the cells of the first stripes, and these rows have them folded. The cells sum some entries, stripe by stripe.
pub record HasTaken (labels stripes : ℕ) (r s : ReporterView) (rows : List Row) : Type 0 where
  pub cells : List ℕ
  pub count : length cells ≡ 6 * (stripes * labels)
  pub taken : s ≡ gathered r cells (6 * (stripes * labels))
  pub folded : rows ≡ merged_to labels (λ j. slice_index cells j) stripes
  pub sums : SumsOfStripes labels (length cells) (λ j. slice_index cells j)

-- what cell j, in word order, of the open interval holds once every writer was joined
abbrev pub open_cell : ℕ → ReporterView → ℕ → ℕ
open_cell labels r j = joined_at labels r.interval j r.joined
