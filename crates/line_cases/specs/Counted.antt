-- Rows that count a few samples.
use Rattle.std.specs.Prelude.{◌≡◌, ◌≤◌, ℕ, List, length}
use Rattle.jm_base.specs.declared.types.Entry.{Entry}
use Rattle.interval_tables.specs.declared.row.Row.{Row}
use Rattle.interval_tables.specs.Rows.{sum_of, AllLabels}
use Rattle.interval_tables.proofs.Bounds.{AllSmall}

-- the rows of that many labels are the sum of at most `most` samples
pub record IsCount (labels : ℕ) (rows : List Row) (most : ℕ) : Type 0 where
  pub samples : List Entry
  pub sum : rows ≡ sum_of labels samples
  pub labelled : AllLabels labels samples
  pub small : AllSmall samples
  pub few : length samples ≤ most
