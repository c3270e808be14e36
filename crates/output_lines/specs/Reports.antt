-- The printed lines of an interval's report and of the whole run.
use Rattle.std.specs.Prelude.{ℕ, Bool, List, [], ◌∷◌, ◌++◌, codes, nat_lt}
use Rattle.std.specs.List.{zip, filter, flat_map}
use Rattle.std.specs.Fmt.{decimal}
use Rattle.element_tree.specs.Tree.{Tree}
use Rattle.element_tree.specs.Names.{labels_of}
use Rattle.interval_tables.specs.declared.row.Row.{Row}
use Rattle.interval_tables.specs.declared.report.Report.{Report}
use Rattle.interval_tables.specs.Totals.{total}
use Rattle.output_lines.specs.Lines.{csv_line}

-- whether a label with its row has samples
abbrev pub has_samples : List ℕ × Row → Bool
has_samples c = nat_lt 0 c.1.count

-- the line of a label with its row, after these fields
abbrev pub row_line : List (List ℕ) → List ℕ × Row → List ℕ
row_line prefix c =
    csv_line (prefix ++ c.0 ∷ decimal c.1.count ∷ decimal c.1.errors ∷ decimal c.1.total ∷ decimal c.1.bytes ∷ decimal c.1.least ∷ decimal c.1.greatest ∷ [])

-- a line for each label that has samples, in the order of the labels
abbrev pub label_lines : List (List ℕ) → Tree → List Row → List ℕ
label_lines prefix plan rows = flat_map (row_line prefix) (filter has_samples (zip (labels_of plan.elements) rows))

-- the line of an interval: its samples and its errors over all labels
abbrev pub interval_line : Report → List ℕ
interval_line report =
    csv_line (codes "interval" ∷ decimal report.interval ∷ decimal (total (λ r. r.count) report.rows) ∷ decimal (total (λ r. r.errors) report.rows) ∷ [])

-- the line over all labels
abbrev pub all_line : List Row → List ℕ
all_line rows =
    csv_line (codes "all" ∷ decimal (total (λ r. r.count) rows) ∷ decimal (total (λ r. r.errors) rows) ∷ decimal (total (λ r. r.total) rows) ∷ decimal (total (λ r. r.bytes) rows) ∷ [])

unfoldable pub report_text : Tree → Report → List ℕ
report_text plan report = interval_line report ++ label_lines (codes "row" ∷ decimal report.interval ∷ []) plan report.rows

unfoldable pub summary_text : Tree → Report → List ℕ
summary_text plan report = label_lines (codes "total" ∷ []) plan report.rows ++ all_line report.rows
