use Rattle.std.proofs.Common.{◌≡◌, ◌++◌, drop, map}
use Rattle.csv.specs.Records.{fields_of}
use Rattle.element_props.specs.Tables.{rows_of}
use Rattle.config_elements.proofs.rows.Rows.read.Given as goal

abbrev pub invariant-records : goal.invariant-records
invariant-records l = l.rows.items ++ map fields_of (drop l.row-index l.row-items) ≡ rows_of l.text
