use Rattle.std.proofs.Common.{◌≡◌, ◌++◌, drop}
use Rattle.csv.specs.Records.{fields_of}
use Rattle.config_elements.proofs.rows.fields_of.Given as goal

abbrev pub invariant-fields : goal.invariant-fields
invariant-fields l = (l.field-iterator.row.now ≡ l.row) × (l.fields.items ++ drop l.field-iterator.at (fields_of l.row) ≡ fields_of l.row)
