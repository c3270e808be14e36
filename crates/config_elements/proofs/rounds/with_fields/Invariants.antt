use Rattle.std.proofs.Common.{◌≡◌, ◌++◌, drop}
use Rattle.config_elements.specs.RoundStart.{with_fields}
use Rattle.config_elements.proofs.rounds.with_fields.Given as goal

abbrev pub invariant-names : goal.invariant-names
invariant-names l = l.variables.items ++ with_fields (drop l.place l.names) (drop l.place l.row) ≡ with_fields l.names l.row
