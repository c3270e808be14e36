use Rattle.std.proofs.Common.{◌≡◌, ◌++◌, drop}
use Rattle.std.specs.Prelude.{map, codes}
use Rattle.config_elements.specs.RoundStart.{variable}
use Rattle.config_elements.proofs.rounds.all_eof.Given as goal

abbrev pub invariant-names : goal.invariant-names
invariant-names l = l.variables.items ++ map (λ name. variable name (codes "<EOF>")) (drop l.name-index l.names) ≡ map (λ name. variable name (codes "<EOF>")) l.names
