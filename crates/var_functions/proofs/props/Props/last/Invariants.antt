use Rattle.std.proofs.Common.{◌≡◌, drop}
use Rattle.std.specs.Option.{option_map}
use Rattle.var_functions.specs.RunProps.{property_of, or_else}
use Rattle.var_functions.proofs.props.Props.last.Given as goal

-- what was found stands, unless a later pair has the name
abbrev pub invariant-loop-other : goal.invariant-loop-other
invariant-loop-other l = or_else (property_of l.name (drop l.other-index l.self)) (option_map (λ s. s.now) l.found) ≡ property_of l.name l.self
