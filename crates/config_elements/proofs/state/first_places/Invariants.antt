use Rattle.std.proofs.Common.{◌≡◌, ◌++◌, drop}
use Rattle.config_elements.specs.RoundStart.{first_config}
use Rattle.config_elements.proofs.state.first_places.Given as goal

abbrev pub invariant-elements : goal.invariant-elements
invariant-elements l = l.places.items ++ first_config (drop l.element-index l.elements) ≡ first_config l.elements
