use Rattle.std.proofs.Common.{◌≡◌, drop}
use Rattle.serde_json.specs.View.{items_view}
use Rattle.element_props.specs.PropertiesWritten.{items_by, pair_data}
use Rattle.element_props.proofs.WrittenLaws.{joined}
use Rattle.element_props.proofs.written.pairs_value.Given as goal

-- the values so far, before those that are left
abbrev pub invariant-pairs : goal.invariant-pairs
invariant-pairs l = joined (items_view l.values.items) (items_by pair_data (drop l.pair-index l.pairs)) ≡ items_by pair_data l.pairs
