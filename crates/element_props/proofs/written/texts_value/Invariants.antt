use Rattle.std.proofs.Common.{◌≡◌, drop}
use Rattle.serde_json.specs.View.{items_view}
use Rattle.element_props.specs.PropertiesWritten.{items_by, text_data}
use Rattle.element_props.proofs.WrittenLaws.{joined}
use Rattle.element_props.proofs.written.texts_value.Given as goal

-- the values so far, before those that are left
abbrev pub invariant-texts : goal.invariant-texts
invariant-texts l = joined (items_view l.values.items) (items_by text_data (drop l.text-index l.texts)) ≡ items_by text_data l.texts
