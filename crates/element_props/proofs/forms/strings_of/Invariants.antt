use Rattle.std.proofs.Common.{◌≡◌, drop, map}
use Rattle.serde_json.specs.View.{items_view}
use Rattle.serde_json.specs.Find.{as_str}
use Rattle.element_props.specs.Forms.{all_of}
use Rattle.element_props.proofs.PropLaws.{before}
use Rattle.element_props.proofs.forms.strings_of.Given as goal

-- the texts so far, before those that are left
abbrev pub invariant-strings : goal.invariant-strings
invariant-strings l = before (map (λ s. s.now) l.found.items) (all_of as_str (items_view (drop l.item-index l.items))) ≡ all_of as_str (items_view l.items)
