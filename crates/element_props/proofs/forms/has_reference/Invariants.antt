use Rattle.std.proofs.Common.{◌≡◌, ◌&&◌, ◌||◌, drop}
use Rattle.element_props.specs.Forms.{has_reference, starts_brace}
use Rattle.element_props.proofs.forms.has_reference.Given as goal

abbrev pub invariant-loop-byte : goal.invariant-loop-byte
invariant-loop-byte l = ((l.after_dollar && starts_brace (drop l.byte-index l.text)) || has_reference (drop l.byte-index l.text)) ≡ has_reference l.text
