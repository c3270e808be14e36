use Rattle.std.proofs.Common.{◌≡◌, take, map}
use Rattle.element_props.proofs.forms.copies.Given as goal

abbrev pub invariant-copies : goal.invariant-copies
invariant-copies l = l.texts.items ≡ map (λ s. s.now) (take l.string-index l.strings)
