use Rattle.std.proofs.Common.{◌≡◌, ◌-◌, ◌++◌}
use Rattle.extractors.specs.Matches.{between, bounded_texts}
use Rattle.extractors.proofs.matches.bounded_texts.Given as goal

abbrev pub invariant-texts : goal.invariant-texts
invariant-texts l = l.texts.items ++ between (l._turn-end - l._turn) l.left l.right l.rest ≡ bounded_texts l.left l.right l.fn.text
