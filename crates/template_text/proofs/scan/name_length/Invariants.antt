use Rattle.std.proofs.Common.{◌≡◌, ◌+◌, drop}
use Rattle.template_text.specs.Scan.{name_length}
use Rattle.template_text.proofs.scan.name_length.Given as goal

-- the bytes so far are name bytes
abbrev pub invariant-loop-i : goal.invariant-loop-i
invariant-loop-i l = name_length l.text ≡ l.i + name_length (drop l.i l.text)
