use Rattle.std.proofs.Common.{◌≡◌, drop}
use Rattle.http_lines.specs.declared.scan.Line.TheVariants.{Fresh}
use Rattle.http_text.specs.ResponseHeads.{after_first_line}
use Rattle.http_text.proofs.head.after_status_line.Given as goal

abbrev pub invariant-loop-index : goal.invariant-loop-index
invariant-loop-index l = after_first_line l.line (drop l.index l.head) ≡ after_first_line Fresh l.fn.head
