use Rattle.std.proofs.Common.{◌≡◌, ◌++◌, drop}
use Rattle.http_text.specs.RequestText.{header_lines}
use Rattle.http_text.proofs.request.add_headers.Given as goal

abbrev pub invariant-loop-field : goal.invariant-loop-field
invariant-loop-field l = l.out.items ++ header_lines (drop l.field-index l.fields) ≡ l.fn.out.items ++ header_lines l.fields
