use Rattle.std.proofs.Common.{◌≡◌, None, drop, map}
use Rattle.httparse.specs.Spans.{header_bytes}
use Rattle.http_lines.specs.HeaderFields.{length_after}
use Rattle.http_lines.proofs.fields.length_of.Given as goal

abbrev pub invariant-loop-field : goal.invariant-loop-field
invariant-loop-field l =
    length_after l.known (map (header_bytes l.head) (drop l.field-index l.fields)) ≡ length_after None (map (header_bytes l.head) l.fields)
