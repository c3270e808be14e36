use Rattle.std.proofs.Common.{◌≡◌, false, drop, map}
use Rattle.httparse.specs.Spans.{header_bytes}
use Rattle.http_text.specs.ResponseHeads.{chunked_after}
use Rattle.http_text.proofs.fields.is_chunked.Given as goal

abbrev pub invariant-loop-field : goal.invariant-loop-field
invariant-loop-field l =
    chunked_after l.chunked (map (header_bytes l.head) (drop l.field-index l.fields)) ≡ chunked_after false (map (header_bytes l.head) l.fields)
