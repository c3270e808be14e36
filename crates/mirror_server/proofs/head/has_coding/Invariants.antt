use Rattle.std.proofs.Common.{◌≡◌, drop, map}
use Rattle.httparse.specs.Spans.{header_bytes}
use Rattle.mirror_server.specs.RequestGrammar.{has_coding}
use Rattle.mirror_server.proofs.head.has_coding.Given as goal

abbrev pub invariant-loop-field : goal.invariant-loop-field
invariant-loop-field l = has_coding (map (header_bytes l.head) (drop l.field-index l.fields)) ≡ has_coding (map (header_bytes l.head) l.fields)
