use Rattle.std.proofs.Common.{◌≡◌, drop}
use Rattle.http_text.specs.SizeLines.{scanned_size}
use Rattle.http_text.proofs.sizes.SizeScan.after.Given as goal

abbrev pub invariant-loop-byte : goal.invariant-loop-byte
invariant-loop-byte l = scanned_size l.scan (drop l.byte-index l.bytes) ≡ scanned_size l.fn.self l.bytes
