use Rattle.std.proofs.Common.{◌≡◌, ◌+◌, drop}
use Rattle.std.specs.Option.{option_map}
use Rattle.http_lines.specs.SectionEnds.{section_end, scanned}
use Rattle.http_lines.proofs.scan.Scan.find_end.Given as goal

abbrev pub invariant-loop-index : goal.invariant-loop-index
invariant-loop-index l = record {
  found : option_map (λ n. l.index + n) (section_end l.scan (drop l.index l.piece)) ≡ section_end l.fn.self l.piece;
  scanned : scanned l.scan (drop l.index l.piece) ≡ scanned l.fn.self l.piece;
}
