use Rattle.std.proofs.Common.{sym, ◌∙◌}
use Rattle.http_lines.proofs.LineLaws.{end-more, end-here, scanned-more}
use Rattle.http_lines.proofs.scan.Scan.find_end.Goals as goal

pub loop-index-preserved : goal.loop-index-preserved
loop-index-preserved c = record {
  found = end-more c.loop-index.scan _ c.args.piece.now c.loop-index.index _ c.loop-index-test.true (sym c.is_last.ensures ∙ c.if-is_last.false) c.next-scan.ensures c.loop-index.invariant.found;
  scanned = scanned-more c.loop-index.scan _ _ c.args.piece.now c.loop-index.index c.loop-index-test.true c.next-scan.ensures c.loop-index.invariant.scanned;
}

pub returns-then-is_last-clause-found : goal.returns-then-is_last-clause-found
returns-then-is_last-clause-found c =
    end-here c.loop-index.scan c.args.piece.now c.loop-index.index _ c.loop-index-test.true (sym c.is_last.ensures ∙ c.if-is_last.true) c.loop-index.invariant.found
