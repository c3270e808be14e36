use Rattle.std.proofs.Common.{◌∙◌}
use Rattle.edge_io.proofs.EdgeLaws.{rest_within, written_on}
use Rattle.edge_io.proofs.sink.write_all.Goals as goal

pub loop-at-preserved : goal.loop-at-preserved
loop-at-preserved g c = record {
  within = rest_within c.args.piece.now c.loop-at.at _ c.loop-at-test.true c.in_ok-at.ensures.bound;
  written = written_on _ _ _ c.args.piece.now c.loop-at.at _ c.loop-at.invariant.written c.in_ok-at.ensures.bytes;
  faults = c.in_ok-at.ensures.ok ∙ c.loop-at.invariant.faults;
}
