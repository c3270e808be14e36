use Rattle.std.proofs.Common.{◌∙◌}
use Rattle.edge_io.proofs.EdgeLaws.{rest_within, written_on, Keeps-trans}
use Rattle.http_sampler.proofs.sending.send_all.Goals as goal

pub loop-at-preserved : goal.loop-at-preserved
loop-at-preserved g c = record {
  within = rest_within c.args.bytes.now c.loop-at.at _ c.loop-at-test.true c.in_ok-at.ensures.bound;
  sent = written_on _ _ _ c.args.bytes.now c.loop-at.at _ c.loop-at.invariant.sent c.in_ok-at.ensures.bytes;
  given = Keeps-trans _ _ _ c.loop-at.invariant.given c.in_ok-at.ensures.given;
  left = Keeps-trans _ _ _ c.loop-at.invariant.left c.in_ok-at.ensures.left;
  faults = c.in_ok-at.ensures.ok ∙ c.loop-at.invariant.faults;
}
