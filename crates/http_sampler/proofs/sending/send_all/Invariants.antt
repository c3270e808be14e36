use Rattle.std.proofs.Common.{◌≡◌, ◌≤◌, ◌-◌, length, take}
use Rattle.std.specs.Io.KnownBytes.{Appends, Keeps}
use Rattle.http_sampler.proofs.sending.send_all.Given as goal

abbrev pub invariant-loop-at : goal.invariant-loop-at
invariant-loop-at g l = record {
  within : l.at ≤ length l.bytes;
  sent : Appends (g.S.Stream.sent l.fn.stream) (g.S.Stream.sent l.stream) (take l.at l.bytes);
  given : Keeps (g.S.Stream.given l.fn.stream) (g.S.Stream.given l.stream);
  left : Keeps (g.S.Stream.left l.fn.stream) (g.S.Stream.left l.stream);
  faults : g.S.Stream.faults l.stream ≡ g.S.Stream.faults l.fn.stream;
}

abbrev pub decreases-loop-at : goal.decreases-loop-at
decreases-loop-at g l = length l.bytes - l.at
