use Rattle.std.proofs.Common.{◌≡◌, ◌-◌, length}
use Rattle.std.specs.Io.KnownBytes.{Keeps}
use Rattle.mirror_server.specs.RequestReading.{Stands}
use Rattle.mirror_server.specs.RequestGrammar.{request_limit}
use Rattle.mirror_server.specs.Mirroring.{Receives}
use Rattle.mirror_server.proofs.serve.receive_request.Given as goal

abbrev pub invariant-pieces : goal.invariant-pieces
invariant-pieces g l = record {
  received : Receives
      (record { sent = g.S.Stream.sent l.fn.stream; given = g.S.Stream.given l.fn.stream; left = g.S.Stream.left l.fn.stream; faults = g.S.Stream.faults l.fn.stream })
      (record { sent = g.S.Stream.sent l.stream; given = g.S.Stream.given l.stream; left = g.S.Stream.left l.stream; faults = g.S.Stream.faults l.stream })
      l.got.items;
  sent : Keeps (g.S.Stream.sent l.fn.stream) (g.S.Stream.sent l.stream);
  faults : g.S.Stream.faults l.stream ≡ g.S.Stream.faults l.fn.stream;
  stands : Stands l.progress l.got.items;
}

abbrev pub decreases-pieces : goal.decreases-pieces
decreases-pieces g l = request_limit - length l.got.items
