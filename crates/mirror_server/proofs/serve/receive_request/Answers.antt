use Rattle.std.proofs.Common.{◌≤◌, length, take, drop, List, ℕ, sym, subst, ◌∙◌}
use Rattle.http_sampler.specs.Streams.{Standing}
use Rattle.mirror_server.specs.RequestGrammar.{Asks, Whole, Refused}
use Rattle.mirror_server.specs.RequestReading.{Begins}
use Rattle.mirror_server.specs.Mirroring.{Comes}
use Rattle.mirror_server.proofs.ReadingLaws.{stands-open, begins-whole}
use Rattle.mirror_server.proofs.MirrorLaws.{piece-stops, piece-comes, refused-stops}
use Rattle.mirror_server.proofs.serve.receive_request.Goals as goal

pub returns-in-Err-clause-stops : goal.returns-in-Err-clause-stops
returns-in-Err-clause-stops g c =
    let old : Standing = record { sent = g.S.Stream.sent c.args.stream.now; given = g.S.Stream.given c.args.stream.now; left = g.S.Stream.left c.args.stream.now; faults = g.S.Stream.faults c.args.stream.now } in
    let mid : Standing = record { sent = g.S.Stream.sent c.pieces.stream; given = g.S.Stream.given c.pieces.stream; left = g.S.Stream.left c.pieces.stream; faults = g.S.Stream.faults c.pieces.stream } in
    let new : Standing = record { sent = g.S.Stream.sent c.receive_piece.new.stream; given = g.S.Stream.given c.receive_piece.new.stream; left = g.S.Stream.left c.receive_piece.new.stream; faults = g.S.Stream.faults c.receive_piece.new.stream } in
    piece-stops old mid new c.pieces.got.items c.in-Err.error c.pieces.invariant.received (stands-open c.pieces.progress c.pieces.got.items c.pieces.invariant.stands)
    c.pieces.invariant.faults c.in-Err.ensures.stops

pub returns-in-Whole-clause-request : goal.returns-in-Whole-clause-request
returns-in-Whole-clause-request g c =
    let old : Standing = record { sent = g.S.Stream.sent c.args.stream.now; given = g.S.Stream.given c.args.stream.now; left = g.S.Stream.left c.args.stream.now; faults = g.S.Stream.faults c.args.stream.now } in
    let mid : Standing = record { sent = g.S.Stream.sent c.pieces.stream; given = g.S.Stream.given c.pieces.stream; left = g.S.Stream.left c.pieces.stream; faults = g.S.Stream.faults c.pieces.stream } in
    let new : Standing = record { sent = g.S.Stream.sent c.receive_piece.new.stream; given = g.S.Stream.given c.receive_piece.new.stream; left = g.S.Stream.left c.receive_piece.new.stream; faults = g.S.Stream.faults c.receive_piece.new.stream } in
    let got : List ℕ = c.receive_piece.new.got.items in
    let begins : Begins got c.in-Whole.total = subst (λ bytes. Begins bytes c.in-Whole.total) c.deref.ensures.value c.in-Whole.ensures.0 in
    let all : c.in-Whole.total ≤ length got = subst (λ bytes. c.in-Whole.total ≤ length bytes) c.deref.ensures.value c.in-Whole.ensures.1 in (
      drop c.in-Whole.total got,
      subst (λ request. Comes old new (Whole request (drop c.in-Whole.total got))) (sym c.truncate.ensures.items)
          (piece-comes old mid new c.pieces.got.items got (Whole (take c.in-Whole.total got) (drop c.in-Whole.total got)) c.pieces.invariant.received
          (stands-open c.pieces.progress c.pieces.got.items c.pieces.invariant.stands) c.in-Ok.ensures.piece (begins-whole got c.in-Whole.total begins all)),
    )

pub returns-in-Refused-clause-stops : goal.returns-in-Refused-clause-stops
returns-in-Refused-clause-stops g c =
    let old : Standing = record { sent = g.S.Stream.sent c.args.stream.now; given = g.S.Stream.given c.args.stream.now; left = g.S.Stream.left c.args.stream.now; faults = g.S.Stream.faults c.args.stream.now } in
    let mid : Standing = record { sent = g.S.Stream.sent c.pieces.stream; given = g.S.Stream.given c.pieces.stream; left = g.S.Stream.left c.pieces.stream; faults = g.S.Stream.faults c.pieces.stream } in
    let new : Standing = record { sent = g.S.Stream.sent c.receive_piece.new.stream; given = g.S.Stream.given c.receive_piece.new.stream; left = g.S.Stream.left c.receive_piece.new.stream; faults = g.S.Stream.faults c.receive_piece.new.stream } in
    let got : List ℕ = c.receive_piece.new.got.items in
    let asks : Asks got (Refused c.in-Refused.error) = subst (λ bytes. Asks bytes (Refused c.in-Refused.error)) c.deref.ensures.value c.in-Refused.ensures in
    refused-stops old new c.in-Refused.error
    (piece-comes old mid new c.pieces.got.items got (Refused c.in-Refused.error) c.pieces.invariant.received
    (stands-open c.pieces.progress c.pieces.got.items c.pieces.invariant.stands) c.in-Ok.ensures.piece asks)
    (c.in-Ok.ensures.ok ∙ c.pieces.invariant.faults)
