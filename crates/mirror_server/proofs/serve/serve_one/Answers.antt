use Rattle.std.proofs.Common.{ap, subst, ◌∙◌}
use Rattle.edge_io.specs.Edges.{AppendsProperPrefix}
use Rattle.http_sampler.specs.Streams.{Standing}
use Rattle.mirror_server.specs.Mirroring.{answer_text}
use Rattle.mirror_server.proofs.MirrorLaws.{fails-from}
use Rattle.mirror_server.proofs.serve.serve_one.Goals as goal

pub returns-clause-fails : goal.returns-clause-fails
returns-clause-fails g c =
    let old : Standing = record { sent = g.S.Stream.sent c.args.stream.now; given = g.S.Stream.given c.args.stream.now; left = g.S.Stream.left c.args.stream.now; faults = g.S.Stream.faults c.args.stream.now } in
    let mid : Standing = record { sent = g.S.Stream.sent c.receive_request.new.stream; given = g.S.Stream.given c.receive_request.new.stream; left = g.S.Stream.left c.receive_request.new.stream; faults = g.S.Stream.faults c.receive_request.new.stream } in
    let new : Standing = record { sent = g.S.Stream.sent c.send_all.new.stream; given = g.S.Stream.given c.send_all.new.stream; left = g.S.Stream.left c.send_all.new.stream; faults = g.S.Stream.faults c.send_all.new.stream } in
    λ _. fails-from old mid new c.in-Ok.request.items c.in-Ok-answer_of.answer.items c.in-Ok.ensures.request c.in-Ok.ensures.sent
    (c.in-Ok-answer_of.ensures ∙ ap answer_text c.deref.ensures.value)
    (subst (AppendsProperPrefix mid.sent new.sent) c.deref-2.ensures.value c.in-Err-send_all.ensures.prefix)
    c.in-Err-send_all.ensures.given c.in-Err-send_all.ensures.left
