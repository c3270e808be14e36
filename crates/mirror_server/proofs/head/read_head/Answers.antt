use Rattle.std.proofs.Common.{sym, ◌∙◌}
use Rattle.mirror_server.proofs.HeadLaws.{says-from}
use Rattle.mirror_server.proofs.head.read_head.Goals as goal

pub returns : goal.returns
returns c =
    let at = rw c.in-Ok-Complete.field-0-is at c.in-Ok-Complete.ensures.complete in
    let within = rw c.in-Ok-Complete.field-0-is at c.in-Ok-Complete.ensures.within in
    says-from c.args.text.now c.parse_request.new.headers c.in-Ok-Complete.found at.0 c.in-Some.known _ _ at.1 c.if-found-text.false within.section.count_fits
    c.parse_request.auto.headers (sym c.in-Some.is ∙ c.length_of.ensures) c.unwrap_or.ensures c.has_coding.ensures
