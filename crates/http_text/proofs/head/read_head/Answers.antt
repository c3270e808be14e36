use Rattle.std.proofs.Common.{◌≡◌, sym, ◌∙◌, refl, arith, ap}
use Rattle.http_text.specs.ResponseHeads.{without_last}
use Rattle.http_text.proofs.HeadLaws.{says-from}
use Rattle.http_text.proofs.head.read_head.Goals as goal

pub returns : goal.returns
returns c =
    let at = rw c.in-Ok-Complete.field-0-is at c.in-Ok-Complete.ensures.complete in
    let within = rw c.in-Ok-Complete.field-0-is at c.in-Ok-Complete.ensures.within in
    says-from c.args.text.now c.parse_response.new.headers c.in-Ok-Complete.found at.0 c.in-Some.framing _ _ _ at.1 c.if-found-text.false within.section.count_fits
    c.parse_response.auto.headers (omega (arith, c.if-found-lt-LEAST_CODE.false)) (c.in_ok-new.ensures ∙ c.of.ensures) (c.in_ok-new-2.ensures ∙ c.without_last_line.ensures ∙ ap without_last c.after_status_line.ensures)
    (c.of-2.ensures ∙ c.new-3.ensures.items) (sym c.in-Some.is ∙ c.framing_of.ensures)
