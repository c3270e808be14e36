use Rattle.std.proofs.Common.{◌≡◌, Some, sym, ap, ◌∙◌}
use Rattle.http_text.specs.RequestText.{port_of, no_target}
use Rattle.http_text.proofs.request.request_bytes.Goals as goal

pub returns-in-Ok-None-clause-bad : goal.returns-in-Ok-None-clause-bad
returns-in-Ok-None-clause-bad c =
    let none = rw c.in-Ok-None.field-0-is at c.in-Ok-None.ensures in
    λ _. no_target {port = c.in-Some.port} (sym (c.in-Some.ensures ∙ ap port_of c.bytes.ensures)) none
