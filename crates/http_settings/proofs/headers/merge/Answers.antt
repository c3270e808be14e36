use Rattle.std.proofs.Common.{ap, ◌∙◌}
use Rattle.http_settings.specs.RequestSettings.{headers_at, set_fields, fields_seen}
use Rattle.http_settings.proofs.FieldLaws.{next-fields}
use Rattle.http_settings.proofs.headers.merge.Goals as goal

pub numbers-preserved : goal.numbers-preserved
numbers-preserved c =
    next-fields (headers_at c.args.plan.now.elements) c.args.config.now c.numbers.number-index (fields_seen c.numbers.fields.entries) (fields_seen c.set_fields.new.fields.entries) _
    c.numbers-test.true (c.in_ok-set_fields.ensures ∙ ap (set_fields (fields_seen c.numbers.fields.entries)) c.headers_at.ensures) c.numbers.invariant
