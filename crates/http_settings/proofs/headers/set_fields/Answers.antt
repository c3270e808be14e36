use Rattle.http_settings.specs.RequestSettings.{fields_seen}
use Rattle.http_settings.proofs.FieldLaws.{next-field}
use Rattle.http_settings.proofs.headers.set_fields.Goals as goal

pub pairs-preserved : goal.pairs-preserved
pairs-preserved c =
    next-field c.args.pairs.now c.pairs.pair-index c.pair-item.result (fields_seen c.pairs.fields.entries) (fields_seen c.set_field.new.fields.entries) _
    c.pairs-test.true c.pair-item.is c.in_ok-set_field.ensures c.pairs.invariant
