use Rattle.std.proofs.Common.{ap, ◌∙◌}
use Rattle.csv.specs.declared.record.ByteRecord.{ByteRecord}
use Rattle.csv.specs.Records.{fields_of, field_at}
use Rattle.config_elements.proofs.RecordLaws.{one-more, no-more}
use Rattle.config_elements.proofs.rows.fields_of.Goals as goal

pub fields-preserved : goal.fields-preserved
fields-preserved c =
    let steps = c.in-Some.ensures.steps in
    let fields = fields_of c.args.row.now in (
      ap (λ r. r.now) steps.0 ∙ c.fields.invariant.0,
      rw (c.in_ok-push.ensures.items, c.in_ok-new.ensures, steps.2)
          (one-more fields c.fields.fields.items c.fields.field-iterator.at c.in-Some.field.now (steps.1 ∙ ap (λ (r : ByteRecord). field_at (fields_of r) c.fields.field-iterator.at) c.fields.invariant.0) c.fields.invariant.1),
    )

pub returns : goal.returns
returns c =
    no-more (fields_of c.args.row.now) c.fields.fields.items c.fields.field-iterator.at
    (c.in-None.ensures.steps.1 ∙ ap (λ (r : ByteRecord). field_at (fields_of r) c.fields.field-iterator.at) c.fields.invariant.0) c.fields.invariant.1
