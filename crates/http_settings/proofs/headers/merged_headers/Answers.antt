use Rattle.std.proofs.Common.{ap, map, ◌∙◌}
use Rattle.http_settings.specs.RequestSettings.{Fields}
use Rattle.http_settings.proofs.FieldLaws.{values-seen}
use Rattle.http_settings.proofs.headers.merged_headers.Goals as goal

pub fields-init : goal.fields-init
fields-init c =
    rw (c.new-pairs.ensures.items, c.into_iter-pair-iterator.ensures.into_iter_gives, c.values-pair-items.ensures.rest)
    (values-seen c.in_ok-fields.fields.entries ∙ ap (λ (fs : Fields). map (λ f. f.1) fs) c.in_ok-fields.ensures)
