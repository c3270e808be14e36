use Rattle.std.proofs.Common.{◌≡◌, drop}
use Rattle.std.specs.List.{flat_map}
use Rattle.http_settings.specs.RequestSettings.{headers_at, merged, set_fields, fields_seen}
use Rattle.http_settings.proofs.headers.merge.Given as goal

abbrev pub invariant-numbers : goal.invariant-numbers
invariant-numbers l = set_fields (fields_seen l.fields.entries) (flat_map (headers_at l.plan.elements) (drop l.number-index l.config)) ≡ merged l.plan.elements l.config
