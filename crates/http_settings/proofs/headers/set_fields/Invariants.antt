use Rattle.std.proofs.Common.{◌≡◌, drop}
use Rattle.http_settings.specs.RequestSettings.{set_fields, fields_seen}
use Rattle.http_settings.proofs.headers.set_fields.Given as goal

abbrev pub invariant-pairs : goal.invariant-pairs
invariant-pairs l = set_fields (fields_seen l.fields.entries) (drop l.pair-index l.pairs) ≡ set_fields (fields_seen l.fn.fields.entries) l.pairs
