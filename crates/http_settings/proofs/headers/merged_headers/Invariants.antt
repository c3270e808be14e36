use Rattle.std.proofs.Common.{◌≡◌, ◌++◌}
use Rattle.http_settings.specs.RequestSettings.{pairs_seen, merged_headers}
use Rattle.http_settings.proofs.headers.merged_headers.Given as goal

abbrev pub invariant-fields : goal.invariant-fields
invariant-fields l = pairs_seen l.pairs.items ++ pairs_seen l.pair-iterator ≡ merged_headers l.plan.elements l.config
