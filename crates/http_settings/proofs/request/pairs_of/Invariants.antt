use Rattle.std.proofs.Common.{◌≡◌, ◌++◌, drop}
use Rattle.http_settings.specs.RequestSettings.{pairs_seen}
use Rattle.http_settings.proofs.request.pairs_of.Given as goal

abbrev pub invariant-pairs : goal.invariant-pairs
invariant-pairs l = pairs_seen l.all.items ++ drop l.pair-index l.pairs ≡ l.pairs
