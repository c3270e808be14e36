use Rattle.std.proofs.Common.{◌≡◌, None, drop}
use Rattle.std.specs.List.{filter, last_or}
use Rattle.http_settings.specs.RequestSettings.{gives}
use Rattle.http_settings.proofs.defaults.last_giver.Given as goal

abbrev pub invariant-numbers : goal.invariant-numbers
invariant-numbers l =
    last_or l.found (filter (gives l.property l.plan.elements) (drop l.number-index l.numbers)) ≡ last_or None (filter (gives l.property l.plan.elements) l.numbers)
