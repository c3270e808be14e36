use Rattle.std.proofs.Common.{◌≡◌, ◌++◌, drop}
use Rattle.std.specs.Prelude.{map}
use Rattle.extractors.specs.Matches.{text_at}
use Rattle.extractors.specs.Templates.{filled, filled_after}
use Rattle.extractors.proofs.templates.filled.Given as goal

abbrev pub invariant-bytes : goal.invariant-bytes
invariant-bytes l = l.value.items ++ filled_after (map (text_at l.text) l.spans) l.skip (drop l.place l.template) ≡ filled l.template (map (text_at l.text) l.spans)
