use Rattle.std.proofs.Common.{◌≡◌, [], drop, map}
use Rattle.form_urlencoded.specs.Form.{extend_pairs}
use Rattle.http_text.specs.RequestText.{pair_of}
use Rattle.http_text.proofs.request.form_of.Given as goal

abbrev pub invariant-loop-field : goal.invariant-loop-field
invariant-loop-field l =
    extend_pairs l.out.items (map pair_of (drop l.field-index l.settings.params)) ≡ extend_pairs [] (map pair_of l.settings.params)
