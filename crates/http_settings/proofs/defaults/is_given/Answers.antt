use Rattle.std.proofs.Common.{◌∙◌, ap}
use Rattle.std.specs.Prelude.{not}
use Rattle.http_settings.proofs.GiverLaws.{given-some}
use Rattle.http_settings.proofs.defaults.is_given.Goals as goal

pub returns : goal.returns
returns c = ap not c.is_empty.ensures ∙ given-some c.args.pieces.now
