use Rattle.std.proofs.Common.{◌∷◌, [], refl}
use Rattle.jm_base.specs.declared.types.Heard.TheVariants.{Reading}
use Rattle.jm_base.specs.Outside.{here, reads}
use Rattle.text_cases.proofs.expansions.ClockOutside.now.Goals as goal

pub returns-clause-ok : goal.returns-clause-ok
returns-clause-ok c = record {
  heard = Reading c.args.self.now.next ∷ [];
  hears = record { origin = refl; told = refl; value = refl; faults = refl };
  path = reads here;
}
