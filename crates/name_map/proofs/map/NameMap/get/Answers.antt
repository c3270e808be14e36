use Rattle.std.proofs.Common.{ap, ◌∙◌}
use Rattle.name_map.specs.Names.{value_of}
use Rattle.name_map.proofs.EntryLaws.{lookup-listed}
use Rattle.name_map.proofs.map.NameMap.get.Goals as goal

pub returns : goal.returns
returns c = c.get.ensures.value ∙ lookup-listed c.args.name.now c.self.inside.pairs.entries ∙ ap (value_of c.args.name.now) c.self.view_is
