use Rattle.std.proofs.Common.{ap, ◌∙◌}
use Rattle.name_map.specs.Names.{value_of, without_var}
use Rattle.name_map.proofs.EntryLaws.{lookup-listed, listed-without, listed-ordered}
use Rattle.name_map.proofs.map.NameMap.remove.Goals as goal

pub returns-clause-old : goal.returns-clause-old
returns-clause-old c = c.remove.ensures.value ∙ lookup-listed c.args.name.now c.self.inside.pairs.entries ∙ ap (value_of c.args.name.now) c.self.view_is

pub returns-clause-removed : goal.returns-clause-removed
returns-clause-removed c =
    listed-without c.args.name.now c.self.inside.pairs.entries c.remove.new.self.entries c.remove.ensures.updates.1 c.remove.ensures.updates.3 ∙ ap (without_var c.args.name.now) c.self.view_is

pub returns-clause-ordered : goal.returns-clause-ordered
returns-clause-ordered c = listed-ordered c.remove.new.self.entries
