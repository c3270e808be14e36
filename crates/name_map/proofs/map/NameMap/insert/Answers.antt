use Rattle.std.proofs.Common.{sym, ap, ◌∙◌}
use Rattle.name_map.specs.Names.{value_of, with_var, listed}
use Rattle.name_map.proofs.EntryLaws.{lookup-listed, listed-with, listed-ordered}
use Rattle.name_map.proofs.map.NameMap.insert.Goals as goal

pub returns-in-Ok-clause-old : goal.returns-in-Ok-clause-old
returns-in-Ok-clause-old c =
    c.in-Ok.ensures.old ∙ lookup-listed c.into_vec.result.items c.self.inside.pairs.entries
    ∙ ap (λ n. value_of n (listed c.self.inside.pairs.entries)) c.into_vec.ensures ∙ ap (value_of c.args.name) c.self.view_is

pub returns-in-Ok-clause-ok : goal.returns-in-Ok-clause-ok
returns-in-Ok-clause-ok c =
    listed-with c.into_vec.result.items c.args.value c.self.inside.pairs.entries c.insert.new.self.entries c.in-Ok.ensures.updates.1 c.in-Ok.ensures.updates.3
    ∙ ap (λ n. with_var n c.args.value (listed c.self.inside.pairs.entries)) c.into_vec.ensures ∙ ap (with_var c.args.name c.args.value) c.self.view_is

pub returns-in-Ok-clause-ordered : goal.returns-in-Ok-clause-ordered
returns-in-Ok-clause-ordered c = listed-ordered c.insert.new.self.entries

pub returns-clause-absent : goal.returns-clause-absent
returns-clause-absent c =
    ap (value_of c.args.name) (sym c.self.view_is) ∙ ap (λ n. value_of n (listed c.self.inside.pairs.entries)) (sym c.into_vec.ensures)
    ∙ sym (lookup-listed c.into_vec.result.items c.self.inside.pairs.entries) ∙ c.in-Err.ensures.absent

pub returns-clause-ordered : goal.returns-clause-ordered
returns-clause-ordered c = listed-ordered c.insert.new.self.entries
