use Rattle.std.proofs.Common.{ap, ◌∙◌}
use Rattle.std.specs.List.{find, filter}
use Rattle.cursor_steps.specs.RunningChildren.{is_run_at}
use Rattle.node_table.proofs.LinkLaws.{link_is}
use Rattle.node_table.proofs.element_links.link_of.Goals as goal

pub returns : goal.returns
returns c =
    link_is c.args.plan.now c.requires.plan c.args.links.now c.args.afters.now c.args.number c.args.element.now _ _ _ _ c.requires.links c.requires.there c.requires.afters
    (c.in_ok-runs.ensures ∙ ap (filter (is_run_at c.args.plan.now.elements)) c.as_slice-children.ensures)
    (c.first_run.ensures ∙ ap (find (is_run_at c.args.plan.now.elements)) c.as_slice-children.ensures) c.after_at.ensures c.looping_from.ensures
