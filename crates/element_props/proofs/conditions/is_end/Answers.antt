use Rattle.std.proofs.Common.{◌∙◌}
use Rattle.element_props.proofs.ConditionLaws.{is_end_empty}
use Rattle.element_props.proofs.conditions.is_end.Goals as goal

pub returns : goal.returns
returns c = c.is_empty.ensures ∙ is_end_empty c.args.pieces.now
