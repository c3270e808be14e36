use Rattle.std.proofs.Common.{sym}
use Rattle.element_tree.proofs.WriteLaws.{never_absent, is_deep, nest_below}
use Rattle.element_tree.proofs.write.element_at.Goals as goal

pub unreachable-requires : goal.unreachable-requires
unreachable-requires c = never_absent _ _ _ c.requires c.in-None.ensures

pub returns-clause-deep : goal.returns-clause-deep
returns-clause-deep c = is_deep _ _ _ c.requires

pub returns-clause-below : goal.returns-clause-below
returns-clause-below c = nest_below _ _ _ _ c.requires c.in-Some.ensures
