use Rattle.plan_json.proofs.ReadingLaws.{no_text, gives_text}
use Rattle.plan_json.proofs.read.tree_of.Goals as goal

pub returns-in_default-clause-tree : goal.returns-in_default-clause-tree
returns-in_default-clause-tree c = no_text _ c.in_default.ensures.cases.0

pub returns-clause-tree : goal.returns-clause-tree
returns-clause-tree c = gives_text c.args.bytes.now c.tree_of_text.result c.in-Ok.ensures.cases.1 (rw c.in-Ok.ensures.cases.0 at c.tree_of_text.ensures.tree)
