use Rattle.plan_json.proofs.ReadingLaws.{succeeds, exactly_utf8, exactly_json, exactly_element, exactly_key}
use Rattle.plan_json.proofs.read.read_tree.Goals as goal

pub returns-clause-accepted : goal.returns-clause-accepted
returns-clause-accepted c = succeeds c.args.bytes.now c.tree_of.result c.tree_of.ensures.tree

pub returns-clause-not_utf8 : goal.returns-clause-not_utf8
returns-clause-not_utf8 c = exactly_utf8 c.args.bytes.now c.tree_of.result c.tree_of.ensures.tree

pub returns-clause-not_json : goal.returns-clause-not_json
returns-clause-not_json c = exactly_json c.args.bytes.now c.tree_of.result c.tree_of.ensures.tree

pub returns-clause-not_element : goal.returns-clause-not_element
returns-clause-not_element c = exactly_element c.args.bytes.now c.tree_of.result c.tree_of.ensures.tree

pub returns-clause-unknown_key : goal.returns-clause-unknown_key
returns-clause-unknown_key c = exactly_key c.args.bytes.now c.tree_of.result c.tree_of.ensures.tree
