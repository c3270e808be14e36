use Rattle.element_tree.proofs.BuildLaws.{read_ok, read_refused, read_size, read_exactly}
use Rattle.element_tree.proofs.tree_walk.build.Goals as goal

pub returns-clause-accepted : goal.returns-clause-accepted
returns-clause-accepted g c = read_ok _ _ _ _ c.plan_in.ensures

pub returns-clause-refused : goal.returns-clause-refused
returns-clause-refused g c = read_refused _ _ _ _ c.plan_in.ensures

pub returns-clause-exact : goal.returns-clause-exact
returns-clause-exact g c = read_exactly _ _ _ _ c.plan_in.ensures

pub returns-clause-size : goal.returns-clause-size
returns-clause-size g c = read_size _ _ _ _ c.plan_in.ensures
