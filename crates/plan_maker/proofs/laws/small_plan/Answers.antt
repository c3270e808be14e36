use Rattle.std.proofs.Common.{refl}
use Rattle.std.specs.Fmt.{digits}
use Rattle.plan_maker.specs.Generated.{generated}
use Rattle.plan_maker.proofs.laws.small_plan.Goals as goal

pub returns-clause-one : goal.returns-clause-one
unfolding generated digits
returns-clause-one c = refl

pub returns-clause-later : goal.returns-clause-later
unfolding digits
returns-clause-later c = refl
