use Rattle.std.proofs.Common.{refl}
use Rattle.weave_engine.proofs.StartLaws.{starts_as}
use Rattle.weave_engine.proofs.FollowLaws.{stands_first}
use Rattle.weave_engine.proofs.weaving.first_seat.Goals as goal

pub returns-clause-seat : goal.returns-clause-seat
returns-clause-seat c = starts_as c.args.plan.now (record { seed = c.args.seed; props = c.args.props.now; budget = c.args.budget }) c.args.thread _ c.in_ok-new.ensures.start c.in_ok-new-2.ensures refl refl refl refl

pub returns-clause-thread : goal.returns-clause-thread
returns-clause-thread c = c.in_ok-new.ensures.start.thread_is

pub returns-clause-fresh : goal.returns-clause-fresh
returns-clause-fresh c = record {
  plan_is = c.in_ok-new.ensures.start.plan_is;
  units = c.in_ok-new.ensures.start.units_are;
  owes_nothing = refl;
  none_open = c.in_ok-new.ensures.start.none_open;
  no_items = c.in_ok-new.ensures.start.no_items;
  goes_on = refl;
}

pub returns-clause-stands : goal.returns-clause-stands
returns-clause-stands c = stands_first c.args.plan.now (record { seed = c.args.seed; props = c.args.props.now; budget = c.args.budget }) _ _ c.in_ok-new.ensures.start.plan_is c.in_ok-new-2.ensures c.in_ok-new.ensures.stands
