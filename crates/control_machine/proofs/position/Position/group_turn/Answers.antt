use Rattle.std.proofs.Common.{false, sym, ap, ◌∙◌, refl}
use Rattle.std.proofs.lemmas.Result.{IfOk-weaker}
use Rattle.control_machine.specs.Left.{own_at}
use Rattle.control_machine.proofs.Coming.{turns_still, turns_as}
use Rattle.control_machine.proofs.Answered.{group_child_next}
use Rattle.control_machine.proofs.GroupChild.{some_left, taken_child, no_such_child, fewer_remain}
use Rattle.control_machine.proofs.Rounding.{all_of}
use Rattle.control_machine.proofs.Standing.{child_nests, child_apart}
use Rattle.control_machine.proofs.Lightening.{group_lighter}
use Rattle.var_functions.proofs.LaterLaws.{later_same}
use Rattle.control_machine.proofs.position.Position.group_turn.Goals as goal

pub open-requires-clause-nests : goal.open-requires-clause-nests
open-requires-clause-nests g c =
    let o = c.requires.stands.group in
    child_nests c.args.plan.now.elements 30 c.in-Some.place c.in-Some-child_at.child o.element o.below (sym (c.in-Some-child_at.ensures c.args.plan.now.elements o.element c.requires.stands.links o.there))

pub open-requires-clause-apart : goal.open-requires-clause-apart
open-requires-clause-apart g c =
    let o = c.requires.stands.group in
    rw c.requires.empty (child_apart c.args.plan.now.elements 30 c.in-Some.place c.in-Some-child_at.child false o.element o.apart (sym (c.in-Some-child_at.ensures c.args.plan.now.elements o.element c.requires.stands.links o.there)))

pub returns-in-Some-child_at : goal.returns-in-Some-child_at
returns-in-Some-child_at g c =
    let o = c.requires.stands.group in
    let n = c.in-Some.ensures in
    record {
      turns = turns_as (λ beside. group_child_next c.args.plan.now c.args.self.now (record c.args.self.now { group = record c.args.self.now.group { pass = c.next_child.new.self } }) c.args.state.now (own_at c.args.self.now beside) c.in-Some.place c.in-Some-child_at.child c.from-round.result c.requires.normal c.requires.empty
          (some_left c.args.self.now.group.pass c.in-Some.place n.0 n.1) (all_of c.args.plan.now.elements c.args.self.now.group.element o.element c.args.self.now.group.pass.children o.there o.pass) n.0
          (taken_child c.args.plan.now.elements c.args.self.now.group.element o.element c.in-Some.place c.in-Some-child_at.child o.there (sym (c.in-Some-child_at.ensures c.args.plan.now.elements o.element c.requires.stands.links o.there)))
          (c.from-round.ensures ∙ c.saturating_sub.ensures) (ap (λ p. record c.args.self.now.group { pass = p }) n.2) refl c.requires.empty) refl c.open.ensures.turns;
      lighter = IfOk-weaker c.open.result _ _ (λ w opened. group_lighter c.args.plan.now.elements c.args.self.now c.open.new.self w c.requires.empty
          (fewer_remain c.args.self.now.group.pass c.next_child.new.self c.open.new.self.group.pass c.in-Some.place n.0 n.1 n.2 (ap (λ g. g.pass) c.open.ensures.rest.group))
          c.open.ensures.rest.rounds (rw c.requires.empty at opened)) c.open.ensures.load;
      goes = c.open.ensures.goes;
      thread = (ap (λ g. g.element) c.open.ensures.rest.group, c.open.ensures.rest.failure);
      later = c.open.ensures.later;
    }

pub returns-in-None-child_at : goal.returns-in-None-child_at
returns-in-None-child_at g c =
    let o = c.requires.stands.group in
    absurd (no_such_child c.args.plan.now.elements o.element c.args.self.now.group.pass c.in-Some.place c.in-Some.ensures.1 o.pass (c.in-None-child_at.ensures c.args.plan.now.elements o.element c.requires.stands.links o.there))

pub returns-in-None : goal.returns-in-None
returns-in-None g c =
    let n = c.in-None.ensures in
    let left = (rw n.1 at c.next_round.ensures.leaves) c.args.plan.now c.requires.stands c.requires.empty c.requires.normal n.0 in
    record {
      turns = turns_still (λ beside. left.same beside c.args.state.now);
      lighter = tt;
      goes = left.goes;
      thread = c.next_round.ensures.thread;
      later = later_same c.args.state.now.fns;
    }
