use Rattle.std.proofs.Common.{◌∙◌, ap, sym, refl}
use Rattle.std.specs.Prelude.{Ok, Err}
use Rattle.jm_base.proofs.RunLaws.{goes-append, goes-nothing}
use Rattle.var_functions.proofs.CameLaws.{refused-first}
use Rattle.config_elements.specs.RoundStart.{feeds_of}
use Rattle.control_machine.specs.Left.{left_of, state_at, open_lock}
use Rattle.thread_machine.proofs.Steps.{round_goes, fed_came, fed_on, fed_out, taken}
use Rattle.thread_machine.proofs.runner.walk.Goals as goal

pub moves-init : goal.moves-init
moves-init g c = record {
  stands = c.requires.stands;
  feeds = c.requires.feeds;
  lock = refl;
  goes = λ units. goes-nothing _ _;
}

pub moves-preserved-in-Ok-true : goal.moves-preserved-in-Ok-true
moves-preserved-in-Ok-true g c = record {
  stands = c.in-Ok.ensures.stands;
  feeds = c.begin_round.ensures.kept ∙ c.moves.invariant.feeds ∙ ap (feeds_of c.args.plan.now.elements) (sym c.next.ensures.thread.0);
  lock = (rw c.in-Iteration.is at c.in-Ok.ensures.lock) ∙ c.moves.invariant.lock;
  goes = λ units. goes-append (c.moves.invariant.goes units)
      (goes-append (round_goes _ _ c.args.plan.now c.next.new.self (state_at c.next.new.self (record { units = units; config = c.moves.config.places }) c.next.new.state)
      (left_of c.args.plan.now c.moves.machine (state_at c.moves.machine (record { units = units; config = c.moves.config.places }) c.moves.user))
      c.in-Ok.next c.in-Iteration.field-0 c.in-Iteration.is (c.in-Ok.ensures.came (record { units = units; config = c.moves.config.places })))
      (fed_on _ _ c.args.plan.now c.next.new.self (state_at c.next.new.self (record { units = units; config = c.begin_round.new.config.places }) c.begin_round.new.state) _ (rw c.in-Iteration.is at c.in-Ok.ensures.normal)
      (rw c.in-Ok-true.field-0-test at
      (fed_came _ _ c.args.plan.now c.next.new.self units c.moves.config.places c.begin_round.new.config.places c.next.new.state c.begin_round.new.state (Ok c.in-Ok-true.field-0) c.in-Ok.ensures.stands.apart
      (c.in-Ok-true.ensures.came c.next.new.self.group.element (c.moves.invariant.feeds ∙ ap (feeds_of c.args.plan.now.elements) (sym c.next.ensures.thread.0)))))));
}

pub moves-preserved : goal.moves-preserved
moves-preserved g c = record {
  stands = c.leave.ensures.stands c.args.plan.now c.in-Ok.ensures.stands;
  feeds = c.begin_round.ensures.kept ∙ c.moves.invariant.feeds ∙ ap (feeds_of c.args.plan.now.elements) (sym (ap (λ m. m.group.element) c.leave.ensures.left ∙ c.next.ensures.thread.0));
  lock = ap (λ m. open_lock m.stack.frames) c.leave.ensures.left ∙ (rw c.in-Iteration.is at c.in-Ok.ensures.lock) ∙ c.moves.invariant.lock;
  goes = λ units. goes-append (c.moves.invariant.goes units)
      (goes-append (round_goes _ _ c.args.plan.now c.next.new.self (state_at c.next.new.self (record { units = units; config = c.moves.config.places }) c.next.new.state)
      (left_of c.args.plan.now c.moves.machine (state_at c.moves.machine (record { units = units; config = c.moves.config.places }) c.moves.user))
      c.in-Ok.next c.in-Iteration.field-0 c.in-Iteration.is (c.in-Ok.ensures.came (record { units = units; config = c.moves.config.places })))
      (fed_out _ _ c.args.plan.now c.next.new.self c.leave.new.self units c.begin_round.new.config.places c.begin_round.new.state _ c.leave.ensures.left
      (rw c.in-Ok-false.field-0-test at
      (fed_came _ _ c.args.plan.now c.next.new.self units c.moves.config.places c.begin_round.new.config.places c.next.new.state c.begin_round.new.state (Ok c.in-Ok-false.field-0) c.in-Ok.ensures.stands.apart
      (c.in-Ok-false.ensures.came c.next.new.self.group.element (c.moves.invariant.feeds ∙ ap (feeds_of c.args.plan.now.elements) (sym c.next.ensures.thread.0)))))));
}

pub returns-in-Err-begin_round-clause-came : goal.returns-in-Err-begin_round-clause-came
returns-in-Err-begin_round-clause-came g c = λ units.
    let lock = (rw c.in-Iteration.is at c.in-Ok.ensures.lock) ∙ c.moves.invariant.lock in
    refused-first (c.moves.invariant.goes units)
    (refused-first (round_goes _ _ c.args.plan.now c.next.new.self (state_at c.next.new.self (record { units = units; config = c.moves.config.places }) c.next.new.state)
    (left_of c.args.plan.now c.moves.machine (state_at c.moves.machine (record { units = units; config = c.moves.config.places }) c.moves.user))
    c.in-Ok.next c.in-Iteration.field-0 c.in-Iteration.is (c.in-Ok.ensures.came (record { units = units; config = c.moves.config.places })))
    (rw lock at (fed_came _ _ c.args.plan.now c.next.new.self units c.moves.config.places c.begin_round.new.config.places c.next.new.state c.begin_round.new.state (Err c.in-Err-begin_round.error) c.in-Ok.ensures.stands.apart
    (c.in-Err-begin_round.ensures.came c.next.new.self.group.element (c.moves.invariant.feeds ∙ ap (feeds_of c.args.plan.now.elements) (sym c.next.ensures.thread.0))))))

pub returns-in_default : goal.returns-in_default
returns-in_default g c = record {
  came = λ units. goes-append (c.moves.invariant.goes units) (c.in-Ok.ensures.came (record { units = units; config = c.moves.config.places }));
  moved = record {
    given = taken c.args.plan.now.elements c.in-Ok.next c.in-Ok.ensures.given c.in_default.not-Iteration;
    stands = c.in-Ok.ensures.stands;
    lock = rw c.moves.invariant.lock at c.in-Ok.ensures.lock;
    normal = c.in-Ok.ensures.normal;
    feeds = c.moves.invariant.feeds ∙ ap (feeds_of c.args.plan.now.elements) (sym c.next.ensures.thread.0);
  };
}

pub returns-in-Err-clause-came : goal.returns-in-Err-clause-came
returns-in-Err-clause-came g c = λ units.
    refused-first (c.moves.invariant.goes units) (rw c.moves.invariant.lock at (c.in-Err.ensures.came (record { units = units; config = c.moves.config.places })))
