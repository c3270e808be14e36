use Rattle.std.proofs.Common.{false, None, refl, arith, ◌∙◌, sym, ap}
use Rattle.config_elements.specs.RoundStart.{feeds_of}
use Rattle.thread_machine.proofs.Steps.{first_is, starts}
use Rattle.thread_machine.proofs.runner.Runner.new.Goals as goal

pub returns-clause-start : goal.returns-clause-start
returns-clause-start c =
    starts (record { plan = c.args.plan; thread = c.args.thread; pause = c.ramp_up_pause.result; begun = false; user = c.in_ok-user.user; config = c.in_ok-config.config; table = c.in_ok-table.table; machine = c.in_ok-machine.machine; units = c.args.budget; owed = None; entering = None; section = None; last = None; trace = c.in_ok-trace.trace; alloc = c.args.alloc })
    (record { seed = c.args.seed; props = c.args.props.now; budget = c.args.budget }) c.ramp_up_pause.ensures refl
    (first_is c.args.plan.now c.args.thread (record { seed = c.args.seed; props = c.args.props.now; budget = c.args.budget }) c.in_ok-user.user c.in_ok-machine.machine.rounds c.in_ok-machine.machine.places c.in_ok-config.config.places
    c.in_ok-user.ensures c.in_ok-machine.ensures.rounds c.in_ok-machine.ensures.places c.in_ok-config.ensures.places)
    c.in_ok-machine.ensures.whole refl refl refl refl c.in_ok-trace.ensures.0

pub returns-clause-on : goal.returns-clause-on
returns-clause-on c = record {
  room = omega (arith, c.in_ok-trace.ensures.1);
  moves = λ h. record {
    stands = c.in_ok-machine.ensures.stands;
    lock = sym c.in_ok-machine.ensures.lock;
    first = λ unbegun. refl;
    feeds = c.in_ok-config.ensures.feeds ∙ ap (feeds_of c.args.plan.now.elements) (sym c.in_ok-machine.ensures.group);
    table = c.in_ok-table.ensures;
  };
  limit = tt;
  known = tt;
  enters = tt;
}
