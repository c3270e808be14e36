use Rattle.std.proofs.Common.{refl, ◌∙◌, arith}
use Rattle.jm_base.proofs.RunLaws.{goes-append}
use Rattle.var_functions.proofs.CameLaws.{refused-first}
use Rattle.open_elements.proofs.OpenLaws.{goes_as}
use Rattle.control_machine.proofs.Rounding.{later_rounds}
use Rattle.var_functions.proofs.LaterLaws.{later_same, later_then}
use Rattle.control_machine.specs.Left.{left_of, state_at}
use Rattle.control_machine.proofs.CutLaws.{cut_behind}
use Rattle.control_machine.proofs.Standing.{few_open}
use Rattle.control_machine.proofs.machine.Machine.next.Goals as goal

pub turns-init : goal.turns-init
turns-init g c = rw c.self.view_is (record {
  stands = c.requires;
  fewer = omega arith;
  thread = (refl, refl);
  goes = λ beside. goes_as _ _ _ refl;
  lock = refl;
  later = later_same c.args.state.now.fns;
})

pub turn-requires : goal.turn-requires
turn-requires g c = c.turns.invariant.stands

pub turns-smaller : goal.turns-smaller
turns-smaller g c = rw c.in-Ok-On.field-0-is at c.in-Ok-On.ensures.lighter

pub turns-preserved : goal.turns-preserved
turns-preserved g c =
    let i = c.turns.invariant in
    let t = c.in-Ok-On.ensures in
    let r = rw c.in-Ok-On.field-0-is at t.goes.rounds in
    record {
      stands = t.goes.stands;
      fewer = omega (arith, i.fewer, r);
      thread = (t.thread.0 ∙ i.thread.0, t.thread.1 ∙ i.thread.1);
      goes = λ beside. goes-append (i.goes beside) (rw c.in-Ok-On.field-0-is at (t.turns.came beside));
      lock = (rw c.in-Ok-On.field-0-is at t.goes.lock) ∙ i.lock;
      later = later_then c.args.state.now.fns c.turns.state.fns c.turn.new.state.fns i.later t.later;
    }

pub returns-in-Ok-To : goal.returns-in-Ok-To
returns-in-Ok-To g c =
    let i = c.turns.invariant in
    let t = c.in-Ok-To.ensures in
    let is = c.in-Ok-To.field-0-is in
    record {
      came = λ beside. goes-append (i.goes beside) (rw is at (t.turns.came beside));
      given = rw is at t.goes.given;
      stands = t.goes.stands;
      deep = few_open _ t.goes.stands.falls;
      normal = rw is at t.goes.normal;
      lock = rw i.lock at (rw is at t.goes.lock);
      rounds = later_rounds c.in-Ok-To.next _ _ _ i.fewer (rw is at t.goes.rounds);
      index = rw is at t.goes.index;
      thread = (t.thread.0 ∙ i.thread.0, t.thread.1 ∙ i.thread.1);
      later = later_then c.args.state.now.fns c.turns.state.fns c.turn.new.state.fns i.later t.later;
      cut = tt;
    }

pub returns-in-Err : goal.returns-in-Err
returns-in-Err g c =
    let i = c.turns.invariant in
    let t = c.in-Err.ensures in
    record {
      came = λ beside. refused-first (i.goes beside) (rw i.lock at (t.turns.came beside));
      given = tt;
      stands = tt;
      deep = tt;
      normal = tt;
      lock = tt;
      rounds = tt;
      index = tt;
      thread = (t.thread.0 ∙ i.thread.0, t.thread.1 ∙ i.thread.1);
      later = later_then c.args.state.now.fns c.turns.state.fns c.turn.new.state.fns i.later t.later;
      cut = cut_behind c.args.plan.now (λ beside. left_of c.args.plan.now c.args.self.now (state_at c.args.self.now beside c.args.state.now)) (λ beside. left_of c.args.plan.now c.turns.self-inside.position (state_at c.turns.self-inside.position beside c.turns.state)) c.turn.new.state
          i.goes t.turns.cut;
    }
