use Rattle.std.proofs.Common.{sym, ◌∙◌, refl, arith}
use Rattle.std.specs.Prelude.{Ok}
use Rattle.var_functions.proofs.LaterLaws.{later_same}
use Rattle.cursor_steps.proofs.Steps.{goes-same}
use Rattle.jm_meaning.specs.State.{state_of}
use Rattle.jm_meaning.specs.Children.{children_of}
use Rattle.open_elements.specs.Cursors.{simple_left}
use Rattle.open_elements.proofs.CursorLaws.{simple-law}
use Rattle.open_elements.proofs.PassLaws.{passes_fewer}
use Rattle.open_elements.proofs.CursorCalls.{came-step}
use Rattle.open_elements.proofs.cursor.Cursor.next.Goals as goal

pub returns-in-Simple-clause-answers : goal.returns-in-Simple-clause-answers
returns-in-Simple-clause-answers g c = rw c.in-Simple.is (record {
  came = λ e n below own there fits bound.
      came-step (g.O.Outside.account c.args.outside.now) (g.O.Outside.account c.args.outside.now) below (λ d. c.args.round) (children_of c.args.plan.now.elements e) (simple_left below c.args.round (children_of c.args.plan.now.elements e)) own _ _ c.take_turn.new.self c.args.state.now (Ok c.take_turn.result)
      (simple-law below c.args.round (children_of c.args.plan.now.elements e) c.in-Simple.cursor (state_of c.args.state.now own) fits.2) (goes-same _ _ _ (sym (c.take_turn.ensures.goes c.args.state.now)));
  begun = omega arith;
  pass = passes_fewer c.in-Simple.cursor.pass c.take_turn.new.self.pass c.take_turn.result c.take_turn.ensures.turned.pass;
  shut = refl;
  fits = λ e n there fits. (c.take_turn.ensures.same ∙ fits.0, fits.1, rw c.take_turn.ensures.turned.children fits.2);
  cut = λ e n there fits. tt;
})

pub returns-in-Simple-clause-later : goal.returns-in-Simple-clause-later
returns-in-Simple-clause-later g c = later_same _

pub next_as-requires : goal.next_as-requires
next_as-requires g c = rw c.in-Once.is at c.requires

pub returns-in-Once-clause-answers : goal.returns-in-Once-clause-answers
returns-in-Once-clause-answers g c = rw c.in-Once.is c.next_as.ensures.answers

pub next_as-requires-in-Loop : goal.next_as-requires-in-Loop
next_as-requires-in-Loop g c = rw c.in-Loop.is at c.requires

pub returns-in-Loop-clause-answers : goal.returns-in-Loop-clause-answers
returns-in-Loop-clause-answers g c = rw c.in-Loop.is c.next_as-in-Loop.ensures.answers

pub next_as-requires-in-If : goal.next_as-requires-in-If
next_as-requires-in-If g c = rw c.in-If.is at c.requires

pub returns-in-If-clause-answers : goal.returns-in-If-clause-answers
returns-in-If-clause-answers g c = rw c.in-If.is c.next_as-in-If.ensures.answers

pub next_as-requires-in-While : goal.next_as-requires-in-While
next_as-requires-in-While g c = rw c.in-While.is at c.requires

pub returns-in-While-clause-answers : goal.returns-in-While-clause-answers
returns-in-While-clause-answers g c = rw c.in-While.is c.next_as-in-While.ensures.answers

pub next_as-requires-in-Each : goal.next_as-requires-in-Each
next_as-requires-in-Each g c = rw c.in-Each.is at c.requires

pub returns-in-Each-clause-answers : goal.returns-in-Each-clause-answers
returns-in-Each-clause-answers g c = rw c.in-Each.is c.next_as-in-Each.ensures.answers

pub next_as-requires-in-Interleave : goal.next_as-requires-in-Interleave
next_as-requires-in-Interleave g c = rw c.in-Interleave.is at c.requires

pub returns-in-Interleave-clause-answers : goal.returns-in-Interleave-clause-answers
returns-in-Interleave-clause-answers g c = rw c.in-Interleave.is c.next_as-in-Interleave.ensures.answers

pub next_as-requires-in-Random : goal.next_as-requires-in-Random
next_as-requires-in-Random g c = rw c.in-Random.is at c.requires

pub returns-in-Random-clause-answers : goal.returns-in-Random-clause-answers
returns-in-Random-clause-answers g c = rw c.in-Random.is c.next_as-in-Random.ensures.answers

pub next_as-requires-in-Order : goal.next_as-requires-in-Order
next_as-requires-in-Order g c = rw c.in-Order.is at c.requires

pub returns-in-Order-clause-answers : goal.returns-in-Order-clause-answers
returns-in-Order-clause-answers g c = rw c.in-Order.is c.next_as-in-Order.ensures.answers

pub next_as-requires-in-Switch : goal.next_as-requires-in-Switch
next_as-requires-in-Switch g c = rw c.in-Switch.is at c.requires

pub returns-in-Switch-clause-answers : goal.returns-in-Switch-clause-answers
returns-in-Switch-clause-answers g c = rw c.in-Switch.is c.next_as-in-Switch.ensures.answers

pub returns-in-Transaction-clause-answers : goal.returns-in-Transaction-clause-answers
returns-in-Transaction-clause-answers g c = rw c.in-Transaction.is (record {
  came = λ e n below own there fits bound.
      came-step (g.O.Outside.account c.args.outside.now) (g.O.Outside.account c.args.outside.now) below (λ d. c.args.round) (children_of c.args.plan.now.elements e) (simple_left below c.args.round (children_of c.args.plan.now.elements e)) own _ _ c.take_turn-in-Transaction.new.self c.args.state.now (Ok c.take_turn-in-Transaction.result)
      (simple-law below c.args.round (children_of c.args.plan.now.elements e) c.in-Transaction.open.children (state_of c.args.state.now own) fits.2) (goes-same _ _ _ (sym (c.take_turn-in-Transaction.ensures.goes c.args.state.now)));
  begun = omega arith;
  pass = passes_fewer c.in-Transaction.open.children.pass c.take_turn-in-Transaction.new.self.pass c.take_turn-in-Transaction.result c.take_turn-in-Transaction.ensures.turned.pass;
  shut = refl;
  fits = λ e n there fits. (c.take_turn-in-Transaction.ensures.same ∙ fits.0, fits.1, rw c.take_turn-in-Transaction.ensures.turned.children fits.2);
  cut = λ e n there fits. tt;
})

pub returns-in-Transaction-clause-later : goal.returns-in-Transaction-clause-later
returns-in-Transaction-clause-later g c = later_same _

pub returns-in-Section-clause-answers : goal.returns-in-Section-clause-answers
returns-in-Section-clause-answers g c = rw c.in-Section.is (record {
  came = λ e n below own there fits bound.
      came-step (g.O.Outside.account c.args.outside.now) (g.O.Outside.account c.args.outside.now) below (λ d. c.args.round) (children_of c.args.plan.now.elements e) (simple_left below c.args.round (children_of c.args.plan.now.elements e)) own _ _ c.take_turn-in-Section.new.self c.args.state.now (Ok c.take_turn-in-Section.result)
      (simple-law below c.args.round (children_of c.args.plan.now.elements e) c.in-Section.open.children (state_of c.args.state.now own) fits.2) (goes-same _ _ _ (sym (c.take_turn-in-Section.ensures.goes c.args.state.now)));
  begun = omega arith;
  pass = passes_fewer c.in-Section.open.children.pass c.take_turn-in-Section.new.self.pass c.take_turn-in-Section.result c.take_turn-in-Section.ensures.turned.pass;
  shut = refl;
  fits = λ e n there fits. (c.take_turn-in-Section.ensures.same ∙ fits.0, fits.1, rw c.take_turn-in-Section.ensures.turned.children fits.2);
  cut = λ e n there fits. tt;
})

pub returns-in-Section-clause-later : goal.returns-in-Section-clause-later
returns-in-Section-clause-later g c = later_same _
