use Rattle.std.proofs.Common.{◌≡◌, ◌-◌}
use Rattle.std.specs.Prelude.{slice_get}
use Rattle.logic_controllers.specs.LoopController.{loop_next}
use Rattle.jm_meaning.specs.Children.{children_of}
use Rattle.open_elements.specs.declared.cursor.Cursor.TheVariants.{Loop}
use Rattle.open_elements.specs.Cursors.{loop_left}
use Rattle.open_elements.proofs.CursorLaws.{loop-law}
use Rattle.open_elements.proofs.CutLaws.{cut_same}
use Rattle.open_elements.proofs.AtElement.{turns-at}
use Rattle.open_elements.proofs.PassLaws.{counted, counted_back}
use Rattle.open_elements.proofs.opens.LoopCursorOpens.laws.Goals as goal

pub returns-clause-goes : goal.returns-clause-goes
returns-clause-goes c = λ below round n elements e d s there fits bound.
    turns-at _ below (λ d. d.rounds.begun - 1) (children_of elements e) (loop_left e.name below (children_of elements e)) s.own (slice_get elements d.element) e d s.user (λ e. loop_next e.name d s.user) there
    (loop-law e.name below (children_of elements e) d s fits.2 bound)

pub returns-clause-needs : goal.returns-clause-needs
returns-clause-needs c = λ elements e d there is bound. ((e, is.0, record { there = there; of_kind = is.1 }), bound)

pub returns-clause-cut : goal.returns-clause-cut
returns-clause-cut c = λ elements e c d error old new there is turned later. cut_same e (Loop c) old new turned.1.1

pub returns-clause-fits : goal.returns-clause-fits
returns-clause-fits c = λ n elements e d place is among. (place, is, counted (λ k. d.rounds.pass.children ≡ k) elements e among)

pub returns-clause-stands : goal.returns-clause-stands
returns-clause-stands c = λ n elements e d fits. (fits.0, fits.1, counted_back (λ k. d.rounds.pass.children ≡ k) elements e fits.2)
