use Rattle.std.proofs.Common.{◌≡◌, ◌-◌}
use Rattle.std.specs.Prelude.{slice_get}
use Rattle.logic_controllers.specs.ForEachController.{each_next_at}
use Rattle.jm_meaning.specs.Children.{children_of}
use Rattle.open_elements.specs.Cursors.{each_left_in}
use Rattle.open_elements.proofs.CursorLaws.{each-law-in}
use Rattle.open_elements.proofs.CutLaws.{cut_each}
use Rattle.open_elements.proofs.AtElement.{turns-at}
use Rattle.open_elements.proofs.PassLaws.{counted, counted_back}
use Rattle.open_elements.proofs.opens.EachCursorOpens.laws.Goals as goal

pub returns-clause-goes : goal.returns-clause-goes
returns-clause-goes c = λ below round n elements e d s there fits bound.
    turns-at _ below (λ d. d.rounds.begun - 1) (children_of elements e) (each_left_in e.kind e.name below (children_of elements e)) s.own (slice_get elements d.element) e d s.user (λ e. each_next_at e.kind e.name d s.user) there
    (each-law-in e.kind e.name fits.1.0 fits.1.1 below (children_of elements e) d s fits.1.2 fits.2 bound)

pub returns-clause-needs : goal.returns-clause-needs
returns-clause-needs c = λ elements e d there is bound. (e, is.0, is.1, record { there = there; of_kind = is.2 })

pub returns-clause-cut : goal.returns-clause-cut
returns-clause-cut c = λ elements e c d error old new there is turned later. cut_each e is.0 is.1 c d old new is.2 later (turned.1 e is.0 is.1 (record { there = there; of_kind = is.2 }))

pub returns-clause-fits : goal.returns-clause-fits
returns-clause-fits c = λ n elements e d place is among. (place, is, counted (λ k. d.rounds.pass.children ≡ k) elements e among)

pub returns-clause-stands : goal.returns-clause-stands
returns-clause-stands c = λ n elements e d fits. (fits.0, fits.1, counted_back (λ k. d.rounds.pass.children ≡ k) elements e fits.2)
