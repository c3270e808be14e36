use Rattle.std.proofs.Common.{◌≤◌}
use Rattle.std.specs.Prelude.{slice_get}
use Rattle.logic_controllers.specs.IfController.{if_next_at}
use Rattle.jm_meaning.specs.Children.{children_of}
use Rattle.open_elements.specs.declared.cursor.Cursor.TheVariants.{If}
use Rattle.open_elements.specs.Cursors.{if_left_in}
use Rattle.open_elements.proofs.CursorLaws.{if-law-in}
use Rattle.open_elements.proofs.CutLaws.{cut_still}
use Rattle.open_elements.proofs.AtElement.{turns-at}
use Rattle.open_elements.proofs.PassLaws.{counted, counted_back}
use Rattle.open_elements.proofs.opens.IfCursorOpens.laws.Goals as goal

pub returns-clause-goes : goal.returns-clause-goes
returns-clause-goes c = λ below round n elements e d s there fits bound.
    turns-at _ below (λ d. round) (children_of elements e) (if_left_in e.kind below round (children_of elements e)) s.own (slice_get elements d.element) e d s.user (λ e. if_next_at e.kind d s.user) there
    (if-law-in e.kind fits.1.0 fits.1.1 below round (children_of elements e) d s fits.1.2 fits.2)

pub returns-clause-needs : goal.returns-clause-needs
returns-clause-needs c = λ elements e d there is bound. (e, is.0, is.1, record { there = there; of_kind = is.2 })

pub returns-clause-cut : goal.returns-clause-cut
returns-clause-cut c = λ elements e c d error old new there is turned later. cut_still e (If c) old new turned.2 later

pub returns-clause-fits : goal.returns-clause-fits
returns-clause-fits c = λ n elements e d place is among. (place, is, counted (λ k. d.pass.children ≤ k) elements e among)

pub returns-clause-stands : goal.returns-clause-stands
returns-clause-stands c = λ n elements e d fits. (fits.0, fits.1, counted_back (λ k. d.pass.children ≤ k) elements e fits.2)
