use Rattle.std.proofs.Common.{◌≤◌}
use Rattle.jm_meaning.specs.Children.{children_of}
use Rattle.open_elements.specs.declared.cursor.Cursor.TheVariants.{Once}
use Rattle.open_elements.proofs.CursorLaws.{once-law}
use Rattle.open_elements.proofs.CutLaws.{cut_same}
use Rattle.open_elements.proofs.PassLaws.{counted, counted_back}
use Rattle.open_elements.proofs.opens.OnceCursorOpens.laws.Goals as goal

pub returns-clause-goes : goal.returns-clause-goes
returns-clause-goes c = λ below round n elements e d s there fits bound.
    once-law below round (children_of elements e) d s fits.2

pub returns-clause-cut : goal.returns-clause-cut
returns-clause-cut c = λ elements e c d error old new there is turned later. cut_same e (Once c) old new turned.1

pub returns-clause-fits : goal.returns-clause-fits
returns-clause-fits c = λ n elements e d place is among. (place, is, counted (λ k. d.pass.children ≤ k) elements e among)

pub returns-clause-stands : goal.returns-clause-stands
returns-clause-stands c = λ n elements e d fits. (fits.0, fits.1, counted_back (λ k. d.pass.children ≤ k) elements e fits.2)
