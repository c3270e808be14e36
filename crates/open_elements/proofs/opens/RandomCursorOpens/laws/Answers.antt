use Rattle.std.proofs.Common.{◌<◌}
use Rattle.std.specs.Prelude.{IfSome}
use Rattle.jm_meaning.specs.Children.{children_of}
use Rattle.open_elements.specs.declared.cursor.Cursor.TheVariants.{Random}
use Rattle.open_elements.proofs.ChoiceLaws.{random-law}
use Rattle.open_elements.proofs.CutLaws.{cut_same}
use Rattle.open_elements.proofs.PassLaws.{counted, counted_back}
use Rattle.open_elements.proofs.opens.RandomCursorOpens.laws.Goals as goal

pub returns-clause-goes : goal.returns-clause-goes
returns-clause-goes c = λ below round n elements e d s there fits bound.
    random-law below round (children_of elements e) d s

pub returns-clause-cut : goal.returns-clause-cut
returns-clause-cut c = λ elements e c d error old new there is turned later. cut_same e (Random c) old new turned.2

pub returns-clause-fits : goal.returns-clause-fits
returns-clause-fits c = λ n elements e d place is among. (place, is, counted (λ k. IfSome d.chosen (λ place. place < k)) elements e among)

pub returns-clause-stands : goal.returns-clause-stands
returns-clause-stands c = λ n elements e d fits. (fits.0, fits.1, counted_back (λ k. IfSome d.chosen (λ place. place < k)) elements e fits.2)
