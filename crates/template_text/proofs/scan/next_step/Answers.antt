-- What is found at the place is what begins there.
use Rattle.std.proofs.Common.{◌≡◌, length, Some, sym, ◌∙◌, ap, arith}
use Rattle.template_text.specs.Pieces.{Reference, reference_spelling}
use Rattle.template_text.specs.Scan.{first_at, shape, found_length}
use Rattle.template_text.proofs.Inside.{reference_some}
use Rattle.template_text.proofs.Table.{found_here, nothing_here, something_here, shape_length, reference_within, found_length-same, step_none, step_some}
use Rattle.template_text.proofs.scan.next_step.Goals as goal

pub first_found-requires : goal.first_found-requires
first_found-requires c = let e : length c.args.found.now ≡ length c.args.text.now = found_length-same c.args.text.now c.args.found.now c.requires.places in omega arith

pub returns-in-None-clause-step : goal.returns-in-None-clause-step
returns-in-None-clause-step c =
    step_none _ _ _ _ c.in-Start.ensures (nothing_here _ (found_here c.args.text.now c.args.found.now _ c.requires.places c.requires.some (sym c.first_found.ensures ∙ c.in-None.is)))

pub returns-in-Some-clause-step : goal.returns-in-Some-clause-step
returns-in-Some-clause-step c =
    let p : (r : Reference) × ((first_at c.args.text.now ≡ Some r) × (shape r ≡ c.in-Some.reference)) =
    something_here _ _ (found_here c.args.text.now c.args.found.now _ c.requires.places c.requires.some (sym c.first_found.ensures ∙ c.in-Some.is)) in
    step_some _ _ _ _ _ p.0 c.in-Start.ensures p.1.0 (c.length.ensures ∙ (ap found_length (sym p.1.1) ∙ shape_length p.0))

pub returns-in-Some-clause-on : goal.returns-in-Some-clause-on
returns-in-Some-clause-on c =
    let p : (r : Reference) × ((first_at c.args.text.now ≡ Some r) × (shape r ≡ c.in-Some.reference)) =
    something_here _ _ (found_here c.args.text.now c.args.found.now _ c.requires.places c.requires.some (sym c.first_found.ensures ∙ c.in-Some.is)) in
    let e : c.length.result ≡ length (reference_spelling p.0) = c.length.ensures ∙ (ap found_length (sym p.1.1) ∙ shape_length p.0) in
    (omega (arith, reference_some p.0), omega (arith, reference_within c.args.text.now p.0 p.1.0), omega arith)
