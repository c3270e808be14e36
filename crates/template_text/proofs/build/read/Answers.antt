-- A byte or a reference more keeps the reading.
use Rattle.std.proofs.Common.{◌≡◌, drop, None, sym, ◌∙◌, ap, arith}
use Rattle.template_text.specs.Scan.{first_at, reading}
use Rattle.template_text.specs.Builders.{joined}
use Rattle.template_text.proofs.Table.{found_length-same, nothing_here}
use Rattle.template_text.proofs.Building.{if_ok, reading_byte, reading_reference, reading_end, PlaceThere, place_there, ReferenceThere, reference_there}
use Rattle.template_text.proofs.build.read.Goals as goal

pub loop-at-init : goal.loop-at-init
loop-at-init c = (omega arith, sym (c.new-pieces.ensures (reading c.args.text.now)))

pub after-places-requires : goal.after-places-requires
after-places-requires c = omega (arith, found_length-same c.args.text.now c.args.found.now c.requires)

pub first_found-requires : goal.first_found-requires
first_found-requires c = (place_there c.args.text.now c.after-rest.result.now c.args.found.now c.after-places.result.now c.loop-at.at c.requires c.loop-at-test.true c.after-rest.ensures c.after-places.ensures).first

pub loop-at-preserved-in-None : goal.loop-at-preserved-in-None
loop-at-preserved-in-None c =
    let p : PlaceThere c.args.text.now c.after-rest.result.now c.after-places.result.now c.loop-at.at =
    place_there c.args.text.now c.after-rest.result.now c.args.found.now c.after-places.result.now c.loop-at.at c.requires c.loop-at-test.true c.after-rest.ensures c.after-places.ensures in
    let none : first_at (drop c.loop-at.at c.args.text.now) ≡ None = ap first_at (sym c.after-rest.ensures) ∙ nothing_here _ (p.here c.first_found.result c.first_found.ensures ∙ c.in-None.is) in
    (omega arith, reading_byte c.args.text.now c.loop-at.at c.loop-at.pieces c.byte.new.self (reading c.args.text.now) c.loop-at-test.true none c.loop-at.invariant.1 c.in_ok-byte-in-None.ensures)

pub piece-requires-clause-places : goal.piece-requires-clause-places
piece-requires-clause-places c = (place_there c.args.text.now c.after-rest.result.now c.args.found.now c.after-places.result.now c.loop-at.at c.requires c.loop-at-test.true c.after-rest.ensures c.after-places.ensures).found

pub piece-requires-clause-here : goal.piece-requires-clause-here
piece-requires-clause-here c =
    (place_there c.args.text.now c.after-rest.result.now c.args.found.now c.after-places.result.now c.loop-at.at c.requires c.loop-at-test.true c.after-rest.ensures c.after-places.ensures).here c.first_found.result c.first_found.ensures ∙ c.in-Some.is

pub overflow_add-at-in-Some : goal.overflow_add-at-in-Some
overflow_add-at-in-Some c =
    let p : PlaceThere c.args.text.now c.after-rest.result.now c.after-places.result.now c.loop-at.at =
    place_there c.args.text.now c.after-rest.result.now c.args.found.now c.after-places.result.now c.loop-at.at c.requires c.loop-at-test.true c.after-rest.ensures c.after-places.ensures in
    let q : ReferenceThere c.args.text.now c.loop-at.at c.in-Some.first =
    reference_there c.args.text.now c.after-rest.result.now c.loop-at.at c.in-Some.first c.loop-at-test.true c.after-rest.ensures (p.here c.first_found.result c.first_found.ensures ∙ c.in-Some.is) in
    omega (arith, q.within, c.length-at.ensures)

pub loop-at-smaller : goal.loop-at-smaller
loop-at-smaller c =
    let p : PlaceThere c.args.text.now c.after-rest.result.now c.after-places.result.now c.loop-at.at =
    place_there c.args.text.now c.after-rest.result.now c.args.found.now c.after-places.result.now c.loop-at.at c.requires c.loop-at-test.true c.after-rest.ensures c.after-places.ensures in
    let q : ReferenceThere c.args.text.now c.loop-at.at c.in-Some.first =
    reference_there c.args.text.now c.after-rest.result.now c.loop-at.at c.in-Some.first c.loop-at-test.true c.after-rest.ensures (p.here c.first_found.result c.first_found.ensures ∙ c.in-Some.is) in
    omega (arith, q.some, q.within, c.length-at.ensures)

pub loop-at-preserved : goal.loop-at-preserved
loop-at-preserved c =
    let p : PlaceThere c.args.text.now c.after-rest.result.now c.after-places.result.now c.loop-at.at =
    place_there c.args.text.now c.after-rest.result.now c.args.found.now c.after-places.result.now c.loop-at.at c.requires c.loop-at-test.true c.after-rest.ensures c.after-places.ensures in
    let q : ReferenceThere c.args.text.now c.loop-at.at c.in-Some.first =
    reference_there c.args.text.now c.after-rest.result.now c.loop-at.at c.in-Some.first c.loop-at-test.true c.after-rest.ensures (p.here c.first_found.result c.first_found.ensures ∙ c.in-Some.is) in (
      omega (arith, q.within, c.length-at.ensures),
      reading_reference c.args.text.now c.loop-at.at c.length-at.result c.loop-at.pieces c.reference.new.self q.r (reading c.args.text.now) q.there (c.length-at.ensures ∙ q.long) c.loop-at.invariant.1
          (λ more. c.in_ok-reference-in-Some-2.ensures q.r more (c.in_ok-reference-in-Some.ensures ∙ (ap first_at c.after-rest.ensures ∙ q.there))),
    )

pub returns : goal.returns
returns c =
    if_ok _ _ c.finish.result (λ t h. h ∙ (ap (joined c.loop-at.pieces) (sym (reading_end c.args.text.now c.loop-at.at c.loop-at-test.false)) ∙ sym c.loop-at.invariant.1)) c.finish.ensures
