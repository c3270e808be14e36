-- Each move keeps the extent of all arguments.
use Rattle.std.proofs.Common.{◌≡◌, ◌+◌, ◌<◌, ℕ, List, length, drop, option_map, sym, ◌∙◌, ap, arith, ◌-◌, length-drop}
use Rattle.template_text.specs.Scan.{arguments_at, extent_after, first_at, shape, found_nesting, AreFound}
use Rattle.template_text.proofs.Table.{found_here, found_drop, found_length-same}
use Rattle.template_text.proofs.Extents.{arguments_nowhere, left_some, loop_extent, loop_end, loop_fail}
use Rattle.template_text.proofs.scan.arguments_extent.Goals as goal

pub after-places-requires : goal.after-places-requires
after-places-requires c = let e : length c.args.found.now ≡ length c.args.text.now = found_length-same c.args.text.now c.args.found.now c.requires in omega arith

pub next_step-requires-clause-places : goal.next_step-requires-clause-places
next_step-requires-clause-places c = rw (c.after.ensures, c.after-places.ensures) (found_drop c.loop-at.at c.args.text.now c.args.found.now c.requires)

pub returns-in-Ends-clause-extent : goal.returns-in-Ends-clause-extent
returns-in-Ends-clause-extent c =
    let some : 0 < length c.after.result.now = rw c.after.ensures (left_some c.loop-at.at c.args.text.now c.loop-at-test.true) in
    loop_end c.args.text.now c.after.result.now c.loop-at.at c.loop-at.unclosed c.loop-at.depth _ c.after.ensures c.loop-at.invariant.2 some c.in-Ends.ensures.step

pub returns-in-Fails-clause-extent : goal.returns-in-Fails-clause-extent
returns-in-Fails-clause-extent c =
    let some : 0 < length c.after.result.now = rw c.after.ensures (left_some c.loop-at.at c.args.text.now c.loop-at-test.true) in
    loop_fail c.args.text.now c.after.result.now c.loop-at.at c.loop-at.unclosed c.loop-at.depth _ c.after.ensures c.loop-at.invariant.2 some c.in-Fails.ensures.step

pub first_found-requires : goal.first_found-requires
first_found-requires c =
    let e : length c.args.found.now ≡ length c.args.text.now = found_length-same c.args.text.now c.args.found.now c.requires in
    let f : length c.after-places.result.now ≡ length c.args.found.now - c.loop-at.at = ap length c.after-places.ensures ∙ length-drop c.loop-at.at c.args.found.now in
    omega arith

pub loop-at-preserved : goal.loop-at-preserved
loop-at-preserved c =
    let text : List ℕ = c.args.text.now in
    let rest : List ℕ = c.after.result.now in
    let some : 0 < length rest = rw c.after.ensures (left_some c.loop-at.at text c.loop-at-test.true) in
    let long : length rest ≡ length text - c.loop-at.at = ap length c.after.ensures ∙ length-drop c.loop-at.at text in
    let places : AreFound rest c.after-places.result.now = rw (c.after.ensures, c.after-places.ensures) (found_drop c.loop-at.at text c.args.found.now c.requires) in
    let here : option_map shape (first_at rest) ≡ c.first_found.result = found_here rest c.after-places.result.now c.first_found.result places some (sym c.first_found.ensures) in (
      omega (arith, c.in-Goes.ensures.on.1),
      omega (arith, c.in-Goes.ensures.on.2),
      loop_extent text rest c.loop-at.at c.loop-at.unclosed c.in-Goes.by c.in-Goes.then c.loop-at.depth (found_nesting c.first_found.result) _
          c.after.ensures c.loop-at.invariant.2 some c.in-Goes.ensures.step c.in-Goes.ensures.on.0 (ap found_nesting (sym here))
          ∙ ap (λ d. option_map (extent_after (c.loop-at.at + c.in-Goes.by) d) (arguments_at (drop (c.loop-at.at + c.in-Goes.by) text) c.in-Goes.then)) (sym c.deeper-depth.ensures),
    )

pub returns-clause-extent : goal.returns-clause-extent
returns-clause-extent c = sym (c.loop-at.invariant.2 ∙ ap (option_map (extent_after c.loop-at.at c.loop-at.depth)) (arguments_nowhere (drop c.loop-at.at c.args.text.now) c.loop-at.unclosed (omega (arith, length-drop c.loop-at.at c.args.text.now))))
