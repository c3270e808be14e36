use Rattle.std.proofs.Common.{◌≡◌, ◌+ℤ◌, Some, arith, sym, ap, ◌∙◌}
use Rattle.std.proofs.lemmas.Int.{ints}
use mir.Syntax.{w128}
use mir.Val.{to_z, of_z}
use Rattle.var_functions.specs.Numbers.{small_number}
use Rattle.var_functions.proofs.Numerals.{one_more}
use Rattle.var_functions.proofs.number.int_sum.Goals as goal

pub loop-text-preserved : goal.loop-text-preserved
loop-text-preserved c =
    let m = c.in_ok-number_within.field-0 in
    let next = c.plus-sum.result in
    let bounds = c.in_ok-number_within.ensures.bounds in
    let number : small_number c.text-item.result ≡ Some m = ap small_number (sym c.bytes.ensures) ∙ sym c.in_ok-number_within.ensures.value in
    let after : next ≡ to_z w128 c.loop-text.sum-bits +ℤ m = omega (arith, ints, c.plus-sum.ensures, bounds.0, bounds.1) in
    let back : to_z w128 (of_z w128 next) ≡ next = omega (arith, ints, after, bounds.0, bounds.1, c.loop-text.invariant.low, c.loop-text.invariant.high) in
    record {
      whole = rw back (one_more (to_z w128 c.loop-text.sum-bits) next m c.loop-text.text-index c.args.texts.now c.text-item.result c.text-item.result _ c.loop-text-test.true c.text-item.is number after c.loop-text.invariant.whole);
      low = omega (arith, ints, after, bounds.0, bounds.1, c.loop-text.invariant.low, c.loop-text.invariant.high);
      high = omega (arith, ints, after, bounds.0, bounds.1, c.loop-text.invariant.low, c.loop-text.invariant.high);
    }
