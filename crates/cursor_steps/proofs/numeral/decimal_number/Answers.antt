use Rattle.std.proofs.Common.{◌≡◌, ◌+◌, ◌*◌, ◌-◌, ◌^◌, get_or, sym, ◌∙◌, arith}
use Rattle.std.specs.Prelude.{min}
use Rattle.jm_base.proofs.Numerals.{cut-more, digits-more}
use Rattle.cursor_steps.proofs.numeral.decimal_number.Goals as goal

pub loop-byte-preserved : goal.loop-byte-preserved
loop-byte-preserved c =
    let is : c.min-number.result ≡ min (c.loop-byte.number * 10 + (get_or c.args.text.now c.loop-byte.byte-index 0 - 48)) (2 ^ 32 - 1) =
    rw (c.from.ensures, c.from-in-loop-byte.ensures) at c.min-number.ensures in
    let digit = sym c.is_ascii_digit.ensures.value ∙ c.if-not-is_ascii_digit.false in
    record {
      all = digits-more _ _ c.args.text.now c.loop-byte-test.true digit c.loop-byte.invariant.all;
      value = rw is (cut-more _ _ _ _ c.args.text.now c.loop-byte-test.true digit c.loop-byte.invariant.value);
      bound = omega (arith, is);
    }
