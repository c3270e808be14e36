use Rattle.std.proofs.Common.{sym, ◌∙◌, arith}
use Rattle.jm_base.proofs.Numerals.{cut-more, digits-more}
use Rattle.http_lines.proofs.fields.length_value.Goals as goal

pub loop-byte-preserved : goal.loop-byte-preserved
loop-byte-preserved c =
    let digit = sym c.is_ascii_digit.ensures.value ∙ c.if-not-is_ascii_digit.false in
    record {
      all = digits-more _ _ c.args.value.now c.loop-byte-test.true digit c.loop-byte.invariant.all;
      value = rw c.next_number-number.ensures (cut-more _ _ _ _ c.args.value.now c.loop-byte-test.true digit c.loop-byte.invariant.value);
      bound = omega (arith, c.next_number-number.ensures);
    }
