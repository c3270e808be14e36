use Rattle.std.proofs.Common.{arith, sym, ◌∙◌}
use Rattle.command_words.proofs.Numerals.{too_large}
use Rattle.command_words.proofs.value.number_between.Goals as goal

pub returns-then-value-from-clause-value : goal.returns-then-value-from-clause-value
returns-then-value-from-clause-value c =
    too_large c.args.least c.args.most c.loop-byte.value c.loop-byte.byte-index c.args.text.now c.loop-byte-test.true c.loop-byte.invariant.value
    (sym c.is_ascii_digit.ensures.value ∙ c.if-not-is_ascii_digit.false) (omega arith)
