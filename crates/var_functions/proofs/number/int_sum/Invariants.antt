use Rattle.std.proofs.Common.{◌≡◌, ◌^◌, ◌*◌, drop, Some}
use Rattle.std.specs.Prelude.{◌≤ℤ◌, neg_ℤ, pos}
use Rattle.var_functions.specs.Numbers.{plus, sum_of}
use Rattle.var_functions.proofs.number.int_sum.Given as goal

-- the sum so far and the sum of the rest are the whole, and each number was within 32 signed bits
abbrev pub invariant-loop-text : goal.invariant-loop-text
invariant-loop-text l = record {
  whole : plus (Some l.sum) (sum_of (drop l.text-index l.texts)) ≡ sum_of l.texts;
  low : neg_ℤ (pos (2 ^ 31 * l.text-index)) ≤ℤ l.sum;
  high : l.sum ≤ℤ pos (2 ^ 31 * l.text-index);
}
