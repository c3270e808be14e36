use Rattle.std.proofs.Common.{◌≡◌, ◌+◌, drop}
use Rattle.extractors.specs.Templates.{digit_count}
use Rattle.extractors.proofs.templates.digit_count.Given as goal

abbrev pub invariant-digits : goal.invariant-digits
invariant-digits l = record {
  count : l.count + digit_count (drop l.byte-index l.fn.bytes) ≡ digit_count l.fn.bytes;
  within : l.count ≡ l.byte-index;
}
