use Rattle.std.proofs.Common.{◌≡◌, drop}
use Rattle.element_props.specs.Forms.{bad_pair, AreShort}
use Rattle.element_props.proofs.props.bad_pair.Given as goal

-- what is left has the first condition that can't be read
abbrev pub invariant-loop-pair : goal.invariant-loop-pair
invariant-loop-pair l = record {
  left : bad_pair (drop l.pair-index l.pairs) ≡ bad_pair l.pairs;
  room : AreShort (drop l.pair-index l.pairs);
}
