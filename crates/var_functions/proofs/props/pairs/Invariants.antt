use Rattle.std.proofs.Common.{◌≡◌, ◌++◌, map}
use Rattle.form_urlencoded.specs.Parse.{owned_pairs_left}
use Rattle.var_functions.specs.RunProps.{pairs_of, decoded_pair}
use Rattle.var_functions.proofs.props.pairs.Given as goal

-- what was found and what is left are all
abbrev pub invariant-loop-pair : goal.invariant-loop-pair
invariant-loop-pair l = l.found.items ++ map decoded_pair (owned_pairs_left l.pair-iterator) ≡ pairs_of l.fn.text
