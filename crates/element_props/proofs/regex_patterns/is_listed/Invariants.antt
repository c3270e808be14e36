use Rattle.std.proofs.Common.{◌≡◌, ℕ, ◌<◌, get_or}
use Rattle.element_props.proofs.regex_patterns.is_listed.Given as goal

-- none of the numbers so far is the call's
abbrev pub invariant-loop-number : goal.invariant-loop-number
invariant-loop-number l = (k : ℕ) → k < l.number-index → get_or l.numbers k l.call ≡ l.call → ⊥
