-- A text that is refused as a regular expression stands for none, and one that is compiled, or too large to be, is one.
use Rattle.std.proofs.Common.{◌≡◌, ℕ, ◌<◌, ◌≤◌, ◌≢◌, List, Option, Some, None, inl, inr, refl, arith, false, ap, length, is_some, IsSome}
use Rattle.std.specs.Prelude.{option_and_then, IfSome, IsSomeAnd, nat_le}
use Rattle.std.proofs.lemmas.Bool.{cond-true, cond-false, le-leb}
use Rattle.std.proofs.lemmas.Bool.Decides.{nat_tests}
use Rattle.regex.specs.Patterns.{Re, default_config, SameCaptures, Reads, Refuses}
use Rattle.regex.specs.Failures.{IsPattern}
use Rattle.regex.specs.Strings.{regex_source}
use Rattle.regex.specs.declared.string.regex.Regex.{Regex}
use Rattle.regex_syntax.specs.declared.error.ErrorKind.{ErrorKind}
use Rattle.regex_syntax.specs.declared.error.ErrorKind.TheVariants as kind
use Rattle.regex_syntax.specs.Brackets.{Nested}
use Rattle.regex_syntax.specs.Grammar.{Names, group_count}
use Rattle.element_props.specs.Patterns.{within_limit, reading_of, HasReading, IsKept}

too_deep : (o : Option (Nested Re × Names)) → IfSome o (λ (re, _). 250 < re.depth) → option_and_then within_limit o ≡ None
too_deep None h = refl
too_deep (Some p) h = let no : nat_le p.0.depth 250 ≡ false = grind (arith, nat_tests) in cond-false _ _ _ no

pub refused_reading : (text : List ℕ) (k : ErrorKind) → Refuses default_config text k → k ≢ kind.OutOfMemory → reading_of text ≡ None
unfolding reading_of Refuses
refused_reading text k refused other =
    elim refused [
      | inl memory ↦ absurd (other memory)
      | inr why ↦ elim why [
        | inl none ↦ rw none
        | inr deep ↦ too_deep _ deep.1
      ]
    ]

shallow_reads : (o : Option (Nested Re × Names)) (tree : Re) (names : Names)
    → IsSomeAnd o (λ (re, found). (re.depth ≤ 250) × SameCaptures tree re.value × (names ≡ found) × (group_count tree ≤ length names)) → IsSome (option_and_then within_limit o)
shallow_reads None tree names h = absurd h
shallow_reads (Some p) tree names h = ap is_some (cond-true _ _ _ (le-leb p.0.depth 250 h.0))

pub pattern_has_reading : (text : List ℕ) → IsPattern default_config text → HasReading text
unfolding reading_of Reads
pattern_has_reading text (hir, names, reads) = shallow_reads _ _ names reads

pub kept_has_reading : (r : Regex) → IsKept r → HasReading (regex_source r)
unfolding reading_of Reads
kept_has_reading r kept = shallow_reads _ _ _ (rw kept.0 at kept.1)
