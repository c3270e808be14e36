-- Lengths of texts that stand for templates.
use Rattle.std.proofs.Common.{◌≡◌, ℕ, suc, ◌+◌, ◌<◌, ◌≤◌, ◌^◌, ℤ, pos, negsuc, List, [], ◌∷◌, ◌++◌, length, arith, decimal, FitsSigned, w64, length-append, codes, Bool, true, false, ◌==◌, if◌then◌else◌, ap}
use Rattle.std.specs.Fmt.{signed_decimal}
use Rattle.std.proofs.lemmas.Fmt.{length-decimal-le}
use Rattle.template_text.specs.Pieces.{Reference, variable, call, Pieces, no_more, text, reference, Arguments, no_arguments, argument, escaped, spelling, reference_spelling, arguments_spelling, further_spelling, argument_spelling}
use Rattle.element_props.specs.declared.prop.Pair.{Pair}
use Rattle.element_props.specs.Conditions.{plain_bytes, reference_bytes, arguments_bytes}
use Rattle.element_props.specs.Forms.{AreShort}

pub short_decimal : (n : ℕ) → n < 2 ^ 64 → length (decimal n) ≤ 65536
short_decimal n h = omega (arith, length-decimal-le 20 n (omega arith) (omega arith) h)

pub short_signed : (z : ℤ) → FitsSigned w64 z → length (signed_decimal z) ≤ 65536
short_signed (pos n) h = short_decimal n (omega arith)
short_signed (negsuc n) h = omega (arith, length-decimal-le 20 (suc n) (omega arith) (omega arith) (omega arith))

escaped_step : (b : Bool) (c : ℕ) (t : List ℕ) → length (escaped t) + 1 ≤ length (if b then 92 ∷ 44 ∷ escaped t else c ∷ escaped t)
escaped_step true c t = omega arith
escaped_step false c t = omega arith

escaped_longer : (t : List ℕ) → length t ≤ length (escaped t)
escaped_longer [] = omega arith
escaped_longer (c ∷ t) = omega (arith, escaped_step (c == 44) c t, escaped_longer t)

call_longer : (n s : List ℕ) → length s ≤ length (codes "${__" ++ n ++ codes "(" ++ s ++ codes ")}")
call_longer n s = omega (arith, length-append (codes "${__" ++ n ++ codes "(" ++ s) (codes ")}"), length-append (codes "${__" ++ n ++ codes "(") s)

mutual
  reference_within : (r : Reference) → reference_bytes r ≤ length (reference_spelling r)
  reference_within (variable n) = omega arith
  reference_within (call n args) = omega (arith, call_longer n (arguments_spelling args), arguments_within args)

  arguments_within : (args : Arguments) → arguments_bytes args ≤ length (arguments_spelling args)
  arguments_within no_arguments = omega arith
  arguments_within (argument ps more) = omega (arith, length-append (argument_spelling ps) (further_spelling more), argument_within ps, further_within more)

  further_within : (args : Arguments) → arguments_bytes args ≤ length (further_spelling args)
  further_within no_arguments = omega arith
  further_within (argument ps more) = omega (arith, length-append (codes "," ++ argument_spelling ps) (further_spelling more), length-append (codes ",") (argument_spelling ps), argument_within ps, further_within more)

  argument_within : (ps : Pieces) → plain_bytes ps ≤ length (argument_spelling ps)
  argument_within no_more = omega arith
  argument_within (text t more) = omega (arith, length-append (escaped t) (argument_spelling more), escaped_longer t, argument_within more)
  argument_within (reference r more) = omega (arith, length-append (reference_spelling r) (argument_spelling more), reference_within r, argument_within more)

bytes_within : (ps : Pieces) → plain_bytes ps ≤ length (spelling ps)
bytes_within no_more = omega arith
bytes_within (text t more) = omega (arith, length-append t (spelling more), bytes_within more)
bytes_within (reference r more) = omega (arith, length-append (reference_spelling r) (spelling more), reference_within r, bytes_within more)

pub short_template : (ps : Pieces) (s : List ℕ) → spelling ps ≡ s → length s ≤ 65536 → plain_bytes ps ≤ 65536
short_template ps s e h = let same : length (spelling ps) ≡ length s = ap length e in omega (arith, bytes_within ps, same)

pub short_pairs : (ps : List Pair) (p : Pair) → AreShort ps → plain_bytes p.value ≤ 65536 → AreShort (ps ++ p ∷ [])
short_pairs [] p all h = (h, tt)
short_pairs (q ∷ ps) p all h = (all.0, short_pairs ps p all.1 h)
