-- The texts that functions give.
use Rattle.std.specs.Prelude.{ℕ, List}
use Rattle.std.specs.Fmt.{signed_decimal}
use Rattle.var_functions.specs.declared.texts.Value.{Value}
use Rattle.var_functions.specs.declared.texts.Value.TheVariants.{Number, Lent, Formed}

-- the text of a value: a number is written in decimal digits
abbrev pub value_bytes : Value → List ℕ
value_bytes (Number z) = signed_decimal z
value_bytes (Lent r) = r.now
value_bytes (Formed t) = t
