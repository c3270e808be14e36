-- A maker of patterns that compiles each text, and refuses the calls that it was told to.
use Rattle.std.specs.Prelude.{ℕ, ◌+◌, ◌-◌, ◌^◌, List, min, None}
use Rattle.element_props.specs.Patterns.{Asked}

-- a count of 64 bits, one higher: at the end of 64 bits it stands still
abbrev pub one_more : ℕ → ℕ
one_more count = min (count + 1) (2 ^ 64 - 1)

-- the numbers of the calls that answer that a text is too large, how many calls there were, and how many answered so
pub record Maker : Type 0 where
  pub failing : List ℕ
  pub calls : ℕ
  pub oversize : ℕ

abbrev pub new_maker : List ℕ → Maker
new_maker failing = record { failing = failing; calls = 0; oversize = 0 }

abbrev pub after_call : Maker → Maker
after_call m = record m { calls = one_more m.calls }

abbrev pub after_too_large : Maker → Maker
after_too_large m = record m { calls = one_more m.calls; oversize = one_more m.oversize }

-- it does not tell which texts it was given
abbrev pub asked_of : Maker → Asked
asked_of m = record { told = None; oversize = m.oversize }
