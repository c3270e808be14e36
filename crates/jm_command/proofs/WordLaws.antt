-- The size that `make` is given, and that `run` is not asked for.
use Rattle.std.proofs.Common.{◌≡◌, ℕ, Bool, true, false, List, [], ◌∷◌, Option, Some, None, refl, arith}
use Rattle.std.specs.Prelude.{◌&&◌, nat_le, option_map, option_and_then, codes, if◌then◌else◌}
use Rattle.std.specs.List.{list_all}
use Rattle.std.specs.Str.{bytes_eq}
use Rattle.std.specs.Str.Parse.{digits_value}
use Rattle.std.proofs.lemmas.Bool.Decides.{nat_tests}
use Rattle.command_words.specs.declared.command.Command.{Command}
use Rattle.command_words.specs.declared.command.Command.TheVariants.{Make, Solo as RunSolo, Weave as RunWoven}
use Rattle.command_words.specs.declared.command.Solo.{Solo}
use Rattle.command_words.specs.declared.command.Weave.{Weave}
use Rattle.command_words.specs.CommandGrammar.{Word, Given, is_word, given_for, value_of}
use Rattle.command_words.specs.WordValues.{is_number}
use Rattle.command_words.specs.Commands.{CommandRule, check, make, solo, weave, run, make_from, solo_of, weave_of, asked_of, command_of, names_run}
use Rattle.jm_command.specs.Parts.{IsInRange}

sized : (n : ℕ) (b c d : Bool) → nat_le 1 n ≡ c → nat_le n 2047 ≡ d → IsInRange (option_map Make (option_map (λ k. record { size = k }) (if b && (c && d) then Some n else None)))
sized n true true true some few = record { some = grind (arith, nat_tests); few = grind (arith, nat_tests) }
sized n false c d some few = tt
sized n true false d some few = tt
sized n true true false some few = tt

of_size : (o : Option Word) → IsInRange (option_map Make (option_and_then make_from o))
of_size None = tt
of_size (Some size) = sized (digits_value 10 size) (is_number size) (nat_le 1 (digits_value 10 size)) (nat_le (digits_value 10 size) 2047) refl refl

of_solo : (o : Option Solo) → IsInRange (option_map RunSolo o)
of_solo None = tt
of_solo (Some s) = tt

of_weave : (o : Option Weave) → IsInRange (option_map RunWoven o)
of_weave None = tt
of_weave (Some w) = tt

by_check : (o : Option Given) → IsInRange (option_and_then (λ given. check.meaning (value_of given)) o)
by_check None = tt
by_check (Some given) = tt

by_make : (o : Option Given) → IsInRange (option_and_then (λ given. make.meaning (value_of given)) o)
by_make None = tt
by_make (Some given) = of_size (value_of given (codes "size"))

by_solo : (o : Option Given) → IsInRange (option_and_then (λ given. solo.meaning (value_of given)) o)
by_solo None = tt
by_solo (Some given) = of_solo (solo_of (value_of given))

by_weave : (o : Option Given) → IsInRange (option_and_then (λ given. weave.meaning (value_of given)) o)
by_weave None = tt
by_weave (Some given) = of_weave (weave_of (value_of given))

abbrev by_rule : List Word → Option CommandRule → Option Command
by_rule words rule = option_and_then (λ c. option_and_then (λ given. c.meaning (value_of given)) (given_for c.options words)) rule

by_name : (words : List Word) (a b c d e : Bool) → e ≡ false
    → IsInRange (by_rule words (if a then Some check else if b then Some make else if c then Some solo else if d then Some weave else if e then Some run else None))
by_name words true b c d e other = by_check (given_for check.options words)
by_name words false true c d e other = by_make (given_for make.options words)
by_name words false false true d e other = by_solo (given_for solo.options words)
by_name words false false false true e other = by_weave (given_for weave.options words)
by_name words false false false false true other = absurd cc
by_name words false false false false false other = tt

asked : (words : List Word) → names_run words ≡ false → IsInRange (asked_of words)
asked [] other = tt
asked (word ∷ words) other =
    by_name words (bytes_eq check.name word) (bytes_eq make.name word) (bytes_eq solo.name word) (bytes_eq weave.name word) (bytes_eq run.name word) other

pub in_range : (words : List Word) → names_run words ≡ false → IsInRange (command_of words)
in_range words other = by_test (list_all is_word words) where
  by_test : (b : Bool) → IsInRange (if b then asked_of words else None)
  by_test true = asked words other
  by_test false = tt
