-- `run` is asked for by its own name alone.
use Rattle.std.proofs.Common.{◌≡◌, Bool, true, false, List, [], ◌∷◌, Option, Some, None, refl, subst}
use Rattle.std.specs.Prelude.{⊤, option_map, option_and_then, if◌then◌else◌}
use Rattle.std.specs.List.{list_all}
use Rattle.std.specs.Str.{bytes_eq}
use Rattle.command_words.specs.declared.command.Command.{Command}
use Rattle.command_words.specs.declared.command.Command.TheVariants.{Check, Make, Solo, Weave, Run}
use Rattle.command_words.specs.declared.command.Make.{Make as MakeOf}
use Rattle.command_words.specs.declared.command.Solo.{Solo as SoloOf}
use Rattle.command_words.specs.declared.command.Weave.{Weave as WeaveOf}
use Rattle.command_words.specs.declared.command.Run.{Run as RunOf}
use Rattle.command_words.specs.CommandGrammar.{Word, Given, is_word, given_for, value_of}
use Rattle.command_words.specs.Commands.{CommandRule, check, make, solo, weave, run, make_of, solo_of, weave_of, run_of, asked_of, command_of, names_run}

-- what is asked for is `run` only where this is true
abbrev RunsWhere : Bool → Option Command → Type 0
RunsWhere first None = ⊤
RunsWhere first (Some Check) = ⊤
RunsWhere first (Some (Make m)) = ⊤
RunsWhere first (Some (Solo s)) = ⊤
RunsWhere first (Some (Weave w)) = ⊤
RunsWhere first (Some (Run r)) = first ≡ true

of_make : (first : Bool) (o : Option MakeOf) → RunsWhere first (option_map Make o)
of_make first None = tt
of_make first (Some m) = tt

of_solo : (first : Bool) (o : Option SoloOf) → RunsWhere first (option_map Solo o)
of_solo first None = tt
of_solo first (Some s) = tt

of_weave : (first : Bool) (o : Option WeaveOf) → RunsWhere first (option_map Weave o)
of_weave first None = tt
of_weave first (Some w) = tt

of_run : (o : Option RunOf) → RunsWhere true (option_map Run o)
of_run None = tt
of_run (Some r) = refl

by_check : (first : Bool) (o : Option Given) → RunsWhere first (option_and_then (λ given. check.meaning (value_of given)) o)
by_check first None = tt
by_check first (Some given) = tt

by_make : (first : Bool) (o : Option Given) → RunsWhere first (option_and_then (λ given. make.meaning (value_of given)) o)
by_make first None = tt
by_make first (Some given) = of_make first (make_of (value_of given))

by_solo : (first : Bool) (o : Option Given) → RunsWhere first (option_and_then (λ given. solo.meaning (value_of given)) o)
by_solo first None = tt
by_solo first (Some given) = of_solo first (solo_of (value_of given))

by_weave : (first : Bool) (o : Option Given) → RunsWhere first (option_and_then (λ given. weave.meaning (value_of given)) o)
by_weave first None = tt
by_weave first (Some given) = of_weave first (weave_of (value_of given))

by_run : (o : Option Given) → RunsWhere true (option_and_then (λ given. run.meaning (value_of given)) o)
by_run None = tt
by_run (Some given) = of_run (run_of (value_of given))

abbrev by_rule : List Word → Option CommandRule → Option Command
by_rule words rule = option_and_then (λ c. option_and_then (λ given. c.meaning (value_of given)) (given_for c.options words)) rule

by_name : (words : List Word) (a b c d e : Bool)
    → RunsWhere e (by_rule words (if a then Some check else if b then Some make else if c then Some solo else if d then Some weave else if e then Some run else None))
by_name words true b c d e = by_check e (given_for check.options words)
by_name words false true c d e = by_make e (given_for make.options words)
by_name words false false true d e = by_solo e (given_for solo.options words)
by_name words false false false true e = by_weave e (given_for weave.options words)
by_name words false false false false true = by_run (given_for run.options words)
by_name words false false false false false = tt

asked : (words : List Word) → RunsWhere (names_run words) (asked_of words)
asked [] = tt
asked (word ∷ words) =
    by_name words (bytes_eq check.name word) (bytes_eq make.name word) (bytes_eq solo.name word) (bytes_eq weave.name word) (bytes_eq run.name word)

only_run : (words : List Word) → RunsWhere (names_run words) (command_of words)
only_run words = by_test (list_all is_word words) where
  by_test : (b : Bool) → RunsWhere (names_run words) (if b then asked_of words else None)
  by_test true = asked words
  by_test false = tt

-- a command line of `run` has `run` as its first word
pub run_is_named : (words : List Word) (r : RunOf) → command_of words ≡ Some (Run r) → names_run words ≡ true
run_is_named words r e = subst (λ (o : Option Command). RunsWhere (names_run words) o) e (only_run words)
