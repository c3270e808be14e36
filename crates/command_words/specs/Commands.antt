-- The commands, their options, and what they ask for.
use Rattle.std.specs.Prelude.{Bool, true, false, ◌^◌, ◌-◌, List, [], ◌∷◌, Option, Some, None, option_map, option_and_then, unwrap_or, if◌then◌else◌, codes, find}
use Rattle.std.specs.List.{list_all}
use Rattle.std.specs.Str.{bytes_eq}
use Rattle.command_words.specs.declared.command.Command.{Command}
use Rattle.command_words.specs.declared.command.Command.TheVariants.{Check, Make as RunMake, Solo as RunSolo, Weave as RunWoven, Run as RunAll}
use Rattle.command_words.specs.declared.command.Make.{Make}
use Rattle.command_words.specs.declared.command.Solo.{Solo}
use Rattle.command_words.specs.declared.command.Weave.{Weave}
use Rattle.command_words.specs.declared.command.Run.{Run}
use Rattle.command_words.specs.declared.value.Shared.{Shared}
use Rattle.command_words.specs.CommandGrammar.{Word, Options, is_word, given_for, value_of}
use Rattle.command_words.specs.WordValues.{number_between, properties_of, schedule_of}

-- the option of `make` by the text of its value
abbrev pub make_from : Word → Option Make
make_from size = option_map (λ n. record { size = n }) (number_between 1 2047 size)

-- the option of `make` by the value that is given; nothing stands for one that is not
abbrev pub make_of : (Word → Option Word) → Option Make
make_of value = option_and_then make_from (value (codes "size"))

-- the options that `solo`, `weave` and `run` share, by the texts of their values
abbrev pub shared_from : Word → Word → Word → Option Shared
shared_from seed props samples =
    option_and_then (λ s. option_and_then (λ n. option_map (λ p.
    record { seed = s; props = p; samples = n })
    (properties_of props)) (number_between 1 262144 samples)) (number_between 0 (2 ^ 64 - 1) seed)

-- the same by the values that are given; what is not given has the value after its name
abbrev pub shared_of : (Word → Option Word) → Option Shared
shared_of value = shared_from
    (unwrap_or (value (codes "seed")) (codes "0"))
    (unwrap_or (value (codes "props")) (codes ""))
    (unwrap_or (value (codes "samples")) (codes "65536"))

abbrev pub solo_from : Shared → Word → Option Solo
solo_from shared thread =
    option_map (λ t. record { seed = shared.seed; props = shared.props; samples = shared.samples; thread = t }) (number_between 0 63 thread)

-- the options of `solo`: those that are shared, and the thread
abbrev pub solo_of : (Word → Option Word) → Option Solo
solo_of value = option_and_then (λ shared. solo_from shared (unwrap_or (value (codes "thread")) (codes "0"))) (shared_of value)

abbrev pub weave_from : Shared → Word → Option Weave
weave_from shared schedule =
    option_map (λ tokens. record { seed = shared.seed; props = shared.props; samples = shared.samples; schedule = tokens }) (schedule_of schedule)

-- the options of `weave`: those that are shared, and the schedule; where it is not given there are no tokens
abbrev pub weave_of : (Word → Option Word) → Option Weave
weave_of value = option_and_then (λ shared. weave_from shared (unwrap_or (value (codes "schedule")) (codes ""))) (shared_of value)

abbrev pub run_from : Shared → Word → Word → Option Run
run_from shared every limit =
    option_and_then (λ e. option_map (λ l.
    record { seed = shared.seed; props = shared.props; samples = shared.samples; every = e; limit = l })
    (number_between 0 (2 ^ 64 - 1) limit)) (number_between 1 3600000 every)

-- the options of `run`: those that are shared, how long an interval lasts, and how many errors it may have
abbrev pub run_of : (Word → Option Word) → Option Run
run_of value = option_and_then (λ shared.
    run_from shared (unwrap_or (value (codes "every")) (codes "1000")) (unwrap_or (value (codes "limit")) (codes "18446744073709551615")))
    (shared_of value)

-- a command: its name, its options, and what it asks for where these values are given
pub record CommandRule : Type 0 where
  pub name : Word
  pub options : Options
  pub meaning : (Word → Option Word) → Option Command

abbrev pub check : CommandRule
check = record { name = codes "check"; options = []; meaning = λ value. Some Check }

abbrev pub make : CommandRule
make = record {
  name = codes "make";
  options = (codes "size", true) ∷ [];
  meaning = λ value. option_map RunMake (make_of value);
}

abbrev pub solo : CommandRule
solo = record {
  name = codes "solo";
  options = (codes "seed", false) ∷ (codes "props", false) ∷ (codes "samples", false) ∷ (codes "thread", false) ∷ [];
  meaning = λ value. option_map RunSolo (solo_of value);
}

abbrev pub weave : CommandRule
weave = record {
  name = codes "weave";
  options = (codes "seed", false) ∷ (codes "props", false) ∷ (codes "samples", false) ∷ (codes "schedule", false) ∷ [];
  meaning = λ value. option_map RunWoven (weave_of value);
}

abbrev pub run : CommandRule
run = record {
  name = codes "run";
  options = (codes "seed", false) ∷ (codes "props", false) ∷ (codes "samples", false) ∷ (codes "every", false) ∷ (codes "limit", false) ∷ [];
  meaning = λ value. option_map RunAll (run_of value);
}

abbrev pub commands : List CommandRule
commands = check ∷ make ∷ solo ∷ weave ∷ run ∷ []

abbrev pub command_named : Word → Option CommandRule
command_named name = find (λ c. bytes_eq c.name name) commands

-- the first word names a command, and the others are options that it knows, with right values
abbrev pub asked_of : List Word → Option Command
asked_of [] = None
asked_of (word ∷ words) =
    option_and_then (λ c. option_and_then (λ given. c.meaning (value_of given)) (given_for c.options words)) (command_named word)

-- the first word is `run`
abbrev pub names_run : List Word → Bool
names_run [] = false
names_run (word ∷ words) = bytes_eq run.name word

-- what a command line asks for; none of words that are not a command line
abbrev pub command_of : List Word → Option Command
command_of words = if list_all is_word words then asked_of words else None
