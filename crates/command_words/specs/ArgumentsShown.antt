-- What `clap` read, in the words of the grammar.
use Rattle.std.specs.Prelude.{◌≡◌, List, [], ◌∷◌, Option, Some, None, option_map, option_and_then}
use Rattle.clap.specs.Words.{first_of, subcommand_rows_of}
use Rattle.clap.specs.declared.parser.matches.ArgMatches.{ArgMatches}
use Rattle.command_words.specs.CommandGrammar.{Word, Given, given_for, value_of}
use Rattle.command_words.specs.Commands.{CommandRule, command_named}

-- the command and what is given for it, before the values are read
abbrev pub asked_by : List Word → Option (CommandRule × Given)
asked_by [] = None
asked_by (word ∷ words) = option_and_then (λ c. option_map (λ given. (c, given)) (given_for c.options words)) (command_named word)

abbrev pub shown_name : ArgMatches → Option Word
shown_name m = option_map (λ p. p.0) (subcommand_rows_of m)

abbrev pub shown_value : ArgMatches → Word → Option Word
shown_value m name = option_and_then (λ p. first_of name p.1) (subcommand_rows_of m)

-- the matches have the command's name and the value of each option
pub record Shows (m : ArgMatches) (q : CommandRule × Given) : Type 0 where
  pub listed : command_named q.0.name ≡ Some q.0
  pub name : shown_name m ≡ Some q.0.name
  pub values : (name : Word) → shown_value m name ≡ value_of q.1 name

-- the words are in the grammar, and the matches show what they give
abbrev pub ShowsReading : ArgMatches → List Word → Type 0
ShowsReading m words = (q : CommandRule × Given) × (asked_by words ≡ Some q) × Shows m q
