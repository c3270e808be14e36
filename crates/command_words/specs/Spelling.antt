-- How command lines are spelled.
use Rattle.std.specs.Prelude.{◌≡◌, ◌≢◌, true, false, ◌==◌, List, [], ◌∷◌, ◌++◌, Some, codes}
use Rattle.std.specs.List.{list_any}
use Rattle.command_words.specs.declared.command.Command.{Command}
use Rattle.command_words.specs.CommandGrammar.{Word, Given, equals_sign, begins_with_hyphen, fits, value_of}
use Rattle.command_words.specs.Commands.{CommandRule, command_named}

-- no name of an option has an `=`
abbrev pub IsName : Word → Type 0
IsName name = list_any (λ b. b == equals_sign) name ≡ false

-- Words that spell options with their values: one word `--name=value` each, or two words, `--name` and a value that begins with no hyphen.
pub data Spells : List Word → Given → Type 0 where
  nothing : Spells [] []
  in_one_word : (name value : Word) (words : List Word) (given : Given) → IsName name →
      Spells words given → Spells ((codes "--" ++ (name ++ equals_sign ∷ value)) ∷ words) ((name, value) ∷ given)
  in_two_words : (name value : Word) (words : List Word) (given : Given) → IsName name → name ≢ [] → begins_with_hyphen value ≡ false →
      Spells words given → Spells ((codes "--" ++ name) ∷ value ∷ words) ((name, value) ∷ given)

-- The words are a command's name and options that are spelled so and are right for it, and this is what it asks for with them.
pub record IsCommandLine (words : List Word) (command : Command) : Type 0 where
  pub rule : CommandRule
  pub options : List Word
  pub given : Given
  pub listed : command_named rule.name ≡ Some rule
  pub first : words ≡ rule.name ∷ options
  pub spelled : Spells options given
  pub right : fits rule.options given ≡ true
  pub meant : rule.meaning (value_of given) ≡ Some command

-- There is nothing that the words ask for.
abbrev pub IsNoCommandLine : List Word → Type 0
IsNoCommandLine words = (command : Command) → IsCommandLine words command → ⊥
