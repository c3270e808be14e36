-- The grammar in the form in which `clap` reads: options one by one, each judged where it is met.
use Rattle.std.specs.Prelude.{Bool, not, ◌&&◌, ◌||◌, ◌==◌, nat_lt, List, [], ◌∷◌, ◌++◌, length, Option, Some, None, option_map, option_and_then, if◌then◌else◌, find, is_some, slice_index}
use Rattle.std.specs.Str.{bytes_eq}
use Rattle.clap.specs.Lexer.{long_of}
use Rattle.command_words.specs.CommandGrammar.{Word, Given, Options, has, is_known, has_required}
use Rattle.command_words.specs.Commands.{CommandRule, check, make, solo, weave, run}

abbrev pub starts_with_hyphen : Word → Bool
starts_with_hyphen word = slice_index word 0 == 45

abbrev pub is_text : Word → Bool
is_text word = nat_lt 0 (length word) && (not (starts_with_hyphen word) || is_some (long_of word))

-- one more pair, where its name is known and new and its value is not empty
abbrev pub with_pair : Options → Given → Word → Word → (Given → Option Given) → Option Given
with_pair opts done name value more =
    if is_known opts name && (not (has name done) && nat_lt 0 (length value)) then more (done ++ (name, value) ∷ []) else None

-- what the word before the others is: `--name=value`, `--name`, or neither
abbrev pub with_word : Options → Given → Option (Word × Option Word) → (Option Word → Given → Option Given) → Option Given
with_word opts done None more = None
with_word opts done (Some (name, Some value)) more = with_pair opts done name value (more None)
with_word opts done (Some (name, None)) more = if is_known opts name then more (Some name) done else None

-- the options that the words give after those that are done; a name that waits takes the next word as its value
unfoldable pub options_from : Options → Option Word → Given → List Word → Option Given
options_from opts None done [] = if has_required opts done then Some done else None
options_from opts (Some name) done [] = None
options_from opts None done (word ∷ words) = with_word opts done (long_of word) (λ waiting now. options_from opts waiting now words)
options_from opts (Some name) done (word ∷ words) =
    if starts_with_hyphen word then None else with_pair opts done name word (λ now. options_from opts None now words)

-- the names of the commands, and their options
abbrev pub entry_of : CommandRule → Word × Options
entry_of c = (c.name, c.options)

abbrev pub entries : List (Word × Options)
entries = entry_of check ∷ entry_of make ∷ entry_of solo ∷ entry_of weave ∷ entry_of run ∷ []

abbrev pub entry_named : Word → Option (Word × Options)
entry_named name = find (λ c. bytes_eq c.0 name) entries

-- the name of a command, and its options with their values
abbrev pub pairs_by : List Word → Option (Word × Given)
pairs_by [] = None
pairs_by (word ∷ words) = option_and_then (λ c. option_map (λ ps. (c.0, ps)) (options_from c.1 None [] words)) (entry_named word)

abbrev pub pair_of : Word → Given → Option Word
pair_of name ps = option_map (λ p. p.1) (find (λ p. bytes_eq p.0 name) ps)
