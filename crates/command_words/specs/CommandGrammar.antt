-- The grammar of a command line's words: a command, and options that have a value each.
use Rattle.std.specs.Prelude.{ℕ, Bool, true, not, ◌&&◌, ◌||◌, ◌==◌, nat_lt, nat_eq, List, [], ◌∷◌, length, drop, Option, Some, None, option_map, option_and_then, if◌then◌else◌, codes, find, is_some}
use Rattle.std.specs.List.{list_all, list_any, starts_with, before_first, after_first}
use Rattle.std.specs.Str.{bytes_eq}

-- a word, or a part of one, as its bytes
abbrev pub Word : Type 0
Word = List ℕ

-- options and their values, as they follow one another
abbrev pub Given : Type 0
Given = List (Word × Word)

-- the options of a command: the name of each, and whether it must be given
abbrev pub Options : Type 0
Options = List (Word × Bool)

abbrev pub equals_sign : ℕ
equals_sign = 61

-- what stands before the first `=`, and, if there is one, what stands after it
abbrev pub name_and_value : Word → Word × Option Word
name_and_value text = (
  before_first (λ b. b == equals_sign) text,
  if list_any (λ b. b == equals_sign) text then Some (after_first (λ b. b == equals_sign) text) else None,
)

-- an option's name, and its value if there is one, of what stands after `--`, where something does
abbrev pub option_after : Word → Option (Word × Option Word)
option_after [] = None
option_after (b ∷ bs) = Some (name_and_value (b ∷ bs))

-- the same of a word `--name=value` or `--name`
abbrev pub option_word : Word → Option (Word × Option Word)
option_word word = if starts_with nat_eq word (codes "--") then option_after (drop 2 word) else None

abbrev pub begins_with_hyphen : Word → Bool
begins_with_hyphen word = starts_with nat_eq word (codes "-")

-- a word is not empty, and is not `-`, `--` or another word that begins with a hyphen and is not an option
abbrev pub is_word : Word → Bool
is_word word = nat_lt 0 (length word) && (not (begins_with_hyphen word) || is_some (option_word word))

abbrev pub before : Word × Word → Option Given → Option Given
before option given = option_map (λ more. option ∷ more) given

-- `--name=value`, or `--name`, for which the words that follow are read
abbrev pub with_option : Option (Word × Option Word) → (Option Word → Option Given) → Option Given
with_option None more = None
with_option (Some (name, Some value)) more = before (name, value) (more None)
with_option (Some (name, None)) more = more (Some name)

-- The options and values that words spell: each is `--name=value`, or `--name` and then a word that begins with no hyphen.
-- A name that stands before the words has the first of them as its value.
unfoldable pub given_in : Option Word → List Word → Option Given
given_in None [] = Some []
given_in (Some name) [] = None
given_in None (word ∷ words) = with_option (option_word word) (λ name. given_in name words)
given_in (Some name) (word ∷ words) = if begins_with_hyphen word then None else before (name, word) (given_in None words)

-- an option of this name is given
abbrev pub has : Word → Given → Bool
has name given = list_any (λ p. bytes_eq p.0 name) given

abbrev pub is_known : Options → Word → Bool
is_known options name = list_any (λ p. bytes_eq p.0 name) options

-- the command knows the option, and its value is not empty
abbrev pub is_right : Options → Word × Word → Bool
is_right options option = is_known options option.0 && nat_lt 0 (length option.1)

-- no option is given twice
abbrev pub is_each_once : Given → Bool
is_each_once [] = true
is_each_once (option ∷ given) = not (has option.0 given) && is_each_once given

-- each option that must be given is
abbrev pub has_required : Options → Given → Bool
has_required options given = list_all (λ p. not p.1 || has p.0 given) options

-- what is given is right for a command with these options
abbrev pub fits : Options → Given → Bool
fits options given = list_all (is_right options) given && (is_each_once given && has_required options given)

-- what the words after a command give, where that is right for its options
abbrev pub given_for : Options → List Word → Option Given
given_for options words = option_and_then (λ given. if fits options given then Some given else None) (given_in None words)

-- the value of an option
abbrev pub value_of : Given → Word → Option Word
value_of given name = option_map (λ p. p.1) (find (λ p. bytes_eq p.0 name) given)
