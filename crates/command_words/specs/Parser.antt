-- The commands as `clap` is told of them, and the words that it takes.
use Rattle.std.specs.Prelude.{◌≡◌, List, [], ◌∷◌, codes, true, Option, Some}
use Rattle.clap.specs.Words.{App, Shape, Rule, Row, Text, new_rule, new_app, with_rule, with_subcommand, fault_of, subcommand_of}
use Rattle.clap.specs.declared.builder.action.ArgAction.TheVariants.{Set}
use Rattle.clap.specs.declared.builder.value_parser.ValueParser.TheVariants.{NonEmptyString}

-- `--name` with one value that is not empty
abbrev pub option_rule : Text → Rule
option_rule name = record (new_rule name) { long = Some name; action = Some Set; parser = Some NonEmptyString }

-- the same, where it must be given
abbrev pub required_rule : Text → Rule
required_rule name = record (option_rule name) { required = true }

-- a command with these options
abbrev pub with_options : App → List Text → App
with_options a [] = a
with_options a (name ∷ names) = with_options (with_rule a (option_rule name)) names

abbrev pub check_app : App
check_app = new_app (codes "check")

abbrev pub make_app : App
make_app = with_rule (new_app (codes "make")) (required_rule (codes "size"))

abbrev pub solo_app : App
solo_app = with_options (new_app (codes "solo")) (codes "seed" ∷ codes "props" ∷ codes "samples" ∷ codes "thread" ∷ [])

abbrev pub weave_app : App
weave_app = with_options (new_app (codes "weave")) (codes "seed" ∷ codes "props" ∷ codes "samples" ∷ codes "schedule" ∷ [])

abbrev pub run_app : App
run_app = with_options (new_app (codes "run")) (codes "seed" ∷ codes "props" ∷ codes "samples" ∷ codes "every" ∷ codes "limit" ∷ [])

abbrev pub bare_shape : Shape → Shape
bare_shape s = record s { no_binary_name = true; disable_help_flag = true; disable_help_subcommand = true; subcommand_required = true }

abbrev pub bare_app : App
bare_app = record (new_app (codes "jm")) { top = bare_shape (new_app (codes "jm")).top }

abbrev pub plain_app : App
plain_app = with_subcommand (with_subcommand (with_subcommand bare_app check_app.top) make_app.top) solo_app.top

abbrev pub jm_app : App
jm_app = with_subcommand (with_subcommand plain_app weave_app.top) run_app.top

-- `clap` takes the words
abbrev pub AreTaken : List Text → Type 0
AreTaken words = fault_of jm_app words ≡ []

-- the command and its options, by name, that `clap` reads in words that it takes
abbrev pub taken_rows : List Text → Option (Text × List Row)
taken_rows words = subcommand_of jm_app words
