-- What a piece of a template is, by itself.
use Rattle.std.specs.Prelude.{ℕ, List, length, Option, Some, None}
use Rattle.template_text.specs.declared.template.Piece.{Piece}
use Rattle.template_text.specs.declared.template.Piece.TheVariants.{Text, Var, Call}
use Rattle.template_text.specs.View.{arguments_of, arguments_weight}
use Rattle.element_props.specs.Conditions.{arguments_bytes}

abbrev pub text_in : Piece → Option (List ℕ)
text_in (Text t) = Some t
text_in (Var n) = None
text_in (Call n args) = None

-- how many bytes of plain text stand in it
abbrev pub bytes_in : Piece → ℕ
bytes_in (Text t) = length t
bytes_in (Var n) = 0
bytes_in (Call n args) = arguments_bytes (arguments_of args.items)

-- a number above those of the templates in its arguments
abbrev pub piece_weight : Piece → ℕ
piece_weight (Text t) = 0
piece_weight (Var n) = 0
piece_weight (Call n args) = arguments_weight (arguments_of args.items)
