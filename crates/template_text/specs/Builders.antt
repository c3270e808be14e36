-- What a builder holds, with more after it.
use Rattle.std.specs.Prelude.{ℕ, List, [], ◌∷◌}
use Rattle.template_text.specs.declared.template.Piece.{Piece}
use Rattle.template_text.specs.declared.template.Piece.TheVariants.{Text, Var, Call}
use Rattle.template_text.specs.declared.builders.TemplateBuilder.{TemplateBuilder}
use Rattle.template_text.specs.declared.builders.ArgumentsBuilder.{ArgumentsBuilder}
use Rattle.template_text.specs.Pieces.{variable, call, Pieces, text, reference, Arguments, no_arguments, argument}
use Rattle.template_text.specs.Scan.{with_byte}
use Rattle.template_text.specs.View.{arguments_of}

-- the pieces of a list, and more after them
abbrev pub pieces_then : List Piece → Pieces → Pieces
pieces_then [] more = more
pieces_then (Text t ∷ ps) more = text t (pieces_then ps more)
pieces_then (Var n ∷ ps) more = reference (variable n) (pieces_then ps more)
pieces_then (Call n args ∷ ps) more = reference (call n (arguments_of args.items)) (pieces_then ps more)

-- plain text, and more pieces after it
abbrev pub text_then : List ℕ → Pieces → Pieces
text_then [] more = more
text_then (c ∷ t) more = with_byte c (text_then t more)

abbrev pub joined : TemplateBuilder → Pieces → Pieces
joined b more = pieces_then b.pieces.items (text_then b.plain.items more)

abbrev pub arguments_then : List Pieces → Arguments → Arguments
arguments_then [] args = args
arguments_then (ps ∷ done) args = argument ps (arguments_then done args)

abbrev pub first_joined : TemplateBuilder → Arguments → Arguments
first_joined b no_arguments = no_arguments
first_joined b (argument ps more) = argument (joined b ps) more

abbrev pub joined_arguments : ArgumentsBuilder → Arguments → Arguments
joined_arguments b args = arguments_then b.done.items (first_joined b.last args)
