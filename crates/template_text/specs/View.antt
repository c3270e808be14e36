-- What contracts see of a template: its pieces.
use Rattle.std.specs.Prelude.{ℕ, ◌+◌, List, [], ◌∷◌, Option, Some, None}
use Rattle.template_text.specs.declared.template.Piece.{Piece}
use Rattle.template_text.specs.declared.template.Piece.TheVariants.{Text, Var, Call}
use Rattle.template_text.specs.Pieces.{Reference, variable, call, Pieces, no_more, text, reference, Arguments, no_arguments, argument}

-- arguments of a list
abbrev pub arguments_of : List Pieces → Arguments
arguments_of [] = no_arguments
arguments_of (ps ∷ more) = argument ps (arguments_of more)

-- pieces of a list
abbrev pub pieces_of : List Piece → Pieces
pieces_of [] = no_more
pieces_of (Text t ∷ more) = text t (pieces_of more)
pieces_of (Var n ∷ more) = reference (variable n) (pieces_of more)
pieces_of (Call n args ∷ more) = reference (call n (arguments_of args.items)) (pieces_of more)

abbrev mutual
  -- a number above those of the templates inside
  pub weight : Pieces → ℕ
  weight no_more = 1
  weight (text t more) = weight more + 1
  weight (reference r more) = reference_weight r + weight more

  pub reference_weight : Reference → ℕ
  reference_weight (variable n) = 1
  reference_weight (call n args) = arguments_weight args + 1

  pub arguments_weight : Arguments → ℕ
  arguments_weight no_arguments = 0
  arguments_weight (argument ps more) = weight ps + arguments_weight more

-- the reference that a piece is
abbrev pub reference_of : Piece → Option Reference
reference_of (Text t) = None
reference_of (Var n) = Some (variable n)
reference_of (Call n args) = Some (call n (arguments_of args.items))
