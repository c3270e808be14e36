-- A template inside another weighs less.
use Rattle.std.specs.Prelude.{◌+◌, ◌≤◌, List, [], ◌∷◌, max}
use Rattle.std.proofs.Common.{arith}
use denote.Param.Weighed.{most}
use Rattle.template_text.specs.declared.template.Piece.{Piece}
use Rattle.template_text.specs.declared.template.Piece.TheVariants.{Text, Var, Call}
use Rattle.template_text.specs.declared.template.Template.TheDeep.{deep-Piece}
use Rattle.template_text.specs.Pieces.{Pieces}
use Rattle.template_text.specs.View.{pieces_of, arguments_of, weight, arguments_weight}

-- no argument weighs more than all of them together
pub arguments_fall : (args : List Pieces) → most (λ k. weight k + 1) args ≤ arguments_weight (arguments_of args) + 1
arguments_fall [] = omega arith
arguments_fall (k ∷ more) = omega (arith, arguments_fall more)

pub falls : (ps : List Piece) → max (most (λ (x : Piece). deep-Piece x) ps) 0 ≤ weight (pieces_of ps)
falls [] = omega arith
falls (Text t ∷ more) = omega (arith, falls more)
falls (Var n ∷ more) = omega (arith, falls more)
falls (Call n args ∷ more) = omega (arith, falls more, arguments_fall args.items)
