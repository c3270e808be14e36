-- What is written and what is left.
use Rattle.std.proofs.Common.{◌≡◌, ℕ, zero, suc, ◌+◌, ◌<◌, ◌≤◌, Vec, Global, List, [], ◌∷◌, Bool, true, false, length, get_or, arith}
use Rattle.template_text.specs.declared.template.Piece.{Piece}
use Rattle.template_text.specs.declared.template.Piece.TheVariants.{Text, Var, Call}
use Rattle.template_text.specs.View.{pieces_of, arguments_of, weight, arguments_weight}
use Rattle.template_text.specs.Pieces.{Pieces, Arguments, arguments_spelling, further_spelling}

abbrev pub rest_spelling : Bool → Arguments → List ℕ
rest_spelling true args = arguments_spelling args
rest_spelling false args = further_spelling args

same_arguments : (m n : List ℕ) (more args : Vec Pieces Global) → Call m more ≡ Call n args → arguments_weight (arguments_of more.items) ≡ arguments_weight (arguments_of args.items)
same_arguments m n more args e = cc

pub call_weight : (ps : List Piece) (i : ℕ) (d : Piece) (n : List ℕ) (args : Vec Pieces Global) → i < length ps → get_or ps i d ≡ Call n args
    → arguments_weight (arguments_of args.items) + 1 ≤ weight (pieces_of ps)
call_weight [] i d n args h e = absurd (omega arith)
call_weight (Text t ∷ ps) zero d n args h e = cc
call_weight (Var m ∷ ps) zero d n args h e = cc
call_weight (Call m more ∷ ps) zero d n args h e =
    let f : arguments_weight (arguments_of more.items) ≡ arguments_weight (arguments_of args.items) = same_arguments m n more args e in omega arith
call_weight (Text t ∷ ps) (suc i) d n args h e = omega (arith, call_weight ps i d n args (omega arith) e)
call_weight (Var m ∷ ps) (suc i) d n args h e = omega (arith, call_weight ps i d n args (omega arith) e)
call_weight (Call m more ∷ ps) (suc i) d n args h e = omega (arith, call_weight ps i d n args (omega arith) e)

pub argument_weight : (all : List Pieces) (i : ℕ) (d : Pieces) → i < length all → weight (get_or all i d) ≤ arguments_weight (arguments_of all)
argument_weight [] i d h = absurd (omega arith)
argument_weight (a ∷ all) zero d h = omega arith
argument_weight (a ∷ all) (suc i) d h = omega (arith, argument_weight all i d (omega arith))
