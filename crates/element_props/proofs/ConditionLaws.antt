-- The pieces of a template, one after another.
use Rattle.std.proofs.Common.{◌≡◌, ℕ, zero, suc, ◌+◌, ◌<◌, ◌≤◌, List, [], ◌∷◌, false, length, get_or, drop, arith, option_and_then, refl, sym, ap, ◌∙◌, add-one, drop-cons, nat_eq}
use Rattle.template_text.specs.declared.template.Piece.{Piece}
use Rattle.template_text.specs.declared.template.Piece.TheVariants.{Text, Var, Call}
use Rattle.template_text.specs.View.{pieces_of, arguments_of, reference_of, weight}
use Rattle.template_text.specs.Pieces.{Pieces, no_more, text, reference}
use Rattle.element_props.specs.Conditions.{first_of, bad_condition, bad_reference, bad_argument, is_end, plain_bytes, arguments_bytes}
use Rattle.element_props.specs.PieceViews.{bytes_in, piece_weight}

pub bad_step : (p : Piece) (ps : List Piece) → bad_condition (pieces_of (p ∷ ps)) ≡ first_of (option_and_then bad_reference (reference_of p)) (bad_condition (pieces_of ps))
bad_step (Text t) ps = refl
bad_step (Var n) ps = refl
bad_step (Call n args) ps = refl

pub bytes_step : (p : Piece) (ps : List Piece) → plain_bytes (pieces_of (p ∷ ps)) ≡ bytes_in p + plain_bytes (pieces_of ps)
bytes_step (Text t) ps = refl
bytes_step (Var n) ps = refl
bytes_step (Call n args) ps = refl

-- what is left, by its first piece
pub bad_at : (ps : List Piece) (i : ℕ) (p : Piece) → i < length ps → p ≡ get_or ps i p
    → bad_condition (pieces_of (drop i ps)) ≡ first_of (option_and_then bad_reference (reference_of p)) (bad_condition (pieces_of (drop (i + 1) ps)))
bad_at ps i p h is = rw add-one (ap (λ qs. bad_condition (pieces_of qs)) (drop-cons ps i p h) ∙ ap (λ q. bad_condition (pieces_of (q ∷ drop (suc i) ps))) (sym is) ∙ bad_step p (drop (suc i) ps))

pub bytes_at : (ps : List Piece) (i : ℕ) (p : Piece) → i < length ps → p ≡ get_or ps i p
    → plain_bytes (pieces_of (drop i ps)) ≡ bytes_in p + plain_bytes (pieces_of (drop (i + 1) ps))
bytes_at ps i p h is = rw add-one (ap (λ qs. plain_bytes (pieces_of qs)) (drop-cons ps i p h) ∙ ap (λ q. plain_bytes (pieces_of (q ∷ drop (suc i) ps))) (sym is) ∙ bytes_step p (drop (suc i) ps))

pub bad_argument_at : (qs : List Pieces) (i : ℕ) (p : Pieces) → i < length qs → p ≡ get_or qs i p
    → bad_argument (arguments_of (drop i qs)) ≡ first_of (bad_condition p) (bad_argument (arguments_of (drop (i + 1) qs)))
bad_argument_at qs i p h is = rw add-one (ap (λ rs. bad_argument (arguments_of rs)) (drop-cons qs i p h) ∙ ap (λ q. bad_argument (arguments_of (q ∷ drop (suc i) qs))) (sym is))

pub argument_bytes_at : (qs : List Pieces) (i : ℕ) (p : Pieces) → i < length qs → p ≡ get_or qs i p
    → arguments_bytes (arguments_of (drop i qs)) ≡ plain_bytes p + arguments_bytes (arguments_of (drop (i + 1) qs))
argument_bytes_at qs i p h is = rw add-one (ap (λ rs. arguments_bytes (arguments_of rs)) (drop-cons qs i p h) ∙ ap (λ q. arguments_bytes (arguments_of (q ∷ drop (suc i) qs))) (sym is))

weighs : (ps : Pieces) → 1 ≤ weight ps
weighs no_more = omega arith
weighs (text t more) = omega arith
weighs (reference r more) = omega (arith, weighs more)

is_end_cons : (p : Piece) (ps : List Piece) → is_end (pieces_of (p ∷ ps)) ≡ false
is_end_cons (Text t) ps = refl
is_end_cons (Var n) ps = refl
is_end_cons (Call n args) ps = refl

not_zero : (n : ℕ) → nat_eq (suc n) 0 ≡ false
not_zero n = grind arith

pub is_end_empty : (ps : List Piece) → nat_eq (length ps) 0 ≡ is_end (pieces_of ps)
is_end_empty [] = refl
is_end_empty (p ∷ ps) = not_zero (length ps) ∙ sym (is_end_cons p ps)

pub piece_falls : (ps : List Piece) (i : ℕ) (d : Piece) → i < length ps → piece_weight (get_or ps i d) + 1 ≤ weight (pieces_of ps)
piece_falls [] i d h = absurd (omega arith)
piece_falls (Text t ∷ ps) zero d h = omega (arith, weighs (pieces_of ps))
piece_falls (Var m ∷ ps) zero d h = omega (arith, weighs (pieces_of ps))
piece_falls (Call m more ∷ ps) zero d h = omega (arith, weighs (pieces_of ps))
piece_falls (Text t ∷ ps) (suc i) d h = omega (arith, piece_falls ps i d (omega arith))
piece_falls (Var m ∷ ps) (suc i) d h = omega (arith, piece_falls ps i d (omega arith))
piece_falls (Call m more ∷ ps) (suc i) d h = omega (arith, piece_falls ps i d (omega arith))
