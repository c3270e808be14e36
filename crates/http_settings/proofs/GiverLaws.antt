-- The last of some elements that gives a property.
use Rattle.std.proofs.Common.{◌≡◌, ℕ, suc, ◌+◌, ◌<◌, List, [], ◌∷◌, length, drop, Bool, true, false, cond, Option, Some, refl, sym, ap, ◌∙◌, add-one, arith}
use Rattle.std.specs.Prelude.{if◌then◌else◌, nat_eq, not}
use Rattle.std.specs.List.{filter, last_or}
use Rattle.std.proofs.Math.ListN.{get_or}
use Rattle.std.proofs.Math.Seq.{drop-cons}
use Rattle.template_text.specs.declared.template.Piece.{Piece}
use Rattle.template_text.specs.declared.template.Piece.TheVariants.{Text, Var, Call}
use Rattle.template_text.specs.View.{pieces_of}
use Rattle.http_settings.specs.RequestSettings.{is_given}

given-cons : (p : Piece) (ps : List Piece) → is_given (pieces_of (p ∷ ps)) ≡ true
given-cons (Text t) ps = refl
given-cons (Var n) ps = refl
given-cons (Call n args) ps = refl

not_zero : (n : ℕ) → nat_eq (suc n) 0 ≡ false
not_zero n = grind arith

-- a list of pieces that is not empty is given
pub given-some : (ps : List Piece) → not (nat_eq (length ps) 0) ≡ is_given (pieces_of ps)
given-some [] = refl
given-some (p ∷ ps) = ap not (not_zero (length ps)) ∙ sym (given-cons p ps)

one : (b : Bool) (n : ℕ) (found : Option ℕ) (rest : List ℕ) → last_or (if b then Some n else found) rest ≡ last_or found (cond b (n ∷ rest) rest)
one true n found rest = refl
one false n found rest = refl

-- the next of them
pub next-giver : (p : ℕ → Bool) (ns : List ℕ) (i : ℕ) (found now all : Option ℕ) → i < length ns → now ≡ (if p (get_or ns i 0) then Some (get_or ns i 0) else found)
    → last_or found (filter p (drop i ns)) ≡ all → last_or now (filter p (drop (i + 1) ns)) ≡ all
next-giver p ns i found now all within is so_far =
    let here : drop i ns ≡ get_or ns i 0 ∷ drop (i + 1) ns = rw (add-one i) (drop-cons ns i 0 within) in
    ap (λ o. last_or o (filter p (drop (i + 1) ns))) is
    ∙ one (p (get_or ns i 0)) (get_or ns i 0) found (filter p (drop (i + 1) ns))
    ∙ ap (λ l. last_or found (filter p l)) (sym here) ∙ so_far
