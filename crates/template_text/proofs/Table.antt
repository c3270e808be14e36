-- What the scanner keeps of each place says what begins there.
use Rattle.std.proofs.Common.{◌≡◌, ℕ, suc, ◌<◌, ◌≤◌, List, [], ◌∷◌, refl, sym, ◌∙◌, ap, Bool, Option, Some, None, option_map, length, drop, map, get_or, arith, length-append}
use Rattle.std.proofs.lemmas.List.{length-map, drop-map}
use Rattle.template_text.specs.declared.scan.Token.{Token}
use Rattle.template_text.specs.declared.scan.Token.TheVariants.{Start}
use Rattle.template_text.specs.declared.scan.Step.TheVariants.{Fails, Goes}
use Rattle.template_text.specs.declared.scan.Found.{Found}
use Rattle.template_text.specs.Pieces.{Reference, variable, call, reference_spelling}
use Rattle.template_text.specs.Scan.{step_of, table, first_at, shape, AreFound, found_length}
use Rattle.template_text.proofs.Before.{reference-before}
use Rattle.template_text.proofs.Inside.{StartsWith, none_some, map_some}
use Rattle.template_text.proofs.Names.{all_sound, table_drop}

pub found_here : (s : List ℕ) (f : List (Option Found)) (x : Option Found) → AreFound s f → 0 < length s → get_or f 0 None ≡ x → option_map shape (first_at s) ≡ x
unfolding table
found_here [] f x e h g = absurd (omega arith)
found_here (c ∷ s) f x e h g = ap (λ w. get_or w 0 None) (sym e) ∙ g

pub nothing_here : (q : Option Reference) → option_map shape q ≡ None → q ≡ None
nothing_here None e = refl
nothing_here (Some r) e = cc

pub something_here : (q : Option Reference) (f : Found) → option_map shape q ≡ Some f → (r : Reference) × ((q ≡ Some r) × (shape r ≡ f))
something_here q f e = map_some shape q f e

pub shape_length : (r : Reference) → found_length (shape r) ≡ length (reference_spelling r)
shape_length (variable n) = omega (arith, length-append n (125 ∷ []))
shape_length (call n args) = refl

pub reference_within : (s : List ℕ) (r : Reference) → first_at s ≡ Some r → length (reference_spelling r) ≤ length s
reference_within [] r e = absurd (none_some r e)
reference_within (c ∷ s) r e =
    let h : StartsWith (c ∷ s) r = (all_sound (c ∷ s)).0 r e in
    omega (arith, length-append (reference_spelling r) h.rest, ap length (h.spelled ∙ sym (reference-before r h.rest)))

pub length-table : (s : List ℕ) → length (table s) ≡ length s
unfolding table
length-table [] = refl
length-table (c ∷ s) = ap suc (length-table s)

pub found_length-same : (s : List ℕ) (f : List (Option Found)) → AreFound s f → length f ≡ length s
found_length-same s f e = ap length e ∙ (length-map (table s) (option_map shape) ∙ length-table s)

pub found_drop : (k : ℕ) (s : List ℕ) (f : List (Option Found)) → AreFound s f → AreFound (drop k s) (drop k f)
found_drop k s f e = ap (drop k) e ∙ (drop-map (option_map shape) k (table s) ∙ ap (map (option_map shape)) (table_drop k s))

pub step_none : (t : Token) (q : Option Reference) (b : Bool) (o : ℕ) → Start ≡ t → q ≡ None → Fails ≡ step_of t q b o
step_none t q b o e f = ap (λ w. step_of w None b o) e ∙ ap (λ w. step_of t w b o) (sym f)

pub step_some : (t : Token) (q : Option Reference) (b : Bool) (o n : ℕ) (r : Reference) → Start ≡ t → q ≡ Some r → n ≡ length (reference_spelling r) → Goes n o ≡ step_of t q b o
step_some t q b o n r e f g = ap (λ w. Goes w o) g ∙ (ap (λ w. step_of w (Some r) b o) e ∙ ap (λ w. step_of t w b o) (sym f))
