-- What the token at a place says of the bytes there, and what arguments read there.
use Rattle.std.proofs.Common.{◌≡◌, ◌≢◌, ℕ, suc, ◌-◌, List, ◌∷◌, ◌==◌, ◌&&◌, if◌then◌else◌, refl, ◌∙◌, ap, Bool, true, false, Some, option_map, length}
use Rattle.std.proofs.lemmas.Bool.{eqb-true, eqb-false, eq-eqb, ne_eqb}
use Rattle.template_text.specs.declared.scan.Token.{Token}
use Rattle.template_text.specs.declared.scan.Token.TheVariants.{Open, Close, Separator, Comma, Start, Byte}
use Rattle.template_text.specs.Pieces.{Reference, no_more, Arguments, no_arguments, argument, reference_spelling}
use Rattle.template_text.specs.TemplateGrammar.{begins_with, opens}
use Rattle.template_text.specs.Scan.{token_of, step_of, follow, add, join, inside, table, first_at}

-- a byte of plain text, which s follows
pub record IsByte (c : ℕ) (s : List ℕ) : Type 0 where
  pub not_open : c ≢ 40
  pub not_close : c ≢ 41
  pub not_comma : c ≢ 44
  pub not_escape : c ≡ 92 → begins_with 44 s ≡ false
  pub not_start : opens (c ∷ s) ≡ false

abbrev pub TokenIs : Token → ℕ → List ℕ → Type 0
TokenIs Open c s = c ≡ 40
TokenIs Close c s = c ≡ 41
TokenIs Separator c s = c ≡ 44
TokenIs Comma c s = (c ≡ 92) × (begins_with 44 s ≡ true)
TokenIs Start c s = opens (c ∷ s) ≡ true
TokenIs (Byte d) c s = (d ≡ c) × IsByte c s

pub and_second : (x y : Bool) → (x && y) ≡ false → x ≡ true → y ≡ false
and_second true y e f = e
and_second false y e f = cc

pub and_first : (x y : Bool) → (x && y) ≡ true → (x ≡ true) × (y ≡ true)
and_first true y e = (refl, e)
and_first false y e = cc

token_go : (c : ℕ) (s : List ℕ) (a b d e f : Bool) → (c == 40) ≡ a → (c == 41) ≡ b → (c == 44) ≡ d → (c == 92 && begins_with 44 s) ≡ e → opens (c ∷ s) ≡ f
    → TokenIs (if a then Open else if b then Close else if d then Separator else if e then Comma else if f then Start else Byte c) c s
token_go c s true b d e f i j k l m = eqb-true c 40 i
token_go c s false true d e f i j k l m = eqb-true c 41 j
token_go c s false false true e f i j k l m = eqb-true c 44 k
token_go c s false false false true f i j k l m = (eqb-true c 92 (and_first (c == 92) (begins_with 44 s) l).0, (and_first (c == 92) (begins_with 44 s) l).1)
token_go c s false false false false true i j k l m = m
token_go c s false false false false false i j k l m = (
  refl,
  record {
    not_open = eqb-false c 40 i;
    not_close = eqb-false c 41 j;
    not_comma = eqb-false c 44 k;
    not_escape = λ e. and_second (c == 92) (begins_with 44 s) l (eq-eqb c 92 e);
    not_start = m;
  },
)

pub token_is : (c : ℕ) (s : List ℕ) → TokenIs (token_of (c ∷ s)) c s
token_is c s = token_go c s (c == 40) (c == 41) (c == 44) (c == 92 && begins_with 44 s) (opens (c ∷ s)) refl refl refl refl refl

not_escaped : (x y : Bool) → (x ≡ true → y ≡ false) → (x && y) ≡ false
not_escaped true y h = h refl
not_escaped false y h = refl

byte_go : (c : ℕ) (a b d e f : Bool) → a ≡ false → b ≡ false → d ≡ false → e ≡ false → f ≡ false
    → (if a then Open else if b then Close else if d then Separator else if e then Comma else if f then Start else Byte c) ≡ Byte c
byte_go c a b d e f i j k l m = rw (i, j, k, l, m)

pub token_of-byte : (c : ℕ) (s : List ℕ) → IsByte c s → token_of (c ∷ s) ≡ Byte c
token_of-byte c s h = byte_go c (c == 40) (c == 41) (c == 44) (c == 92 && begins_with 44 s) (opens (c ∷ s))
    (ne_eqb c 40 h.not_open) (ne_eqb c 41 h.not_close) (ne_eqb c 44 h.not_comma)
    (not_escaped (c == 92) (begins_with 44 s) (λ e. h.not_escape (eqb-true c 92 e))) h.not_start

-- one step of the arguments at a place
pub inside_step : (c : ℕ) (s : List ℕ) (o : ℕ)
    → inside (c ∷ s) (table (c ∷ s)) 0 o
    ≡ follow (token_of (c ∷ s)) (first_at (c ∷ s)) (step_of (token_of (c ∷ s)) (first_at (c ∷ s)) (begins_with 125 s) o) (λ k m. inside s (table s) k m)
unfolding inside table
inside_step c s o = refl

pub inside_ends : (s : List ℕ) → inside (41 ∷ 125 ∷ s) (table (41 ∷ 125 ∷ s)) 0 0 ≡ Some (argument no_more no_arguments)
inside_ends s = inside_step 41 (125 ∷ s) 0

module _ (s : List ℕ) (args : Arguments) where
  pub inside_open : (o : ℕ) → inside s (table s) 0 (suc o) ≡ Some args → inside (40 ∷ s) (table (40 ∷ s)) 0 o ≡ Some (add 40 args)
  inside_open o e = inside_step 40 s o ∙ ap (option_map (add 40)) e

  pub inside_close : (o : ℕ) → inside s (table s) 0 o ≡ Some args → inside (41 ∷ s) (table (41 ∷ s)) 0 (suc o) ≡ Some (add 41 args)
  inside_close o e = inside_step 41 s (suc o) ∙ ap (option_map (add 41)) e

  pub inside_separator : (o : ℕ) → inside s (table s) 0 o ≡ Some args → inside (44 ∷ s) (table (44 ∷ s)) 0 o ≡ Some (argument no_more args)
  inside_separator o e = inside_step 44 s o ∙ ap (option_map (argument no_more)) e

  pub inside_comma : (o : ℕ) → inside (44 ∷ s) (table (44 ∷ s)) 1 o ≡ Some args → inside (92 ∷ 44 ∷ s) (table (92 ∷ 44 ∷ s)) 0 o ≡ Some (add 44 args)
  inside_comma o e = inside_step 92 (44 ∷ s) o ∙ ap (option_map (add 44)) e

  pub inside_byte : (c o : ℕ) → IsByte c s → inside s (table s) 0 o ≡ Some args → inside (c ∷ s) (table (c ∷ s)) 0 o ≡ Some (add c args)
  inside_byte c o h e =
      inside_step c s o ∙ (ap (λ t. follow t (first_at (c ∷ s)) (step_of t (first_at (c ∷ s)) (begins_with 125 s) o) (λ k m. inside s (table s) k m)) (token_of-byte c s h)
      ∙ ap (option_map (add c)) e)

  pub inside_reference : (r : Reference) (o : ℕ) → first_at (36 ∷ 123 ∷ s) ≡ Some r → inside (123 ∷ s) (table (123 ∷ s)) (length (reference_spelling r) - 1) o ≡ Some args
      → inside (36 ∷ 123 ∷ s) (table (36 ∷ 123 ∷ s)) 0 o ≡ Some (join (Some r) args)
  inside_reference r o f e =
      inside_step 36 (123 ∷ s) o ∙ (ap (λ q. follow Start q (step_of Start q false o) (λ k m. inside (123 ∷ s) (table (123 ∷ s)) k m)) f
      ∙ ap (option_map (join (Some r))) e)
