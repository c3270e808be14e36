-- What it is to read arguments at a place, and one byte of plain text more or less.
use Rattle.std.proofs.Common.{◌≡◌, ◌≢◌, ℕ, List, [], ◌∷◌, ◌==◌, if◌then◌else◌, refl, sym, ◌∙◌, ap, subst, Bool, true, false, Some}
use Rattle.std.proofs.lemmas.Bool.{eqb-true, eq-eqb}
use Rattle.std.proofs.Math.Bool.{and-false}
use Rattle.template_text.specs.Pieces.{Reference, variable, call, Pieces, no_more, text, reference, Arguments, no_arguments, argument, nesting_of_pieces}
use Rattle.template_text.specs.TemplateGrammar.{begins_with, opens, open_after, plain_text_of_arguments, ends_with_backslash, AreArguments, IsArgument}
use Rattle.template_text.specs.Scan.{with_byte}
use Rattle.template_text.proofs.Before.{escaped_before, reference_before, arguments_before, further_before, argument_before}

-- at u, where o parentheses are open, stand the rest ps of an argument and the arguments after it, and then the end
pub record Stands (u : List ℕ) (o : ℕ) (ps : Pieces) (more : Arguments) : Type 0 where
  pub right : AreArguments (argument ps more)
  pub closed : open_after o (plain_text_of_arguments (argument ps more)) ≡ Some 0
  pub rest : List ℕ
  pub spelled : u ≡ arguments_before (argument ps more) (41 ∷ 125 ∷ rest)

-- the byte c of plain text may stand before u
pub record MayPrecede (c : ℕ) (u : List ℕ) : Type 0 where
  pub not_start : opens (c ∷ u) ≡ false
  pub not_escape : c ≡ 92 → begins_with 44 u ≡ false

pub not_empty : (c : ℕ) (t : List ℕ) → c ∷ t ≢ []
not_empty c t e = cc

opens_alone : (c : ℕ) → opens (c ∷ []) ≡ false
opens_alone c = and-false (c == 36)

opens_inside : (c d : ℕ) (b : Bool) (t x : List ℕ) → (d == 44) ≡ b → opens (c ∷ (if b then 92 ∷ 44 ∷ x else d ∷ x)) ≡ false → opens (c ∷ d ∷ t) ≡ false
opens_inside c d true t x e f = rw (eqb-true d 44 e) (and-false (c == 36))
opens_inside c d false t x e f = f

opens_outside : (c d : ℕ) (b : Bool) (t x : List ℕ) → (d == 44) ≡ b → opens (c ∷ d ∷ t) ≡ false → opens (c ∷ (if b then 92 ∷ 44 ∷ x else d ∷ x)) ≡ false
opens_outside c d true t x e f = and-false (c == 36)
opens_outside c d false t x e f = f

escape_outside : (d : ℕ) (b : Bool) (x : List ℕ) → (d == 44) ≡ b → begins_with 44 (if b then 92 ∷ 44 ∷ x else d ∷ x) ≡ false
escape_outside d true x e = refl
escape_outside d false x e = e

pub plain_text-with_byte : (c : ℕ) (ps : Pieces) (more : Arguments) → plain_text_of_arguments (argument (with_byte c ps) more) ≡ c ∷ plain_text_of_arguments (argument ps more)
plain_text-with_byte c no_more more = refl
plain_text-with_byte c (text t m) more = refl
plain_text-with_byte c (reference r m) more = refl

pub before-with_byte : (c : ℕ) (ps : Pieces) (k : List ℕ) → argument_before (with_byte c ps) k ≡ escaped_before (c ∷ []) (argument_before ps k)
before-with_byte c no_more k = refl
before-with_byte c (text t m) k = refl
before-with_byte c (reference r m) k = refl

pub nesting-with_byte : (c : ℕ) (ps : Pieces) → nesting_of_pieces (with_byte c ps) ≡ nesting_of_pieces ps
nesting-with_byte c no_more = refl
nesting-with_byte c (text t m) = refl
nesting-with_byte c (reference r m) = refl

is_argument-with_byte : (c : ℕ) (ps : Pieces) (k : List ℕ) → opens (c ∷ argument_before ps k) ≡ false → IsArgument ps → IsArgument (with_byte c ps)
is_argument-with_byte c no_more k e h = (record { some = not_empty c []; alone = refl }, (opens_alone c, tt), tt)
is_argument-with_byte c (text [] m) k e h = absurd (h.0.some refl)
is_argument-with_byte c (text (d ∷ t) m) k e h =
    (record { some = not_empty c (d ∷ t); alone = h.0.alone }, (opens_inside c d (d == 44) t (escaped_before t (argument_before m k)) refl e, h.1), h.2)
is_argument-with_byte c (reference r m) k e h = (record { some = not_empty c []; alone = refl }, (opens_alone c, tt), h)

last-with_byte : (c : ℕ) (ps : Pieces) (more : Arguments) (k : List ℕ) → (c ≡ 92 → begins_with 44 (argument_before ps (further_before more k)) ≡ false) → IsArgument ps
    → (ends_with_backslash ps ≡ true → more ≡ no_arguments) → ends_with_backslash (with_byte c ps) ≡ true → more ≡ no_arguments
last-with_byte c no_more no_arguments k n h f e = refl
last-with_byte c no_more (argument qs more) k n h f e = let g : true ≡ false = n (eqb-true c 92 e) in cc
last-with_byte c (text [] m) more k n h f e = absurd (h.0.some refl)
last-with_byte c (text (d ∷ t) no_more) more k n h f e = f e
last-with_byte c (text (d ∷ t) (text u m)) more k n h f e = f e
last-with_byte c (text (d ∷ t) (reference r m)) more k n h f e = f e
last-with_byte c (reference r m) more k n h f e = f e

-- one byte of plain text more
pub stands-with_byte : (c o p : ℕ) (u v : List ℕ) (ps : Pieces) (more : Arguments) → v ≡ escaped_before (c ∷ []) u → MayPrecede c u
    → ((t : List ℕ) → open_after o (c ∷ t) ≡ open_after p t) → Stands u p ps more → Stands v o (with_byte c ps) more
stands-with_byte c o p u v ps more e h balance s = record {
  right = (
    is_argument-with_byte c ps (further_before more (41 ∷ 125 ∷ s.rest)) (subst (λ (w : List ℕ). opens (c ∷ w) ≡ false) s.spelled h.not_start) s.right.0,
    last-with_byte c ps more (41 ∷ 125 ∷ s.rest) (subst (λ (w : List ℕ). c ≡ 92 → begins_with 44 w ≡ false) s.spelled h.not_escape) s.right.0 s.right.1,
    s.right.2,
  );
  closed = ap (open_after o) (plain_text-with_byte c ps more) ∙ (balance (plain_text_of_arguments (argument ps more)) ∙ s.closed);
  rest = s.rest;
  spelled = e ∙ (ap (escaped_before (c ∷ [])) s.spelled ∙ sym (before-with_byte c ps (further_before more (41 ∷ 125 ∷ s.rest))));
}

-- one byte of plain text less
pub record Peeled (d o : ℕ) (v : List ℕ) (ps : Pieces) (more : Arguments) : Type 0 where
  pub pieces : Pieces
  pub back : with_byte d pieces ≡ ps
  pub after : List ℕ
  pub spelled : v ≡ escaped_before (d ∷ []) after
  pub precedes : MayPrecede d after
  pub right : AreArguments (argument pieces more)
  pub closed : open_after o (d ∷ plain_text_of_arguments (argument pieces more)) ≡ Some 0
  pub rest : List ℕ
  pub there : after ≡ arguments_before (argument pieces more) (41 ∷ 125 ∷ rest)

begins_reference : (r : Reference) (k : List ℕ) (c : ℕ) → opens (c ∷ reference_before r k) ≡ false
begins_reference (variable n) k c = and-false (c == 36)
begins_reference (call n args) k c = and-false (c == 36)

begins_no_comma : (r : Reference) (k : List ℕ) → begins_with 44 (reference_before r k) ≡ false
begins_no_comma (variable n) k = refl
begins_no_comma (call n args) k = refl

ends_alike : (d e : ℕ) (t : List ℕ) (m : Pieces) → ends_with_backslash (text (d ∷ e ∷ t) m) ≡ ends_with_backslash (text (e ∷ t) m)
ends_alike d e t no_more = refl
ends_alike d e t (text u m) = refl
ends_alike d e t (reference r m) = refl

pub peel : (d o : ℕ) (t v : List ℕ) (m : Pieces) (more : Arguments) → Stands v o (text (d ∷ t) m) more → Peeled d o v (text (d ∷ t) m) more
peel d o [] v no_more no_arguments s = record {
  pieces = no_more;
  back = refl;
  after = 41 ∷ 125 ∷ s.rest;
  spelled = s.spelled;
  precedes = record { not_start = and-false (d == 36); not_escape = λ e. refl };
  right = (tt, (λ e. refl), tt);
  closed = s.closed;
  rest = s.rest;
  there = refl;
}
peel d o [] v no_more (argument qs more) s = record {
  pieces = no_more;
  back = refl;
  after = 44 ∷ argument_before qs (further_before more (41 ∷ 125 ∷ s.rest));
  spelled = s.spelled;
  precedes = record { not_start = and-false (d == 36); not_escape = λ e. let g : argument qs more ≡ no_arguments = s.right.1 (eq-eqb d 92 e) in cc };
  right = (tt, (λ e. cc), s.right.2);
  closed = s.closed;
  rest = s.rest;
  there = refl;
}
peel d o [] v (text u m) more s = let g : true ≡ false = s.right.0.0.alone in cc
peel d o [] v (reference r m) more s = record {
  pieces = reference r m;
  back = refl;
  after = reference_before r (argument_before m (further_before more (41 ∷ 125 ∷ s.rest)));
  spelled = s.spelled;
  precedes = record { not_start = begins_reference r _ d; not_escape = λ e. begins_no_comma r _ };
  right = (s.right.0.2, s.right.1, s.right.2);
  closed = s.closed;
  rest = s.rest;
  there = refl;
}
peel d o (e ∷ t) v m more s = record {
  pieces = text (e ∷ t) m;
  back = refl;
  after = escaped_before (e ∷ t) (argument_before m (further_before more (41 ∷ 125 ∷ s.rest)));
  spelled = s.spelled;
  precedes = record {
    not_start = opens_outside d e (e == 44) t (escaped_before t (argument_before m (further_before more (41 ∷ 125 ∷ s.rest)))) refl s.right.0.1.0;
    not_escape = λ _. escape_outside e (e == 44) (escaped_before t (argument_before m (further_before more (41 ∷ 125 ∷ s.rest)))) refl;
  };
  right = ((record { some = not_empty e t; alone = s.right.0.0.alone }, s.right.0.1.1, s.right.0.2), (λ h. s.right.1 (ends_alike d e t m ∙ h)), s.right.2);
  closed = s.closed;
  rest = s.rest;
  there = refl;
}
