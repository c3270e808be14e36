-- The grammar of templates: what a name, an argument and a reference may be, and which pieces are the reading of a text.
use Rattle.std.specs.Prelude.{◌≡◌, ◌≢◌, ℕ, zero, suc, ◌≤◌, Bool, true, false, not, ◌==◌, ◌&&◌, ◌||◌, nat_le, IsTrue, List, [], ◌∷◌, ◌++◌, if◌then◌else◌, Option, Some, None}
use Rattle.std.specs.List.{list_all}
use Rattle.template_text.specs.Pieces.{Reference, variable, call, Pieces, no_more, text, reference, Arguments, no_arguments, argument, reference_spelling, spelling, nesting}

-- a byte of a variable's name: none of `$` (36), `{` (123), `}` (125), `(` (40), `)` (41), `,` (44) and `\` (92)
unfoldable pub is_name_byte : ℕ → Bool
is_name_byte c = not (c == 36 || c == 123 || c == 125 || c == 40 || c == 41 || c == 44 || c == 92)

-- a byte of a function's name: an ASCII digit or letter
unfoldable pub is_letter_or_digit : ℕ → Bool
is_letter_or_digit c = nat_le 48 c && nat_le c 57 || nat_le 65 c && nat_le c 90 || nat_le 97 c && nat_le c 122

-- one or more bytes that pass the test
pub record IsName (test : ℕ → Bool) (name : List ℕ) : Type 0 where
  pub some : name ≢ []
  pub bytes : IsTrue (list_all test name)

abbrev pub begins_with : ℕ → List ℕ → Bool
begins_with b [] = false
begins_with b (c ∷ s) = c == b

-- whether the text begins with `${`
abbrev pub opens : List ℕ → Bool
opens [] = false
opens (c ∷ s) = c == 36 && begins_with 123 s

-- `${` stands nowhere in the text
abbrev pub OpensNowhere : List ℕ → Type 0
OpensNowhere [] = Unit {0}
OpensNowhere (c ∷ s) = (opens (c ∷ s) ≡ false) × OpensNowhere s

abbrev pub one_less : ℕ → (ℕ → Option ℕ) → Option ℕ
one_less zero more = None
one_less (suc n) more = more n

-- how many parentheses are open after a text, where n are open before it; none where a `)` closes none of them
abbrev pub open_after : ℕ → List ℕ → Option ℕ
open_after n [] = Some n
open_after n (c ∷ t) =
    if c == 40 then open_after (suc n) t else if c == 41 then one_less n (λ m. open_after m t) else open_after n t

-- the plain text of pieces, and of arguments, without what stands in references
abbrev pub plain_text : Pieces → List ℕ
plain_text no_more = []
plain_text (text t more) = t ++ plain_text more
plain_text (reference r more) = plain_text more

abbrev pub plain_text_of_arguments : Arguments → List ℕ
plain_text_of_arguments no_arguments = []
plain_text_of_arguments (argument ps more) = plain_text ps ++ plain_text_of_arguments more

abbrev pub begins_with_text : Pieces → Bool
begins_with_text no_more = false
begins_with_text (text t more) = true
begins_with_text (reference r more) = false

-- whether the last byte is a backslash
abbrev pub ends_in_backslash : List ℕ → Bool
ends_in_backslash [] = false
ends_in_backslash (c ∷ []) = c == 92
ends_in_backslash (c ∷ d ∷ t) = ends_in_backslash (d ∷ t)

-- whether the last piece is plain text that ends in a backslash
abbrev pub ends_with_backslash : Pieces → Bool
ends_with_backslash no_more = false
ends_with_backslash (text t no_more) = ends_in_backslash t
ends_with_backslash (text t (text u more)) = ends_with_backslash (text u more)
ends_with_backslash (text t (reference r more)) = ends_with_backslash more
ends_with_backslash (reference r more) = ends_with_backslash more

-- a plain text isn't empty, and no other plain text follows it
pub record IsPlain (t : List ℕ) (more : Pieces) : Type 0 where
  pub some : t ≢ []
  pub alone : begins_with_text more ≡ false

abbrev mutual
  pub IsReference : Reference → Type 0
  IsReference (variable n) = IsName is_name_byte n
  -- `()` has no arguments; the parentheses in the plain text of all arguments together are balanced
  IsReference (call n args) =
      IsName is_letter_or_digit n × (args ≢ argument no_more no_arguments) × AreArguments args
      × (open_after 0 (plain_text_of_arguments args) ≡ Some 0)

  -- a comma parts arguments where no backslash stands before it
  pub AreArguments : Arguments → Type 0
  AreArguments no_arguments = Unit {0}
  AreArguments (argument ps more) = IsArgument ps × (ends_with_backslash ps ≡ true → more ≡ no_arguments) × AreArguments more

  -- in an argument `${` always begins a reference
  pub IsArgument : Pieces → Type 0
  IsArgument no_more = Unit {0}
  IsArgument (text t more) = IsPlain t more × OpensNowhere t × IsArgument more
  IsArgument (reference r more) = IsReference r × IsArgument more

-- the reference begins the text, and calls nest at most 16 deep in it
pub record Begins (s : List ℕ) (r : Reference) : Type 0 where
  pub right : IsReference r
  pub shallow : nesting r ≤ 16
  pub rest : List ℕ
  pub spelled : s ≡ reference_spelling r ++ rest

-- at no byte of the plain text t, which the text s follows, does a reference begin
abbrev pub BeginsNowhere : List ℕ → List ℕ → Type 0
BeginsNowhere [] s = Unit {0}
BeginsNowhere (c ∷ t) s = ((r : Reference) → Begins ((c ∷ t) ++ s) r → ⊥) × BeginsNowhere t s

-- the pieces of a whole text: a reference wherever one begins, from left to right, and any other byte is plain text
abbrev pub ArePieces : Pieces → Type 0
ArePieces no_more = Unit {0}
ArePieces (text t more) = IsPlain t more × BeginsNowhere t (spelling more) × ArePieces more
ArePieces (reference r more) = IsReference r × (nesting r ≤ 16) × ArePieces more

-- these pieces are the reading of this text
pub record IsReadingOf (s : List ℕ) (ps : Pieces) : Type 0 where
  pub pieces : ArePieces ps
  pub spelled : spelling ps ≡ s
