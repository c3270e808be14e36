-- The grammar of JSON paths.
use Rattle.std.specs.Prelude.{◌≡◌, ℕ, ◌≤◌, ◌<◌, not, Bool, true, ◌||◌, ◌==◌, ◌⊎◌, List, [], ◌∷◌, ◌++◌, length, codes}
use Rattle.std.specs.Char.{is_ascii_alphanumeric, is_ascii_digit}
use Rattle.std.specs.List.{list_all}
use Rattle.std.specs.Str.Parse.{digits_value}
use Rattle.json_path.specs.declared.path.Step.{Step}
use Rattle.json_path.specs.declared.path.Step.TheVariants.{Name, Index, All}

-- a byte of a name after a dot: an ASCII letter, a digit, `_` or `-`
abbrev pub is_name_byte : ℕ → Bool
is_name_byte b = is_ascii_alphanumeric b || (b == 95 || b == 45)

-- any byte but the quote
abbrev pub is_quotable : ℕ → Bool
is_quotable b = not (b == 39)

-- `.name`: one such byte or more
pub record IsDotted (name bytes : List ℕ) : Type 0 where
  pub text : bytes ≡ 46 ∷ name
  pub some : 0 < length name
  pub each : list_all is_name_byte name ≡ true

-- `['name']`: any bytes but the quote, or none
pub record IsQuoted (name bytes : List ℕ) : Type 0 where
  pub text : bytes ≡ codes "['" ++ (name ++ codes "']")
  pub each : list_all is_quotable name ≡ true

-- `[n]`: one to nine digits
pub record IsIndexed (n : ℕ) (bytes : List ℕ) : Type 0 where
  pub digits : List ℕ
  pub text : bytes ≡ 91 ∷ (digits ++ 93 ∷ [])
  pub some : 0 < length digits
  pub few : length digits ≤ 9
  pub each : list_all is_ascii_digit digits ≡ true
  pub value : n ≡ digits_value 10 digits

-- the bytes of a step
abbrev pub IsStepText : Step → List ℕ → Type 0
IsStepText (Name name) bytes = IsDotted name bytes ⊎ IsQuoted name bytes
IsStepText (Index n) bytes = IsIndexed n bytes
IsStepText All bytes = bytes ≡ codes "[*]"

-- one step after another
pub data AreSteps : List ℕ → List Step → Type 0 where
  no_step : AreSteps [] []
  a_step : (bytes rest : List ℕ) (s : Step) (ss : List Step) → IsStepText s bytes → AreSteps rest ss → AreSteps (bytes ++ rest) (s ∷ ss)

-- `$`, and then steps
abbrev pub IsPathOf : List ℕ → List Step → Type 0
IsPathOf text ss = (rest : List ℕ) × (text ≡ 36 ∷ rest) × AreSteps rest ss

-- some path begins with these bytes
abbrev pub BeginsPath : List ℕ → Type 0
BeginsPath bytes = (more : List ℕ) × (ss : List Step) × IsPathOf (bytes ++ more) ss

-- the next byte can't stand, or the bytes end and are not a path
abbrev pub Stops : List ℕ → List ℕ → Type 0
Stops before [] = (ss : List Step) → IsPathOf before ss → ⊥
Stops before (b ∷ after) = BeginsPath (before ++ b ∷ []) → ⊥

-- The first place that can't stand: that of the first byte with which no path begins, or the length of the text.
pub record IsFaultOf (text : List ℕ) (at : ℕ) : Type 0 where
  pub before : List ℕ
  pub after : List ℕ
  pub all : text ≡ before ++ after
  pub place : at ≡ length before
  pub stands : BeginsPath before
  pub stops : Stops before after
