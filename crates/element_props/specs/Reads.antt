-- A reading of a plan asks for patterns on its way, and ends with a value or a refusal.
use Rattle.std.specs.Prelude.{◌≡◌, ℕ, Bool, List, [], ◌∷◌, ◌++◌, Option, Some, None, Result, Ok, Err, if◌then◌else◌}
use Rattle.jm_base.specs.FaultCounts.{Rose}
use Rattle.plan_json.specs.Place.{Place}
use Rattle.element_props.specs.declared.error.BuildError.{BuildError}
use Rattle.element_props.specs.declared.error.BuildError.TheVariants as errors
use Rattle.element_props.specs.declared.error.PatternFault.TheVariants.{Syntax, Size}
use Rattle.element_props.specs.Patterns.{Asked, Asks, reading_of, HasReading}

pub data Reads (A : Type 0) : Type 0 where
  over : A → Reads A
  refuse : BuildError → Reads A
  ask : Place → List ℕ → Reads A → Reads A

infixl 10 ◌>>=◌
abbrev pub ◌>>=◌ : {A B : Type 0} → Reads A → (A → Reads B) → Reads B
(over x) >>= f = f x
(refuse e) >>= f = refuse e
(ask p t r) >>= f = ask p t (r >>= f)

-- refused with this, or on with nothing
abbrev pub refuse_if : Bool → BuildError → Reads (Unit {0})
refuse_if test e = if test then refuse e else over tt

-- the value, where there is one
abbrev pub or_refuse : {A : Type 0} → Option A → BuildError → Reads A
or_refuse None e = refuse e
or_refuse (Some x) e = over x

-- with every pattern taken as good: the value, or the first refusal
abbrev pub outcome : {A : Type 0} → Reads A → Result A BuildError
outcome (over x) = Ok x
outcome (refuse e) = Err e
outcome (ask p t r) = outcome r

-- a text with no reading as a pattern is refused at its place
abbrev pub judged_at : {A R : Type 0} → Place → Option R → Result A BuildError → Result A BuildError
judged_at p None rest = Err (errors.BadPattern p Syntax)
judged_at p (Some re) rest = rest

-- with each pattern judged by the grammar of regular expressions: the value, or the first refusal
abbrev pub judged : {A : Type 0} → Reads A → Result A BuildError
judged (over x) = Ok x
judged (refuse e) = Err e
judged (ask p t r) = judged_at p (reading_of t) (judged r)

-- These texts were asked in order and made, each of which has a reading as a pattern, and this is left.
pub data Path {A : Type 0} : Reads A → List (List ℕ) → Reads A → Type 0 where
  here : {r : Reads A} → Path r [] r
  asked : {p : Place} {t : List ℕ} {r s : Reads A} {texts : List (List ℕ)} → HasReading t → Path r texts s → Path (ask p t r) (t ∷ texts) s

-- Between two moments of the maker of patterns the reading has come so far.
pub record Goes {A : Type 0} (before : Asked) (reading rest : Reads A) (after : Asked) : Type 0 where
  pub texts : List (List ℕ)
  pub asks : Asks before texts after
  pub path : Path reading texts rest

-- Why a reading goes no further: it refuses, or the pattern that it asks for was not made. The numbers are the maker's counts of patterns that were too large, before and after.
pub data Ends {A : Type 0} (m n : ℕ) : BuildError → Reads A → List (List ℕ) → Type 0 where
  refused : {e : BuildError} → Ends m n e (refuse e) []
  unread : {p : Place} {t : List ℕ} {r : Reads A} → reading_of t ≡ None → Ends m n (errors.BadPattern p Syntax) (ask p t r) (t ∷ [])
  too_large : {p : Place} {t : List ℕ} {r : Reads A} → Rose m n → Ends m n (errors.BadPattern p Size) (ask p t r) (t ∷ [])

-- Between two moments of the maker of patterns the reading came to this refusal.
pub record Stops {A : Type 0} (before : Asked) (reading : Reads A) (e : BuildError) (after : Asked) : Type 0 where
  pub texts : List (List ℕ)
  pub last : List (List ℕ)
  pub rest : Reads A
  pub asks : Asks before (texts ++ last) after
  pub path : Path reading texts rest
  pub ends : Ends before.oversize after.oversize e rest last

-- no text, or the one that a reading asks for now
pub data Next {A : Type 0} : Reads A → List (List ℕ) → Type 0 where
  nothing : {r : Reads A} → Next r []
  asking : {p : Place} {t : List ℕ} {r : Reads A} → Next (ask p t r) (t ∷ [])

-- Between two moments of the maker of patterns memory ran out: it was given what the reading asks for up to some place, and perhaps the text that comes there, of which nothing was made.
pub record RunsOut {A : Type 0} (before : Asked) (reading : Reads A) (after : Asked) : Type 0 where
  pub texts : List (List ℕ)
  pub last : List (List ℕ)
  pub rest : Reads A
  pub asks : Asks before (texts ++ last) after
  pub path : Path reading texts rest
  pub next : Next rest last

-- How far a reading came that a call answered with this error.
pub record Fails {A : Type 0} (before : Asked) (reading : Reads A) (e : BuildError) (after : Asked) : Type 0 where
  pub stops : (e ≡ errors.NoMemory → ⊥) → Stops before reading e after
  pub memory : e ≡ errors.NoMemory → RunsOut before reading after

-- What a call answered, seen by this, is what the reading gives, unless memory ran out on the way.
abbrev pub Gives : {X A : Type 0} → (X → A) → Asked → Reads A → Result X BuildError → Asked → Type 0
Gives seen before reading (Ok x) after = Goes before reading (over (seen x)) after
Gives seen before reading (Err e) after = Fails before reading e after

-- The same of a call that asks for no pattern.
abbrev pub Answers : {X A : Type 0} → (X → A) → Reads A → Result X BuildError → Type 0
Answers seen reading (Ok x) = reading ≡ over (seen x)
Answers seen reading (Err e) = (e ≡ errors.NoMemory → ⊥) → reading ≡ refuse e
