-- The grammar of schedules.
use Rattle.std.specs.Prelude.{◌≡◌, ℕ, ◌+◌, ◌*◌, ◌<◌, List, [], ◌∷◌, ◌++◌, length}
use Rattle.schedule_text.specs.declared.token.Token.{Token}
use Rattle.schedule_text.specs.declared.token.Token.TheVariants.{Turn, Turns, Reporter, Reporters}

-- the number of a thread: one or two decimal digits
pub data Names : List ℕ → ℕ → Type 0 where
  one_digit : (d : ℕ) → d < 10 → Names ((48 + d) ∷ []) d
  two_digits : (t d : ℕ) → t < 10 → d < 10 → Names ((48 + t) ∷ (48 + d) ∷ []) (10 * t + d)

-- a token: D, Dx, r or R
pub data Spells : List ℕ → Token → Type 0 where
  turn : (ds : List ℕ) (d : ℕ) → Names ds d → Spells ds (Turn d)
  turns : (ds : List ℕ) (d : ℕ) → Names ds d → Spells (ds ++ 120 ∷ []) (Turns d)
  reporter : Spells (114 ∷ []) Reporter
  reporters : Spells (82 ∷ []) Reporters

-- tokens between commas
pub data AreTokens : List ℕ → List Token → Type 0 where
  last : (text : List ℕ) (t : Token) → Spells text t → AreTokens text (t ∷ [])
  before_comma : (prefix text : List ℕ) (t : Token) (ts : List Token) → Spells prefix t → AreTokens text ts → AreTokens (prefix ++ 44 ∷ text) (t ∷ ts)

-- the text is a schedule with these tokens
pub data IsSchedule : List ℕ → List Token → Type 0 where
  none : IsSchedule [] []
  some : (text : List ℕ) (ts : List Token) → AreTokens text ts → IsSchedule text ts

-- some schedule begins with these bytes
abbrev pub Begins : List ℕ → Type 0
Begins text = (more : List ℕ) × (ts : List Token) × IsSchedule (text ++ more) ts

-- The bytes can stand, and the next one can't, or there is no next one and they are no schedule.
abbrev pub StopsAt : List ℕ → List ℕ → Type 0
StopsAt before [] = (ts : List Token) → IsSchedule before ts → ⊥
StopsAt before (b ∷ after) = Begins (before ++ b ∷ []) → ⊥

-- the first place that can't stand: that of a byte, or the length of the text
pub record IsFaultOf (text : List ℕ) (at : ℕ) : Type 0 where
  pub before : List ℕ
  pub after : List ℕ
  pub all : text ≡ before ++ after
  pub place : at ≡ length before
  pub stands : Begins before
  pub stops : StopsAt before after
