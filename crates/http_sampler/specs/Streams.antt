-- How a stream stands, and lists that are told.
use Rattle.std.specs.Prelude.{◌≡◌, ℕ, List, [], ◌∷◌, ◌++◌, Option, Some, None, ⊤}
use Rattle.std.specs.Option.{option_map}

-- the bytes that a stream was sent, those that it gave and those that it has left, where it tells them, and its faults
pub record Standing : Type 0 where
  pub sent : Option (List ℕ)
  pub given : Option (List ℕ)
  pub left : Option (List ℕ)
  pub faults : ℕ

-- one more item, where the list is told
abbrev pub told_more : {A : Type 0} → Option (List A) → A → Option (List A)
told_more told item = option_map (λ items. items ++ item ∷ []) told

-- no byte so far, where the bytes are told
abbrev pub HasNone : Option (List ℕ) → Type 0
HasNone None = ⊤
HasNone (Some bytes) = bytes ≡ []

-- a stream that was sent nothing and gave nothing yet, and has had no fault
abbrev pub IsFresh : Standing → Type 0
IsFresh s = HasNone s.sent × HasNone s.given × (s.faults ≡ 0)
