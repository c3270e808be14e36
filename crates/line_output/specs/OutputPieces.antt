-- Text that goes out in pieces.
use Rattle.std.specs.Prelude.{◌≡◌, ℕ, ◌++◌, List, Option}
use Rattle.std.specs.Io.KnownBytes.{Appends}

-- what was held back and then this text have gone out, but for what is held back now
abbrev pub Moves : Option (List ℕ) → Option (List ℕ) → List ℕ → List ℕ → List ℕ → Type 0
Moves before after held holds text = (out : List ℕ) × Appends before after out × (out ++ holds ≡ held ++ text)

-- the same of a prefix of the text
abbrev pub MovesPart : Option (List ℕ) → Option (List ℕ) → List ℕ → List ℕ → List ℕ → Type 0
MovesPart before after held holds text = (done : List ℕ) × (rest : List ℕ) × (text ≡ done ++ rest) × Moves before after held holds done

-- a prefix of the text went out, maybe all of it
abbrev pub AppendsPart : Option (List ℕ) → Option (List ℕ) → List ℕ → Type 0
AppendsPart before after text = (done : List ℕ) × (rest : List ℕ) × (text ≡ done ++ rest) × Appends before after done
