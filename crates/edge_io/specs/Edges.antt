-- What was taken from a source, and what went out to a sink.
use Rattle.std.specs.Prelude.{◌≡◌, ℕ, ◌<◌, ◌≤◌, List, [], length, take, drop, Option, Some, None, ⊤}
use Rattle.std.specs.Io.KnownBytes.{Appends}

-- where the bytes that were left are told: they are these, and none is left
abbrev pub TookAll : Option (List ℕ) → Option (List ℕ) → List ℕ → Type 0
TookAll None after bytes = ⊤
TookAll (Some left) after bytes = (left ≡ bytes) × (after ≡ Some [])

-- where the bytes that were left are told: the first n of them were taken
abbrev pub TookCount : Option (List ℕ) → Option (List ℕ) → ℕ → Type 0
TookCount None after n = ⊤
TookCount (Some left) after n = (n ≤ length left) × (after ≡ Some (drop n left))

-- at most that many of the first bytes were taken
abbrev pub TookAtMost : Option (List ℕ) → Option (List ℕ) → ℕ → Type 0
TookAtMost before after most = (n : ℕ) × (n ≤ most) × TookCount before after n

-- a prefix of the piece went out, and not all of it
abbrev pub AppendsProperPrefix : Option (List ℕ) → Option (List ℕ) → List ℕ → Type 0
AppendsProperPrefix before after piece = (n : ℕ) × (n < length piece) × Appends before after (take n piece)
