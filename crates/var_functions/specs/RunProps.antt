-- Properties: the pairs of a text in the form of `application/x-www-form-urlencoded`.
use Rattle.std.specs.Prelude.{ℕ, List, [], ◌∷◌, map, length, nat_eq, Bool, ◌==◌, ◌||◌, Option, Some, None, if◌then◌else◌}
use Rattle.std.specs.List.{list_all, list_any, slice_split}
use Rattle.std.specs.Str.Lossy.{utf8_lossy}
use lib.Pointwise.{pointwise}
use Rattle.form_urlencoded.specs.Form.{ampersand, equals_sign, raw_pairs, decode}

-- an empty piece, or one with an `=`
abbrev pub is_pair : List ℕ → Bool
is_pair piece = (length piece == 0) || list_any (λ b. b == equals_sign) piece

-- each piece between `&` that is not empty has an `=`
abbrev pub each_is_pair : List ℕ → Bool
each_is_pair text = list_all is_pair (slice_split (λ b. b == ampersand) text)

-- what a name or a value stands for: `+` for a space, `%` and two hexadecimal digits for a byte, and U+FFFD for what is no UTF-8
abbrev pub decoded : List ℕ → List ℕ
decoded bytes = utf8_lossy (decode bytes)

abbrev pub decoded_pair : List ℕ × List ℕ → List ℕ × List ℕ
decoded_pair p = (decoded p.0, decoded p.1)

-- the pairs of a text, in order
abbrev pub pairs_of : List ℕ → List (List ℕ × List ℕ)
pairs_of text = map decoded_pair (raw_pairs text)

-- the later value, where there is one
abbrev pub or_else : Option (List ℕ) → Option (List ℕ) → Option (List ℕ)
or_else None earlier = earlier
or_else (Some value) earlier = Some value

-- the value of the last pair of this name
abbrev pub property_of : List ℕ → List (List ℕ × List ℕ) → Option (List ℕ)
property_of name [] = None
property_of name (p ∷ props) = or_else (property_of name props) (if pointwise nat_eq name p.0 then Some p.1 else None)
