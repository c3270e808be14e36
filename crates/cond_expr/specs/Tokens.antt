-- The tokens of a condition.
use Rattle.std.specs.Prelude.{ℕ, zero, suc, ◌+◌, ◌-◌, ◌^◌, ℤ, pos, neg_ℤ, Bool, true, false, ◌||◌, ◌==◌, nat_eq, nat_lt, nat_le, List, [], ◌∷◌, ◌++◌, take, length, Option, Some, None, if◌then◌else◌, unwrap_or, option_and_then, option_map, codes}
use Rattle.std.specs.List.{starts_with, position}
use Rattle.std.specs.Char.{is_ascii_digit}
use Rattle.std.specs.Str.Parse.{digits_value}
use Rattle.cond_expr.specs.declared.value.CondValue.TheVariants.{Number, Text, Truth}
use Rattle.cond_expr.specs.declared.value.Operator.TheVariants.{Or, And, Equal, NotEqual, Less, LessOrEqual, Greater, GreaterOrEqual}
use Rattle.cond_expr.specs.declared.token.Token.{Token}
use Rattle.cond_expr.specs.declared.token.Token.TheVariants.{Value, Not, Open, Close, Operate, Unknown}

-- A number: an optional minus directly before digits, within 64 signed bits. All digits that stand there belong to it.
abbrev pub leading_digits : List ℕ → List ℕ
leading_digits [] = []
leading_digits (b ∷ bs) = if is_ascii_digit b then b ∷ leading_digits bs else []

abbrev pub signed : Bool → ℕ → Option ℤ
signed true n = if nat_le n (2 ^ 63) then Some (neg_ℤ (pos n)) else None
signed false n = if nat_lt n (2 ^ 63) then Some (pos n) else None

abbrev pub magnitude_of : List ℕ → Option ℕ
magnitude_of ds = if nat_le (digits_value 10 ds) (2 ^ 63) then Some (digits_value 10 ds) else None

abbrev pub numeral : Bool → List ℕ → Option ℤ
numeral negative ds = if length ds == 0 then None else option_and_then (signed negative) (magnitude_of ds)

abbrev pub sign_len : Bool → ℕ
sign_len negative = if negative then 1 else 0

abbrev pub number_after : Bool → List ℕ → Option (Token × ℕ)
number_after negative bs =
    option_map (λ z. (Value (Number z), sign_len negative + length (leading_digits bs))) (numeral negative (leading_digits bs))

-- A text: bytes other than the quote, between two such quotes.
abbrev pub text_at : ℕ → List ℕ → Option (Token × ℕ)
text_at quote bs = option_map (λ n. (Value (Text (take n bs)), n + 2)) (position (λ b. b == quote) bs)

-- The other tokens have one spelling each, and where one is a prefix of another, the longer one stands there.
abbrev pub operators : List (List ℕ × Token)
operators =
    (codes "==", Operate Equal) ∷ (codes "!=", Operate NotEqual) ∷ (codes "<=", Operate LessOrEqual) ∷ (codes "<", Operate Less) ∷
    (codes ">=", Operate GreaterOrEqual) ∷ (codes ">", Operate Greater) ∷ (codes "&&", Operate And) ∷ (codes "||", Operate Or) ∷ []

abbrev pub marks : List (List ℕ × Token)
marks = (codes "!", Not) ∷ (codes "(", Open) ∷ (codes ")", Close) ∷ (codes "true", Value (Truth true)) ∷ (codes "false", Value (Truth false)) ∷ []

abbrev pub first_word : List (List ℕ × Token) → List ℕ → Option (Token × ℕ)
first_word [] bs = None
first_word (w ∷ ws) bs = if starts_with nat_eq bs w.0 then Some (w.1, length w.0) else first_word ws bs

-- The token that the bytes begin with, where there is one, and how many bytes it has.
abbrev pub known_token : List ℕ → Option (Token × ℕ)
known_token [] = None
known_token (b ∷ bs) =
    if b == 34 || b == 39 then text_at b bs else if b == 45 then number_after true bs
    else if is_ascii_digit b then number_after false (b ∷ bs) else first_word (operators ++ marks) (b ∷ bs)

-- A byte that begins no token is taken for an unknown one.
abbrev pub token_at : List ℕ → Token × ℕ
token_at bs = unwrap_or (known_token bs) (Unknown, 1)

-- a token and the place of its first byte
pub record Placed : Type 0 where
  pub at : ℕ
  pub token : Token

-- The tokens of a text from a place on, with spaces between them at will. The first bytes, as many as the first number says, belong to a token that is counted already.
unfoldable pub tokens_from : ℕ → ℕ → List ℕ → List Placed
tokens_from at skip [] = []
tokens_from at (suc skip) (b ∷ bs) = tokens_from (suc at) skip bs
tokens_from at zero (b ∷ bs) =
    if b == 32 then tokens_from (suc at) zero bs
    else record { at = at; token = (token_at (b ∷ bs)).0 } ∷ tokens_from (suc at) ((token_at (b ∷ bs)).1 - 1) bs

-- the tokens of a text
abbrev pub tokens : List ℕ → List Placed
tokens text = tokens_from 0 0 text
