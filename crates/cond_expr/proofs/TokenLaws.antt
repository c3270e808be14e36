-- The tokens of a text, one token on.
use Rattle.std.proofs.Common.{◌≡◌, ℕ, zero, suc, ◌+◌, ◌-◌, ◌<◌, ◌≤◌, Bool, true, false, ◌==◌, ◌||◌, nat_eq, nat_lt, lit<, List, [], ◌∷◌, ◌++◌, length, take, drop, get_or, Option, Some, None, if◌then◌else◌, refl, ap, sym, ◌∙◌, subst, arith}
use Rattle.std.specs.Char.{is_ascii_digit}
use Rattle.std.specs.List.{starts_with, position_or_len}
use Rattle.std.specs.Option.{option_map, option_and_then, unwrap_or}
use Rattle.std.proofs.lemmas.List.{drop_more, drop_all, drop-drop, length-take}
use lib.Pointwise.{pointwise_long}
use Rattle.std.proofs.lemmas.Bool.Decides.{nat_tests}
use Rattle.cond_expr.specs.declared.token.Token.{Token}
use Rattle.cond_expr.specs.declared.token.Token.TheVariants.{Value, Unknown}
use Rattle.cond_expr.specs.declared.value.CondValue.TheVariants.{Number, Text}
use Rattle.cond_expr.specs.Tokens.{leading_digits, magnitude_of, signed, sign_len, number_after, text_at, operators, marks, first_word, known_token, token_at, tokens_from}
use Rattle.cond_expr.specs.ConditionGrammar.{placed}

-- bytes that belong to a token that is counted already are passed over
pub tokens_from-skip : (at skip : ℕ) (bs : List ℕ) → tokens_from at skip bs ≡ tokens_from (at + skip) 0 (drop skip bs)
unfolding tokens_from
tokens_from-skip at zero bs = ap (λ n. tokens_from n 0 bs) same
  where
    same : at ≡ at + 0
    same = omega arith
tokens_from-skip at (suc skip) [] = refl
tokens_from-skip at (suc skip) (b ∷ bs) = tokens_from-skip (suc at) skip bs ∙ ap (λ n. tokens_from n 0 (drop skip bs)) same
  where
    same : suc at + skip ≡ at + suc skip
    same = omega arith

-- a space
pub tokens_from-space : (at : ℕ) (text : List ℕ) → at < length text → get_or text at 0 ≡ 32 → tokens_from at 0 (drop at text) ≡ tokens_from (at + 1) 0 (drop (at + 1) text)
unfolding tokens_from
tokens_from-space at text within is =
    ap (tokens_from at 0) (drop_more text at 0 within) ∙ ap (λ b. tokens_from at 0 (b ∷ drop (at + 1) text)) is ∙ ap (λ n. tokens_from n 0 (drop (at + 1) text)) same
  where
    same : suc at ≡ at + 1
    same = omega arith

drop_behind : (n b : ℕ) (rest : List ℕ) → 0 < n → drop (n - 1) rest ≡ drop n (b ∷ rest)
drop_behind zero b rest some = absurd (omega arith)
drop_behind (suc n) b rest some = ap (λ k. drop k rest) same
  where
    same : suc n - 1 ≡ n
    same = omega arith

token_first : (at b : ℕ) (rest : List ℕ) → b == 32 ≡ false → 0 < (token_at (b ∷ rest)).1 →
    tokens_from at 0 (b ∷ rest) ≡ placed at (token_at (b ∷ rest)).0 ∷ tokens_from (at + (token_at (b ∷ rest)).1) 0 (drop (token_at (b ∷ rest)).1 (b ∷ rest))
unfolding tokens_from
token_first at b rest not_space some = go (token_at (b ∷ rest)) some
  where
    same : (n : ℕ) → 0 < n → suc at + (n - 1) ≡ at + n
    same n h = omega arith

    go : (t : Token × ℕ) → 0 < t.1 →
        (if b == 32 then tokens_from (suc at) zero rest else placed at t.0 ∷ tokens_from (suc at) (t.1 - 1) rest) ≡ placed at t.0 ∷ tokens_from (at + t.1) 0 (drop t.1 (b ∷ rest))
    go t h =
        ap (λ c. if c then tokens_from (suc at) zero rest else placed at t.0 ∷ tokens_from (suc at) (t.1 - 1) rest) not_space
        ∙ ap (λ ts. placed at t.0 ∷ ts) (tokens_from-skip (suc at) (t.1 - 1) rest ∙ ap (λ n. tokens_from n 0 (drop (t.1 - 1) rest)) (same t.1 h) ∙ ap (tokens_from (at + t.1) 0) (drop_behind t.1 b rest h))

-- a token
pub tokens_from-token : (at : ℕ) (text : List ℕ) → at < length text → get_or text at 0 == 32 ≡ false → 0 < (token_at (drop at text)).1 →
    tokens_from at 0 (drop at text) ≡ placed at (token_at (drop at text)).0 ∷ tokens_from (at + (token_at (drop at text)).1) 0 (drop (at + (token_at (drop at text)).1) text)
tokens_from-token at text within not_space some =
    let prefix : drop at text ≡ get_or text at 0 ∷ drop (at + 1) text = drop_more text at 0 within in
    let some' : 0 < (token_at (get_or text at 0 ∷ drop (at + 1) text)).1 = subst (λ x. 0 < (token_at x).1) prefix some in
    let One : List ℕ → Type 0 = λ x. tokens_from at 0 x ≡ placed at (token_at x).0 ∷ tokens_from (at + (token_at x).1) 0 (drop (token_at x).1 x) in
    subst One (sym prefix) (token_first at (get_or text at 0) (drop (at + 1) text) not_space some')
    ∙ ap (λ x. placed at (token_at (drop at text)).0 ∷ tokens_from (at + (token_at (drop at text)).1) 0 x) (drop-drop (token_at (drop at text)).1 at text)

-- the text's end
pub tokens_from-end : (at : ℕ) (text : List ℕ) → length text ≤ at → tokens_from at 0 (drop at text) ≡ []
unfolding tokens_from
tokens_from-end at text past = ap (tokens_from at 0) (drop_all at text past)

-- a token has a byte at least, and no more than there are
Fits : ℕ → Option (Token × ℕ) → Type 0
Fits n None = Unit {0}
Fits n (Some t) = (0 < t.1) × (t.1 ≤ n)

if_fits : (n : ℕ) (c : Bool) (x y : Option (Token × ℕ)) → Fits n x → Fits n y → Fits n (if c then x else y)
if_fits n true x y fx fy = fx
if_fits n false x y fx fy = fy

starts_fits : (w bs : List ℕ) → starts_with nat_eq bs w ≡ true → length w ≤ length bs
starts_fits w bs h = omega (arith, pointwise_long nat_eq w (take (length w) bs) h, length-take (length w) bs)

AreWords : List (List ℕ × Token) → Type 0
AreWords [] = Unit {0}
AreWords (w ∷ ws) = (0 < length w.0) × AreWords ws

first_word_fits : (ws : List (List ℕ × Token)) (bs : List ℕ) → AreWords ws → Fits (length bs) (first_word ws bs)
unfolding Fits AreWords
first_word_fits [] bs h = tt
first_word_fits (w ∷ ws) bs h = go (starts_with nat_eq bs w.0) refl (first_word_fits ws bs h.1)
  where
    go : (c : Bool) → starts_with nat_eq bs w.0 ≡ c → Fits (length bs) (first_word ws bs) → Fits (length bs) (if c then Some (w.1, length w.0) else first_word ws bs)
    go true e later = (h.0, starts_fits w.0 bs e)
    go false e later = later

leading_digits-le : (bs : List ℕ) → length (leading_digits bs) ≤ length bs
leading_digits-le [] = omega arith
leading_digits-le (b ∷ bs) = go (is_ascii_digit b) (leading_digits-le bs)
  where
    go : (c : Bool) → length (leading_digits bs) ≤ length bs → length (if c then b ∷ leading_digits bs else []) ≤ suc (length bs)
    go true h = omega arith
    go false h = omega arith

mapped_fits : {A : Type 0} → (n k : ℕ) (token : A → Token) (o : Option A) → 0 < k → k ≤ n → Fits n (option_map (λ x. (token x, k)) o)
unfolding Fits
mapped_fits n k token None some within = tt
mapped_fits n k token (Some x) some within = (some, within)

not_none : (n : ℕ) → n == 0 ≡ false → 0 < n
not_none n h = grind (arith, nat_tests)

number_fits : (negative : Bool) (bs : List ℕ) → Fits (sign_len negative + length bs) (number_after negative bs)
unfolding Fits
number_fits negative bs = go (length (leading_digits bs) == 0) refl (leading_digits-le bs)
  where
    go : (c : Bool) → length (leading_digits bs) == 0 ≡ c → length (leading_digits bs) ≤ length bs →
        Fits (sign_len negative + length bs)
        (option_map (λ z. (Value (Number z), sign_len negative + length (leading_digits bs))) (if c then None else option_and_then (signed negative) (magnitude_of (leading_digits bs))))
    go true e h = tt
    go false e h =
        let some = not_none (length (leading_digits bs)) e in
        mapped_fits (sign_len negative + length bs) (sign_len negative + length (leading_digits bs)) (λ z. Value (Number z))
        (option_and_then (signed negative) (magnitude_of (leading_digits bs))) (omega arith) (omega arith)

lt_true : (a b : ℕ) → nat_lt a b ≡ true → a < b
lt_true a b h = grind (arith, nat_tests)

text_fits : (quote : ℕ) (bs : List ℕ) → Fits (suc (length bs)) (text_at quote bs)
unfolding Fits
text_fits quote bs = go (nat_lt (position_or_len (λ b. b == quote) bs) (length bs)) refl
  where
    go : (c : Bool) → nat_lt (position_or_len (λ b. b == quote) bs) (length bs) ≡ c →
        Fits (suc (length bs)) (option_map (λ n. (Value (Text (take n bs)), n + 2)) (if c then Some (position_or_len (λ b. b == quote) bs) else None))
    go true e =
        let within = lt_true (position_or_len (λ b. b == quote) bs) (length bs) e in
        (omega arith, omega arith)
    go false e = tt

known_token_fits : (bs : List ℕ) → Fits (length bs) (known_token bs)
unfolding Fits AreWords
known_token_fits [] = tt
known_token_fits (b ∷ bs) =
    if_fits (suc (length bs)) (b == 34 || b == 39) (text_at b bs)
    (if b == 45 then number_after true bs else if is_ascii_digit b then number_after false (b ∷ bs) else first_word (operators ++ marks) (b ∷ bs))
    (text_fits b bs)
    (if_fits (suc (length bs)) (b == 45) (number_after true bs) (if is_ascii_digit b then number_after false (b ∷ bs) else first_word (operators ++ marks) (b ∷ bs))
    (subst (λ n. Fits n (number_after true bs)) one (number_fits true bs))
    (if_fits (suc (length bs)) (is_ascii_digit b) (number_after false (b ∷ bs)) (first_word (operators ++ marks) (b ∷ bs))
    (subst (λ n. Fits n (number_after false (b ∷ bs))) none (number_fits false (b ∷ bs)))
    (first_word_fits (operators ++ marks) (b ∷ bs) words)))
  where
    one : 1 + length bs ≡ suc (length bs)
    one = omega arith

    none : 0 + suc (length bs) ≡ suc (length bs)
    none = omega arith

    words : AreWords (operators ++ marks)
    words = (lit< tt, (lit< tt, (lit< tt, (lit< tt, (lit< tt, (lit< tt, (lit< tt, (lit< tt, (lit< tt, (lit< tt, (lit< tt, (lit< tt, (lit< tt, tt)))))))))))))

pub token_at_fits : (bs : List ℕ) → 0 < length bs → (0 < (token_at bs).1) × ((token_at bs).1 ≤ length bs)
unfolding Fits
token_at_fits bs some = go (known_token bs) (known_token_fits bs)
  where
    go : (o : Option (Token × ℕ)) → Fits (length bs) o → (0 < (unwrap_or o (Unknown, 1)).1) × ((unwrap_or o (Unknown, 1)).1 ≤ length bs)
    go None h = (omega arith, omega arith)
    go (Some t) h = h
