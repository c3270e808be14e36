-- The content of a string in UTF-8 is UTF-8.
use Rattle.std.proofs.Common.{◌≡◌, ℕ, ◌+◌, ◌*◌, ◌<◌, Bool, true, false, cond, ◌&&◌, ◌==◌, nat_lt, List, [], ◌∷◌, ◌++◌, length, get_or, Option, Some, None, option_and_then, refl, sym, subst, true≢false, arith, append_assoc, IsUtf8}
use Rattle.std.proofs.Math.Seq.{take-append_seam, get_or-append_seam, drop-append-add}
use Rattle.std.proofs.lemmas.Bool.Decides.{nat_tests}
use Rattle.std.proofs.lemmas.List.{append-nil, length-append}
use Rattle.std.proofs.lemmas.Str.{IsUtf8-append, IsUtf8-encode, IsUtf8-take, IsUtf8-drop, encode_ascii, IsCharBoundary-before_ascii, IsCharBoundary-after_ascii}
use Rattle.std.specs.Char.{digit_value, is_digit, encode_utf8, IsScalar}
use Rattle.json.specs.Ascii as ascii
use Rattle.json.specs.Text.{code_unit, short_escape, is_high_surrogate, is_low_surrogate, surrogate_pair, Within, plain, after_backslash, after_u, after_high, prepend, content}

-- ---- a text that is cut beside an ASCII byte

pub before_byte : (prefix xs : List ℕ) (x : ℕ) → x < 128 → IsUtf8 (prefix ++ x ∷ xs) → IsUtf8 prefix
before_byte prefix xs x small u =
    let there : get_or (prefix ++ x ∷ xs) (length prefix) 0 ≡ x = get_or-append_seam prefix x xs 0 in
    let within : length prefix < length (prefix ++ x ∷ xs) = omega (arith, length-append prefix (x ∷ xs)) in
    subst IsUtf8 (take-append_seam prefix (x ∷ xs)) (IsUtf8-take (prefix ++ x ∷ xs) (length prefix) u (IsCharBoundary-before_ascii (prefix ++ x ∷ xs) (length prefix) within (omega (arith, there))))

pub after_byte : (prefix xs : List ℕ) (x : ℕ) → x < 128 → IsUtf8 (prefix ++ x ∷ xs) → IsUtf8 xs
after_byte prefix xs x small u =
    let there : get_or (prefix ++ x ∷ xs) (length prefix) 0 ≡ x = get_or-append_seam prefix x xs 0 in
    let within : length prefix < length (prefix ++ x ∷ xs) = omega (arith, length-append prefix (x ∷ xs)) in
    subst IsUtf8 (drop-append-add prefix (x ∷ xs) 1) (IsUtf8-drop (prefix ++ x ∷ xs) (length prefix + 1) u (IsCharBoundary-after_ascii (prefix ++ x ∷ xs) (length prefix) u within (omega (arith, there))))

one_byte : (x : ℕ) → x < 128 → IsUtf8 (x ∷ [])
one_byte x small = let is : IsScalar x = grind (arith, nat_tests) in subst IsUtf8 (encode_ascii x small) (IsUtf8-encode x is)

joined : (prefix s more : List ℕ) → IsUtf8 prefix → IsUtf8 more → IsUtf8 s → IsUtf8 (prefix ++ (more ++ s))
joined prefix s more u v w = IsUtf8-append prefix (more ++ s) u (IsUtf8-append more s v w)

-- ---- what an escape is

digit_is_ascii : (c : ℕ) → is_digit c 16 ≡ true → c < 128
digit_is_ascii c h = grind (arith, nat_tests)

digit_is_small : (c : ℕ) → is_digit c 16 ≡ true → digit_value c < 16
digit_is_small c h = grind (arith, nat_tests)

escape_is_ascii : (x c : ℕ) → short_escape x ≡ Some c → (x < 128) × (c < 128)
unfolding short_escape
escape_is_ascii x c h = (grind (arith, nat_tests), grind (arith, nat_tests))

pub record Unit16 (a b c d u : ℕ) : Type 0 where
  pub a_ascii : a < 128
  pub b_ascii : b < 128
  pub c_ascii : c < 128
  pub d_ascii : d < 128
  pub small : u < 65536

four_digits : (p q r s : Bool) → (p && q && r && s) ≡ true → (p ≡ true) × (q ≡ true) × (r ≡ true) × (s ≡ true)
four_digits true true true true h = (refl, refl, refl, refl)
four_digits true true true false h = absurd (true≢false (sym h))
four_digits true true false s h = absurd (true≢false (sym h))
four_digits true false r s h = absurd (true≢false (sym h))
four_digits false q r s h = absurd (true≢false (sym h))

unit_where : (t : Bool) (u v : ℕ) → cond t (Some u) None ≡ Some v → (t ≡ true) × (u ≡ v)
unit_where true u v h = (refl, cc)
unit_where false u v h = absurd (cc)

unit_is : (a b c d u : ℕ) → code_unit a b c d ≡ Some u → Unit16 a b c d u
unfolding code_unit
unit_is a b c d u h =
    let w = unit_where (is_digit a 16 && is_digit b 16 && is_digit c 16 && is_digit d 16) (digit_value a * 4096 + digit_value b * 256 + digit_value c * 16 + digit_value d) u h in
    let four = four_digits (is_digit a 16) (is_digit b 16) (is_digit c 16) (is_digit d 16) w.0 in
    let va = digit_is_small a four.0 in
    let vb = digit_is_small b four.1 in
    let vc = digit_is_small c four.2 in
    let vd = digit_is_small d four.3 in
    let is = w.1 in
    record {
      a_ascii = digit_is_ascii a four.0;
      b_ascii = digit_is_ascii b four.1;
      c_ascii = digit_is_ascii c four.2;
      d_ascii = digit_is_ascii d four.3;
      small = fits (digit_value a) (digit_value b) (digit_value c) (digit_value d) u va vb vc vd is;
    }
  where
    fits : (a b c d u : ℕ) → a < 16 → b < 16 → c < 16 → d < 16 → a * 4096 + b * 256 + c * 16 + d ≡ u → u < 65536
    fits a b c d u h k l m e = omega arith

lone_scalar : (u : ℕ) → u < 65536 → is_high_surrogate u ≡ false → is_low_surrogate u ≡ false → IsScalar u
lone_scalar u small h l = grind (arith, nat_tests)

pair_scalar : (h l : ℕ) → is_high_surrogate h ≡ true → is_low_surrogate l ≡ true → IsScalar (surrogate_pair h l)
pair_scalar h l high low = grind (arith, nat_tests)

-- ---- the content

-- what was read so far and what is left, in each state
abbrev Stands : Within → List ℕ → List ℕ → Type 0
Stands plain prefix xs = IsUtf8 (prefix ++ xs)
Stands after_backslash prefix xs = IsUtf8 prefix × IsUtf8 xs
Stands after_u prefix xs = IsUtf8 prefix × IsUtf8 xs
Stands (after_high h) prefix xs = (is_high_surrogate h ≡ true) × IsUtf8 prefix × IsUtf8 xs

abbrev Reads : Within → List ℕ → Type 0
Reads w xs = (prefix s : List ℕ) → Stands w prefix xs → content w xs ≡ Some s → IsUtf8 (prefix ++ s)

prepended : (bytes s : List ℕ) (rest : Option (List ℕ)) → prepend bytes rest ≡ Some s → (t : List ℕ) × (rest ≡ Some t) × (bytes ++ t ≡ s)
prepended bytes s None h = absurd (cc)
prepended bytes s (Some t) h = (t, refl, cc)

some_then : {A B : Type 0} (f : A → Option B) (o : Option A) (b : B) → option_and_then f o ≡ Some b → (a : A) × (o ≡ Some a) × (f a ≡ Some b)
some_then f None b h = absurd (cc)
some_then f (Some a) b h = (a, refl, h)

-- more bytes are written, and the text goes on
written_then : (more xs prefix s : List ℕ) → Reads plain xs → IsUtf8 prefix → IsUtf8 more → IsUtf8 xs → prepend more (content plain xs) ≡ Some s → IsUtf8 (prefix ++ s)
written_then more xs prefix s next u v w h =
    let p = prepended more s (content plain xs) h in
    let P : List ℕ → Type 0 = λ t. IsUtf8 (prefix ++ t) in
    subst P p.2 (joined prefix p.0 more u v (next [] p.0 w p.1))

plain_step : (x : ℕ) (xs prefix s : List ℕ) (a b c : Bool) → (x == ascii.quote) ≡ a → (x == ascii.backslash) ≡ b → IsUtf8 (prefix ++ x ∷ xs) → Reads plain xs → Reads after_backslash xs
    → cond a (Some []) (cond b (content after_backslash xs) (cond c None (prepend (x ∷ []) (content plain xs)))) ≡ Some s → IsUtf8 (prefix ++ s)
plain_step x xs prefix s true b c is_quote is_slash u more escaped h =
    let small : x < 128 = grind (arith, nat_tests) in
    let P : List ℕ → Type 0 = λ t. IsUtf8 (prefix ++ t) in
    let none : [] ≡ s = cc in
    subst P none (subst IsUtf8 (sym (append-nil prefix)) (before_byte prefix xs x small u))
plain_step x xs prefix s false true c is_quote is_slash u more escaped h =
    let small : x < 128 = grind (arith, nat_tests) in
    escaped prefix s (before_byte prefix xs x small u, after_byte prefix xs x small u) h
plain_step x xs prefix s false false true is_quote is_slash u more escaped h = absurd (cc)
plain_step x xs prefix s false false false is_quote is_slash u more escaped h =
    let p = prepended (x ∷ []) s (content plain xs) h in
    let moved : IsUtf8 ((prefix ++ x ∷ []) ++ xs) = subst IsUtf8 (sym (append_assoc prefix (x ∷ []) xs)) u in
    let read = more (prefix ++ x ∷ []) p.0 moved p.1 in
    let P : List ℕ → Type 0 = λ t. IsUtf8 (prefix ++ t) in
    subst P p.2 (subst IsUtf8 (append_assoc prefix (x ∷ []) p.0) read)

slash_step : (x : ℕ) (xs prefix s : List ℕ) (a : Bool) → (x == ascii.lower_u) ≡ a → IsUtf8 prefix → IsUtf8 (x ∷ xs) → Reads plain xs → Reads after_u xs
    → cond a (content after_u xs) (option_and_then (λ c. prepend (c ∷ []) (content plain xs)) (short_escape x)) ≡ Some s → IsUtf8 (prefix ++ s)
slash_step x xs prefix s true is u v more unit h =
    let small : x < 128 = grind (arith, nat_tests) in
    unit prefix s (u, after_byte [] xs x small v) h
slash_step x xs prefix s false is u v more unit h =
    let c = some_then (λ c. prepend (c ∷ []) (content plain xs)) (short_escape x) s h in
    let small = escape_is_ascii x c.0 c.1 in
    written_then (c.0 ∷ []) xs prefix s more u (one_byte c.0 small.1) (after_byte [] xs x small.0 v) c.2

past_four : (a b c d u : ℕ) (xs : List ℕ) → Unit16 a b c d u → IsUtf8 (a ∷ b ∷ c ∷ d ∷ xs) → IsUtf8 xs
past_four a b c d u xs is v = after_byte [] xs d is.d_ascii (after_byte [] (d ∷ xs) c is.c_ascii (after_byte [] (c ∷ d ∷ xs) b is.b_ascii (after_byte [] (b ∷ c ∷ d ∷ xs) a is.a_ascii v)))

unit_where_step : (u : ℕ) (xs prefix s : List ℕ) (h l : Bool) → is_high_surrogate u ≡ h → is_low_surrogate u ≡ l → u < 65536 → IsUtf8 prefix → IsUtf8 xs → Reads plain xs → Reads (after_high u) xs
    → cond h (content (after_high u) xs) (cond l None (prepend (encode_utf8 u) (content plain xs))) ≡ Some s → IsUtf8 (prefix ++ s)
unit_where_step u xs prefix s true l high low small v w more pair h = pair prefix s (high, v, w) h
unit_where_step u xs prefix s false true high low small v w more pair h = absurd (cc)
unit_where_step u xs prefix s false false high low small v w more pair h = written_then (encode_utf8 u) xs prefix s more v (IsUtf8-encode u (lone_scalar u small high low)) w h

unit_step : (a b c d : ℕ) (xs prefix s : List ℕ) → IsUtf8 prefix → IsUtf8 (a ∷ b ∷ c ∷ d ∷ xs) → Reads plain xs → ((u : ℕ) → Reads (after_high u) xs)
    → option_and_then (λ u. cond (is_high_surrogate u) (content (after_high u) xs) (cond (is_low_surrogate u) None (prepend (encode_utf8 u) (content plain xs)))) (code_unit a b c d) ≡ Some s → IsUtf8 (prefix ++ s)
unit_step a b c d xs prefix s v w more pair h =
    let u = some_then (λ u. cond (is_high_surrogate u) (content (after_high u) xs) (cond (is_low_surrogate u) None (prepend (encode_utf8 u) (content plain xs)))) (code_unit a b c d) s h in
    let is = unit_is a b c d u.0 u.1 in
    unit_where_step u.0 xs prefix s (is_high_surrogate u.0) (is_low_surrogate u.0) refl refl is.small v (past_four a b c d u.0 xs is w) more (pair u.0) u.2

low_step : (high l : ℕ) (xs prefix s : List ℕ) (t : Bool) → is_low_surrogate l ≡ t → is_high_surrogate high ≡ true → IsUtf8 prefix → IsUtf8 xs → Reads plain xs
    → cond t (prepend (encode_utf8 (surrogate_pair high l)) (content plain xs)) None ≡ Some s → IsUtf8 (prefix ++ s)
low_step high l xs prefix s false low is v w more h = absurd (cc)
low_step high l xs prefix s true low is v w more h = written_then (encode_utf8 (surrogate_pair high l)) xs prefix s more v (IsUtf8-encode (surrogate_pair high l) (pair_scalar high l is low)) w h

escape_small : (x y : ℕ) → ((x == ascii.backslash) && (y == ascii.lower_u)) ≡ true → (x < 128) × (y < 128)
escape_small x y h = (grind (arith, nat_tests), grind (arith, nat_tests))

pair_step : (high x y a b c d : ℕ) (xs prefix s : List ℕ) (t : Bool) → ((x == ascii.backslash) && (y == ascii.lower_u)) ≡ t → is_high_surrogate high ≡ true → IsUtf8 prefix → IsUtf8 (x ∷ y ∷ a ∷ b ∷ c ∷ d ∷ xs) → Reads plain xs
    → cond t (option_and_then (λ l. cond (is_low_surrogate l) (prepend (encode_utf8 (surrogate_pair high l)) (content plain xs)) None) (code_unit a b c d)) None ≡ Some s → IsUtf8 (prefix ++ s)
pair_step high x y a b c d xs prefix s false on is v w more h = absurd (cc)
pair_step high x y a b c d xs prefix s true on is v w more h =
    let l = some_then (λ l. cond (is_low_surrogate l) (prepend (encode_utf8 (surrogate_pair high l)) (content plain xs)) None) (code_unit a b c d) s h in
    let unit = unit_is a b c d l.0 l.1 in
    let small = escape_small x y on in
    let rest = after_byte [] (a ∷ b ∷ c ∷ d ∷ xs) y small.1 (after_byte [] (y ∷ a ∷ b ∷ c ∷ d ∷ xs) x small.0 w) in
    low_step high l.0 xs prefix s (is_low_surrogate l.0) refl is v (past_four a b c d l.0 xs unit rest) more l.2

pub content_utf8 : (w : Within) (xs : List ℕ) → Reads w xs
unfolding content
content_utf8 plain [] prefix s u h = absurd (cc)
content_utf8 plain (x ∷ xs) prefix s u h =
    plain_step x xs prefix s (x == ascii.quote) (x == ascii.backslash) (nat_lt x ascii.space) refl refl u (content_utf8 plain xs) (content_utf8 after_backslash xs) h
content_utf8 after_backslash [] prefix s u h = absurd (cc)
content_utf8 after_backslash (x ∷ xs) prefix s u h =
    slash_step x xs prefix s (x == ascii.lower_u) refl u.0 u.1 (content_utf8 plain xs) (content_utf8 after_u xs) h
content_utf8 after_u [] prefix s u h = absurd (cc)
content_utf8 after_u (a ∷ []) prefix s u h = absurd (cc)
content_utf8 after_u (a ∷ b ∷ []) prefix s u h = absurd (cc)
content_utf8 after_u (a ∷ b ∷ c ∷ []) prefix s u h = absurd (cc)
content_utf8 after_u (a ∷ b ∷ c ∷ d ∷ xs) prefix s u h =
    unit_step a b c d xs prefix s u.0 u.1 (content_utf8 plain xs) (λ high. content_utf8 (after_high high) xs) h
content_utf8 (after_high high) [] prefix s u h = absurd (cc)
content_utf8 (after_high high) (x ∷ []) prefix s u h = absurd (cc)
content_utf8 (after_high high) (x ∷ y ∷ []) prefix s u h = absurd (cc)
content_utf8 (after_high high) (x ∷ y ∷ a ∷ []) prefix s u h = absurd (cc)
content_utf8 (after_high high) (x ∷ y ∷ a ∷ b ∷ []) prefix s u h = absurd (cc)
content_utf8 (after_high high) (x ∷ y ∷ a ∷ b ∷ c ∷ []) prefix s u h = absurd (cc)
content_utf8 (after_high high) (x ∷ y ∷ a ∷ b ∷ c ∷ d ∷ xs) prefix s u h =
    pair_step high x y a b c d xs prefix s ((x == ascii.backslash) && (y == ascii.lower_u)) refl u.0 u.1 u.2 (content_utf8 plain xs) h
