-- The tokens of a text in UTF-8 hold texts in UTF-8.
use Rattle.std.proofs.Common.{◌≡◌, ℕ, ◌<◌, Bool, true, false, cond, ◌&&◌, ◌==◌, nat_eq, List, [], ◌∷◌, ◌++◌, length, drop, Option, Some, None, refl, sym, arith, append_assoc, subst, IsUtf8}
use Rattle.std.specs.List.{starts_with}
use Rattle.std.proofs.lemmas.Bool.Decides.{nat_tests}
use Rattle.json.specs.Ascii as ascii
use Rattle.json.specs.Token.{Token, begin_object, end_object, begin_array, end_array, key, string, number, boolean, null, bad}
use Rattle.json.specs.Text.{content, plain}
use Rattle.json.specs.Word.{head, ends_word, is_operator, is_space, after_number, number_before, word}
use Rattle.json.specs.Lex.{Lexeme, token, comma, colon, Class, quote, backslash, operator, space, other, class, string_token, Mode, between, in_word, in_string, in_escape, lex_byte, lex, Place, fresh, after_value, after_comma, after_key, begins_colon, may_begin, may_close, if_allowed, place_token, punctuate, tokens}
use Rattle.element_tree.proofs.JsonTexts.{content_utf8, after_byte}

abbrev pub HasText : Token → Type 0
HasText begin_object = Unit {0}
HasText end_object = Unit {0}
HasText begin_array = Unit {0}
HasText end_array = Unit {0}
HasText (key s) = IsUtf8 s
HasText (string s) = IsUtf8 s
HasText (number s) = Unit {0}
HasText (boolean b) = Unit {0}
HasText null = Unit {0}
HasText bad = Unit {0}

abbrev LexemeText : Lexeme → Type 0
LexemeText (token t) = HasText t
LexemeText comma = Unit {0}
LexemeText colon = Unit {0}

abbrev LexemeTexts : List Lexeme → Type 0
LexemeTexts [] = Unit {0}
LexemeTexts (l ∷ ls) = LexemeText l × LexemeTexts ls

abbrev pub HaveTexts : List Token → Type 0
HaveTexts [] = Unit {0}
HaveTexts (t ∷ ts) = HasText t × HaveTexts ts

-- ---- one lexeme

operator_text : (a b c d e : Bool) → LexemeText (cond a (token begin_object) (cond b (token end_object) (cond c (token begin_array) (cond d (token end_array) (cond e comma colon)))))
operator_text true b c d e = tt
operator_text false true c d e = tt
operator_text false false true d e = tt
operator_text false false false true e = tt
operator_text false false false false true = tt
operator_text false false false false false = tt

words_text : (a b c p q r : Bool) (t : Token) → HasText t → HasText (cond a (cond p (boolean true) bad) (cond b (cond q (boolean false) bad) (cond c (cond r null bad) t)))
words_text true b c true q r t h = tt
words_text true b c false q r t h = tt
words_text false true c p true r t h = tt
words_text false true c p false r t h = tt
words_text false false true p q true t h = tt
words_text false false true p q false t h = tt
words_text false false false p q r t h = h

number_if : (b : Bool) (s : List ℕ) → HasText (cond b (number s) bad)
number_if true s = tt
number_if false s = tt

number_text : (t : List ℕ) (o : Option (List ℕ)) → HasText (number_before t o)
number_text t None = tt
number_text t (Some rest) = number_if (ends_word rest) _

word_text : (t : List ℕ) → HasText (word t)
unfolding word
word_text t =
    words_text (head t == ascii.lower_t) (head t == ascii.lower_f) (head t == ascii.lower_n) (starts_with nat_eq t ascii.true_text && ends_word (drop (length ascii.true_text) t))
    (starts_with nat_eq t ascii.false_text && ends_word (drop (length ascii.false_text) t)) (starts_with nat_eq t ascii.null_text && ends_word (drop (length ascii.null_text) t))
    (number_before t (after_number t)) (number_text t (after_number t))

string_text : (o : Option (List ℕ)) → ((s : List ℕ) → o ≡ Some s → IsUtf8 s) → HasText (string_token o)
string_text None h = tt
string_text (Some s) h = h s refl

is_quote : (a b c d : Bool) → cond a quote (cond b backslash (cond c operator (cond d space other))) ≡ quote → a ≡ true
is_quote true b c d h = refl
is_quote false true c d h = absurd (cc)
is_quote false false true d h = absurd (cc)
is_quote false false false true h = absurd (cc)
is_quote false false false false h = absurd (cc)

quote_small : (x : ℕ) → class x ≡ quote → x < 128
quote_small x h = let e = is_quote (x == ascii.quote) (x == ascii.backslash) (is_operator x) (is_space x) h in small (x == ascii.quote) refl e
  where
    small : (b : Bool) → (x == ascii.quote) ≡ b → b ≡ true → x < 128
    small b is on = grind (arith, nat_tests)

byte_texts : (m : Mode) (c : Class) (x : ℕ) (xs prefix : List ℕ) → class x ≡ c → IsUtf8 (prefix ++ x ∷ xs) → (k : Mode → List Lexeme) → ((next : Mode) → LexemeTexts (k next)) → LexemeTexts (lex_byte m c x xs k)
byte_texts between quote x xs prefix is u k all = (string_text (content plain xs) (λ s h. content_utf8 plain xs [] s (after_byte prefix xs x (quote_small x is) u) h), all in_string)
byte_texts between backslash x xs prefix is u k all = (tt, all in_word)
byte_texts between operator x xs prefix is u k all = (operator_text (x == ascii.open_brace) (x == ascii.close_brace) (x == ascii.open_bracket) (x == ascii.close_bracket) (x == ascii.comma), all between)
byte_texts between space x xs prefix is u k all = all between
byte_texts between other x xs prefix is u k all = (word_text (x ∷ xs), all in_word)
byte_texts in_word quote x xs prefix is u k all = all in_word
byte_texts in_word backslash x xs prefix is u k all = all in_word
byte_texts in_word operator x xs prefix is u k all = (operator_text (x == ascii.open_brace) (x == ascii.close_brace) (x == ascii.open_bracket) (x == ascii.close_bracket) (x == ascii.comma), all between)
byte_texts in_word space x xs prefix is u k all = all between
byte_texts in_word other x xs prefix is u k all = all in_word
byte_texts in_string quote x xs prefix is u k all = all between
byte_texts in_string backslash x xs prefix is u k all = all in_escape
byte_texts in_string operator x xs prefix is u k all = all in_string
byte_texts in_string space x xs prefix is u k all = all in_string
byte_texts in_string other x xs prefix is u k all = all in_string
byte_texts in_escape c x xs prefix is u k all = all in_string

lex_texts : (xs : List ℕ) (m : Mode) (prefix : List ℕ) → IsUtf8 (prefix ++ xs) → LexemeTexts (lex m xs)
unfolding lex
lex_texts [] m prefix u = tt
lex_texts (x ∷ xs) m prefix u =
    byte_texts m (class x) x xs prefix refl u (λ next. lex next xs) (λ next. lex_texts xs next (prefix ++ x ∷ []) (subst IsUtf8 (sym (append_assoc prefix (x ∷ []) xs)) u))

-- ---- commas and colons

allowed_texts : (b : Bool) (t : Token) (k : Place → List Token) (next : Place) → HasText t → ((p : Place) → HaveTexts (k p)) → HaveTexts (if_allowed b t k next)
allowed_texts true t k next h all = (h, all next)
allowed_texts false t k next h all = (tt, tt)

place_texts : (p : Place) (t : Token) (b : Bool) (k : Place → List Token) → HasText t → ((next : Place) → HaveTexts (k next)) → HaveTexts (place_token p t b k)
place_texts p begin_object b k h all = allowed_texts (may_begin p) begin_object k fresh tt all
place_texts p end_object b k h all = allowed_texts (may_close p) end_object k after_value tt all
place_texts p begin_array b k h all = allowed_texts (may_begin p) begin_array k fresh tt all
place_texts p end_array b k h all = allowed_texts (may_close p) end_array k after_value tt all
place_texts p (key s) b k h all = (tt, tt)
place_texts p (string s) true k h all = allowed_texts (may_begin p) (key s) k after_key h all
place_texts p (string s) false k h all = allowed_texts (may_begin p) (string s) k after_value h all
place_texts p (number s) b k h all = allowed_texts (may_begin p) (number s) k after_value tt all
place_texts p (boolean v) b k h all = allowed_texts (may_begin p) (boolean v) k after_value tt all
place_texts p null b k h all = allowed_texts (may_begin p) null k after_value tt all
place_texts p bad b k h all = (tt, tt)

punctuated_texts : (ls : List Lexeme) (p : Place) → LexemeTexts ls → HaveTexts (punctuate p ls)
unfolding punctuate
punctuated_texts [] fresh h = tt
punctuated_texts [] after_value h = tt
punctuated_texts [] after_comma h = (tt, tt)
punctuated_texts [] after_key h = (tt, tt)
punctuated_texts (token t ∷ ls) fresh h = place_texts fresh t (begins_colon ls) (λ next. punctuate next ls) h.0 (λ next. punctuated_texts ls next h.1)
punctuated_texts (token t ∷ ls) after_value h = place_texts after_value t (begins_colon ls) (λ next. punctuate next ls) h.0 (λ next. punctuated_texts ls next h.1)
punctuated_texts (token t ∷ ls) after_comma h = place_texts after_comma t (begins_colon ls) (λ next. punctuate next ls) h.0 (λ next. punctuated_texts ls next h.1)
punctuated_texts (token t ∷ ls) after_key h = place_texts after_key t (begins_colon ls) (λ next. punctuate next ls) h.0 (λ next. punctuated_texts ls next h.1)
punctuated_texts (comma ∷ ls) fresh h = (tt, tt)
punctuated_texts (comma ∷ ls) after_value h = punctuated_texts ls after_comma h.1
punctuated_texts (comma ∷ ls) after_comma h = (tt, tt)
punctuated_texts (comma ∷ ls) after_key h = (tt, tt)
punctuated_texts (colon ∷ ls) fresh h = (tt, tt)
punctuated_texts (colon ∷ ls) after_value h = (tt, tt)
punctuated_texts (colon ∷ ls) after_comma h = (tt, tt)
punctuated_texts (colon ∷ ls) after_key h = punctuated_texts ls fresh h.1

pub tokens_texts : (text : List ℕ) → IsUtf8 text → HaveTexts (tokens text)
tokens_texts text u = punctuated_texts (lex between text) fresh (lex_texts text between [] u)
