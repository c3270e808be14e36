-- The grammar's reading is that of options one by one.
use Rattle.std.proofs.Common.{◌≡◌, ℕ, Bool, true, false, ◌&&◌, ◌||◌, not, cond, List, [], ◌∷◌, ◌++◌, length, Option, Some, None, refl, sym, ap, ap₂, ◌∙◌, arith, nat_lt, nat_eq, option_and_then, append_assoc, append-nil, inl, inr}
use Rattle.std.specs.Prelude.{is_some, ◌==◌}
use Rattle.std.specs.List.{list_all}
use Rattle.std.specs.Str.{bytes_eq}
use Rattle.std.proofs.lemmas.Bool.{cases_Bool}
use Rattle.std.proofs.lemmas.Bool.Decides.{nat_tests}
use Rattle.clap.specs.Lexer.{long_of}
use Rattle.command_words.specs.CommandGrammar.{Word, Given, Options, option_word, begins_with_hyphen, is_word, given_in, with_option, before, has, is_known, is_right, is_each_once, has_required, fits, given_for}
use Rattle.command_words.proofs.OptionLaws.{same_text, same_itself}
use Rattle.command_words.proofs.Stepwise.{starts_with_hyphen, is_text, with_pair, with_word, options_from}

-- ---- words

pub flipped : (x : ℕ) → nat_eq 45 x ≡ (x == 45)
flipped x = grind (arith, nat_tests)

and_true : (b : Bool) → (b && true) ≡ b
and_true true = refl
and_true false = refl

hyphen_is : (word : Word) → begins_with_hyphen word ≡ starts_with_hyphen word
hyphen_is [] = refl
hyphen_is (x ∷ xs) = and_true (nat_eq 45 x) ∙ flipped x

long_is : (word : Word) → option_word word ≡ long_of word
long_is [] = refl
long_is (x ∷ []) = elim (cases_Bool (x == 45)) [
  | inl e ↦ rw (flipped x, e) refl
  | inr e ↦ rw (flipped x, e) refl
]
long_is (x ∷ y ∷ zs) = elim (cases_Bool (x == 45)) [
  | inl e ↦ elim (cases_Bool (y == 45)) [
    | inl f ↦ rw (flipped x, flipped y, e, f) (both zs)
    | inr f ↦ rw (flipped x, flipped y, e, f) refl
  ]
  | inr e ↦ rw (flipped x, e) refl
]
  where
    both : (zs : Word) → option_word (45 ∷ 45 ∷ zs) ≡ long_of (45 ∷ 45 ∷ zs)
    both [] = refl
    both (z ∷ zs) = refl

word_is_text : (word : Word) → is_word word ≡ is_text word
word_is_text word = ap₂ (λ (b : Bool) (o : Option (Word × Option Word)). nat_lt 0 (length word) && (not b || is_some o)) (hyphen_is word) (long_is word)

pub words_are_texts : (words : List Word) → list_all is_word words ≡ list_all is_text words
words_are_texts [] = refl
words_are_texts (word ∷ words) = ap₂ (λ (a b : Bool). a && b) (word_is_text word) (words_are_texts words)

-- ---- options after those that are done

-- each is known, has a value, and is given neither before it nor among those that are done
abbrev all_new : Options → Given → Given → Bool
all_new options done [] = true
all_new options done (p ∷ given) =
    (is_known options p.0 && (not (has p.0 done) && nat_lt 0 (length p.1))) && all_new options (done ++ p ∷ []) given

-- all of them, where those after are right
abbrev rest_of : Options → Given → Option Given → Option Given
rest_of options done None = None
rest_of options done (Some given) = cond (all_new options done given && has_required options (done ++ given)) (Some (done ++ given)) None

choice_of : (t a r : Bool) (x : Given) → cond t (cond (a && r) (Some x) None) None ≡ cond ((t && a) && r) (Some x) None
choice_of true a r x = refl
choice_of false a r x = refl

no_choice : (t : Bool) → cond {A = Option Given} t None None ≡ None
no_choice true = refl
no_choice false = refl

one_more : (options : Options) (done : Given) (p : Word × Word) (given : Option Given)
    → cond (is_known options p.0 && (not (has p.0 done) && nat_lt 0 (length p.1))) (rest_of options (done ++ p ∷ []) given) None ≡ rest_of options done (before p given)
one_more options done p None = no_choice _
one_more options done p (Some given) =
    let test = is_known options p.0 && (not (has p.0 done) && nat_lt 0 (length p.1)) in
    let new = all_new options (done ++ p ∷ []) given in
    ap (λ (l : Given). cond test (cond (new && has_required options l) (Some l) None) None) (append_assoc done (p ∷ []) given)
    ∙ choice_of test new (has_required options (done ++ p ∷ given)) (done ++ p ∷ given)

pair_is : (options : Options) (done : Given) (name value : Word) (words : List Word) (given : Option Given)
    → options_from options None (done ++ (name, value) ∷ []) words ≡ rest_of options (done ++ (name, value) ∷ []) given
    → with_pair options done name value (λ now. options_from options None now words) ≡ rest_of options done (before (name, value) given)
pair_is options done name value words given e =
    ap (λ (o : Option Given). cond (is_known options name && (not (has name done) && nat_lt 0 (length value))) o None) e
    ∙ one_more options done (name, value) given

unknown_is : (options : Options) (done : Given) (name : Word) (words : List Word) → is_known options name ≡ false → rest_of options done (given_in (Some name) words) ≡ None
unfolding given_in
unknown_is options done name [] e = refl
unknown_is options done name (word ∷ words) e = go (begins_with_hyphen word) (given_in None words)
  where
    go : (b : Bool) (given : Option Given) → rest_of options done (cond b None (before (name, word) given)) ≡ None
    go true given = refl
    go false None = refl
    go false (Some given) = rw e refl

known_is : (options : Options) (done : Given) (name : Word) (words : List Word) (b : Bool) → is_known options name ≡ b
    → options_from options (Some name) done words ≡ rest_of options done (given_in (Some name) words)
    → cond b (options_from options (Some name) done words) None ≡ rest_of options done (given_in (Some name) words)
known_is options done name words true e h = h
known_is options done name words false e h = sym (unknown_is options done name words e)

abbrev Agrees : Options → List Word → Type 0
Agrees options words = (name : Option Word) (done : Given) → options_from options name done words ≡ rest_of options done (given_in name words)

option_is : (options : Options) (done : Given) (words : List Word) (o : Option (Word × Option Word)) → Agrees options words
    → with_word options done o (λ name now. options_from options name now words) ≡ rest_of options done (with_option o (λ name. given_in name words))
option_is options done words None later = refl
option_is options done words (Some (name, Some value)) later =
    pair_is options done name value words (given_in None words) (later None (done ++ (name, value) ∷ []))
option_is options done words (Some (name, None)) later = known_is options done name words (is_known options name) refl (later (Some name) done)

value_is : (options : Options) (done : Given) (name word : Word) (words : List Word) (b : Bool)
    → with_pair options done name word (λ now. options_from options None now words) ≡ rest_of options done (before (name, word) (given_in None words))
    → cond b None (with_pair options done name word (λ now. options_from options None now words)) ≡ rest_of options done (cond b None (before (name, word) (given_in None words)))
value_is options done name word words true e = refl
value_is options done name word words false e = e

agrees : (options : Options) (words : List Word) → Agrees options words
unfolding options_from given_in
agrees options [] = λ name done. at_end name done
  where
    at_end : (name : Option Word) (done : Given) → options_from options name done [] ≡ rest_of options done (given_in name [])
    at_end None done = ap (λ (l : Given). cond (has_required options l) (Some l) None) (sym (append-nil done))
    at_end (Some name) done = refl
agrees options (word ∷ words) =
    let later = agrees options words in
    λ name done. next later name done
  where
    next : Agrees options words → (name : Option Word) (done : Given) → options_from options name done (word ∷ words) ≡ rest_of options done (given_in name (word ∷ words))
    next later None done =
        ap (λ (o : Option (Word × Option Word)). with_word options done o (λ name now. options_from options name now words)) (sym (long_is word))
        ∙ option_is options done words (option_word word) later
    next later (Some name) done =
        ap (λ (b : Bool). cond b None (with_pair options done name word (λ now. options_from options None now words))) (sym (hyphen_is word))
        ∙ value_is options done name word words (begins_with_hyphen word) (pair_is options done name word words (given_in None words) (later None (done ++ (name, word) ∷ [])))

-- ---- what fits

flipped_text : (a b : Word) → bytes_eq a b ≡ bytes_eq b a
flipped_text a b = elim (cases_Bool (bytes_eq a b)) [
  | inl e ↦ rw (same_text a b e) refl
  | inr e ↦ elim (cases_Bool (bytes_eq b a)) [
    | inl f ↦ let bad : true ≡ false = sym (same_itself a) ∙ (ap (bytes_eq a) (sym (same_text b a f)) ∙ e) in absurd cc
    | inr f ↦ e ∙ sym f
  ]
]

or_more : (a b d e : Bool) → d ≡ (a || b) → (e || d) ≡ ((e || a) || b)
or_more a b d true h = refl
or_more a b d false h = h

or_false : (b : Bool) → (b || false) ≡ b
or_false true = refl
or_false false = refl

has-append : (name : Word) (done : Given) (p : Word × Word) → has name (done ++ p ∷ []) ≡ (has name done || bytes_eq p.0 name)
has-append name [] p = or_false _
has-append name (q ∷ done) p = or_more (has name done) (bytes_eq p.0 name) (has name (done ++ p ∷ [])) (bytes_eq q.0 name) (has-append name done p)

split_more : (h e a m : Bool) → (not (h || e) && (a && not m)) ≡ ((not h && a) && not (e || m))
split_more true e a m = refl
split_more false true true m = refl
split_more false true false m = refl
split_more false false a m = refl

none_of-append : (done : Given) (p : Word × Word) (given : Given)
    → list_all (λ q. not (has q.0 (done ++ p ∷ []))) given ≡ (list_all (λ q. not (has q.0 done)) given && not (has p.0 given))
none_of-append done p [] = refl
none_of-append done p (q ∷ given) =
    ap₂ (λ (a b : Bool). not a && b) (has-append q.0 done p ∙ ap (λ (e : Bool). has q.0 done || e) (flipped_text p.0 q.0)) (none_of-append done p given)
    ∙ split_more (has q.0 done) (bytes_eq q.0 p.0) (list_all (λ r. not (has r.0 done)) given) (has p.0 given)

and_assoc : (a b d : Bool) → ((a && b) && d) ≡ (a && (b && d))
and_assoc true b d = refl
and_assoc false b d = refl

sorted_out : (k h n r a m o : Bool) → ((k && (not h && n)) && (r && ((a && not m) && o))) ≡ (((k && n) && r) && ((not h && a) && (not m && o)))
sorted_out false h n r a m o = refl
sorted_out true true true true a m o = refl
sorted_out true true true false a m o = refl
sorted_out true true false r a m o = refl
sorted_out true false false r a m o = refl
sorted_out true false true false a m o = refl
sorted_out true false true true a m o = and_assoc a (not m) o

all_new_is : (options : Options) (done given : Given)
    → all_new options done given ≡ (list_all (is_right options) given && (list_all (λ p. not (has p.0 done)) given && is_each_once given))
all_new_is options done [] = refl
all_new_is options done (p ∷ given) =
    ap (λ (b : Bool). (is_known options p.0 && (not (has p.0 done) && nat_lt 0 (length p.1))) && b)
    (all_new_is options (done ++ p ∷ []) given
    ∙ ap (λ (b : Bool). list_all (is_right options) given && (b && is_each_once given)) (none_of-append done p given))
    ∙ sorted_out (is_known options p.0) (has p.0 done) (nat_lt 0 (length p.1)) (list_all (is_right options) given) (list_all (λ q. not (has q.0 done)) given) (has p.0 given) (is_each_once given)

none_done : (given : Given) → list_all (λ p. not (has p.0 [])) given ≡ true
none_done [] = refl
none_done (p ∷ given) = none_done given

fits_is : (options : Options) (given : Given) → (all_new options [] given && has_required options given) ≡ fits options given
fits_is options given =
    ap (λ (b : Bool). b && has_required options given)
    (all_new_is options [] given ∙ ap (λ (b : Bool). list_all (is_right options) given && (b && is_each_once given)) (none_done given))
    ∙ and_assoc (list_all (is_right options) given) (is_each_once given) (has_required options given)

rest_fits : (options : Options) (given : Option Given) → rest_of options [] given ≡ option_and_then (λ g. cond (fits options g) (Some g) None) given
rest_fits options None = refl
rest_fits options (Some given) = ap (λ (b : Bool). cond b (Some given) None) (fits_is options given)

-- options one by one give what the grammar gives
pub options_agree : (options : Options) (words : List Word) → options_from options None [] words ≡ given_for options words
options_agree options words = agrees options words None [] ∙ rest_fits options (given_in None words)
