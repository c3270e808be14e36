-- The grammar reads what is spelled, and nothing else.
use Rattle.std.proofs.Common.{◌≡◌, ◌≢◌, ℕ, suc, ◌+◌, Bool, true, false, ◌&&◌, ◌||◌, not, cond, List, [], ◌∷◌, ◌++◌, length, Option, Some, None, refl, sym, ap, ap₂, ◌∙◌, subst, arith, nat_lt, option_and_then, codes, take, drop, inl, inr}
use Rattle.std.specs.Prelude.{is_some, find, ◌==◌}
use Rattle.std.specs.List.{list_all, list_any, before_first, after_first, position_or_len}
use Rattle.std.specs.Str.{bytes_eq}
use Rattle.std.proofs.lemmas.Bool.{cases_Bool, and_parts}
use Rattle.std.proofs.lemmas.Bool.Decides.{nat_tests}
use Rattle.command_words.specs.declared.command.Command.{Command}
use Rattle.command_words.specs.CommandGrammar.{Word, Given, Options, equals_sign, name_and_value, option_after, option_word, begins_with_hyphen, is_word, given_in, with_option, before, is_known, is_right, fits, given_for, value_of}
use Rattle.command_words.specs.Commands.{CommandRule, commands, command_named, asked_of, command_of}
use Rattle.command_words.specs.Spelling.{IsName, Spells, nothing, in_one_word, in_two_words, IsCommandLine, IsNoCommandLine}
use Rattle.command_words.proofs.Agreement.{flipped}
use Rattle.command_words.proofs.ReadingLaws.{name_is}

abbrev is_equals : ℕ → Bool
is_equals b = b == equals_sign

same_number : (x y : ℕ) → (x == y) ≡ true → x ≡ y
same_number x y e = grind (arith, nat_tests)

-- ---- a name and its value in one text

abbrev joined : Word → Option Word → Word
joined name None = name
joined name (Some value) = name ++ equals_sign ∷ value

-- one more byte before the name
name_and_value-step : (x : ℕ) (text : Word) → (x == equals_sign) ≡ false → name_and_value (x ∷ text) ≡ (x ∷ (name_and_value text).0, (name_and_value text).1)
name_and_value-step x text e =
    let place = position_or_len (λ b. b == equals_sign) text in
    let one : 1 + place ≡ suc place = omega arith in
    let two : 1 + place + 1 ≡ suc (place + 1) = omega arith in
    let name : before_first (λ b. b == equals_sign) (x ∷ text) ≡ x ∷ before_first (λ b. b == equals_sign) text = rw e (ap (λ (k : ℕ). take k (x ∷ text)) one) in
    let value : after_first (λ b. b == equals_sign) (x ∷ text) ≡ after_first (λ b. b == equals_sign) text = rw e (ap (λ (k : ℕ). drop k (x ∷ text)) two) in
    let any : list_any (λ b. b == equals_sign) (x ∷ text) ≡ list_any (λ b. b == equals_sign) text = rw e refl in
    ap₂ (λ (n : Word) (v : Option Word). (n, v)) name (ap₂ (λ (b : Bool) (v : Word). cond b (Some v) None) any value)

name_and_value-equals : (x : ℕ) (text : Word) → (x == equals_sign) ≡ true → name_and_value (x ∷ text) ≡ ([], Some text)
name_and_value-equals x text e = rw e refl

joined-step : (x : ℕ) (name : Word) (value : Option Word) → joined (x ∷ name) value ≡ x ∷ joined name value
joined-step x name None = refl
joined-step x name (Some value) = refl

any_step : (b c : Bool) → b ≡ false → c ≡ false → (b || c) ≡ false
any_step true c e h = e
any_step false c e h = h

-- what is cut was joined so
cut_was_joined : (text : Word) → IsName (name_and_value text).0 × (text ≡ joined (name_and_value text).0 (name_and_value text).1)
cut_was_joined [] = (refl, refl)
cut_was_joined (x ∷ text) = elim (cases_Bool (x == equals_sign)) [
  | inl e ↦
      subst (λ (q : Word × Option Word). IsName q.0 × (x ∷ text ≡ joined q.0 q.1)) (sym (name_and_value-equals x text e))
      (refl, ap (λ (k : ℕ). k ∷ text) (same_number x equals_sign e))
  | inr e ↦
      let more = cut_was_joined text in
      subst (λ (q : Word × Option Word). IsName q.0 × (x ∷ text ≡ joined q.0 q.1)) (sym (name_and_value-step x text e))
      (any_step (x == equals_sign) _ e more.0, ap (λ (t : Word). x ∷ t) more.1 ∙ sym (joined-step x (name_and_value text).0 (name_and_value text).1))
]

or_parts : (b c : Bool) → (b || c) ≡ false → (b ≡ false) × (c ≡ false)
or_parts true c e = absurd cc
or_parts false c e = (refl, e)

-- what is joined is cut so
joined_is_cut : (name : Word) (value : Option Word) → IsName name → name_and_value (joined name value) ≡ (name, value)
joined_is_cut [] None is = refl
joined_is_cut [] (Some value) is = refl
joined_is_cut (x ∷ name) value is =
    let parts = or_parts (x == equals_sign) (list_any (λ b. b == equals_sign) name) is in
    ap name_and_value (joined-step x name value)
    ∙ (name_and_value-step x (joined name value) parts.0
    ∙ ap (λ (q : Word × Option Word). (x ∷ q.0, q.1)) (joined_is_cut name value parts.1))

-- ---- a word that is an option

behind_is : (text : Word) (q : Word × Option Word) → option_after text ≡ Some q → IsName q.0 × (text ≡ joined q.0 q.1) × (text ≢ [])
behind_is [] q e = cc
behind_is (z ∷ zs) q e =
    let same : name_and_value (z ∷ zs) ≡ q = cc in
    let cut = subst (λ (r : Word × Option Word). IsName r.0 × (z ∷ zs ≡ joined r.0 r.1)) same (cut_was_joined (z ∷ zs)) in
    (cut.0, cut.1, λ f. cc)

-- a word that is an option is `--` and its name, and its value after an `=` where it has one
option_is : (word : Word) (q : Word × Option Word) → option_word word ≡ Some q → IsName q.0 × (word ≡ codes "--" ++ joined q.0 q.1) × (joined q.0 q.1 ≢ [])
option_is [] q e = cc
option_is (x ∷ []) q e = elim (cases_Bool (x == 45)) [
  | inl f ↦ let bad : None ≡ Some q = rw (flipped x, f) at e in cc
  | inr f ↦ let bad : None ≡ Some q = rw (flipped x, f) at e in cc
]
option_is (x ∷ y ∷ zs) q e = elim (cases_Bool (x == 45)) [
  | inl f ↦ elim (cases_Bool (y == 45)) [
    | inl g ↦
        let behind : option_after zs ≡ Some q = rw (flipped x, flipped y, f, g) at e in
        let is = behind_is zs q behind in
        (is.0, ap₂ (λ (a b : ℕ). a ∷ b ∷ zs) (same_number x 45 f) (same_number y 45 g) ∙ ap (λ (t : Word). 45 ∷ 45 ∷ t) is.1, λ h. is.2 (is.1 ∙ h))
    | inr g ↦ let bad : None ≡ Some q = rw (flipped x, flipped y, f, g) at e in cc
  ]
  | inr f ↦ let bad : None ≡ Some q = rw (flipped x, f) at e in cc
]

behind_joined : (text : Word) → text ≢ [] → option_after text ≡ Some (name_and_value text)
behind_joined [] some = absurd (some refl)
behind_joined (z ∷ zs) some = refl

option_spelled : (name : Word) (value : Option Word) → IsName name → joined name value ≢ [] → option_word (codes "--" ++ joined name value) ≡ Some (name, value)
option_spelled name value is some = behind_joined (joined name value) some ∙ ap (λ (q : Word × Option Word). Some q) (joined_is_cut name value is)

not_empty : (name value : Word) → name ++ equals_sign ∷ value ≢ []
not_empty [] value = λ e. cc
not_empty (x ∷ name) value = λ e. cc

-- ---- options

pub spelled_is_read : (words : List Word) (given : Given) → Spells words given → given_in None words ≡ Some given
unfolding given_in
spelled_is_read _ _ nothing = refl
spelled_is_read _ _ (in_one_word name value words given is more) =
    ap (λ (o : Option (Word × Option Word)). with_option o (λ n. given_in n words)) (option_spelled name (Some value) is (not_empty name value))
    ∙ ap (before (name, value)) (spelled_is_read words given more)
spelled_is_read _ _ (in_two_words name value words given is some plain more) =
    ap (λ (o : Option (Word × Option Word)). with_option o (λ n. given_in n (value ∷ words))) (option_spelled name None is some)
    ∙ (ap (λ (b : Bool). cond b None (before (name, value) (given_in None words))) plain
    ∙ ap (before (name, value)) (spelled_is_read words given more))

abbrev ReadsSpelled : List Word → Type 0
ReadsSpelled words = (given : Given) → given_in None words ≡ Some given → Spells words given

abbrev WaitsSpelled : List Word → Type 0
WaitsSpelled words = (name : Word) (given : Given) → IsName name → name ≢ [] → given_in (Some name) words ≡ Some given → Spells ((codes "--" ++ name) ∷ words) given

one_word_step : (name value word : Word) (words : List Word) (more : Option Given) (given : Given) → IsName name → word ≡ codes "--" ++ (name ++ equals_sign ∷ value)
    → ((g : Given) → more ≡ Some g → Spells words g) → before (name, value) more ≡ Some given → Spells (word ∷ words) given
one_word_step name value word words None given is same later e = cc
one_word_step name value word words (Some g) given is same later e =
    let all : (name, value) ∷ g ≡ given = cc in
    subst (λ (h : Given). Spells (word ∷ words) h) all
    (subst (λ (w : Word). Spells (w ∷ words) ((name, value) ∷ g)) (sym same) (in_one_word name value words g is (later g refl)))

two_words_step : (name word : Word) (words : List Word) (b : Bool) (more : Option Given) (given : Given) → IsName name → name ≢ [] → begins_with_hyphen word ≡ b
    → ((g : Given) → more ≡ Some g → Spells words g) → cond b None (before (name, word) more) ≡ Some given → Spells ((codes "--" ++ name) ∷ word ∷ words) given
two_words_step name word words true more given is some plain later e = cc
two_words_step name word words false None given is some plain later e = cc
two_words_step name word words false (Some g) given is some plain later e =
    let all : (name, word) ∷ g ≡ given = cc in
    subst (λ (h : Given). Spells ((codes "--" ++ name) ∷ word ∷ words) h) all (in_two_words name word words g is some plain (later g refl))

option_step : (word : Word) (words : List Word) (o : Option (Word × Option Word)) (given : Given) → option_word word ≡ o → ReadsSpelled words → WaitsSpelled words
    → with_option o (λ n. given_in n words) ≡ Some given → Spells (word ∷ words) given
option_step word words None given is later waits e = cc
option_step word words (Some (name, Some value)) given is later waits e =
    let parts = option_is word (name, Some value) is in
    one_word_step name value word words (given_in None words) given parts.0 parts.1 later e
option_step word words (Some (name, None)) given is later waits e =
    let parts = option_is word (name, None) is in
    subst (λ (w : Word). Spells (w ∷ words) given) (sym parts.1) (waits name given parts.0 parts.2 e)

both_spelled : (words : List Word) → ReadsSpelled words × WaitsSpelled words
unfolding given_in
both_spelled [] = (λ given e. (let same : [] ≡ given = cc in subst (λ (g : Given). Spells [] g) same nothing), λ name given is some e. cc)
both_spelled (word ∷ words) =
    let later = both_spelled words in (
      λ given e. option_step word words (option_word word) given refl later.0 later.1 e,
      λ name given is some e. two_words_step name word words (begins_with_hyphen word) (given_in None words) given is some refl later.0 e,
    )

pub read_is_spelled : (words : List Word) (given : Given) → given_in None words ≡ Some given → Spells words given
read_is_spelled words = (both_spelled words).0

-- ---- words

some_length : (x : ℕ) (xs : Word) → nat_lt 0 (length (x ∷ xs)) ≡ true
some_length x xs = grind (arith, nat_tests)

or_true : (b : Bool) → (b || true) ≡ true
or_true true = refl
or_true false = refl

option_is_word : (word : Word) (q : Word × Option Word) → option_word word ≡ Some q → is_word word ≡ true
option_is_word [] q e = cc
option_is_word (x ∷ xs) q e =
    ap₂ (λ (b : Bool) (o : Option (Word × Option Word)). b && (not (begins_with_hyphen (x ∷ xs)) || is_some o)) (some_length x xs) e
    ∙ or_true (not (begins_with_hyphen (x ∷ xs)))

plain_is_word : (word : Word) → nat_lt 0 (length word) ≡ true → begins_with_hyphen word ≡ false → is_word word ≡ true
plain_is_word word some plain = ap₂ (λ (a b : Bool). a && (not b || is_some (option_word word))) some plain

both_true : (a b : Bool) → a ≡ true → b ≡ true → (a && b) ≡ true
both_true a b e h = ap₂ (λ (x y : Bool). x && y) e h

spelled_are_words : (options : Options) (words : List Word) (given : Given) → Spells words given → list_all (is_right options) given ≡ true → list_all is_word words ≡ true
spelled_are_words options _ _ nothing right = refl
spelled_are_words options _ _ (in_one_word name value words given is more) right =
    let parts = and_parts (is_right options (name, value)) (list_all (is_right options) given) right in
    both_true _ _ (option_is_word (codes "--" ++ joined name (Some value)) (name, Some value) (option_spelled name (Some value) is (not_empty name value))) (spelled_are_words options words given more parts.1)
spelled_are_words options _ _ (in_two_words name value words given is some plain more) right =
    let parts = and_parts (is_right options (name, value)) (list_all (is_right options) given) right in
    let known = and_parts (is_known options name) (nat_lt 0 (length value)) parts.0 in
    both_true _ _ (option_is_word (codes "--" ++ joined name None) (name, None) (option_spelled name None is some))
    (both_true _ _ (plain_is_word value known.1 plain) (spelled_are_words options words given more parts.1))

word_step : (b : Bool) (d c : CommandRule) (rest : Option CommandRule) → is_word d.name ≡ true → (rest ≡ Some c → is_word c.name ≡ true)
    → cond b (Some d) rest ≡ Some c → is_word c.name ≡ true
word_step true d c rest here later e = let same : d ≡ c = cc in subst (λ (x : CommandRule). is_word x.name ≡ true) same here
word_step false d c rest here later e = later e

named_is_word : (name : Word) (cs : List CommandRule) (c : CommandRule) → list_all (λ d. is_word d.name) cs ≡ true
    → find (λ d. bytes_eq d.name name) cs ≡ Some c → is_word c.name ≡ true
named_is_word name [] c are e = cc
named_is_word name (d ∷ cs) c are e =
    let parts = and_parts (is_word d.name) (list_all (λ x. is_word x.name) cs) are in
    word_step (bytes_eq d.name name) d c _ parts.0 (named_is_word name cs c parts.1) e

-- ---- command lines

chosen : (options : Options) (g given : Given) (b : Bool) → fits options g ≡ b → cond b (Some g) None ≡ Some given → (Some g ≡ Some given) × (fits options given ≡ true)
chosen options g given true f e = let same : g ≡ given = cc in (e, subst (λ (h : Given). fits options h ≡ true) same f)
chosen options g given false f e = cc

given_fits : (options : Options) (o : Option Given) (given : Given) → option_and_then (λ g. cond (fits options g) (Some g) None) o ≡ Some given
    → (o ≡ Some given) × (fits options given ≡ true)
given_fits options None given e = cc
given_fits options (Some g) given e = chosen options g given (fits options g) refl e

given_answered : (word : Word) (words : List Word) (command : Command) (c : CommandRule) (o : Option Given) → command_named word ≡ Some c → given_for c.options words ≡ o
    → option_and_then (λ given. c.meaning (value_of given)) o ≡ Some command → IsCommandLine (word ∷ words) command
given_answered word words command c None named is e = cc
given_answered word words command c (Some given) named is e =
    let parts = given_fits c.options (given_in None words) given is in
    let name : c.name ≡ word = name_is word commands c named in
    record {
      rule = c;
      options = words;
      given = given;
      listed = ap command_named name ∙ named;
      first = ap (λ (w : Word). w ∷ words) (sym name);
      spelled = read_is_spelled words given parts.0;
      right = parts.1;
      meant = e;
    }

rule_answered : (word : Word) (words : List Word) (command : Command) (o : Option CommandRule) → command_named word ≡ o
    → option_and_then (λ c. option_and_then (λ given. c.meaning (value_of given)) (given_for c.options words)) o ≡ Some command → IsCommandLine (word ∷ words) command
rule_answered word words command None named e = cc
rule_answered word words command (Some c) named e = given_answered word words command c (given_for c.options words) named refl e

words_answered : (b : Bool) (words : List Word) (command : Command) → cond b (asked_of words) None ≡ Some command → IsCommandLine words command
words_answered false words command e = cc
words_answered true [] command e = cc
words_answered true (word ∷ words) command e = rule_answered word words command (command_named word) refl e

-- what is answered is a command line
pub answered_is_line : (words : List Word) (command : Command) → command_of words ≡ Some command → IsCommandLine words command
answered_is_line words command e = words_answered (list_all is_word words) words command e

line_is_asked : (words : List Word) (command : Command) (l : IsCommandLine words command) → asked_of (l.rule.name ∷ l.options) ≡ Some command
line_is_asked words command l =
    let given : given_for l.rule.options l.options ≡ Some l.given =
    ap (λ (o : Option Given). option_and_then (λ g. cond (fits l.rule.options g) (Some g) None) o) (spelled_is_read l.options l.given l.spelled)
    ∙ ap (λ (b : Bool). cond b (Some l.given) None) l.right in
    ap (λ (o : Option CommandRule). option_and_then (λ c. option_and_then (λ g. c.meaning (value_of g)) (given_for c.options l.options)) o) l.listed
    ∙ (ap (λ (o : Option Given). option_and_then (λ g. l.rule.meaning (value_of g)) o) given ∙ l.meant)

-- a command line is answered
pub line_is_answered : (words : List Word) (command : Command) → IsCommandLine words command → command_of words ≡ Some command
line_is_answered words command l =
    let right = and_parts (list_all (is_right l.rule.options) l.given) _ l.right in
    let are : list_all is_word (l.rule.name ∷ l.options) ≡ true =
    both_true _ _ (named_is_word l.rule.name commands l.rule refl l.listed) (spelled_are_words l.rule.options l.options l.given l.spelled right.0) in
    ap command_of l.first ∙ (ap (λ (b : Bool). cond b (asked_of (l.rule.name ∷ l.options)) None) are ∙ line_is_asked words command l)

pub none_is_no_line : (words : List Word) → command_of words ≡ None → IsNoCommandLine words
none_is_no_line words none = λ command l. (let bad : None ≡ Some command = sym none ∙ line_is_answered words command l in cc)
