-- What a JSON value is under the form of a property, and what of it must be refused.
use Rattle.std.specs.Prelude.{ℕ, ◌≤◌, ◌==◌, ℤ, pos, Bool, true, false, ◌&&◌, ◌||◌, List, [], ◌∷◌, ◌++◌, map, Option, Some, None, if◌then◌else◌, nat_lt, nat_le, length, unwrap_or, option_map, option_and_then, codes, decimal, bytes_eq, int_le}
use Rattle.std.specs.Fmt.{signed_decimal}
use Rattle.std.specs.Option.{option_map_or}
use Rattle.serde_json.specs.Data.{Num, unsigned, negative, float, Data, null, boolean, number, string, array, object, Items, no_items, item, Members, no_members, member}
use Rattle.serde_json.specs.Find.{get_member, as_str, as_bool, as_array, as_number, as_i64}
use Rattle.template_text.specs.Pieces.{Pieces}
use Rattle.template_text.specs.Scan.{reading}
use Rattle.element_props.specs.declared.choices.TestKind.{TestKind}
use Rattle.element_props.specs.declared.choices.TestKind.TheVariants as kinds
use Rattle.element_props.specs.ChoiceTexts.{word_in, test_word}
use Rattle.element_props.specs.Conditions.{first_of, bad_condition, plain_bytes}
use Rattle.serde_json.specs.Events.{items_len}
use Rattle.json_path.specs.PathMachine.{path_of}
use Rattle.std.specs.Result.{is_ok}
use Rattle.element_props.specs.Replies.{reply_in}
use Rattle.element_props.specs.Tables.{is_table, rows_of}
use Rattle.plan_json.specs.Place.{Place}
use Rattle.element_props.specs.declared.error.BuildError.TheVariants.{BadProp, TooMany, BadPattern, BadCond}
use Rattle.element_props.specs.declared.error.PatternFault.TheVariants.{Reference}
use Rattle.element_props.specs.declared.error.What.TheVariants as what
use Rattle.element_props.specs.declared.prop.Prop.{Prop}
use Rattle.element_props.specs.declared.prop.Prop.TheVariants as props
use Rattle.element_props.specs.declared.prop.Pair.{Pair}
use Rattle.element_props.specs.FormRows.{Form, template, plain, filled, lock, whole, up_to, flag, choice, pattern, test_patterns, pairs, replies, texts, csv, json_path, largest}
use Rattle.element_props.specs.Reads.{Reads, over, refuse, ask, ◌>>=◌, refuse_if, or_refuse}

-- Whether a text of the value is longer than this.
abbrev mutual
  pub has_long : ℕ → Data → Bool
  has_long limit null = false
  has_long limit (boolean b) = false
  has_long limit (number n) = false
  has_long limit (string s) = nat_lt limit (length s)
  has_long limit (array ds) = items_have_long limit ds
  has_long limit (object ms) = members_have_long limit ms

  pub items_have_long : ℕ → Items → Bool
  items_have_long limit no_items = false
  items_have_long limit (item d ds) = has_long limit d || items_have_long limit ds

  pub members_have_long : ℕ → Members → Bool
  members_have_long limit no_members = false
  members_have_long limit (member k d ms) = has_long limit d || members_have_long limit ms

-- The text of a template: a text, or a whole number in decimal.
abbrev pub number_text : Num → Option (List ℕ)
number_text (unsigned n) = Some (decimal n)
number_text (negative z) = Some (signed_decimal z)
number_text (float x) = None

abbrev pub template_text : Data → Option (List ℕ)
template_text null = None
template_text (boolean b) = None
template_text (number n) = number_text n
template_text (string s) = Some s
template_text (array ds) = None
template_text (object ms) = None

abbrev pub filled_text : List ℕ → Option (List ℕ)
filled_text [] = None
filled_text (x ∷ xs) = Some (x ∷ xs)

-- a whole number in this range
abbrev pub within : ℤ → ℤ → ℤ → Option ℤ
within low high z = if int_le low z && int_le z high then Some z else None

abbrev pub whole_within : ℤ → ℤ → Data → Option ℤ
whole_within low high d = option_and_then (within low high) (option_and_then as_i64 (as_number d))

-- a list of a text and a value, and nothing else
abbrev pub pair_from : Data → Data → Option Pair
pair_from n d = option_and_then (λ (name : List ℕ). option_map (λ (t : List ℕ). record { name = name; value = reading t }) (template_text d)) (as_str n)

abbrev pub is_no_item : Items → Bool
is_no_item no_items = true
is_no_item (item d ds) = false

abbrev pub pair_with : Data → Items → Option Pair
pair_with n no_items = None
pair_with n (item d ds) = if is_no_item ds then pair_from n d else None

abbrev pub pair_items : Items → Option Pair
pair_items no_items = None
pair_items (item n ds) = pair_with n ds

abbrev pub pair_in : Data → Option Pair
pair_in d = option_and_then pair_items (as_array d)

-- the values of a list, each of which this must read
abbrev pub all_of : {A : Type 0} → (Data → Option A) → Items → Option (List A)
all_of read no_items = Some []
all_of read (item d ds) = option_and_then (λ x. option_map (λ xs. x ∷ xs) (all_of read ds)) (read d)

-- the same of 1 to that many values
abbrev pub few_of : {A : Type 0} → ℕ → (Data → Option A) → Items → Option (List A)
few_of most read ds = if nat_le 1 (items_len ds) && nat_le (items_len ds) most then all_of read ds else None

-- a text that is a JSON path
abbrev pub path_text : List ℕ → Option (List ℕ)
path_text s = if is_ok (path_of s) then Some s else None

-- a text whose rows have this many fields
abbrev pub table_text : Option ℕ → List ℕ → Option (List ℕ)
table_text None s = None
table_text (Some width) s = if is_table width (rows_of s) then Some s else None

-- how many items the property of this name has, where it is a list
abbrev pub list_len : List ℕ → Members → Option ℕ
list_len name ms = option_map items_len (option_and_then as_array (get_member name ms))

-- the bound that another property is
abbrev pub up_to_bound : List ℕ → Members → ℤ
up_to_bound name ms = unwrap_or (option_and_then (whole_within (pos 0) largest) (get_member name ms)) largest

-- the value under a form, in these properties
abbrev pub value_of : Form → Members → Data → Option Prop
value_of template ms d = option_map (λ (s : List ℕ). props.Template (reading s)) (template_text d)
value_of plain ms d = option_map props.Text (as_str d)
value_of filled ms d = option_map props.Text (option_and_then filled_text (as_str d))
value_of lock ms d = option_map props.Text (option_and_then filled_text (as_str d))
value_of (whole low high) ms d = option_map props.Number (whole_within low high d)
value_of (up_to name) ms d = option_map props.Number (whole_within (pos 0) (up_to_bound name ms) d)
value_of flag ms d = option_map props.Truth (as_bool d)
value_of (choice words) ms d = option_map props.Word (option_and_then (word_in words) (as_str d))
value_of pattern ms d = option_map props.Text (as_str d)
value_of test_patterns ms d = option_map props.Texts (option_and_then (few_of 64 as_str) (as_array d))
value_of pairs ms d = option_map props.Pairs (option_and_then (all_of pair_in) (as_array d))
value_of replies ms d = option_map props.Replies (option_and_then (few_of 4096 reply_in) (as_array d))
value_of texts ms d = option_map props.Texts (option_and_then (few_of 64 as_str) (as_array d))
value_of (csv names) ms d = option_map props.Text (option_and_then (table_text (list_len names ms)) (as_str d))
value_of json_path ms d = option_map props.Text (option_and_then path_text (as_str d))

abbrev pub starts_brace : List ℕ → Bool
starts_brace [] = false
starts_brace (y ∷ ys) = y == 123

-- whether the text has a `${`
abbrev pub has_reference : List ℕ → Bool
has_reference [] = false
has_reference (x ∷ xs) = (x == 36 && starts_brace xs) || has_reference xs

abbrev pub cond_checked : Place → Pieces → Option ℕ → Reads Prop
cond_checked place s None = over (props.Template s)
cond_checked place s (Some n) = refuse (BadCond place n)

-- the first condition of the values that can't be read
abbrev pub bad_pair : List Pair → Option ℕ
bad_pair [] = None
bad_pair (p ∷ ps) = first_of (bad_condition p.value) (bad_pair ps)

abbrev pub pairs_checked : Place → List Pair → Option ℕ → Reads Prop
pairs_checked place ps None = over (props.Pairs ps)
pairs_checked place ps (Some n) = refuse (BadCond place n)

-- a value of its form, whose conditions must be read
abbrev pub finished : Place → Prop → Reads Prop
finished place (props.Template s) = cond_checked place s (bad_condition s)
finished place (props.Pairs ps) = pairs_checked place ps (bad_pair ps)
finished place p = over p

-- a pattern may hold no `${`, and is asked for
unfoldable pub pattern_asked : Place → List ℕ → Bool → Reads (List ℕ)
pattern_asked place s true = refuse (BadPattern place Reference)
pattern_asked place s false = ask place s (over s)

unfoldable pub pattern_checked : Place → List ℕ → Bool → Reads Prop
pattern_checked place s refers = pattern_asked place s refers >>= (λ t. over (props.Pattern t))

-- `\A(?:` before a pattern and `)\z` after it: what a whole text must match
abbrev pub around : List ℕ → List ℕ
around s = (92 ∷ 65 ∷ 40 ∷ 63 ∷ 58 ∷ []) ++ s ++ (41 ∷ 92 ∷ 122 ∷ [])

unfoldable pub around_asked : Place → Bool → List ℕ → Reads (Unit {0})
around_asked place true s = ask place (around s) (over tt)
around_asked place false s = over tt

-- a pattern of a list, and the text around it where a whole text must match
unfoldable pub one_asked : Place → Bool → List ℕ → Reads (Unit {0})
one_asked place fully s = pattern_asked place s (has_reference s) >>= (λ t. around_asked place fully s)

unfoldable pub each_asked : Place → Bool → List (List ℕ) → Reads (Unit {0})
each_asked place fully [] = over tt
each_asked place fully (s ∷ ss) = one_asked place fully s >>= (λ t. each_asked place fully ss)

-- whether the property `test` is the text of this kind
abbrev pub is_test : TestKind → Members → Bool
is_test kind ms = option_map_or (λ (s : List ℕ). bytes_eq s (test_word kind)) (option_and_then as_str (get_member (codes "test") ms)) false

abbrev pub whole_of : Bool → List (List ℕ) → List (List ℕ)
whole_of true ss = map around ss
whole_of false ss = []

-- patterns that are regular expressions
unfoldable pub regexes_checked : Place → Bool → List (List ℕ) → Reads Prop
regexes_checked place fully ss = each_asked place fully ss >>= (λ t. over (props.Patterns ss ss (whole_of fully ss)))

-- the patterns of a Response Assertion, by its property `test`: as `contains`, as `matches`, or as plain texts
unfoldable pub tests_checked : Place → Bool → Bool → List (List ℕ) → Reads Prop
tests_checked place regex fully ss =
    if regex || fully then regexes_checked place fully ss else over (props.Patterns ss [] [])

-- the same of a value, which must be a list of 1 to 64 texts
unfoldable pub tests_given : Place → Members → Data → Reads Prop
tests_given place ms d =
    or_refuse (option_and_then (few_of 64 as_str) (as_array d)) (BadProp place)
    >>= (λ ss. tests_checked place (is_test kinds.Contains ms) (is_test kinds.Matches ms) ss)

abbrev pub is_pattern : Form → Bool
is_pattern pattern = true
is_pattern form = false

abbrev pub is_test_patterns : Form → Bool
is_test_patterns test_patterns = true
is_test_patterns form = false

abbrev pub text_limit : ℕ
text_limit = 65536

abbrev pub lock_limit : ℕ
lock_limit = 256

-- whether a text of the value is too long, or the name of a lock is
abbrev pub is_too_long : Form → Data → Bool
is_too_long lock d = has_long text_limit d || option_map_or (λ (s : List ℕ). nat_lt lock_limit (length s)) (as_str d) false
is_too_long form d = has_long text_limit d

-- a property that is there: its texts are short enough, it has its form, its pattern is made, its conditions are read
unfoldable pub given : Form → Members → Place → Data → Reads Prop
given form ms place d = refuse_if (is_too_long form d) (TooMany place what.Text) >>= (λ _.
    if is_pattern form
    then or_refuse (as_str d) (BadProp place) >>= (λ s. pattern_checked place s (has_reference s))
    else if is_test_patterns form
    then tests_given place ms d
    else or_refuse (value_of form ms d) (BadProp place) >>= finished place)

-- what is read of a property whose texts are short enough has short templates
abbrev pub AreShort : List Pair → Type 0
AreShort [] = Unit {0}
AreShort (p ∷ ps) = (plain_bytes p.value ≤ text_limit) × AreShort ps

abbrev pub IsShort : Prop → Type 0
IsShort (props.Template ps) = plain_bytes ps ≤ text_limit
IsShort (props.Pairs ps) = AreShort ps
IsShort p = Unit {0}
