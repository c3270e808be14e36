-- The properties of an element as they are written: those that are not what stands for them when absent, in the order of their rows.
use Rattle.std.specs.Prelude.{ℕ, ℤ, pos, negsuc, Bool, true, false, not, List, [], ◌∷◌, Option, Some, None, if◌then◌else◌, nat_eq, bytes_eq, codes}
use Rattle.std.specs.Str.Lossy.{utf8_lossy}
use Rattle.jm_base.specs.declared.types.ScriptReply.{ScriptReply}
use Rattle.serde_json.specs.Data.{Data, null, boolean, number, unsigned, string, array, object, Items, no_items, item, Members, no_members, put}
use Rattle.serde_json.specs.Find.{of_integer}
use Rattle.template_text.specs.Pieces.{spelling}
use Rattle.element_props.specs.declared.prop.Prop.{Prop}
use Rattle.element_props.specs.declared.prop.Prop.TheVariants.{Absent, Template, Text, Number, Truth, Word, Pattern, Pairs, Replies, Texts, Patterns}
use Rattle.element_props.specs.declared.prop.Pair.{Pair}
use Rattle.element_props.specs.NamedProps.{NamedValue}
use Rattle.element_props.specs.FormRows.{Form, Presence, required, optional, text_default, number_default, truth_default, first_choice, no_pairs, Row, first_word}

-- A text as JSON, which is UTF-8: the text itself where it is UTF-8, and else with U+FFFD for each sequence that isn't.
abbrev pub text_data : List ℕ → Data
text_data s = string (utf8_lossy s)

-- with a member in its place by the byte order of names, where there is a value for it
abbrev pub with_entry : List ℕ → Option Data → Members → Members
with_entry name None ms = ms
with_entry name (Some d) ms = put name d ms

abbrev pub unless : Bool → Data → Option Data
unless b d = if b then None else Some d

abbrev pub same_truth : Bool → Bool → Bool
same_truth true b = b
same_truth false b = not b

-- exactly the keys of a reply whose value differs from its default, in byte order
abbrev pub reply_members : ScriptReply → Members
reply_members r =
    with_entry (codes "body") (unless (bytes_eq r.body []) (text_data r.body))
    (with_entry (codes "code") (unless (nat_eq r.code 200) (number (unsigned r.code)))
    (with_entry (codes "echo") (unless (not r.echo) (boolean true))
    (with_entry (codes "fault") (unless (not r.fault) (boolean true))
    (with_entry (codes "headers") (unless (bytes_eq r.headers []) (text_data r.headers))
    (with_entry (codes "message") (unless (bytes_eq r.message (codes "OK")) (text_data r.message))
    (with_entry (codes "ms") (unless (nat_eq r.ms 0) (number (unsigned r.ms)))
    (with_entry (codes "null") (unless (not r.null) (boolean true)) no_members)))))))

-- a pair is written as the list of its name and its value
abbrev pub pair_data : Pair → Data
pair_data p = array (item (text_data p.name) (item (text_data (spelling p.value)) no_items))

abbrev pub reply_data : ScriptReply → Data
reply_data r = object (reply_members r)

-- a list, each value of which is written so
abbrev pub items_by : {A : Type 0} → (A → Data) → List A → Items
items_by f [] = no_items
items_by f (x ∷ xs) = item (f x) (items_by f xs)

-- a property's value as JSON, a template as its spelling, and a choice as its text
abbrev pub value_data : Prop → Data
value_data Absent = null
value_data (Template ps) = text_data (spelling ps)
value_data (Text s) = text_data s
value_data (Number z) = number (of_integer z)
value_data (Truth b) = boolean b
value_data (Word w) = string w
value_data (Pattern s) = text_data s
value_data (Pairs ps) = array (items_by pair_data ps)
value_data (Replies rs) = array (items_by reply_data rs)
value_data (Texts ss) = array (items_by text_data ss)
value_data (Patterns ss regexes whole) = array (items_by text_data ss)

abbrev pub int_eq : ℤ → ℤ → Bool
int_eq (pos m) (pos n) = nat_eq m n
int_eq (negsuc m) (negsuc n) = nat_eq m n
int_eq (pos m) (negsuc n) = false
int_eq (negsuc m) (pos n) = false

abbrev pub no_pair : List Pair → Bool
no_pair [] = true
no_pair (p ∷ ps) = false

-- ---- whether a value is what stands for the property when it is absent; a required one never is

abbrev pub is_text : List ℕ → Prop → Bool
is_text s (Template ps) = bytes_eq (spelling ps) s
is_text s (Text t) = bytes_eq t s
is_text s p = false

abbrev pub is_number : ℤ → Prop → Bool
is_number n (Number m) = int_eq m n
is_number n p = false

abbrev pub is_truth : Bool → Prop → Bool
is_truth b (Truth c) = same_truth c b
is_truth b p = false

abbrev pub is_first : Form → Prop → Bool
is_first form (Word w) = bytes_eq w (first_word form)
is_first form p = false

abbrev pub is_no_pairs : Prop → Bool
is_no_pairs (Pairs ps) = no_pair ps
is_no_pairs p = false

abbrev pub is_nothing : Prop → Bool
is_nothing Absent = true
is_nothing p = false

abbrev pub is_default : Form → Presence → Prop → Bool
is_default form required p = false
is_default form optional p = is_nothing p
is_default form (text_default s) p = is_text s p
is_default form (number_default n) p = is_number n p
is_default form (truth_default b) p = is_truth b p
is_default form first_choice p = is_first form p
is_default form no_pairs p = is_no_pairs p

-- what is written of a property
abbrev pub entry : Row → Prop → Option Data
entry row p = unless (is_default row.form row.presence p) (value_data p)

-- exactly the properties whose value differs from its default, each under its name
abbrev pub written : List Row → List NamedValue → Members
written [] ps = no_members
written (row ∷ rows) [] = no_members
written (row ∷ rows) (p ∷ ps) = with_entry p.name (entry row p.value) (written rows ps)
