-- The properties that are written of an element are read again.
use Rattle.std.proofs.Common.{◌≡◌, ℕ, suc, ℤ, pos, Bool, true, false, not, ◌||◌, ◌&&◌, List, [], ◌∷◌, length, Option, Some, None, Ordering, Less, Equal, Greater, option_map, option_and_then, refl, sym, ap, ◌∙◌, if◌then◌else◌, codes, bytes_eq, nat_le, unwrap_or, is_some, true≢false, ◌⊎◌, inl, inr, subst}
use Rattle.std.specs.Prelude.{map}
use Rattle.std.specs.Option.{option_map_or}
use Rattle.std.specs.List.{AllByRecursion}
use Rattle.std.specs.Ordering.{match_ordering, nat_cmp}
use Rattle.std.specs.Cmp.Lexicographic.{slice_cmp}
use Rattle.std.proofs.lemmas.Slice.Eq.{bytes_eq-Decides}
use Rattle.serde_json.specs.Data.{Data, Items, no_items, item, Members, no_members, member, put}
use Rattle.serde_json.specs.Events.{items_len}
use Rattle.serde_json.specs.Find.{get_member, as_str, as_array}
use Rattle.element_props.specs.declared.choices.TestKind.{TestKind}
use Rattle.element_props.specs.declared.choices.TestKind.TheVariants as kinds
use Rattle.element_props.specs.declared.prop.Prop.{Prop}
use Rattle.element_props.specs.declared.prop.Prop.TheVariants as props
use Rattle.element_props.specs.NamedProps.{NamedValue, ◌holds◌}
use Rattle.element_props.specs.Reads.{outcome}
use Rattle.element_props.specs.Forms.{has_long, whole_within, all_of, few_of}
use Rattle.element_props.specs.ChoiceTexts.{word_in, test_word, tests}
use Rattle.element_props.specs.Props.{is_required, has_row, unknown, missing, own_properties}
use Rattle.element_props.specs.PropertiesWritten.{unless, is_default, value_data, entry, with_entry, written}
use Rattle.element_props.specs.FormRows.{Row, Form, whole, up_to, choice, test_patterns, texts, csv, Presence, required, number_default, largest, ◌is◌otherwise◌}
use Rattle.element_props.specs.Again.{HoldJson, are_apart, row_named, Stands, ReadsAgain}
use Rattle.element_props.proofs.TakenLaws.{formed, value_from, value_here, values, taken_from, taken_to}
use Rattle.element_props.proofs.FormsAgain.{and_then_some, unless_some, where_some, or_false, checked_of, word_same, map_some}
use Rattle.element_props.proofs.EntriesAgain.{Named, entries_of, find, has_name, names_apart, found_entry, got_json}
use Rattle.element_props.proofs.RowAgain.{Same, row_again}

-- ---- what is written is found

-- the same under the names of the rows
abbrev written_by : List Row → List NamedValue → Members
written_by [] ps = no_members
written_by (row ∷ rows) [] = no_members
written_by (row ∷ rows) (p ∷ ps) = with_entry row.name (entry row p.value) (written_by rows ps)

abbrev named : List Row → List NamedValue → List Named
named [] ps = []
named (row ∷ rows) [] = []
named (row ∷ rows) (p ∷ ps) = (row.name, entry row p.value) ∷ named rows ps

written_named : (rows : List Row) (ps : List NamedValue) → written_by rows ps ≡ entries_of (named rows ps)
written_named [] ps = refl
written_named (row ∷ rows) [] = refl
written_named (row ∷ rows) (p ∷ ps) = ap (with_entry row.name (entry row p.value)) (written_named rows ps)

no_name : (name : List ℕ) (rows : List Row) (ps : List NamedValue) → has_row name rows ≡ false → has_name name (named rows ps) ≡ false
no_name name [] ps h = refl
no_name name (row ∷ rows) [] h = refl
no_name name (row ∷ rows) (p ∷ ps) h =
    let a = or_false (bytes_eq name row.name) (has_row name rows) h in
    none_of (bytes_eq name row.name) (has_name name (named rows ps)) a.0 (no_name name rows ps a.1)
  where
    none_of : (a b : Bool) → a ≡ false → b ≡ false → (a || b) ≡ false
    none_of false b h k = k
    none_of true b h k = h

apart_parts : (a b : Bool) → (not a && b) ≡ true → (a ≡ false) × (b ≡ true)
apart_parts false b h = (refl, h)
apart_parts true b h = absurd (true≢false (sym h))

apart_both : (a b : Bool) → a ≡ false → b ≡ true → (not a && b) ≡ true
apart_both false b h k = k
apart_both true b h k = absurd (true≢false h)

still_apart : (rows : List Row) (ps : List NamedValue) → are_apart rows ≡ true → names_apart (named rows ps) ≡ true
still_apart [] ps h = refl
still_apart (row ∷ rows) [] h = refl
still_apart (row ∷ rows) (p ∷ ps) h =
    let a = apart_parts (has_row row.name rows) (are_apart rows) h in
    apart_both (has_name row.name (named rows ps)) (names_apart (named rows ps)) (no_name row.name rows ps a.0) (still_apart rows ps a.1)

-- under each row's name this finds what is written of its property
abbrev Finds : (List ℕ → Option Data) → List Row → List NamedValue → Type 0
Finds get [] ps = Unit {0}
Finds get (row ∷ rows) [] = ⊥
Finds get (row ∷ rows) (p ∷ ps) = (get row.name ≡ entry row p.value) × Finds get rows ps

-- there are as many values as rows
abbrev AsMany : List Row → List NamedValue → Type 0
AsMany [] ps = Unit {0}
AsMany (row ∷ rows) [] = ⊥
AsMany (row ∷ rows) (p ∷ ps) = AsMany rows ps

not_other : (b : Bool) → (b ≡ true → ⊥) → b ≡ false
not_other false k = refl
not_other true k = absurd (k refl)

differ : (a b : List ℕ) → bytes_eq a b ≡ false → bytes_eq b a ≡ false
differ a b h = not_other (bytes_eq b a) (λ t. true≢false (sym ((bytes_eq-Decides a b).1 (sym ((bytes_eq-Decides b a).0 t))) ∙ h))

skipped : (name : List ℕ) (o : Option Data) (es : List Named) (rows : List Row) (ps : List NamedValue) → has_row name rows ≡ false → Finds (λ q. find q es) rows ps → Finds (λ q. find q ((name, o) ∷ es)) rows ps
skipped name o es [] ps h f = tt
skipped name o es (row ∷ rows) [] h f = f
skipped name o es (row ∷ rows) (p ∷ ps) h f =
    let a = or_false (bytes_eq name row.name) (has_row name rows) h in
    (ap (λ (b : Bool). if b then o else find row.name es) (differ name row.name a.0) ∙ f.0, skipped name o es rows ps a.1 f.1)

found_rows : (rows : List Row) (ps : List NamedValue) → are_apart rows ≡ true → AsMany rows ps → Finds (λ q. find q (named rows ps)) rows ps
found_rows [] ps h many = tt
found_rows (row ∷ rows) [] h many = many
found_rows (row ∷ rows) (p ∷ ps) h many =
    let a = apart_parts (has_row row.name rows) (are_apart rows) h in
    (ap (λ (b : Bool). if b then entry row p.value else find row.name (named rows ps)) ((bytes_eq-Decides row.name row.name).1 refl), skipped row.name (entry row p.value) (named rows ps) rows ps a.0 (found_rows rows ps a.1 many))

found_by : (get other : List ℕ → Option Data) (rows : List Row) (ps : List NamedValue) → ((q : List ℕ) → get q ≡ other q) → Finds other rows ps → Finds get rows ps
found_by get other [] ps same f = tt
found_by get other (row ∷ rows) [] same f = f
found_by get other (row ∷ rows) (p ∷ ps) same f = (same row.name ∙ f.0, found_by get other rows ps same f.1)

written_found : (rows : List Row) (ps : List NamedValue) → are_apart rows ≡ true → AsMany rows ps → Finds (λ q. get_member q (written_by rows ps)) rows ps
written_found rows ps h many =
    found_by (λ q. get_member q (written_by rows ps)) (λ q. find q (named rows ps)) rows ps
    (λ q. ap (get_member q) (written_named rows ps) ∙ found_entry q (named rows ps) (still_apart rows ps h))
    (found_rows rows ps h many)

-- ---- what is written has rows, and what is required

known_at : (o : Ordering) (rows : List Row) (k l : List ℕ) (d e : Data) (ms : Members) → has_row k rows ≡ true → has_row l rows ≡ true → unknown rows ms ≡ None → unknown rows (put k d ms) ≡ None
    → unknown rows (match_ordering o (member k d (member l e ms)) (member l d ms) (member l e (put k d ms))) ≡ None
known_at Less rows k l d e ms h i j later = rw (h, i, j) refl
known_at Equal rows k l d e ms h i j later = rw (i, j) refl
known_at Greater rows k l d e ms h i j later = rw (i, later) refl

known_parts : (b : Bool) (o : Option (List ℕ)) (k : List ℕ) → (if b then o else Some k) ≡ None → (b ≡ true) × (o ≡ None)
known_parts true o k h = (refl, h)
known_parts false o k h = cc

known_put : (rows : List Row) (k : List ℕ) (d : Data) (ms : Members) → has_row k rows ≡ true → unknown rows ms ≡ None → unknown rows (put k d ms) ≡ None
known_put rows k d no_members h j = rw h refl
known_put rows k d (member l e ms) h j =
    let a = known_parts (has_row l rows) (unknown rows ms) l j in
    known_at (slice_cmp nat_cmp k l) rows k l d e ms h a.0 a.1 (known_put rows k d ms h a.1)

known_with : (rows : List Row) (k : List ℕ) (o : Option Data) (ms : Members) → has_row k rows ≡ true → unknown rows ms ≡ None → unknown rows (with_entry k o ms) ≡ None
known_with rows k None ms h j = j
known_with rows k (Some d) ms h j = known_put rows k d ms h j

or_first : (a b : Bool) → a ≡ true → (a || b) ≡ true
or_first true b h = refl
or_first false b h = cc

or_second : (a b : Bool) → b ≡ true → (a || b) ≡ true
or_second true b h = refl
or_second false b h = h

known_written : (all rows : List Row) (ps : List NamedValue) → ((q : List ℕ) → has_row q rows ≡ true → has_row q all ≡ true) → unknown all (written_by rows ps) ≡ None
known_written all [] ps k = refl
known_written all (row ∷ rows) [] k = refl
known_written all (row ∷ rows) (p ∷ ps) k =
    known_with all row.name (entry row p.value) (written_by rows ps)
    (k row.name (or_first (bytes_eq row.name row.name) (has_row row.name rows) ((bytes_eq-Decides row.name row.name).1 refl)))
    (known_written all rows ps (λ q h. k q (or_second (bytes_eq q row.name) (has_row q rows) h)))

missing_parts : (b c : Bool) (r : Option (List ℕ)) (name : List ℕ) → (if b then (if c then r else Some name) else r) ≡ None → (b ≡ true → c ≡ true) × (r ≡ None)
missing_parts true true r name h = ((λ t. refl), h)
missing_parts true false r name h = cc
missing_parts false c r name h = ((λ t. absurd (true≢false (sym t))), h)

missing_both : (b c : Bool) (r : Option (List ℕ)) (name : List ℕ) → (b ≡ true → c ≡ true) → r ≡ None → (if b then (if c then r else Some name) else r) ≡ None
missing_both true true r name k h = h
missing_both true false r name k h = absurd (true≢false (sym (k refl)))
missing_both false c r name k h = h

required_there : (form : Form) (presence : Presence) (p : Prop) (d : Data) → is_required presence ≡ true → is_some (unless (is_default form presence p) d) ≡ true
required_there form required p d h = refl
required_there form presence p d h = cc

none_missing : (n : Members) (rows : List Row) (ps : List NamedValue) → Finds (λ q. get_member q n) rows ps → missing n rows ≡ None
none_missing n [] ps f = refl
none_missing n (row ∷ rows) [] f = absurd f
none_missing n (row ∷ rows) (p ∷ ps) f =
    missing_both (is_required row.presence) (is_some (get_member row.name n)) (missing n rows) row.name
    (λ t. ap is_some f.0 ∙ required_there row.form row.presence p.value (value_data p.value) t) (none_missing n rows ps f.1)

-- ---- each row again

list_parts : (name : List ℕ) (o : Option Prop) (v : Option (List NamedValue)) (ps : List NamedValue) → option_and_then (λ p. option_and_then (λ qs. Some ((name holds p) ∷ qs)) v) o ≡ Some ps
    → (p : Prop) × (qs : List NamedValue) × (o ≡ Some p) × (v ≡ Some qs) × ((name holds p) ∷ qs ≡ ps)
list_parts name None v ps h = cc
list_parts name (Some p) None ps h = cc
list_parts name (Some p) (Some qs) ps h = (p, qs, refl, refl, cc)

list_both : (name : List ℕ) (o : Option Prop) (v : Option (List NamedValue)) (p : Prop) (qs : List NamedValue) → o ≡ Some p → v ≡ Some qs → option_and_then (λ q. option_and_then (λ rs. Some ((name holds q) ∷ rs)) v) o ≡ Some ((name holds p) ∷ qs)
list_both name o v p qs e f = rw (e, f) refl

-- the parts of a list that begins with this property
pub record Parts (ms : Members) (row : Row) (rows : List Row) (r : NamedValue) (rs : List NamedValue) : Type 0 where
  pub named_so : r ≡ (row.name holds r.value)
  pub here : value_here ms row ≡ Some r.value
  pub later : values ms rows ≡ Some rs

pub parts : (ms : Members) (row : Row) (rows : List Row) (r : NamedValue) (rs : List NamedValue) → values ms (row ∷ rows) ≡ Some (r ∷ rs) → Parts ms row rows r rs
parts ms row rows r rs h =
    let a = list_parts row.name (value_here ms row) (values ms rows) (r ∷ rs) h in
    let same : (row.name holds a.0) ≡ r = cc (a.4) in
    let value : a.0 ≡ r.value = ap (λ (q : NamedValue). q.value) same in
    record {
      named_so = sym same ∙ ap (λ v. row.name holds v) value;
      here = a.2 ∙ ap Some value;
      later = a.3 ∙ cc (a.4);
    }

-- properties that were read stand under the names of their rows
by_rows : (ms : Members) (rows : List Row) (ps : List NamedValue) → values ms rows ≡ Some ps → written rows ps ≡ written_by rows ps
by_rows ms [] ps h = refl
by_rows ms (row ∷ rows) [] h = refl
by_rows ms (row ∷ rows) (r ∷ rs) h =
    let p = parts ms row rows r rs h in
    ap (λ (q : NamedValue). with_entry q.name (entry row r.value) (written rows rs)) p.named_so ∙ ap (with_entry row.name (entry row r.value)) (by_rows ms rows rs p.later)

as_many : (ms : Members) (rows : List Row) (ps : List NamedValue) → values ms rows ≡ Some ps → AsMany rows ps
as_many ms [] ps h = tt
as_many ms (row ∷ rows) ps h =
    let a = list_parts row.name (value_here ms row) (values ms rows) ps h in
    rw (← a.4) (as_many ms rows a.1 a.3)

again_at : (row : Row) (all : List Row) (ms n : Members) (p : Prop) → Stands all row.form → Same row.form ms n → HoldJson ms → (is_required row.presence ≡ true → is_some (get_member row.name ms) ≡ true)
    → value_here ms row ≡ Some p → get_member row.name n ≡ entry row p → value_here n row ≡ Some p
again_at row all ms n p st same json there h e =
    ap (value_from row.form row.presence n) e ∙ row_again row.form row.presence all ms n (get_member row.name ms) p st same (λ d k. got_json row.name ms d json k) there h

again_rows : (all : List Row) (ms n : Members) (rows : List Row) (ps : List NamedValue) → HoldJson ms → ((form : Form) → Stands all form → Same form ms n) → AllByRecursion (λ row. Stands all row.form) rows
    → missing ms rows ≡ None → values ms rows ≡ Some ps → Finds (λ q. get_member q n) rows ps → values n rows ≡ Some ps
again_rows all ms n [] ps json same st there h f = h
again_rows all ms n (row ∷ rows) [] json same st there h f = absurd f
again_rows all ms n (row ∷ rows) (r ∷ rs) json same st there h f =
    let a = parts ms row rows r rs h in
    let m = missing_parts (is_required row.presence) (is_some (get_member row.name ms)) (missing ms rows) row.name there in
    list_both row.name (value_here n row) (values n rows) r.value rs
    (again_at row all ms n r.value st.0 (same row.form st.0) json m.0 a.here f.0)
    (again_rows all ms n rows rs json same st.1 m.1 a.later f.1)
    ∙ ap (λ (q : NamedValue). Some (q ∷ rs)) (sym a.named_so)

-- ---- what a form looks at in another property

-- the property of a row of the table, before and after
record Both (ms n : Members) (row : Row) : Type 0 where
  value : Prop
  before : value_here ms row ≡ Some value
  after : get_member row.name n ≡ entry row value
  there : is_required row.presence ≡ true → is_some (get_member row.name ms) ≡ true

named_at : (b : Bool) (row other : Row) (rest : Option Row) → (if b then Some row else rest) ≡ Some other → (row ≡ other) ⊎ (rest ≡ Some other)
named_at true row other rest h = inl cc
named_at false row other rest h = inr h

at_row : (ms n : Members) (name : List ℕ) (other : Row) (rows : List Row) (ps : List NamedValue) → row_named name rows ≡ Some other → missing ms rows ≡ None → values ms rows ≡ Some ps → Finds (λ q. get_member q n) rows ps → Both ms n other
at_row ms n name other [] ps h there v f = cc
at_row ms n name other (row ∷ rows) [] h there v f = absurd f
at_row ms n name other (row ∷ rows) (r ∷ rs) h there v f =
    let a = parts ms row rows r rs v in
    let m = missing_parts (is_required row.presence) (is_some (get_member row.name ms)) (missing ms rows) row.name there in
    elim (named_at (bytes_eq name row.name) row other (row_named name rows) h) [
      | inl same ↦ subst (Both ms n) same (record { value = r.value; before = a.here; after = f.0; there = m.0 })
      | inr later ↦ at_row ms n name other rows rs later m.1 a.later f.1
    ]

both_read : (all : List Row) (ms n : Members) (row : Row) → HoldJson ms → Stands all row.form → Same row.form ms n → (b : Both ms n row) → value_here n row ≡ Some b.value
both_read all ms n row json st same b = again_at row all ms n b.value st same json b.there b.before b.after

abbrev number_in : Prop → ℤ
number_in (props.Number z) = z
number_in p = largest

bound_of : (ms : Members) (o : Option Data) (p : Prop) → value_from (whole (pos 0) largest) (number_default largest) ms o ≡ Some p → unwrap_or (option_and_then (whole_within (pos 0) largest) o) largest ≡ number_in p
bound_of ms None p h = let e : props.Number largest ≡ p = cc in ap number_in e
bound_of ms (Some d) p h =
    let t = unless_some (has_long 65536 d) (formed (whole (pos 0) largest) ms d) p h in
    let a = checked_of props.Number (whole_within (pos 0) largest d) p t.1 in
    ap (λ (r : Option ℤ). unwrap_or r largest) a.1 ∙ ap number_in a.2

abbrev count_in : Prop → Option ℕ
count_in (props.Texts ss) = Some (length ss)
count_in p = None

count_all : (ds : Items) (ss : List (List ℕ)) → all_of as_str ds ≡ Some ss → items_len ds ≡ length ss
count_all no_items ss h = let e : [] ≡ ss = cc in ap length e
count_all (item d ds) ss h =
    let a = and_then_some (λ x. option_map (λ xs. x ∷ xs) (all_of as_str ds)) (as_str d) ss h in
    let b = map_some (λ xs. a.0 ∷ xs) (all_of as_str ds) ss a.2 in
    ap suc (count_all ds b.0 b.1) ∙ ap length b.2

count_of : (ms : Members) (o : Option Data) (p : Prop) → value_from texts required ms o ≡ Some p → option_map items_len (option_and_then as_array o) ≡ count_in p
count_of ms None p h = let e : props.Absent ≡ p = cc in ap count_in e
count_of ms (Some d) p h =
    let t = unless_some (has_long 65536 d) (formed texts ms d) p h in
    let a = checked_of props.Texts (option_and_then (few_of 64 as_str) (as_array d)) p t.1 in
    let b = and_then_some (few_of 64 as_str) (as_array d) a.0 a.1 in
    let w = where_some (nat_le 1 (items_len b.0) && nat_le (items_len b.0) 64) (all_of as_str b.0) a.0 b.2 in
    ap (option_map items_len) b.1 ∙ ap Some (count_all b.0 a.0 w.1) ∙ ap count_in a.2

abbrev pub is_word : TestKind → Prop → Bool
is_word kind (props.Word s) = bytes_eq s (test_word kind)
is_word kind p = false

pub word_of : (kind : TestKind) (ms : Members) (o : Option Data) (p : Prop) → value_from (choice (map test_word tests)) required ms o ≡ Some p → option_map_or (λ (s : List ℕ). bytes_eq s (test_word kind)) (option_and_then as_str o) false ≡ is_word kind p
word_of kind ms None p h = let e : props.Absent ≡ p = cc in ap (is_word kind) e
word_of kind ms (Some d) p h =
    let words = map test_word tests in
    let t = unless_some (has_long 65536 d) (formed (choice words) ms d) p h in
    let a = checked_of props.Word (option_and_then (word_in words) (as_str d)) p t.1 in
    let b = and_then_some (word_in words) (as_str d) a.0 a.1 in
    let test = λ (q : Option (List ℕ)). option_map_or (λ (s : List ℕ). bytes_eq s (test_word kind)) q false in
    ap test b.1 ∙ ap test (ap Some (sym (word_same words b.0 a.0 b.2))) ∙ ap (is_word kind) a.2

same_all : (rows : List Row) (ms n : Members) (ps : List NamedValue) → HoldJson ms → missing ms rows ≡ None → values ms rows ≡ Some ps → Finds (λ q. get_member q n) rows ps → (form : Form) → Stands rows form → Same form ms n
same_all rows ms n ps json there v f (up_to name) st =
    let row = name is whole (pos 0) largest otherwise number_default largest in
    let b = at_row ms n name row rows ps st there v f in
    bound_of ms (get_member name ms) b.value b.before ∙ sym (bound_of n (get_member name n) b.value (both_read rows ms n row json refl tt b))
same_all rows ms n ps json there v f (csv names) st =
    let row = names is texts otherwise required in
    let b = at_row ms n names row rows ps st there v f in
    count_of ms (get_member names ms) b.value b.before ∙ sym (count_of n (get_member names n) b.value (both_read rows ms n row json tt tt b))
same_all rows ms n ps json there v f test_patterns st =
    let row = codes "test" is choice (map test_word tests) otherwise required in
    let b = at_row ms n (codes "test") row rows ps st there v f in
    let after = both_read rows ms n row json tt tt b in
    let one = λ (kind : TestKind). word_of kind ms (get_member (codes "test") ms) b.value b.before ∙ sym (word_of kind n (get_member (codes "test") n) b.value after) in
    (one kinds.Contains, one kinds.Matches)
same_all rows ms n ps json there v f form st = tt

pub read_again : ReadsAgain
read_again rows ms ps places other are json h =
    let t = taken_from places ms rows ps h in
    let n = written_by rows ps in
    let found = written_found rows ps are.apart (as_many ms rows ps t.read) in
    ap (λ (m : Members). outcome (own_properties other m rows)) (by_rows ms rows ps t.read) ∙ taken_to other n rows ps (record {
      known = known_written rows rows ps (λ q k. k);
      there = none_missing n rows ps found;
      read = again_rows rows ms n rows ps json (same_all rows ms n ps json t.there t.read found) are.stand t.there t.read found;
    })
