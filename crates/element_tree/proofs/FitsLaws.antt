-- What was read of an element's properties fits the rows of its type.
use Rattle.std.proofs.Common.{◌≡◌, ℕ, Bool, true, false, ◌&&◌, ◌||◌, List, [], ◌∷◌, Option, Some, None, Ok, refl, sym, ap, ◌∙◌, subst, true≢false, arith, cond, bytes_eq, ℤ, pos, negsuc, int_le, is_some, unwrap_or, option_map, option_and_then}
use Rattle.std.specs.List.{list_any}
use Rattle.std.specs.Result.{is_ok}
use Rattle.std.proofs.lemmas.Bool.Decides.{nat_tests}
use Rattle.serde_json.specs.Data.{Data, null, boolean, number, string, array, object, Members}
use Rattle.serde_json.specs.Find.{get_member, as_str, as_array, as_bool}
use Rattle.json_path.specs.PathMachine.{path_of}
use Rattle.plan_json.specs.Place.{Place}
use Rattle.element_props.specs.declared.error.BuildError.{BuildError}
use Rattle.element_props.specs.declared.error.BuildError.TheVariants.{BadProp, MissingProp}
use Rattle.element_props.specs.NamedProps.{NamedValue, ◌holds◌}
use Rattle.element_props.specs.declared.prop.Prop.{Prop}
use Rattle.element_props.specs.declared.prop.Prop.TheVariants as props
use Rattle.element_props.specs.FormRows.{Form, template, plain, filled, lock, whole, up_to, flag, choice, pattern, test_patterns, pairs, replies, texts, csv, json_path, largest, Row}
use Rattle.element_props.specs.Reads.{◌>>=◌, refuse_if, or_refuse, outcome}
use Rattle.element_props.specs.Forms.{given, value_of, finished, cond_checked, pairs_checked, pattern_checked, pattern_asked, tests_given, tests_checked, regexes_checked, each_asked, whole_of, has_long, is_too_long, text_limit, whole_within, within, up_to_bound, filled_text, path_text, table_text, bad_pair, has_reference, few_of, is_pattern, is_test_patterns}
use Rattle.element_props.specs.ChoiceTexts.{word_in}
use Rattle.element_props.specs.Conditions.{bad_condition}
use Rattle.element_props.specs.Props.{prop_at, absent_value, property, property_of, properties, own_properties, missing, unknown, is_required, no_name}
use Rattle.element_tree.specs.Fits.{FitsForm, FitsRow, FitsAll, IsShort, IsFilled}
use Rattle.element_tree.proofs.Outcomes.{bind_ok, over_ok, or_ok, refuse_ok, both}

-- ---- options

map_some : {A B : Type 0} (f : A → B) (o : Option A) (y : B) → option_map f o ≡ Some y → (x : A) × (o ≡ Some x) × (f x ≡ y)
map_some f None y h = cc
map_some f (Some x) y h = (x, refl, cc)

then_some : {A B : Type 0} (f : A → Option B) (o : Option A) (y : B) → option_and_then f o ≡ Some y → (x : A) × (o ≡ Some x) × (f x ≡ Some y)
then_some f None y h = cc
then_some f (Some x) y h = (x, refl, h)

if_some : {A : Type 0} (b : Bool) (o : Option A) (y : A) → cond b o None ≡ Some y → (b ≡ true) × (o ≡ Some y)
if_some true o y h = (refl, h)
if_some false o y h = cc

same : {A : Type 0} (x y : A) → ◌≡◌ {A = Option A} (Some x) (Some y) → x ≡ y
same x y h = cc

neither : (a b : Bool) → (a || b) ≡ false → (a ≡ false) × (b ≡ false)
neither true b h = absurd (true≢false h)
neither false b h = (refl, h)

-- ---- a text

text_is : (d : Data) (s : List ℕ) → as_str d ≡ Some s → d ≡ string s
text_is null s h = cc
text_is (boolean b) s h = cc
text_is (number n) s h = cc
text_is (string t) s h = ap string (same t s h)
text_is (array ds) s h = cc
text_is (object ms) s h = cc

short_text : (d : Data) (s : List ℕ) → as_str d ≡ Some s → has_long text_limit d ≡ false → IsShort 65536 s
short_text d s h long = rw (text_is d s h) at long

filled_some : (s t : List ℕ) → filled_text s ≡ Some t → (s ≡ t) × IsFilled t
filled_some [] t h = cc
filled_some (x ∷ xs) t h = let e = same (x ∷ xs) t h in let P : List ℕ → Type 0 = λ u. (x ∷ xs ≡ u) × IsFilled u in subst P e (refl, refl)

-- ---- a number

within_is : (low high z w : ℤ) → within low high z ≡ Some w → (int_le low w && int_le w high) ≡ true
within_is low high z w h =
    let c = if_some (int_le low z && int_le z high) (Some z) w h in
    let P : ℤ → Type 0 = λ v. (int_le low v && int_le v high) ≡ true in
    subst P (same z w c.1) c.0

whole_is : (low high : ℤ) (d : Data) (w : ℤ) → whole_within low high d ≡ Some w → (int_le low w && int_le w high) ≡ true
whole_is low high d w h = let x = then_some (within low high) _ w h in within_is low high x.0 w x.2

and_both : (a b c : Bool) → (a && b) ≡ true → (b ≡ true → c ≡ true) → (a && c) ≡ true
and_both true b c h f = f h
and_both false b c h f = absurd (true≢false (sym h))

below_trans : (x y z : ℤ) → int_le x y ≡ true → int_le y z ≡ true → int_le x z ≡ true
below_trans (pos a) (pos b) (pos c) h k = grind (arith, nat_tests)
below_trans (pos a) (pos b) (negsuc c) h k = absurd (true≢false (sym k))
below_trans (pos a) (negsuc b) z h k = absurd (true≢false (sym h))
below_trans (negsuc a) (pos b) (pos c) h k = refl
below_trans (negsuc a) (pos b) (negsuc c) h k = absurd (true≢false (sym k))
below_trans (negsuc a) (negsuc b) (pos c) h k = refl
below_trans (negsuc a) (negsuc b) (negsuc c) h k = grind (arith, nat_tests)

bound_of : (o : Option ℤ) → ((w : ℤ) → o ≡ Some w → int_le w largest ≡ true) → int_le (unwrap_or o largest) largest ≡ true
bound_of None f = refl
bound_of (Some w) f = f w refl

bound_low : (name : List ℕ) (ms : Members) → int_le (up_to_bound name ms) largest ≡ true
bound_low name ms = bound_of (option_and_then (whole_within (pos 0) largest) (get_member name ms)) (λ w h.
    let x = then_some (whole_within (pos 0) largest) (get_member name ms) w h in
    (both (int_le (pos 0) w) (int_le w largest) (whole_is (pos 0) largest x.0 w x.2)).1)

-- ---- a choice

word_fits : (words : List (List ℕ)) (s t : List ℕ) → word_in words s ≡ Some t → list_any (λ w. bytes_eq w t) words ≡ true
word_fits words s t h =
    let c = if_some (list_any (λ w. bytes_eq w s) words) (Some s) t h in
    let P : List ℕ → Type 0 = λ u. list_any (λ w. bytes_eq w u) words ≡ true in
    subst P (same s t c.1) c.0

-- ---- a value of a form

finished_same : (place : Place) (p q : Prop) → outcome (finished place p) ≡ Ok q → p ≡ q
finished_same place (props.Template s) q h = go (bad_condition s) h where
  go : (o : Option ℕ) → outcome (cond_checked place s o) ≡ Ok q → props.Template s ≡ q
  go None h = over_ok (props.Template s) q h
  go (Some n) h = cc
finished_same place (props.Pairs ps) q h = go (bad_pair ps) h where
  go : (o : Option ℕ) → outcome (pairs_checked place ps o) ≡ Ok q → props.Pairs ps ≡ q
  go None h = over_ok (props.Pairs ps) q h
  go (Some n) h = cc
finished_same place p q h = over_ok p q h

fits_as : (form : Form) (p q : Prop) → p ≡ q → FitsForm form p → FitsForm form q
fits_as form p q e f = let Q : Prop → Type 0 = λ r. FitsForm form r in subst Q e f

text_with : (form : Form) (p : Prop) (o : Option (List ℕ)) → ((s : List ℕ) → o ≡ Some s → FitsForm form (props.Text s)) → option_map props.Text o ≡ Some p → FitsForm form p
text_with form p o from h = let x = map_some props.Text o p h in fits_as form (props.Text x.0) p x.2 (from x.0 x.1)

table_some : (o : Option ℕ) (s t : List ℕ) → table_text o s ≡ Some t → s ≡ t
table_some None s t h = cc
table_some (Some width) s t h = let c = if_some _ (Some s) t h in same s t c.1

short_as : (limit : ℕ) (s t : List ℕ) → s ≡ t → IsShort limit s → IsShort limit t
short_as limit s t e h = let P : List ℕ → Type 0 = λ u. IsShort limit u in subst P e h

module _ (ms : Members) (d : Data) (p : Prop) where
  filled_with : (form : Form) (limit : ℕ) → ((s : List ℕ) → IsShort limit s → IsFilled s → FitsForm form (props.Text s)) → ((s : List ℕ) → as_str d ≡ Some s → IsShort limit s)
      → option_map props.Text (option_and_then filled_text (as_str d)) ≡ Some p → FitsForm form p
  filled_with form limit into short h = text_with form p _ (λ s e.
      let x = then_some filled_text (as_str d) s e in
      let f = filled_some x.0 s x.2 in
      into s (short_as limit x.0 s f.0 (short x.0 x.1)) f.1) h

  lock_short : is_too_long lock d ≡ false → (s : List ℕ) → as_str d ≡ Some s → IsShort 256 s
  lock_short long s e = let k = (neither (has_long text_limit d) _ long).1 in rw e at k

  value_fits : (form : Form) → (is_pattern form || is_test_patterns form) ≡ false → is_too_long form d ≡ false → value_of form ms d ≡ Some p → FitsForm form p
  value_fits template other long h = let x = map_some _ _ p h in fits_as template _ p x.2 tt
  value_fits plain other long h = text_with plain p (as_str d) (λ s e. short_text d s e long) h
  value_fits filled other long h = filled_with filled 65536 (λ s a b. (a, b)) (λ s e. short_text d s e long) h
  value_fits lock other long h = filled_with lock 256 (λ s a b. (a, b)) (lock_short long) h
  value_fits (whole low high) other long h = let x = map_some props.Number (whole_within low high d) p h in fits_as (whole low high) (props.Number x.0) p x.2 (whole_is low high d x.0 x.1)
  value_fits (up_to name) other long h =
      let x = map_some props.Number (whole_within (pos 0) (up_to_bound name ms) d) p h in
      let within_it = whole_is (pos 0) (up_to_bound name ms) d x.0 x.1 in
      fits_as (up_to name) (props.Number x.0) p x.2 (and_both (int_le (pos 0) x.0) (int_le x.0 (up_to_bound name ms)) (int_le x.0 largest) within_it (λ k. below_trans x.0 (up_to_bound name ms) largest k (bound_low name ms)))
  value_fits flag other long h = let x = map_some props.Truth (as_bool d) p h in fits_as flag (props.Truth x.0) p x.2 tt
  value_fits (choice words) other long h =
      let x = map_some props.Word (option_and_then (word_in words) (as_str d)) p h in
      let y = then_some (word_in words) (as_str d) x.0 x.1 in
      fits_as (choice words) (props.Word x.0) p x.2 (word_fits words y.0 x.0 y.2)
  value_fits pattern other long h = absurd (true≢false other)
  value_fits test_patterns other long h = absurd (true≢false other)
  value_fits pairs other long h = let x = map_some props.Pairs _ p h in fits_as pairs (props.Pairs x.0) p x.2 tt
  value_fits replies other long h = let x = map_some props.Replies _ p h in fits_as replies (props.Replies x.0) p x.2 tt
  value_fits texts other long h = let x = map_some props.Texts _ p h in fits_as texts (props.Texts x.0) p x.2 tt
  value_fits (csv names) other long h = text_with (csv names) p _ (λ s e.
      let x = then_some _ (as_str d) s e in
      short_as 65536 x.0 s (table_some _ x.0 s x.2) (short_text d x.0 x.1 long)) h
  value_fits json_path other long h = text_with json_path p _ (λ s e.
      let x = then_some path_text (as_str d) s e in
      let c = if_some (is_ok (path_of x.0)) (Some x.0) s x.2 in
      let is = same x.0 s c.1 in
      let P : List ℕ → Type 0 = λ t. is_ok (path_of t) ≡ true in
      (short_as 65536 x.0 s is (short_text d x.0 x.1 long), subst P is c.0)) h

asked_same : (place : Place) (s t : List ℕ) (refers : Bool) → outcome (pattern_asked place s refers) ≡ Ok t → s ≡ t
unfolding pattern_asked
asked_same place s t true h = cc
asked_same place s t false h = over_ok s t h

pattern_fits : (place : Place) (d : Data) (s : List ℕ) (p : Prop) → as_str d ≡ Some s → has_long text_limit d ≡ false → outcome (pattern_checked place s (has_reference s)) ≡ Ok p → FitsForm pattern p
unfolding pattern_checked
pattern_fits place d s p e long h =
    let a = bind_ok (pattern_asked place s (has_reference s)) _ p h in
    fits_as pattern (props.Pattern a.0) p (over_ok (props.Pattern a.0) p a.2) (short_as 65536 s a.0 (asked_same place s a.0 (has_reference s) a.1) (short_text d s e long))

regexes_fit : (place : Place) (fully : Bool) (ss : List (List ℕ)) (p : Prop) → outcome (regexes_checked place fully ss) ≡ Ok p → FitsForm test_patterns p
unfolding regexes_checked
regexes_fit place fully ss p h = let a = bind_ok (each_asked place fully ss) _ p h in fits_as test_patterns (props.Patterns ss ss (whole_of fully ss)) p (over_ok _ p a.2) tt

tests_fit : (place : Place) (regex fully any : Bool) (ss : List (List ℕ)) (p : Prop) → (regex || fully) ≡ any → outcome (tests_checked place regex fully ss) ≡ Ok p → FitsForm test_patterns p
unfolding tests_checked
tests_fit place regex fully true ss p e h = regexes_fit place fully ss p (rw e at h)
tests_fit place regex fully false ss p e h = let k = rw e at h in fits_as test_patterns (props.Patterns ss [] []) p (over_ok (props.Patterns ss [] []) p k) tt

tests_given_fit : (place : Place) (ms : Members) (d : Data) (p : Prop) → outcome (tests_given place ms d) ≡ Ok p → FitsForm test_patterns p
unfolding tests_given
tests_given_fit place ms d p h =
    let a = bind_ok (or_refuse (option_and_then (few_of 64 as_str) (as_array d)) _) _ p h in
    tests_fit place _ _ _ a.0 p refl a.2

given_value : (form : Form) (ms : Members) (place : Place) (d : Data) (p : Prop) (e : BuildError) → (is_pattern form || is_test_patterns form) ≡ false → is_too_long form d ≡ false
    → outcome (or_refuse (value_of form ms d) e >>= finished place) ≡ Ok p → FitsForm form p
given_value form ms place d p e other long h =
    let a = bind_ok (or_refuse (value_of form ms d) e) (finished place) p h in
    fits_as form a.0 p (finished_same place a.0 p a.2) (value_fits ms d a.0 form other long (or_ok (value_of form ms d) e a.0 a.1))

given_fits : (form : Form) (ms : Members) (place : Place) (d : Data) (p : Prop) (is_p is_t : Bool) → is_pattern form ≡ is_p → is_test_patterns form ≡ is_t → outcome (given form ms place d) ≡ Ok p
    → ((q : Prop) → FitsForm pattern q → is_p ≡ true → FitsForm form q) → ((q : Prop) → FitsForm test_patterns q → is_t ≡ true → FitsForm form q) → (is_p ≡ true → is_too_long form d ≡ has_long text_limit d) → FitsForm form p
unfolding given
given_fits form ms place d p true is_t e k h as_pattern as_tests plain_long =
    let a = bind_ok (refuse_if (is_too_long form d) _) _ p h in
    let opened = rw e at a.2 in
    let b = bind_ok (or_refuse (as_str d) _) _ p opened in
    as_pattern p (pattern_fits place d b.0 p (or_ok (as_str d) _ b.0 b.1) (sym (plain_long refl) ∙ refuse_ok _ _ a.0 a.1) b.2) refl
given_fits form ms place d p false true e k h as_pattern as_tests plain_long =
    let a = bind_ok (refuse_if (is_too_long form d) _) _ p h in
    let opened = rw (e, k) at a.2 in
    as_tests p (tests_given_fit place ms d p opened) refl
given_fits form ms place d p false false e k h as_pattern as_tests plain_long =
    let a = bind_ok (refuse_if (is_too_long form d) _) _ p h in
    let opened = rw (e, k) at a.2 in
    given_value form ms place d p _ (rw (e, k) refl) (refuse_ok _ _ a.0 a.1) opened

is_patterns : (form : Form) → is_pattern form ≡ true → form ≡ pattern
is_patterns pattern h = refl
is_patterns form h = absurd (true≢false (sym h))

are_tests : (form : Form) → is_test_patterns form ≡ true → form ≡ test_patterns
are_tests test_patterns h = refl
are_tests form h = absurd (true≢false (sym h))

pub fits_form : (form : Form) (ms : Members) (place : Place) (d : Data) (p : Prop) → outcome (given form ms place d) ≡ Ok p → FitsForm form p
fits_form form ms place d p h = given_fits form ms place d p (is_pattern form) (is_test_patterns form) refl refl h
    (λ q f e. rw (is_patterns form e) f) (λ q f e. rw (are_tests form e) f) (λ e. rw (is_patterns form e) refl)

-- ---- a property, and all of them

no_absent : (form : Form) → FitsForm form props.Absent → ⊥
no_absent template f = f
no_absent plain f = f
no_absent filled f = f
no_absent lock f = f
no_absent (whole a b) f = f
no_absent (up_to n) f = f
no_absent flag f = f
no_absent (choice w) f = f
no_absent pattern f = f
no_absent test_patterns f = f
no_absent pairs f = f
no_absent replies f = f
no_absent texts f = f
no_absent (csv n) f = f
no_absent json_path f = f

fits_row : (row : Row) (p : Prop) → FitsForm row.form p → FitsRow row p
fits_row row props.Absent f = absurd (no_absent row.form f)
fits_row row p f = f

property_fits : (places : List ℕ) (ms : Members) (row : Row) (p : Prop) → ((get_member row.name ms ≡ None) → FitsRow row (absent_value row.form row.presence)) → outcome (property places ms row) ≡ Ok p → FitsRow row p
unfolding property
property_fits places ms row p absent h = go (get_member row.name ms) refl h where
  go : (o : Option Data) → get_member row.name ms ≡ o → outcome (property_of places ms row o) ≡ Ok p → FitsRow row p
  go None e k = let Q : Prop → Type 0 = λ q. FitsRow row q in subst Q (over_ok _ p k) (absent e)
  go (Some d) e k = fits_row row p (fits_form row.form ms (prop_at places row.name) d p k)

-- what stands for absent properties fits
abbrev pub DefaultsFit : List Row → Type 0
DefaultsFit [] = Unit {0}
DefaultsFit (row ∷ rows) = (is_required row.presence ≡ false → FitsRow row (absent_value row.form row.presence)) × DefaultsFit rows

-- no required property is absent
record Present (row : Row) (rows : List Row) (ms : Members) : Type 0 where
  here : get_member row.name ms ≡ None → is_required row.presence ≡ false
  later : missing ms rows ≡ None

present : (row : Row) (rows : List Row) (ms : Members) (required : Bool) (o : Option Data) → is_required row.presence ≡ required → get_member row.name ms ≡ o
    → cond required (cond (is_some o) (missing ms rows) (Some row.name)) (missing ms rows) ≡ None → Present row rows ms
present row rows ms true None e k h = cc
present row rows ms true (Some d) e k h = record { here = λ none. let f : ◌≡◌ {A = Option Data} (Some d) None = sym k ∙ none in cc; later = h }
present row rows ms false o e k h = record { here = λ none. e; later = h }

pub properties_fit : (places : List ℕ) (ms : Members) (rows : List Row) (ps : List NamedValue) → DefaultsFit rows → missing ms rows ≡ None → outcome (properties places ms rows) ≡ Ok ps → FitsAll rows ps
unfolding properties
properties_fit places ms [] ps defaults here h = let e = over_ok [] ps h in let Q : List NamedValue → Type 0 = λ qs. FitsAll [] qs in subst Q e tt
properties_fit places ms (row ∷ rows) ps defaults here h =
    let a = bind_ok (property places ms row) _ ps h in
    let b = bind_ok (properties places ms rows) _ ps a.2 in
    let p = present row rows ms (is_required row.presence) (get_member row.name ms) refl refl here in
    let Q : List NamedValue → Type 0 = λ qs. FitsAll (row ∷ rows) qs in
    subst Q (over_ok ((row.name holds a.0) ∷ b.0) ps b.2) (refl, property_fits places ms row a.0 (λ none. defaults.0 (p.here none)) a.1, properties_fit places ms rows b.0 defaults.1 p.later b.1)

none_named : (fault : Place → BuildError) (places : List ℕ) (o : Option (List ℕ)) (u : Unit {0}) → outcome (no_name fault places o) ≡ Ok u → o ≡ None
none_named fault places None u h = refl
none_named fault places (Some name) u h = cc

pub own_fit : (places : List ℕ) (ms : Members) (rows : List Row) (ps : List NamedValue) → DefaultsFit rows → outcome (own_properties places ms rows) ≡ Ok ps → FitsAll rows ps
unfolding own_properties
own_fit places ms rows ps defaults h =
    let a = bind_ok (no_name BadProp places (unknown rows ms)) _ ps h in
    let b = bind_ok (no_name MissingProp places (missing ms rows)) _ ps a.2 in
    properties_fit places ms rows ps defaults (none_named MissingProp places (missing ms rows) b.0 b.1) b.2
