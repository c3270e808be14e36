-- A value that was read under a form is written so that it is read again under it.
use Rattle.std.proofs.Common.{◌≡◌, ℕ, zero, suc, ◌<◌, ◌≤◌, ◌^◌, ℤ, pos, negsuc, Bool, true, false, ◌||◌, ◌&&◌, List, [], ◌∷◌, length, Option, Some, None, option_map, option_and_then, refl, sym, ap, ◌∙◌, if◌then◌else◌, bytes_eq, nat_lt, nat_le, int_le, arith, decimal, unwrap_or, true≢false, IsUtf8}
use Rattle.std.specs.Prelude.{slice_index}
use Rattle.std.specs.Str.Lossy.{utf8_lossy}
use Rattle.std.specs.List.{list_any}
use Rattle.std.specs.Fmt.{signed_decimal}
use Rattle.std.proofs.lemmas.Str.{utf8_lossy-IsUtf8, IsUtf8-append, IsUtf8-from_ascii}
use Rattle.std.proofs.lemmas.Fmt.{IsAscii-decimal}
use Rattle.std.proofs.lemmas.Bool.Decides.{nat_tests}
use Rattle.serde_json.specs.Data.{Num, unsigned, negative, float, Data, null, boolean, number, string, array, object, Items, no_items, item}
use Rattle.serde_json.specs.Events.{items_len}
use Rattle.serde_json.specs.Find.{as_str, as_bool, as_array, as_number, as_i64, of_integer}
use Rattle.template_text.specs.Pieces.{spelling}
use Rattle.template_text.specs.Scan.{reading}
use Rattle.template_text.proofs.Readings.{reading_is}
use Rattle.element_props.specs.declared.prop.Prop.{Prop}
use Rattle.element_props.specs.declared.prop.Prop.TheVariants as props
use Rattle.element_props.specs.declared.prop.Pair.{Pair}
use Rattle.element_props.specs.ChoiceTexts.{word_in}
use Rattle.element_props.specs.Conditions.{bad_condition}
use Rattle.element_props.specs.Forms.{has_long, items_have_long, number_text, template_text, filled_text, within, whole_within, pair_from, pair_in, all_of, few_of, path_text, table_text, bad_pair}
use Rattle.element_props.specs.PropertiesWritten.{text_data, pair_data, items_by, value_data}
use Rattle.element_props.specs.FormRows.{largest}
use Rattle.element_props.specs.Again.{HasWidth, IsJson, AreJson}
use Rattle.element_props.proofs.FormLaws.{short_decimal, short_signed}
use Rattle.element_props.proofs.TakenLaws.{no_fault, checked}

-- ---- steps that may fail

pub and_then_some : {A B : Type 0} (f : A → Option B) (o : Option A) (y : B) → option_and_then f o ≡ Some y → (x : A) × (o ≡ Some x) × (f x ≡ Some y)
and_then_some f None y h = cc
and_then_some f (Some x) y h = (x, refl, h)

pub map_some : {A B : Type 0} (f : A → B) (o : Option A) (y : B) → option_map f o ≡ Some y → (x : A) × (o ≡ Some x) × (f x ≡ y)
map_some f None y h = cc
map_some f (Some x) y h = (x, refl, cc)

pub unless_some : {A : Type 0} (b : Bool) (o : Option A) (y : A) → (if b then None else o) ≡ Some y → (b ≡ false) × (o ≡ Some y)
unless_some true o y h = cc
unless_some false o y h = (refl, h)

pub where_some : {A : Type 0} (b : Bool) (o : Option A) (y : A) → (if b then o else None) ≡ Some y → (b ≡ true) × (o ≡ Some y)
where_some true o y h = (refl, h)
where_some false o y h = cc

pub or_false : (a b : Bool) → (a || b) ≡ false → (a ≡ false) × (b ≡ false)
or_false false b h = (refl, h)
or_false true b h = absurd (true≢false h)

pub and_true : (a b : Bool) → (a && b) ≡ true → (a ≡ true) × (b ≡ true)
and_true true b h = (refl, h)
and_true false b h = cc

-- a value that passes is what was checked
no_fault_same : {A : Type 0} (o : Option ℕ) (x y : A) → no_fault o x ≡ Some y → x ≡ y
no_fault_same None x y h = cc
no_fault_same (Some n) x y h = cc

pub checked_same : (p q : Prop) → checked p ≡ Some q → p ≡ q
checked_same (props.Template s) q h = no_fault_same (bad_condition s) (props.Template s) q h
checked_same (props.Pairs ps) q h = no_fault_same (bad_pair ps) (props.Pairs ps) q h
checked_same p q h = cc

-- what was read, before its conditions were checked
pub checked_of : {A : Type 0} (f : A → Prop) (o : Option A) (p : Prop) → option_and_then checked (option_map f o) ≡ Some p → (x : A) × (o ≡ Some x) × (f x ≡ p) × (checked p ≡ Some p)
checked_of f o p h =
    let a = and_then_some checked (option_map f o) p h in
    let b = map_some f o a.0 a.1 in
    let e : a.0 ≡ p = checked_same a.0 p a.2 in
    let k : checked p ≡ Some p = ap checked (sym e) ∙ a.2 in
    (b.0, b.1, b.2 ∙ e, k)

pub checked_to : {A : Type 0} (f : A → Prop) (o : Option A) (x : A) (p : Prop) → o ≡ Some x → f x ≡ p → checked p ≡ Some p → option_and_then checked (option_map f o) ≡ Some p
checked_to f o x p e is k = rw e (ap checked is ∙ k)

-- ---- texts

pub short_text : (s : List ℕ) → nat_lt 65536 (length s) ≡ false → length s ≤ 65536
short_text s h = grind (arith, nat_tests)

pub not_long : (n : ℕ) → n ≤ 65536 → nat_lt 65536 n ≡ false
not_long n h = grind (arith, nat_tests)

pub text_kept : (d : Data) (s : List ℕ) → as_str d ≡ Some s → IsJson d → text_data s ≡ d
text_kept (string t) s h j = let e : s ≡ t = cc in rw e (ap string (utf8_lossy-IsUtf8 t j))
text_kept null s h j = cc
text_kept (boolean b) s h j = cc
text_kept (number n) s h j = cc
text_kept (array ds) s h j = cc
text_kept (object ms) s h j = cc

pub filled_same : (s t : List ℕ) → filled_text s ≡ Some t → t ≡ s
filled_same [] t h = cc
filled_same (x ∷ xs) t h = cc

pub path_same : (s t : List ℕ) → path_text s ≡ Some t → t ≡ s
path_same s t h = let k = where_some _ (Some s) t h in cc

pub table_same : (w : Option ℕ) (s t : List ℕ) → table_text w s ≡ Some t → t ≡ s
table_same None s t h = cc
table_same (Some n) s t h = let k = where_some _ (Some s) t h in cc

-- a text that some test lets pass is written as it was given
pub passed_kept : (f : List ℕ → Option (List ℕ)) → ((s t : List ℕ) → f s ≡ Some t → t ≡ s) → (d : Data) (p : Prop)
    → option_and_then checked (option_map props.Text (option_and_then f (as_str d))) ≡ Some p → IsJson d → value_data p ≡ d
passed_kept f same d p h j =
    let a = checked_of props.Text (option_and_then f (as_str d)) p h in
    let b = and_then_some f (as_str d) a.0 a.1 in
    let e : text_data a.0 ≡ d = text_kept d a.0 (b.1 ∙ ap Some (sym (same b.0 a.0 b.2))) j in
    ap value_data (sym a.2) ∙ e

pub plain_kept : (d : Data) (p : Prop) → option_and_then checked (option_map props.Text (as_str d)) ≡ Some p → IsJson d → value_data p ≡ d
plain_kept d p h j =
    let a = checked_of props.Text (as_str d) p h in
    ap value_data (sym a.2) ∙ text_kept d a.0 a.1 j

-- ---- a template

minus_ascii : (i : ℕ) → slice_index (45 ∷ []) i < 128
minus_ascii zero = omega arith
minus_ascii (suc i) = omega arith

utf8_number : (n : Num) (t : List ℕ) → number_text n ≡ Some t → HasWidth n → IsUtf8 t
utf8_number (unsigned n) t h w = let e : decimal n ≡ t = cc in rw (← e) (IsUtf8-from_ascii (decimal n) (IsAscii-decimal n w))
utf8_number (negative (pos n)) t h w = let e : decimal n ≡ t = cc in rw (← e) (IsUtf8-from_ascii (decimal n) (IsAscii-decimal n (omega arith)))
utf8_number (negative (negsuc n)) t h w =
    let e : 45 ∷ decimal (suc n) ≡ t = cc in
    rw (← e) (IsUtf8-append (45 ∷ []) (decimal (suc n)) (IsUtf8-from_ascii (45 ∷ []) minus_ascii) (IsUtf8-from_ascii (decimal (suc n)) (IsAscii-decimal (suc n) (omega arith))))
utf8_number (float x) t h w = cc

short_number : (n : Num) (t : List ℕ) → number_text n ≡ Some t → HasWidth n → length t ≤ 65536
short_number (unsigned n) t h w = let e : decimal n ≡ t = cc in rw (← e) (short_decimal n w)
short_number (negative z) t h w = let e : signed_decimal z ≡ t = cc in rw (← e) (short_signed z w)
short_number (float x) t h w = cc

-- a text that stands for a template
pub record IsTemplateText (t : List ℕ) : Type 0 where
  pub utf8 : IsUtf8 t
  pub short : length t ≤ 65536

pub template_fits : (d : Data) (t : List ℕ) → template_text d ≡ Some t → IsJson d → has_long 65536 d ≡ false → IsTemplateText t
template_fits (string s) t h j short = let e : s ≡ t = cc in rw (← e) (record { utf8 = j; short = short_text s short })
template_fits (number n) t h j short = record { utf8 = utf8_number n t h j; short = short_number n t h j }
template_fits null t h j short = cc
template_fits (boolean b) t h j short = cc
template_fits (array ds) t h j short = cc
template_fits (object ms) t h j short = cc

pub respelled : (t : List ℕ) → IsUtf8 t → text_data (spelling (reading t)) ≡ string t
respelled t u = let is = reading_is t in ap string (ap utf8_lossy is.spelled ∙ utf8_lossy-IsUtf8 t u)

pub reread : (t : List ℕ) → reading (spelling (reading t)) ≡ reading t
reread t = let is = reading_is t in ap reading is.spelled

-- ---- whole numbers

small : (n : ℕ) (high : ℤ) → int_le (pos n) high ≡ true → int_le high largest ≡ true → nat_lt n (2 ^ 63) ≡ true
small n (pos h) a b = grind (arith, nat_tests)
small n (negsuc h) a b = cc

pub whole_again : (low high z : ℤ) → int_le high largest ≡ true → within low high z ≡ Some z → whole_within low high (number (of_integer z)) ≡ Some z
whole_again low high (pos n) top h =
    let w = where_some (int_le low (pos n) && int_le (pos n) high) (Some (pos n)) (pos n) h in
    let bounds = and_true (int_le low (pos n)) (int_le (pos n) high) w.0 in
    let m : nat_lt n (2 ^ 63) ≡ true = small n high bounds.1 top in
    rw m h
whole_again low high (negsuc n) top h = h

within_same : (low high y z : ℤ) → within low high y ≡ Some z → within low high z ≡ Some z
within_same low high y z h =
    let w = where_some (int_le low y && int_le y high) (Some y) z h in
    let e : y ≡ z = cc in
    ap (within low high) (sym e) ∙ h

-- what a value in a range is, is in the range
pub whole_inside : (low high z : ℤ) (d : Data) → whole_within low high d ≡ Some z → within low high z ≡ Some z
whole_inside low high z d h =
    let a = and_then_some (within low high) (option_and_then as_i64 (as_number d)) z h in
    within_same low high a.0 z a.2

largest_own : int_le largest largest ≡ true
largest_own = refl

pub bound_small : (o : Option Data) → int_le (unwrap_or (option_and_then (whole_within (pos 0) largest) o) largest) largest ≡ true
bound_small None = largest_own
bound_small (Some d) = at_most (whole_within (pos 0) largest d) (λ z h. inside z (whole_inside (pos 0) largest z d h))
  where
    at_most : (r : Option ℤ) → ((z : ℤ) → r ≡ Some z → int_le z largest ≡ true) → int_le (unwrap_or r largest) largest ≡ true
    at_most None k = largest_own
    at_most (Some z) k = k z refl

    inside : (z : ℤ) → within (pos 0) largest z ≡ Some z → int_le z largest ≡ true
    inside z h =
        let w = where_some (int_le (pos 0) z && int_le z largest) (Some z) z h in
        let b = and_true (int_le (pos 0) z) (int_le z largest) w.0 in
        b.1

-- ---- one text of a choice

pub word_same : (words : List (List ℕ)) (s t : List ℕ) → word_in words s ≡ Some t → t ≡ s
word_same words s t h = let k = where_some (list_any (λ w. bytes_eq w s) words) (Some s) t h in cc

pub string_is : (d : Data) (s : List ℕ) → as_str d ≡ Some s → string s ≡ d
string_is (string t) s h = let e : s ≡ t = cc in ap string e
string_is null s h = cc
string_is (boolean b) s h = cc
string_is (number n) s h = cc
string_is (array ds) s h = cc
string_is (object ms) s h = cc

pub truth_is : (d : Data) (b : Bool) → as_bool d ≡ Some b → boolean b ≡ d
truth_is (boolean c) b h = let e : b ≡ c = cc in ap boolean e
truth_is null b h = cc
truth_is (string s) b h = cc
truth_is (number n) b h = cc
truth_is (array ds) b h = cc
truth_is (object ms) b h = cc

pub array_is : (d : Data) (ds : Items) → as_array d ≡ Some ds → d ≡ array ds
array_is (array es) ds h = let e : es ≡ ds = cc in ap array e
array_is null ds h = cc
array_is (string s) ds h = cc
array_is (number n) ds h = cc
array_is (boolean b) ds h = cc
array_is (object ms) ds h = cc

-- ---- lists

-- what was written of a value that was read is read again, and its texts are short
abbrev pub ReadsBack : {A : Type 0} → (Data → Option A) → (A → Data) → Type 0
ReadsBack {A} read write = (d : Data) (x : A) → IsJson d → has_long 65536 d ≡ false → read d ≡ Some x → (read (write x) ≡ Some x) × (has_long 65536 (write x) ≡ false)

-- the same of a list
pub record ListAgain {A : Type 0} (read : Data → Option A) (write : A → Data) (ds : Items) (xs : List A) : Type 0 where
  pub again : all_of read (items_by write xs) ≡ Some xs
  pub short : items_have_long 65536 (items_by write xs) ≡ false
  pub len : items_len (items_by write xs) ≡ items_len ds

module _ {A : Type 0} (read : Data → Option A) (write : A → Data) (back : ReadsBack read write) where
  list_step : (d : Data) (ds : Items) (x : A) (xs ys : List A) → x ∷ xs ≡ ys → IsJson d → has_long 65536 d ≡ false → read d ≡ Some x → ListAgain read write ds xs → ListAgain read write (item d ds) ys
  list_step d ds x xs ys e j short is l =
      let b = back d x j short is in
      rw (← e) (record { again = rw (b.0, l.again) refl; short = rw (b.1) l.short; len = ap suc l.len })

  pub list_again : (ds : Items) (xs : List A) → AreJson ds → items_have_long 65536 ds ≡ false → all_of read ds ≡ Some xs → ListAgain read write ds xs
  list_again no_items xs j short h = let e : [] ≡ xs = cc in rw (← e) (record { again = refl; short = refl; len = refl })
  list_again (item d ds) xs j short h =
      let s = or_false (has_long 65536 d) (items_have_long 65536 ds) short in
      let a = and_then_some (λ x. option_map (λ xs. x ∷ xs) (all_of read ds)) (read d) xs h in
      let b = map_some (λ xs. a.0 ∷ xs) (all_of read ds) xs a.2 in
      list_step d ds a.0 b.0 xs b.2 j.0 s.0 a.1 (list_again ds b.0 j.1 s.1 b.1)

  -- 1 to that many of them
  pub few_again : (most : ℕ) (d : Data) (xs : List A) → IsJson d → has_long 65536 d ≡ false → option_and_then (few_of most read) (as_array d) ≡ Some xs
      → (few_of most read (items_by write xs) ≡ Some xs) × (items_have_long 65536 (items_by write xs) ≡ false)
  few_again most d xs j short h =
      let a = and_then_some (few_of most read) (as_array d) xs h in
      let is : d ≡ array a.0 = array_is d a.0 a.1 in
      let w = where_some (nat_le 1 (items_len a.0) && nat_le (items_len a.0) most) (all_of read a.0) xs a.2 in
      let l = list_again a.0 xs (rw is at j) (rw is at short) w.1 in
      (rw (l.len, w.0) l.again, l.short)

pub texts_back : ReadsBack as_str text_data
texts_back d s j short h =
    let e : text_data s ≡ d = text_kept d s h j in
    (ap as_str e ∙ h, ap (has_long 65536) e ∙ short)

-- ---- pairs

pair_written : (a b n : Data) (name t : List ℕ) → a ≡ n → b ≡ string t → as_str n ≡ Some name → has_long 65536 n ≡ false → length t ≤ 65536
    → (pair_in (array (item a (item b no_items))) ≡ Some (record { name = name; value = reading t })) × (has_long 65536 (array (item a (item b no_items))) ≡ false)
pair_written a b n name t ea eb is short few = (rw (ea, eb, is) refl, rw (ea, eb, short, not_long (length t) few) refl)

pair_made : (name t : List ℕ) (n : Data) (p : Pair) → as_str n ≡ Some name → IsJson n → has_long 65536 n ≡ false → IsTemplateText t → record { name = name; value = reading t } ≡ p
    → (pair_in (pair_data p) ≡ Some p) × (has_long 65536 (pair_data p) ≡ false)
pair_made name t n p is j short good e =
    rw (← e) (pair_written (text_data name) (text_data (spelling (reading t))) n name t (text_kept n name is j) (respelled t good.utf8) is short good.short)

pair_from_back : (n v : Data) (p : Pair) → IsJson n → has_long 65536 n ≡ false → IsJson v → has_long 65536 v ≡ false → pair_from n v ≡ Some p → (pair_in (pair_data p) ≡ Some p) × (has_long 65536 (pair_data p) ≡ false)
pair_from_back n v p jn sn jv sv h =
    let a = and_then_some (λ (name : List ℕ). option_map (λ (t : List ℕ). record { name = name; value = reading t }) (template_text v)) (as_str n) p h in
    let b = map_some (λ (t : List ℕ). record { name = a.0; value = reading t }) (template_text v) p a.2 in
    pair_made a.0 b.0 n p a.1 jn sn (template_fits v b.0 b.1 jv sv) b.2

pub pairs_back : ReadsBack pair_in pair_data
pairs_back (array (item n (item v no_items))) p j short h =
    let s = or_false (has_long 65536 n) (has_long 65536 v || false) short in
    let t = or_false (has_long 65536 v) false s.1 in
    pair_from_back n v p j.0 s.0 j.1.0 t.0 h
pairs_back (array (item n (item v (item w ds)))) p j short h = cc
pairs_back (array (item n no_items)) p j short h = cc
pairs_back (array no_items) p j short h = cc
pairs_back null p j short h = cc
pairs_back (string s) p j short h = cc
pairs_back (number n) p j short h = cc
pairs_back (boolean b) p j short h = cc
pairs_back (object ms) p j short h = cc
