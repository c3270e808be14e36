-- A property that was read is written, or left out, so that it is read again.
use Rattle.std.proofs.Common.{◌≡◌, ℕ, ◌≤◌, ℤ, pos, negsuc, Bool, true, false, ◌||◌, List, [], length, Option, Some, None, option_map, option_and_then, refl, sym, ap, ◌∙◌, subst, if◌then◌else◌, int_le, arith, is_some}
use Rattle.std.proofs.lemmas.Slice.Eq.{bytes_eq-Decides}
use Rattle.std.proofs.lemmas.Bool.Decides.{nat_tests}
use Rattle.serde_json.specs.Data.{Data, number, string, array, Items, Members}
use Rattle.serde_json.specs.Find.{get_member, as_str, as_bool, as_array, of_integer}
use Rattle.template_text.specs.Pieces.{spelling}
use Rattle.template_text.specs.Scan.{reading}
use Rattle.template_text.proofs.Readings.{reading_is}
use Rattle.element_props.specs.declared.choices.TestKind.TheVariants as kinds
use Rattle.element_props.specs.declared.prop.Prop.{Prop}
use Rattle.element_props.specs.declared.prop.Prop.TheVariants as props
use Rattle.element_props.specs.declared.prop.Pair.{Pair}
use Rattle.element_props.specs.Forms.{has_long, items_have_long, is_too_long, template_text, filled_text, whole_within, pair_in, all_of, few_of, path_text, table_text, has_reference, up_to_bound, list_len, is_test, whole_of}
use Rattle.element_props.specs.ChoiceTexts.{word_in}
use Rattle.element_props.specs.Replies.{reply_in}
use Rattle.element_props.specs.Props.{absent_value, is_template, is_required}
use Rattle.element_props.specs.PropertiesWritten.{text_data, pair_data, reply_data, items_by, value_data, unless, int_eq, same_truth, is_default}
use Rattle.element_props.specs.FormRows.{Row, Form, template, plain, filled, lock, whole, up_to, flag, choice, pattern, test_patterns, pairs, replies, texts, csv, json_path, Presence, required, optional, text_default, number_default, truth_default, first_choice, no_pairs, largest, first_word}
use Rattle.element_props.specs.Again.{IsJson, Stands}
use Rattle.element_props.proofs.TakenLaws.{checked, pattern_taken, any_reference, tests_taken, formed, taken, value_from}
use Rattle.element_props.proofs.FormsAgain.{and_then_some, unless_some, checked_of, checked_to, plain_kept, passed_kept, text_kept, filled_same, path_same, table_same, template_fits, respelled, reread, not_long, whole_again, whole_inside, bound_small, word_same, string_is, truth_is, array_is, list_again, few_again, texts_back, pairs_back}
use Rattle.element_props.proofs.RepliesAgain.{replies_back}

-- what a form looks at in other properties is the same in both
abbrev pub Same : Form → Members → Members → Type 0
Same (up_to name) ms n = up_to_bound name ms ≡ up_to_bound name n
Same (csv names) ms n = list_len names ms ≡ list_len names n
Same test_patterns ms n = (is_test kinds.Contains ms ≡ is_test kinds.Contains n) × (is_test kinds.Matches ms ≡ is_test kinds.Matches n)
Same form ms n = Unit {0}

-- ---- a value under each form

template_read : (n : Members) (s : List ℕ) (p : Prop) → length s ≤ 65536 → props.Template (reading s) ≡ p → checked p ≡ Some p → taken template n (string s) ≡ Some p
template_read n s p short is k = rw (not_long (length s) short) (ap checked is ∙ k)

template_again : (ms n : Members) (d : Data) (p : Prop) → IsJson d → taken template ms d ≡ Some p → taken template n (value_data p) ≡ Some p
template_again ms n d p j h =
    let t = unless_some (has_long 65536 d) (formed template ms d) p h in
    let a = checked_of (λ (s : List ℕ). props.Template (reading s)) (template_text d) p t.1 in
    let good = template_fits d a.0 a.1 j t.0 in
    let e : value_data p ≡ string a.0 = ap value_data (sym a.2) ∙ respelled a.0 good.utf8 in
    ap (taken template n) e ∙ template_read n a.0 p good.short a.2 a.3

tests_value_at : (b c fully : Bool) (ss : List (List ℕ)) (p : Prop)
    → (if b then (if c then None else Some (props.Patterns ss ss (whole_of fully ss))) else Some (props.Patterns ss [] [])) ≡ Some p → value_data p ≡ array (items_by text_data ss)
tests_value_at true true fully ss p h = cc
tests_value_at true false fully ss p h = let e : props.Patterns ss ss (whole_of fully ss) ≡ p = cc in ap value_data (sym e)
tests_value_at false c fully ss p h = let e : props.Patterns ss [] [] ≡ p = cc in ap value_data (sym e)

tests_read : (n : Members) (ds : Items) (c m : Bool) (ss : List (List ℕ)) (p : Prop) → items_have_long 65536 ds ≡ false → few_of 64 as_str ds ≡ Some ss → c ≡ is_test kinds.Contains n → m ≡ is_test kinds.Matches n
    → tests_taken c m ss ≡ Some p → taken test_patterns n (array ds) ≡ Some p
tests_read n ds c m ss p short few ec em h = rw (short, few) (rw (← ec, ← em) h)

tests_again : (ms n : Members) (d : Data) (p : Prop) → Same test_patterns ms n → IsJson d → taken test_patterns ms d ≡ Some p → taken test_patterns n (value_data p) ≡ Some p
tests_again ms n d p same j h =
    let c = is_test kinds.Contains ms in
    let m = is_test kinds.Matches ms in
    let t = unless_some (has_long 65536 d) (formed test_patterns ms d) p h in
    let a = and_then_some (tests_taken c m) (option_and_then (few_of 64 as_str) (as_array d)) p t.1 in
    let f = few_again as_str text_data texts_back 64 d a.0 j t.0 a.1 in
    let e : value_data p ≡ array (items_by text_data a.0) = tests_value_at (c || m) (any_reference a.0) m a.0 p a.2 in
    ap (taken test_patterns n) e ∙ tests_read n (items_by text_data a.0) c m a.0 p f.1 f.0 same.0 same.1 a.2

pairs_read : (n : Members) (ds : Items) (ps : List Pair) (p : Prop) → items_have_long 65536 ds ≡ false → all_of pair_in ds ≡ Some ps → props.Pairs ps ≡ p → checked p ≡ Some p → taken pairs n (array ds) ≡ Some p
pairs_read n ds ps p short all is k = rw short (checked_to props.Pairs (all_of pair_in ds) ps p all is k)

pairs_again : (ms n : Members) (d : Data) (p : Prop) → IsJson d → taken pairs ms d ≡ Some p → taken pairs n (value_data p) ≡ Some p
pairs_again ms n d p j h =
    let t = unless_some (has_long 65536 d) (formed pairs ms d) p h in
    let a = checked_of props.Pairs (option_and_then (all_of pair_in) (as_array d)) p t.1 in
    let b = and_then_some (all_of pair_in) (as_array d) a.0 a.1 in
    let is : d ≡ array b.0 = array_is d b.0 b.1 in
    let l = list_again pair_in pair_data pairs_back b.0 a.0 (rw is at j) (rw is at (t.0)) b.2 in
    let e : value_data p ≡ array (items_by pair_data a.0) = ap value_data (sym a.2) in
    ap (taken pairs n) e ∙ pairs_read n (items_by pair_data a.0) a.0 p l.short l.again a.2 a.3

replies_read : (n : Members) (ds : Items) (rs : List _) (p : Prop) → items_have_long 65536 ds ≡ false → few_of 4096 reply_in ds ≡ Some rs → props.Replies rs ≡ p → checked p ≡ Some p → taken replies n (array ds) ≡ Some p
replies_read n ds rs p short few is k = rw short (checked_to props.Replies (few_of 4096 reply_in ds) rs p few is k)

replies_again : (ms n : Members) (d : Data) (p : Prop) → IsJson d → taken replies ms d ≡ Some p → taken replies n (value_data p) ≡ Some p
replies_again ms n d p j h =
    let t = unless_some (has_long 65536 d) (formed replies ms d) p h in
    let a = checked_of props.Replies (option_and_then (few_of 4096 reply_in) (as_array d)) p t.1 in
    let f = few_again reply_in reply_data replies_back 4096 d a.0 j t.0 a.1 in
    let e : value_data p ≡ array (items_by reply_data a.0) = ap value_data (sym a.2) in
    ap (taken replies n) e ∙ replies_read n (items_by reply_data a.0) a.0 p f.1 f.0 a.2 a.3

texts_read : (n : Members) (ds : Items) (ss : List (List ℕ)) (p : Prop) → items_have_long 65536 ds ≡ false → few_of 64 as_str ds ≡ Some ss → props.Texts ss ≡ p → checked p ≡ Some p → taken texts n (array ds) ≡ Some p
texts_read n ds ss p short few is k = rw short (checked_to props.Texts (few_of 64 as_str ds) ss p few is k)

texts_again : (ms n : Members) (d : Data) (p : Prop) → IsJson d → taken texts ms d ≡ Some p → taken texts n (value_data p) ≡ Some p
texts_again ms n d p j h =
    let t = unless_some (has_long 65536 d) (formed texts ms d) p h in
    let a = checked_of props.Texts (option_and_then (few_of 64 as_str) (as_array d)) p t.1 in
    let f = few_again as_str text_data texts_back 64 d a.0 j t.0 a.1 in
    let e : value_data p ≡ array (items_by text_data a.0) = ap value_data (sym a.2) in
    ap (taken texts n) e ∙ texts_read n (items_by text_data a.0) a.0 p f.1 f.0 a.2 a.3

whole_form_again : (low high : ℤ) (ms n : Members) (d : Data) (p : Prop) → int_le high largest ≡ true → taken (whole low high) ms d ≡ Some p → taken (whole low high) n (value_data p) ≡ Some p
whole_form_again low high ms n d p top h =
    let t = unless_some (has_long 65536 d) (formed (whole low high) ms d) p h in
    let a = checked_of props.Number (whole_within low high d) p t.1 in
    let e : value_data p ≡ number (of_integer a.0) = ap value_data (sym a.2) in
    ap (taken (whole low high) n) e ∙ checked_to props.Number (whole_within low high (number (of_integer a.0))) a.0 p (whole_again low high a.0 top (whole_inside low high a.0 d a.1)) a.2 a.3

up_to_again : (name : List ℕ) (ms n : Members) (d : Data) (p : Prop) → up_to_bound name ms ≡ up_to_bound name n → taken (up_to name) ms d ≡ Some p → taken (up_to name) n (value_data p) ≡ Some p
up_to_again name ms n d p same h =
    let high = up_to_bound name ms in
    let t = unless_some (has_long 65536 d) (formed (up_to name) ms d) p h in
    let a = checked_of props.Number (whole_within (pos 0) high d) p t.1 in
    let e : value_data p ≡ number (of_integer a.0) = ap value_data (sym a.2) in
    let v = number (of_integer a.0) in
    let w : whole_within (pos 0) (up_to_bound name n) v ≡ Some a.0 = ap (λ (b : ℤ). whole_within (pos 0) b v) (sym same) ∙ whole_again (pos 0) high a.0 (bound_small (get_member name ms)) (whole_inside (pos 0) high a.0 d a.1) in
    ap (taken (up_to name) n) e ∙ checked_to props.Number (whole_within (pos 0) (up_to_bound name n) v) a.0 p w a.2 a.3

choice_kept : (words : List (List ℕ)) (d : Data) (p : Prop) → option_and_then checked (option_map props.Word (option_and_then (word_in words) (as_str d))) ≡ Some p → value_data p ≡ d
choice_kept words d p h =
    let a = checked_of props.Word (option_and_then (word_in words) (as_str d)) p h in
    let b = and_then_some (word_in words) (as_str d) a.0 a.1 in
    ap value_data (sym a.2) ∙ ap string (word_same words b.0 a.0 b.2) ∙ string_is d b.0 b.1

flag_kept : (d : Data) (p : Prop) → option_and_then checked (option_map props.Truth (as_bool d)) ≡ Some p → value_data p ≡ d
flag_kept d p h = let a = checked_of props.Truth (as_bool d) p h in ap value_data (sym a.2) ∙ truth_is d a.0 a.1

pattern_kept : (d : Data) (p : Prop) → option_and_then (λ (s : List ℕ). pattern_taken (has_reference s) s) (as_str d) ≡ Some p → IsJson d → value_data p ≡ d
pattern_kept d p h j =
    let a = and_then_some (λ (s : List ℕ). pattern_taken (has_reference s) s) (as_str d) p h in
    let b = unless_some (has_reference a.0) (Some (props.Pattern a.0)) p a.2 in
    let e : props.Pattern a.0 ≡ p = cc in
    ap value_data (sym e) ∙ text_kept d a.0 a.1 j

csv_read : (w v : Option ℕ) (d : Data) (p : Prop) → w ≡ v → (if has_long 65536 d then None else option_and_then checked (option_map props.Text (option_and_then (table_text w) (as_str d)))) ≡ Some p
    → (if has_long 65536 d then None else option_and_then checked (option_map props.Text (option_and_then (table_text v) (as_str d)))) ≡ Some p
csv_read w v d p e h = rw (← e) h

-- what was read under a form is written so that it is read again under it
pub form_again : (form : Form) (rows : List Row) (ms n : Members) (d : Data) (p : Prop) → Stands rows form → Same form ms n → IsJson d → taken form ms d ≡ Some p → taken form n (value_data p) ≡ Some p
form_again template rows ms n d p st same j h = template_again ms n d p j h
form_again plain rows ms n d p st same j h = let t = unless_some (has_long 65536 d) (formed plain ms d) p h in ap (taken plain n) (plain_kept d p t.1 j) ∙ h
form_again filled rows ms n d p st same j h = let t = unless_some (has_long 65536 d) (formed filled ms d) p h in ap (taken filled n) (passed_kept filled_text filled_same d p t.1 j) ∙ h
form_again lock rows ms n d p st same j h = let t = unless_some (is_too_long lock d) (formed lock ms d) p h in ap (taken lock n) (passed_kept filled_text filled_same d p t.1 j) ∙ h
form_again (whole low high) rows ms n d p st same j h = whole_form_again low high ms n d p st h
form_again (up_to name) rows ms n d p st same j h = up_to_again name ms n d p same h
form_again flag rows ms n d p st same j h = let t = unless_some (has_long 65536 d) (formed flag ms d) p h in ap (taken flag n) (flag_kept d p t.1) ∙ h
form_again (choice words) rows ms n d p st same j h = let t = unless_some (has_long 65536 d) (formed (choice words) ms d) p h in ap (taken (choice words) n) (choice_kept words d p t.1) ∙ h
form_again pattern rows ms n d p st same j h = let t = unless_some (has_long 65536 d) (formed pattern ms d) p h in ap (taken pattern n) (pattern_kept d p t.1 j) ∙ h
form_again test_patterns rows ms n d p st same j h = tests_again ms n d p same j h
form_again pairs rows ms n d p st same j h = pairs_again ms n d p j h
form_again replies rows ms n d p st same j h = replies_again ms n d p j h
form_again texts rows ms n d p st same j h = texts_again ms n d p j h
form_again (csv names) rows ms n d p st same j h =
    let t = unless_some (has_long 65536 d) (formed (csv names) ms d) p h in
    ap (taken (csv names) n) (passed_kept (table_text (list_len names ms)) (table_same (list_len names ms)) d p t.1 j) ∙ csv_read (list_len names ms) (list_len names n) d p same h
form_again json_path rows ms n d p st same j h = let t = unless_some (has_long 65536 d) (formed json_path ms d) p h in ap (taken json_path n) (passed_kept path_text path_same d p t.1 j) ∙ h

-- ---- a value that is left out

-- a template is the value of a template's form alone, and a text of the others
abbrev pub Suits : Form → Prop → Type 0
Suits form (props.Template ps) = (is_template form ≡ true) × (reading (spelling ps) ≡ ps)
Suits form (props.Text t) = is_template form ≡ false
Suits form p = Unit {0}

tests_suit : (b c fully : Bool) (ss : List (List ℕ)) (p : Prop)
    → (if b then (if c then None else Some (props.Patterns ss ss (whole_of fully ss))) else Some (props.Patterns ss [] [])) ≡ Some p → Suits test_patterns p
tests_suit true true fully ss p h = cc
tests_suit true false fully ss p h = let e : props.Patterns ss ss (whole_of fully ss) ≡ p = cc in subst (Suits test_patterns) e tt
tests_suit false c fully ss p h = let e : props.Patterns ss [] [] ≡ p = cc in subst (Suits test_patterns) e tt

value_suits : {A : Type 0} (form : Form) (f : A → Prop) (o : Option A) (p : Prop) → ((x : A) → Suits form (f x)) → option_and_then checked (option_map f o) ≡ Some p → Suits form p
value_suits form f o p all h = let a = checked_of f o p h in subst (Suits form) a.2 (all a.0)

formed_suits : (form : Form) (ms : Members) (d : Data) (p : Prop) → formed form ms d ≡ Some p → Suits form p
formed_suits template ms d p h = value_suits template (λ (s : List ℕ). props.Template (reading s)) (template_text d) p (λ s. (refl, reread s)) h
formed_suits plain ms d p h = value_suits plain props.Text (as_str d) p (λ s. refl) h
formed_suits filled ms d p h = value_suits filled props.Text (option_and_then filled_text (as_str d)) p (λ s. refl) h
formed_suits lock ms d p h = value_suits lock props.Text (option_and_then filled_text (as_str d)) p (λ s. refl) h
formed_suits (whole low high) ms d p h = value_suits (whole low high) props.Number (whole_within low high d) p (λ z. tt) h
formed_suits (up_to name) ms d p h = value_suits (up_to name) props.Number (whole_within (pos 0) (up_to_bound name ms) d) p (λ z. tt) h
formed_suits flag ms d p h = value_suits flag props.Truth (as_bool d) p (λ b. tt) h
formed_suits (choice words) ms d p h = value_suits (choice words) props.Word (option_and_then (word_in words) (as_str d)) p (λ k. tt) h
formed_suits pattern ms d p h =
    let a = and_then_some (λ (s : List ℕ). pattern_taken (has_reference s) s) (as_str d) p h in
    let b = unless_some (has_reference a.0) (Some (props.Pattern a.0)) p a.2 in
    let e : props.Pattern a.0 ≡ p = cc in
    subst (Suits pattern) e tt
formed_suits test_patterns ms d p h =
    let c = is_test kinds.Contains ms in
    let m = is_test kinds.Matches ms in
    let a = and_then_some (tests_taken c m) (option_and_then (few_of 64 as_str) (as_array d)) p h in
    tests_suit (c || m) (any_reference a.0) m a.0 p a.2
formed_suits pairs ms d p h = value_suits pairs props.Pairs (option_and_then (all_of pair_in) (as_array d)) p (λ ps. tt) h
formed_suits replies ms d p h = value_suits replies props.Replies (option_and_then (few_of 4096 reply_in) (as_array d)) p (λ rs. tt) h
formed_suits texts ms d p h = value_suits texts props.Texts (option_and_then (few_of 64 as_str) (as_array d)) p (λ ss. tt) h
formed_suits (csv names) ms d p h = value_suits (csv names) props.Text (option_and_then (table_text (list_len names ms)) (as_str d)) p (λ s. refl) h
formed_suits json_path ms d p h = value_suits json_path props.Text (option_and_then path_text (as_str d)) p (λ s. refl) h

int_same : (a b : ℤ) → int_eq a b ≡ true → b ≡ a
int_same (pos m) (pos n) h = ap pos (grind (arith, nat_tests))
int_same (negsuc m) (negsuc n) h = ap negsuc (grind (arith, nat_tests))
int_same (pos m) (negsuc n) h = cc
int_same (negsuc m) (pos n) h = cc

int_own : (a : ℤ) → int_eq a a ≡ true
int_own (pos n) = grind (arith, nat_tests)
int_own (negsuc n) = grind (arith, nat_tests)

truth_same : (a b : Bool) → same_truth a b ≡ true → b ≡ a
truth_same true b h = h
truth_same false true h = cc
truth_same false false h = refl

truth_own : (a : Bool) → same_truth a a ≡ true
truth_own true = refl
truth_own false = refl

-- what is left out is what stands for it
default_is : (form : Form) (presence : Presence) (p : Prop) → is_default form presence p ≡ true → Suits form p → absent_value form presence ≡ p
default_is form optional props.Absent h su = refl
default_is form (text_default s) (props.Template ps) h su =
    let e : spelling ps ≡ s = (bytes_eq-Decides (spelling ps) s).0 h in
    rw (su.0) (ap props.Template (ap reading (sym e) ∙ su.1))
default_is form (text_default s) (props.Text t) h su =
    let e : t ≡ s = (bytes_eq-Decides t s).0 h in
    rw su (ap props.Text (sym e))
default_is form (number_default n) (props.Number m) h su = ap props.Number (int_same m n h)
default_is form (truth_default b) (props.Truth c) h su = ap props.Truth (truth_same c b h)
default_is form first_choice (props.Word w) h su = ap props.Word (sym ((bytes_eq-Decides w (first_word form)).0 h))
default_is form no_pairs (props.Pairs []) h su = refl
default_is form presence p h su = cc

absent_text : (form : Form) (b : Bool) (s : List ℕ) → is_default form (text_default s) (if b then props.Template (reading s) else props.Text s) ≡ true
absent_text form true s = let is = reading_is s in (bytes_eq-Decides (spelling (reading s)) s).1 is.spelled
absent_text form false s = (bytes_eq-Decides s s).1 refl

-- what stands for a property that may be absent is left out
absent_left : (form : Form) (presence : Presence) → is_required presence ≡ false → is_default form presence (absent_value form presence) ≡ true
absent_left form required h = cc
absent_left form optional h = refl
absent_left form (text_default s) h = absent_text form (is_template form) s
absent_left form (number_default n) h = int_own n
absent_left form (truth_default b) h = truth_own b
absent_left form first_choice h = (bytes_eq-Decides (first_word form) (first_word form)).1 refl
absent_left form no_pairs h = refl

not_required : (b : Bool) → (b ≡ true → false ≡ true) → b ≡ false
not_required true k = cc (k refl)
not_required false k = refl

some_at : (form : Form) (presence : Presence) (rows : List Row) (ms n : Members) (d : Data) (p : Prop) (b : Bool) → is_default form presence p ≡ b → Stands rows form → Same form ms n → IsJson d → taken form ms d ≡ Some p
    → value_from form presence n (unless b (value_data p)) ≡ Some p
some_at form presence rows ms n d p true is st same j h =
    let t = unless_some (is_too_long form d) (formed form ms d) p h in
    ap Some (default_is form presence p is (formed_suits form ms d p t.1))
some_at form presence rows ms n d p false is st same j h = form_again form rows ms n d p st same j h

pub row_again : (form : Form) (presence : Presence) (rows : List Row) (ms n : Members) (o : Option Data) (p : Prop) → Stands rows form → Same form ms n → ((d : Data) → o ≡ Some d → IsJson d)
    → (is_required presence ≡ true → is_some o ≡ true) → value_from form presence ms o ≡ Some p → value_from form presence n (unless (is_default form presence p) (value_data p)) ≡ Some p
row_again form presence rows ms n None p st same j there h =
    let e : absent_value form presence ≡ p = cc in
    let left : is_default form presence p ≡ true = ap (is_default form presence) (sym e) ∙ absent_left form presence (not_required (is_required presence) there) in
    ap (λ (b : Bool). value_from form presence n (unless b (value_data p))) left ∙ h
row_again form presence rows ms n (Some d) p st same j there h = some_at form presence rows ms n d p (is_default form presence p) refl st same (j d refl) h
