-- From the reading of bytes to what a call that gives it says of the bytes.
use Rattle.std.proofs.Common.{◌≡◌, ℕ, Bool, true, false, List, [], Option, Some, None, Result, Ok, Err, IsUtf8, IsOk, refl, sym, ap, ◌∙◌}
use Rattle.std.specs.Str.{is_utf8}
use Rattle.std.proofs.lemmas.Str.{IsUtf8-from_is_utf8, is_utf8-from_IsUtf8}
use Rattle.serde_json.specs.Data.{Data}
use Rattle.serde_json.specs.Read.{read}
use Rattle.plan_json.specs.declared.error.TreeError.{TreeError}
use Rattle.plan_json.specs.declared.error.TreeError.TheVariants as errors
use Rattle.plan_json.specs.declared.raw.RawElement.{RawElement}
use Rattle.plan_json.specs.Place.{Place, at}
use Rattle.plan_json.specs.Shape.{Raw, shape, shape_of_json, reading_of}
use Rattle.plan_json.specs.FirstFault.{Fault, no_element, another_key, IsFaultless, IsFirstFault, HasFirstFault, IsTree}
use Rattle.plan_json.specs.TreeSeen.{raw_view, Gives, ExactlyWhere, SucceedsWhere}
use Rattle.plan_json.proofs.FirstFaultLaws.{refusal_of, first_fault, faultless, one_first}

not_true : (b : Bool) → (b ≡ true → ⊥) → b ≡ false
not_true true h = absurd (h refl)
not_true false h = refl

pub no_text : (bytes : List ℕ) → (¬ IsUtf8 bytes) → reading_of bytes ≡ Err errors.NotUtf8
unfolding reading_of
no_text bytes h = rw (not_true (is_utf8 bytes) (λ t. h (IsUtf8-from_is_utf8 bytes t))) refl

pub text : (bytes : List ℕ) → IsUtf8 bytes → reading_of bytes ≡ shape_of_json (read bytes)
unfolding reading_of
text bytes h = rw (is_utf8-from_IsUtf8 bytes h) refl

pub json : (bytes : List ℕ) (d : Data) → IsUtf8 bytes → read bytes ≡ Some d → reading_of bytes ≡ shape [] d
json bytes d utf8 value = text bytes utf8 ∙ ap shape_of_json value

pub no_json : (bytes : List ℕ) → IsUtf8 bytes → read bytes ≡ None → reading_of bytes ≡ Err errors.NotJson
no_json bytes utf8 nothing = text bytes utf8 ∙ ap shape_of_json nothing

-- what bytes are, and what they are read as
data Bytes (bytes : List ℕ) : Type 0 where
  unread_utf8 : (¬ IsUtf8 bytes) → reading_of bytes ≡ Err errors.NotUtf8 → Bytes bytes
  unread_json : IsUtf8 bytes → read bytes ≡ None → reading_of bytes ≡ Err errors.NotJson → Bytes bytes
  faulty : (path : Place) (f : Fault) → HasFirstFault bytes path f → reading_of bytes ≡ Err (refusal_of f path) → Bytes bytes
  sound : (r : Raw) → IsTree bytes → reading_of bytes ≡ Ok r → Bytes bytes

bytes_of_shape : (bytes : List ℕ) (d : Data) → IsUtf8 bytes → read bytes ≡ Some d → (r : Result Raw TreeError) → shape [] d ≡ r → Bytes bytes
bytes_of_shape bytes d utf8 value (Ok r) is = sound r (utf8, d, value, faultless d r is) (json bytes d utf8 value ∙ is)
bytes_of_shape bytes d utf8 value (Err e) is =
    let fault = first_fault d e is in
    faulty (at fault.places) fault.fault (utf8, refl, d, value, fault.is_first) (json bytes d utf8 value ∙ is ∙ ap Err fault.refusal)

bytes_of_json : (bytes : List ℕ) → IsUtf8 bytes → (o : Option Data) → read bytes ≡ o → Bytes bytes
bytes_of_json bytes utf8 None is = unread_json utf8 is (no_json bytes utf8 is)
bytes_of_json bytes utf8 (Some d) is = bytes_of_shape bytes d utf8 is (shape [] d) refl

bytes_of : (bytes : List ℕ) (b : Bool) → is_utf8 bytes ≡ b → Bytes bytes
bytes_of bytes true is = bytes_of_json bytes (IsUtf8-from_is_utf8 bytes is) (read bytes) refl
bytes_of bytes false is = let none : ¬ IsUtf8 bytes = (λ u. differ (sym (is_utf8-from_IsUtf8 bytes u) ∙ is)) in unread_utf8 none (no_text bytes none)
  where
    differ : true ≡ false → ⊥
    differ h = cc

all_bytes : (bytes : List ℕ) → Bytes bytes
all_bytes bytes = bytes_of bytes (is_utf8 bytes) refl

-- ---- what each refusal says

says_utf8 : (bytes : List ℕ) → reading_of bytes ≡ Err errors.NotUtf8 → Bytes bytes → ¬ IsUtf8 bytes
says_utf8 bytes h (unread_utf8 bad is) = bad
says_utf8 bytes h (unread_json utf8 none is) = cc
says_utf8 bytes h (faulty path no_element has is) = cc
says_utf8 bytes h (faulty path another_key has is) = cc
says_utf8 bytes h (sound r tree is) = cc

says_json : (bytes : List ℕ) → reading_of bytes ≡ Err errors.NotJson → Bytes bytes → IsUtf8 bytes × (read bytes ≡ None)
says_json bytes h (unread_utf8 bad is) = cc
says_json bytes h (unread_json utf8 none is) = (utf8, none)
says_json bytes h (faulty path no_element has is) = cc
says_json bytes h (faulty path another_key has is) = cc
says_json bytes h (sound r tree is) = cc

has_at : (bytes : List ℕ) (p q : Place) (f : Fault) → p ≡ q → HasFirstFault bytes p f → HasFirstFault bytes q f
has_at bytes p q f same has = rw (sym same) has

says_fault : (bytes : List ℕ) (path : Place) (f : Fault) → reading_of bytes ≡ Err (refusal_of f path) → Bytes bytes → HasFirstFault bytes path f
says_fault bytes path no_element h (unread_utf8 bad is) = cc
says_fault bytes path another_key h (unread_utf8 bad is) = cc
says_fault bytes path no_element h (unread_json utf8 none is) = cc
says_fault bytes path another_key h (unread_json utf8 none is) = cc
says_fault bytes path no_element h (faulty p no_element has is) = has_at bytes p path no_element (cc) has
says_fault bytes path another_key h (faulty p no_element has is) = cc
says_fault bytes path no_element h (faulty p another_key has is) = cc
says_fault bytes path another_key h (faulty p another_key has is) = has_at bytes p path another_key (cc) has
says_fault bytes path no_element h (sound r tree is) = cc
says_fault bytes path another_key h (sound r tree is) = cc

says_tree : (bytes : List ℕ) (r : Raw) → reading_of bytes ≡ Ok r → Bytes bytes → IsTree bytes
says_tree bytes r h (unread_utf8 bad is) = cc
says_tree bytes r h (unread_json utf8 none is) = cc
says_tree bytes r h (faulty path f has is) = cc
says_tree bytes r h (sound r' tree is) = tree

-- ---- when each refusal comes

wrong_and_right : {A : Type 0} (o : Option A) (x : A) → o ≡ Some x → o ≡ None → ⊥
wrong_and_right o x a b = cc

prop_none : (places : List ℕ) (prop : Option (List ℕ)) → prop ≡ None → at places ≡ record { places = places; prop = prop }
prop_none places prop none = ap (λ p. let q : Place = record { places = places; prop = p } in q) (sym none)

place_of : (path : Place) (places : List ℕ) → path.prop ≡ None → path.places ≡ places → at places ≡ path
place_of path places none same = ap at (sym same) ∙ prop_none path.places path.prop none

-- bytes with a first fault are refused for it
faulty_read : (bytes : List ℕ) (path : Place) (f : Fault) (d : Data) → IsUtf8 bytes → path.prop ≡ None → read bytes ≡ Some d → IsFirstFault d path.places f
    → (r : Result Raw TreeError) → shape [] d ≡ r → reading_of bytes ≡ Err (refusal_of f path)
faulty_read bytes path f d utf8 none value fault (Ok r) is = absurd (wrong_and_right _ f fault.wrong (faultless d r is path.places fault.value fault.there))
faulty_read bytes path f d utf8 none value fault (Err e) is =
    let other = first_fault d e is in
    let (places, faults) = one_first d path.places other.places f other.fault fault other.is_first in
    json bytes d utf8 value ∙ is ∙ ap Err (other.refusal ∙ ap (λ g. refusal_of g (at other.places)) (sym faults) ∙ ap (refusal_of f) (place_of path other.places none places))

reads_fault : (bytes : List ℕ) (path : Place) (f : Fault) → HasFirstFault bytes path f → reading_of bytes ≡ Err (refusal_of f path)
reads_fault bytes path f (utf8, none, d, value, fault) = faulty_read bytes path f d utf8 none value fault (shape [] d) refl

-- bytes without a fault are read as a tree
tree_read : (bytes : List ℕ) (d : Data) → IsUtf8 bytes → read bytes ≡ Some d → IsFaultless d → (r : Result Raw TreeError) → shape [] d ≡ r → (t : Raw) × (reading_of bytes ≡ Ok t)
tree_read bytes d utf8 value clean (Ok t) is = (t, json bytes d utf8 value ∙ is)
tree_read bytes d utf8 value clean (Err e) is =
    let fault = first_fault d e is in
    absurd (wrong_and_right _ fault.fault fault.is_first.wrong (clean fault.places fault.is_first.value fault.is_first.there))

reads_tree : (bytes : List ℕ) → IsTree bytes → (t : Raw) × (reading_of bytes ≡ Ok t)
reads_tree bytes (utf8, d, value, clean) = tree_read bytes d utf8 value clean (shape [] d) refl

-- ---- what a call answers

-- it answers a refusal only where that is read
refused_so : (reading : Result Raw TreeError) (r : Result RawElement TreeError) (e : TreeError) → (e ≡ errors.NoMemory → ⊥) → Gives raw_view r reading → r ≡ Err e → reading ≡ Err e
refused_so reading (Ok t) e other gives is = cc
refused_so reading (Err errors.NoMemory) e other gives is = absurd (other (cc))
refused_so reading (Err errors.NotUtf8) e other gives is = gives ∙ (cc)
refused_so reading (Err errors.NotJson) e other gives is = gives ∙ (cc)
refused_so reading (Err (errors.NotElement path)) e other gives is = gives ∙ (cc)
refused_so reading (Err (errors.UnknownKey path)) e other gives is = gives ∙ (cc)

-- it answers the refusal that is read, unless it ran out of memory
refuses : (reading : Result Raw TreeError) (r : Result RawElement TreeError) (e : TreeError) → Gives raw_view r reading → reading ≡ Err e → (r ≡ Err errors.NoMemory → ⊥) → r ≡ Err e
refuses reading (Ok t) e gives is ample = cc
refuses reading (Err errors.NoMemory) e gives is ample = absurd (ample refl)
refuses reading (Err errors.NotUtf8) e gives is ample = cc
refuses reading (Err errors.NotJson) e gives is ample = cc
refuses reading (Err (errors.NotElement path)) e gives is ample = cc
refuses reading (Err (errors.UnknownKey path)) e gives is ample = cc

exactly : (reading : Result Raw TreeError) (r : Result RawElement TreeError) (e : TreeError) (P : Type 0) → (e ≡ errors.NoMemory → ⊥) → Gives raw_view r reading
    → (reading ≡ Err e → P) → (P → reading ≡ Err e) → ExactlyWhere r e P
exactly reading r e P other gives says reads = record {
  only = λ is. says (refused_so reading r e other gives is);
  always = λ holds ample. refuses reading r e gives (reads holds) ample;
}

-- bytes that are a text are read as that text
pub gives_text : (bytes : List ℕ) (r : Result RawElement TreeError) → IsUtf8 bytes → Gives raw_view r (shape_of_json (read bytes)) → Gives raw_view r (reading_of bytes)
gives_text bytes r utf8 gives = rw (text bytes utf8) gives

module _ (bytes : List ℕ) (r : Result RawElement TreeError) (gives : Gives raw_view r (reading_of bytes)) where
  pub exactly_utf8 : ExactlyWhere r errors.NotUtf8 (¬ IsUtf8 bytes)
  exactly_utf8 = exactly (reading_of bytes) r errors.NotUtf8 (¬ IsUtf8 bytes) (λ h. cc) gives (λ h. says_utf8 bytes h (all_bytes bytes)) (no_text bytes)

  pub exactly_json : ExactlyWhere r errors.NotJson (IsUtf8 bytes × (read bytes ≡ None))
  exactly_json = exactly (reading_of bytes) r errors.NotJson (IsUtf8 bytes × (read bytes ≡ None)) (λ h. cc) gives (λ h. says_json bytes h (all_bytes bytes)) (λ h. no_json bytes h.0 h.1)

  pub exactly_element : (path : Place) → ExactlyWhere r (errors.NotElement path) (HasFirstFault bytes path no_element)
  exactly_element path = exactly (reading_of bytes) r (errors.NotElement path) (HasFirstFault bytes path no_element) (λ h. cc) gives (λ h. says_fault bytes path no_element h (all_bytes bytes)) (reads_fault bytes path no_element)

  pub exactly_key : (path : Place) → ExactlyWhere r (errors.UnknownKey path) (HasFirstFault bytes path another_key)
  exactly_key path = exactly (reading_of bytes) r (errors.UnknownKey path) (HasFirstFault bytes path another_key) (λ h. cc) gives (λ h. says_fault bytes path another_key h (all_bytes bytes)) (reads_fault bytes path another_key)

succeeds_only : (bytes : List ℕ) (r : Result RawElement TreeError) → Gives raw_view r (reading_of bytes) → IsOk r → IsTree bytes
succeeds_only bytes (Ok t) gives ok = says_tree bytes (raw_view t) gives (all_bytes bytes)
succeeds_only bytes (Err e) gives ok = cc

succeeds_always : (reading : Result Raw TreeError) (r : Result RawElement TreeError) (t : Raw) → Gives raw_view r reading → reading ≡ Ok t → (r ≡ Err errors.NoMemory → ⊥) → IsOk r
succeeds_always reading (Ok x) t gives is ample = refl
succeeds_always reading (Err errors.NoMemory) t gives is ample = absurd (ample refl)
succeeds_always reading (Err errors.NotUtf8) t gives is ample = cc
succeeds_always reading (Err errors.NotJson) t gives is ample = cc
succeeds_always reading (Err (errors.NotElement path)) t gives is ample = cc
succeeds_always reading (Err (errors.UnknownKey path)) t gives is ample = cc

pub succeeds : (bytes : List ℕ) (r : Result RawElement TreeError) → Gives raw_view r (reading_of bytes) → SucceedsWhere r (IsTree bytes)
succeeds bytes r gives = record {
  only = succeeds_only bytes r gives;
  always = λ tree ample. let (t, is) = reads_tree bytes tree in succeeds_always (reading_of bytes) r t gives is ample;
}
