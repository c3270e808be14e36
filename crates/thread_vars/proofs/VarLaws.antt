-- Variables in a map, and how many bytes they have.
use Rattle.std.proofs.Common.{◌≡◌, ℕ, ◌+◌, ◌-◌, ◌≤◌, ◌<◌, List, [], ◌∷◌, Bool, true, false, cond, length, Option, Some, None, refl, sym, ap, ◌∙◌, subst, arith}
use Rattle.std.specs.Prelude.{if◌then◌else◌, nat_le, nat_eq, ◌&&◌, ◌↔◌, MatchBool, unwrap_or, IfSome}
use Rattle.std.specs.Option.{option_map}
use Rattle.std.specs.Bool.{Decides}
use Rattle.std.proofs.lemmas.Slice.Eq.{slice_eq-Decides}
use lib.Pointwise.{pointwise}
use Rattle.std.proofs.lemmas.Bool.Decides.{nat_tests, Decides-eqb}
use Rattle.std.specs.declared.cmp.Ordering.{Ordering}
use Rattle.std.specs.declared.cmp.Ordering.TheVariants.{Less, Equal, Greater}
use Rattle.std.specs.Ordering.{is_eq, match_ordering}
use Rattle.std.specs.Cmp.Lexicographic.{nat_list_cmp_total}
use Rattle.std.specs.List.Sorted.{IsStrictlySortedBy}
use Rattle.std.specs.Map.{keys_of}
use Rattle.std.specs.BTreeMap.{is_at}
use Rattle.std.proofs.lemmas.Map.{lookup-none}
use Rattle.std.proofs.lemmas.Map.Entries.{none_below_head}
use Rattle.std.proofs.lemmas.Map.Keys.{sorted_tail}
use Rattle.name_map.proofs.NameLaws.{same_from_is, is_same-refl, value_of-with_var, value_of-without_var, with_var-ordered, without_var-ordered, with_var-same}
use Rattle.thread_vars.specs.Vars.{Variables, by_bytes, value_of, with_var, without_var, bytes_of, bytes_found, bytes_at, is_same, IsInOrder, most_text, most_bytes, put_var, IsKept, last_sample_ok, truth_text}
use Rattle.thread_vars.specs.Beside.{IsKnown}

-- ---- bytes

with_step : (name value : List ℕ) (e : List ℕ × List ℕ) (es : Variables) → IsStrictlySortedBy by_bytes (keys_of (e ∷ es))
    → bytes_of (with_var name value es) + bytes_at name es ≡ bytes_of es + (length name + length value)
    → (o : Ordering) → by_bytes name e.0 ≡ o
    → bytes_of (match_ordering o ((name, value) ∷ e ∷ es) ((e.0, value) ∷ es) (e ∷ with_var name value es)) + bytes_at name (e ∷ es) ≡ bytes_of (e ∷ es) + (length name + length value)
with_step name value e es sorted more Less is =
    let none : value_of name (e ∷ es) ≡ None = lookup-none (is_at (by_bytes name)) (e ∷ es) (none_below_head nat_list_cmp_total name e es sorted is) in
    let zero : bytes_at name (e ∷ es) ≡ 0 = ap (bytes_found name) none in
    omega (arith, zero)
with_step name value e es sorted more Equal is =
    let found : bytes_at name (e ∷ es) ≡ length name + length e.1 = ap (λ o. bytes_found name (cond (is_eq o) (Some e.1) (value_of name es))) is in
    omega (arith, found)
with_step name value e es sorted more Greater is =
    let rest : bytes_at name (e ∷ es) ≡ bytes_at name es = ap (λ o. bytes_found name (cond (is_eq o) (Some e.1) (value_of name es))) is in
    omega (arith, rest, more)

-- a name is set: its old bytes go, and the new ones come
pub bytes_of-with_var : (name value : List ℕ) (vars : Variables) → IsStrictlySortedBy by_bytes (keys_of vars) → bytes_of (with_var name value vars) + bytes_at name vars ≡ bytes_of vars + (length name + length value)
bytes_of-with_var name value [] sorted = omega arith
bytes_of-with_var name value (e ∷ es) sorted = with_step name value e es sorted (bytes_of-with_var name value es (sorted_tail by_bytes e.0 (keys_of es) sorted)) (by_bytes name e.0) refl

without_step : (name : List ℕ) (e : List ℕ × List ℕ) (es : Variables) → bytes_of (without_var name es) + bytes_at name es ≡ bytes_of es
    → (b : Bool) → is_same name e.0 ≡ b → bytes_of (cond b es (e ∷ without_var name es)) + bytes_found name (cond b (Some e.1) (value_of name es)) ≡ bytes_of (e ∷ es)
without_step name e es more true is = let same : length name ≡ length e.0 = ap length (same_from_is name e.0 is) in omega (arith, same)
without_step name e es more false is = omega (arith, more)

-- a name is taken out: its bytes go
pub bytes_of-without_var : (name : List ℕ) (vars : Variables) → bytes_of (without_var name vars) + bytes_at name vars ≡ bytes_of vars
bytes_of-without_var name [] = refl
bytes_of-without_var name (e ∷ es) = without_step name e es (bytes_of-without_var name es) (is_same name e.0) refl

pub bytes_at-le : (name : List ℕ) (vars : Variables) → bytes_at name vars ≤ bytes_of vars
bytes_at-le name vars = omega (arith, bytes_of-without_var name vars)

-- ---- limits

pub within : (a b : ℕ) → MatchBool (nat_le a b) (a ≤ b) (b < a)
within a b = elim (nat_le a b) as (λ r. nat_le a b ≡ r → MatchBool r (a ≤ b) (b < a)) [ true ↦ (λ h. grind (arith, nat_tests)) | false ↦ (λ h. grind (arith, nat_tests)) ] refl

is_within : (a b : ℕ) → a ≤ b → nat_le a b ≡ true
is_within a b h = grind (arith, nat_tests)

pub at_once : (a b : ℕ) (P Q : Type 0) → a ≤ b → P → MatchBool (nat_le a b) P Q
at_once a b P Q h p = subst (λ r. MatchBool r P Q) (sym (is_within a b h)) p

no_room : (a : ℕ) (b : ℕ) (x : Variables) → most_bytes < b → (if nat_le a most_text && nat_le b most_bytes then Some x else None) ≡ None
no_room a b x h = grind (arith, nat_tests)

pub room : (a : ℕ) (b : ℕ) (x : Variables) → a ≤ most_text → b ≤ most_bytes → (if nat_le a most_text && nat_le b most_bytes then Some x else None) ≡ Some x
room a b x h k = grind (arith, nat_tests)

module _ (name value : List ℕ) (vars : Variables) (ordered : IsInOrder vars) where
  -- how many bytes there are when it is set
  next_is : bytes_of vars - bytes_at name vars + (length name + length value) ≡ bytes_of (with_var name value vars)
  next_is = omega (arith, bytes_of-with_var name value vars ordered, bytes_at-le name vars)

  pub past_limit : most_bytes < bytes_of vars - bytes_at name vars + (length name + length value) → put_var name value vars ≡ None
  past_limit h = no_room (length value) (bytes_of (with_var name value vars)) (with_var name value vars) (omega (arith, next_is, h))

  pub within_limit : length value ≤ most_text → bytes_of vars - bytes_at name vars + (length name + length value) ≤ most_bytes → put_var name value vars ≡ Some (with_var name value vars)
  within_limit h k = room (length value) (bytes_of (with_var name value vars)) (with_var name value vars) h (omega (arith, next_is, k))

  pub kept_with : (bytes : ℕ) → bytes ≡ bytes_of vars - bytes_at name vars + (length name + length value) → bytes ≤ most_bytes → IsKept bytes (with_var name value vars)
  kept_with bytes is fits = record { sum = is ∙ next_is; limit = fits; ordered = with_var-ordered name value vars ordered }

pub kept_without : (name : List ℕ) (vars : Variables) (bytes : ℕ) → IsKept bytes vars → IsKept (bytes - bytes_at name vars) (without_var name vars)
kept_without name vars bytes kept = record {
  sum = omega (arith, bytes_of-without_var name vars, kept.sum);
  limit = omega (arith, kept.limit);
  ordered = without_var-ordered name vars kept.ordered;
}

-- ---- a variable that is set to its value

made : (b : Bool) (x y : Variables) → (if b then Some x else None) ≡ Some y → x ≡ y
made true x y h = ap (λ o. unwrap_or o x) h
made false x y h = cc

-- that a value is set already, where it is the value of its name
pub set_already : (name value : List ℕ) (vars : Variables) (bytes : ℕ) (r : Bool) → IsKept bytes vars → length value ≤ most_text → Decides r (value_of name vars ≡ Some value)
    → (r ≡ true) ↔ (put_var name value vars ≡ Some vars)
set_already name value vars bytes r kept short d = (λ h. there (d.0 h), λ h. d.1 (back (made _ (with_var name value vars) vars h))) where
  there : value_of name vars ≡ Some value → put_var name value vars ≡ Some vars
  there found =
      let same : with_var name value vars ≡ vars = with_var-same name value vars kept.ordered found in
      let fits : bytes_of (with_var name value vars) ≤ most_bytes = omega (arith, kept.sum, kept.limit, ap bytes_of same) in
      room (length value) (bytes_of (with_var name value vars)) (with_var name value vars) short fits ∙ ap Some same

  back : with_var name value vars ≡ vars → value_of name vars ≡ Some value
  back same = ap (value_of name) (sym same) ∙ value_of-with_var name name value vars ∙ ap (λ b. if b then Some value else value_of name vars) (is_same-refl name)

-- whether the value that is found is this one
pub found_is : (name value : List ℕ) (vars : Variables) (old : List ℕ) (r : Bool) → value_of name vars ≡ Some old → r ≡ pointwise nat_eq old value → Decides r (value_of name vars ≡ Some value)
found_is name value vars old r found is =
    let d : Decides r (old ≡ value) = slice_eq-Decides Decides-eqb old value r is in
    (λ h. found ∙ ap Some (d.0 h), λ h. d.1 (ap (λ o. unwrap_or o old) (sym found ∙ h)))

-- how many bytes a name has whose value has that many
pub bytes_when : (name : List ℕ) (n : ℕ) (value : Option (List ℕ)) → Some n ≡ option_map length value → bytes_found name value ≡ length name + n
bytes_when name n (Some value) is = ap (λ o. length name + unwrap_or o 0) (sym is)
bytes_when name n None is = cc

-- ---- what is known of the last sample

module _ (known after : Option Bool) (name : List ℕ) (vars : Variables) (is : IsKnown known vars) where
  pub known_with : IfSome after (λ ok. (known ≡ Some ok) × (is_same last_sample_ok name ≡ false)) → (value : List ℕ) → IsKnown after (with_var name value vars)
  known_with stays value = by after stays
    where
      by : (now : Option Bool) → IfSome now (λ ok. (known ≡ Some ok) × (is_same last_sample_ok name ≡ false)) → IsKnown now (with_var name value vars)
      by None s = tt
      by (Some ok) s =
          let before : value_of last_sample_ok vars ≡ Some (truth_text ok) = subst (λ k. IsKnown k vars) s.0 is in
          value_of-with_var last_sample_ok name value vars ∙ ap (λ b. if b then Some value else value_of last_sample_ok vars) s.1 ∙ before

  pub known_without : IsInOrder vars → IfSome after (λ ok. (known ≡ Some ok) × (is_same last_sample_ok name ≡ false)) → IsKnown after (without_var name vars)
  known_without ordered stays = by after stays
    where
      by : (now : Option Bool) → IfSome now (λ ok. (known ≡ Some ok) × (is_same last_sample_ok name ≡ false)) → IsKnown now (without_var name vars)
      by None s = tt
      by (Some ok) s =
          let before : value_of last_sample_ok vars ≡ Some (truth_text ok) = subst (λ k. IsKnown k vars) s.0 is in
          value_of-without_var last_sample_ok name vars ordered ∙ ap (λ b. if b then None else value_of last_sample_ok vars) s.1 ∙ before

-- what is known is set already
pub known_puts : (known : Option Bool) (ok : Bool) (vars : Variables) (bytes : ℕ) → IsKept bytes vars → IsKnown known vars → known ≡ Some ok → put_var last_sample_ok (truth_text ok) vars ≡ Some vars
known_puts known ok vars bytes kept is some =
    let found : value_of last_sample_ok vars ≡ Some (truth_text ok) = subst (λ k. IsKnown k vars) some is in
    (set_already last_sample_ok (truth_text ok) vars bytes true kept (short ok) (λ _. found, λ _. refl)).0 refl
  where
    short : (b : Bool) → length (truth_text b) ≤ most_text
    short true = omega arith
    short false = omega arith
