-- A parser that takes a byte.
use Rattle.std.proofs.Common.{◌≡◌, ℕ, ◌+◌, ◌-◌, ◌*◌, ◌^◌, ◌<◌, ◌≤◌, min, Bool, true, false, ◌&&◌, ◌==◌, nat_lt, List, [], ◌∷◌, ◌++◌, length, Some, None, if◌then◌else◌, refl, lit<, ap, sym, ◌∙◌, subst, arith, length-append}
use Rattle.std.specs.List.{list_all}
use Rattle.std.specs.Char.{is_ascii_digit, digit_value}
use Rattle.std.specs.Str.Parse.{digits_value, AllDigits}
use Rattle.std.proofs.lemmas.Bool.Decides.{nat_tests}
use Rattle.std.proofs.lemmas.Int.Digits.{digits_value_push, digits_value-lt}
use Rattle.std.proofs.Math.Nat.{pow-le-pow_right}
use Rattle.json_path.specs.declared.parse.Parser.{Parser}
use Rattle.json_path.specs.declared.parse.Place.TheVariants.{InName, InIndex}
use Rattle.json_path.specs.PathGrammar.{is_name_byte}
use Rattle.json_path.specs.PathMachine.{State, next_at, with_index, with_name, begin_step}
use Rattle.json_path.specs.PathHolding.{Holds, Takes}

-- another byte after a name ends it
pub name_ends : (old mid new : Parser) (b : ℕ) (stands : Bool) → is_name_byte b ≡ false → ((s : State) → Holds old s → Holds mid (with_name s)) → ((s : State) → Holds mid s → Takes stands (begin_step b s) new) →
    (s : State) → Holds old s → Takes stands (next_at InName b s) new
name_ends old mid new b stands other ends begins s held =
    subst (λ c. Takes stands (if c then Some (record s { name = s.name ++ b ∷ [] }) else begin_step b (with_name s)) new) (sym other) (begins (with_name s) (ends s held))

digit_is : (b : ℕ) → is_ascii_digit b ≡ true → digit_value b ≡ b - 48
digit_is b h = grind (arith, nat_tests)

digit_small : (b : ℕ) → is_ascii_digit b ≡ true → digit_value b < 10
digit_small b h = grind (arith, nat_tests)

digits_all : (ds : List ℕ) → list_all is_ascii_digit ds ≡ true → AllDigits 10 ds
digits_all [] h = tt
digits_all (d ∷ ds) h = go (is_ascii_digit d) refl h (digits_all ds)
  where
    go : (c : Bool) → is_ascii_digit d ≡ c → c && list_all is_ascii_digit ds ≡ true → (list_all is_ascii_digit ds ≡ true → AllDigits 10 ds) → AllDigits 10 (d ∷ ds)
    go true e all ih = (digit_small d e, ih all)
    go false e all ih = absurd cc

all_push : (ds : List ℕ) (b : ℕ) → list_all is_ascii_digit ds ≡ true → is_ascii_digit b ≡ true → list_all is_ascii_digit (ds ++ b ∷ []) ≡ true
all_push [] b h is = ap (λ c. c && true) is
all_push (d ∷ ds) b h is = go (is_ascii_digit d) h (λ rest. all_push ds b rest is)
  where
    go : (c : Bool) → c && list_all is_ascii_digit ds ≡ true → (list_all is_ascii_digit ds ≡ true → list_all is_ascii_digit (ds ++ b ∷ []) ≡ true) → c && list_all is_ascii_digit (ds ++ b ∷ []) ≡ true
    go true all ih = ih all
    go false all ih = absurd cc

-- fewer than nine digits write less than 10 ^ 8
below_power : (n v : ℕ) → n < 9 → v < 10 ^ n → v < 100000000
below_power n v few small = let power : 10 ^ n ≤ 10 ^ 8 = pow-le-pow_right {n = 10} (lit< tt) {i = n} {j = 8} (omega arith) in omega arith

-- no other byte
pub byte_other : (b k : ℕ) → (b ≡ k → ⊥) → b == k ≡ false
byte_other b k h = grind (arith, nat_tests)

lt_true : (a b : ℕ) → a < b → nat_lt a b ≡ true
lt_true a b h = grind (arith, nat_tests)

-- a further digit
pub digit_taken : (old new : Parser) (b : ℕ) → b == 93 ≡ false → is_ascii_digit b ≡ true → old.digits < 9 → new.place ≡ old.place → new.steps.items ≡ old.steps.items → new.name.items ≡ old.name.items →
    new.index ≡ min (min (old.index * 10) (2 ^ 32 - 1) + (b - 48)) (2 ^ 32 - 1) → new.digits ≡ old.digits + 1 → (s : State) → Holds old s → Takes true (next_at InIndex b s) new
digit_taken old new b other digit few place steps name index digits s held =
    let fewer : length s.digits < 9 = omega (arith, held.digits_are) in
    let small = digits_value-lt 10 s.digits (digits_all s.digits held.each) in
    let bound : digits_value 10 s.digits < 100000000 = below_power (length s.digits) (digits_value 10 s.digits) fewer small in
    let value = digits_value_push 10 s.digits b in
    let is = digit_is b digit in
    let least = digit_small b digit in
    let one : length (s.digits ++ b ∷ []) ≡ length s.digits + 1 = omega (arith, length-append s.digits (b ∷ [])) in
    let after : Holds new (record s { digits = s.digits ++ b ∷ [] }) = record {
      place_is = place ∙ held.place_is;
      steps_are = steps ∙ held.steps_are;
      name_is = name ∙ held.name_is;
      index_is = index ∙ omega (arith, held.index_is, value, is, least, bound);
      digits_are = digits ∙ omega (arith, held.digits_are, one);
      each = all_push s.digits b held.each digit;
      few = omega (arith, one);
    } in
    subst (λ c. Takes true (if c then Some (with_index s) else if is_ascii_digit b && nat_lt (length s.digits) 9 then Some (record s { digits = s.digits ++ b ∷ [] }) else None) new) (sym other)
    (subst (λ c. Takes true (if c && nat_lt (length s.digits) 9 then Some (record s { digits = s.digits ++ b ∷ [] }) else None) new) (sym digit)
    (subst (λ c. Takes true (if c then Some (record s { digits = s.digits ++ b ∷ [] }) else None) new) (sym (lt_true (length s.digits) 9 fewer)) after))
