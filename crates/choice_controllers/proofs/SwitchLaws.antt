-- What a text picks.
use Rattle.std.proofs.Common.{◌≡◌, ℕ, ◌-◌, ◌<◌, ◌≤◌, Bool, true, false, List, length, Option, Some, None, refl, sym, ap, ◌∙◌, arith}
use Rattle.std.specs.Prelude.{map, min, IfSome, codes, ◌==◌, ◌^◌, if◌then◌else◌}
use Rattle.std.specs.Str.Parse.{digits_value}
use Rattle.std.proofs.lemmas.Bool.Decides.{nat_tests}
use Rattle.std.proofs.lemmas.List.{length-take, length-map}
use Rattle.element_tree.specs.declared.kinds.Element.{Element}
use Rattle.cursor_steps.specs.Numeral.{is_decimal, decimal_number}
use Rattle.choice_controllers.specs.SwitchController.{is_name, index_among}
use Rattle.cursor_steps.specs.RunningChildren.{runs_of, run_count}
use Rattle.choice_controllers.specs.SwitchController.{name_at, run_names, place_named, picks}
use Rattle.choice_controllers.proofs.NameLaws.{position_from-within}

-- there are as many names as children that are run
pub count-names : (elements : List Element) (element : Element) → run_count elements element ≡ length (run_names elements element)
count-names elements element =
    omega (arith, length-take 65535 (map (name_at elements) (runs_of elements element)), length-map (runs_of elements element) (name_at elements))

-- a name's place is one of theirs
pub named-within : (any_case : Bool) (wanted : List ℕ) (names : List (List ℕ)) (n : ℕ) (r : Option ℕ) → n ≡ length names → r ≡ place_named any_case wanted names
    → IfSome r (λ place. place < n)
named-within any_case wanted names n None count is = tt
named-within any_case wanted names n (Some place) count is = omega (arith, count, position_from-within (is_name any_case wanted) 0 place names (sym is))

some-children : (n : ℕ) (names : List (List ℕ)) → n ≡ length names → (n ≡ 0 → ⊥) → (length names == 0) ≡ false
some-children n names count some = grind (arith, nat_tests)

some-text : (text : List ℕ) → (length text ≡ 0 → ⊥) → (length text == 0) ≡ false
some-text text some = grind (arith, nat_tests)

pub picks-empty : (text : List ℕ) (names : List (List ℕ)) (n : ℕ) → n ≡ length names → (n ≡ 0 → ⊥) → (length text == 0) ≡ true → Some 0 ≡ picks text names
picks-empty text names n count some empty = let children : (length names == 0) ≡ false = some-children n names count some in rw (children, empty) refl

-- no decimal number
not-decimal : (text : List ℕ) → None ≡ decimal_number text → is_decimal text ≡ false
not-decimal text h = go (is_decimal text) refl h where
  go : (b : Bool) → is_decimal text ≡ b → None ≡ (if b then Some (min (digits_value 10 text) (2 ^ 32 - 1)) else None) → b ≡ false
  go true is here = cc
  go false is here = refl

pub picks-named : (text : List ℕ) (names : List (List ℕ)) (n place : ℕ) → n ≡ length names → (n ≡ 0 → ⊥) → (length text == 0) ≡ false → None ≡ decimal_number text
    → Some place ≡ place_named false text names → Some place ≡ picks text names
picks-named text names n place count some given none here =
    let children : (length names == 0) ≡ false = some-children n names count some in
    let other : is_decimal text ≡ false = not-decimal text none in
    rw (other, children, given, sym here) refl

pub picks-default : (text : List ℕ) (names : List (List ℕ)) (n : ℕ) (r : Option ℕ) → n ≡ length names → (n ≡ 0 → ⊥) → (length text == 0) ≡ false → None ≡ decimal_number text
    → None ≡ place_named false text names → r ≡ place_named true (codes "default") names → r ≡ picks text names
picks-default text names n r count some given none unnamed default =
    let children : (length names == 0) ≡ false = some-children n names count some in
    let other : is_decimal text ≡ false = not-decimal text none in
    rw (other, children, given, sym unnamed) default

-- a decimal number
index-cut : (n m v : ℕ) → n ≤ m → index_among n (min v m) ≡ index_among n v
index-cut n m v h = grind (arith, nat_tests)

pub picks-index : (text : List ℕ) (names : List (List ℕ)) (n index place : ℕ) → n ≡ length names → n ≤ 65535 → (n ≡ 0 → ⊥) → (length text == 0) ≡ false → Some index ≡ decimal_number text
    → place ≡ index_among n index → Some place ≡ picks text names
picks-index text names n index place count few some given number is = go (is_decimal text) refl number where
  children : (length names == 0) ≡ false
  children = some-children n names count some

  go : (b : Bool) → is_decimal text ≡ b → Some index ≡ (if b then Some (min (digits_value 10 text) (2 ^ 32 - 1)) else None) → Some place ≡ picks text names
  go true digits here =
      let cut : index ≡ min (digits_value 10 text) (2 ^ 32 - 1) = cc in
      rw (digits, children, given) (ap Some (is ∙ ap (index_among n) cut ∙ index-cut n (2 ^ 32 - 1) (digits_value 10 text) (omega (arith, few)) ∙ ap (λ m. index_among m (digits_value 10 text)) count))
  go false digits here = let no-number : Some index ≡ None = here in cc
