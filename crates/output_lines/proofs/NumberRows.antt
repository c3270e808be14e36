-- Rows of comma-separated fields of which some are numbers.
use Rattle.std.proofs.Common.{◌≡◌, ℕ, ◌^◌, ◌<◌, false, List, [], ◌∷◌, ◌++◌, length, refl, sym, ap, ◌∙◌, arith, append_assoc}
use Rattle.std.specs.Prelude.{if◌then◌else◌, ◌-◌, take, drop, Option, Some, option_map, unwrap_or}
use Rattle.std.proofs.lemmas.Grind.{common_steps}
use Rattle.std.specs.Fmt.{decimal}
use Rattle.std.specs.Str.Parse.{AllDigits}
use Rattle.std.proofs.lemmas.Fmt.{decimal_is_IsNumeral}
use Rattle.std.proofs.lemmas.Str.Parse.{digit_from_value}
use Rattle.std.proofs.lemmas.List.{append-nil, append_cancel_right}
use Rattle.std.proofs.lemmas.Bool.{ne_eqb}
use Rattle.csv.specs.Writing.{row_text, fields_text, field_text, is_blank, default_writer, needs_quotes, quoted}
use Rattle.csv.specs.declared.writer.WriterBuilder.{WriterBuilder}

-- no digit calls for quotes
digits_plain : (ds : List ℕ) → AllDigits 10 ds → needs_quotes default_writer ds ≡ false
digits_plain [] d = refl
digits_plain (c ∷ ds) d =
    let k = digit_from_value c d.0 in
    rw (ne_eqb c 44 (λ e. omega (arith, k, e)), ne_eqb c 34 (λ e. omega (arith, k, e)), ne_eqb c 13 (λ e. omega (arith, k, e)), ne_eqb c 10 (λ e. omega (arith, k, e))) (digits_plain ds d.1)

-- a number is written as its digits
pub number_field : (n : ℕ) → n < 2 ^ 64 → field_text default_writer (decimal n) ≡ decimal n
number_field n h = ap (λ b. if b then quoted default_writer (decimal n) else decimal n) (digits_plain (decimal n) (decimal_is_IsNumeral n h).0.1)

fields-append : (cfg : WriterBuilder) (xs ys : List (List ℕ)) → fields_text cfg (xs ++ ys) ≡ fields_text cfg xs ++ fields_text cfg ys
unfolding fields_text
fields-append cfg [] ys = refl
fields-append cfg (x ∷ xs) ys =
    ap (λ l. cfg.delimiter ∷ (field_text cfg x ++ l)) (fields-append cfg xs ys)
    ∙ ap (λ l. cfg.delimiter ∷ l) (sym (append_assoc (field_text cfg x) (fields_text cfg xs) (fields_text cfg ys)))

-- a row of two fields or more, and its end
row-is : (x y : List ℕ) (more : List (List ℕ)) → row_text default_writer (x ∷ y ∷ more) ≡ (field_text default_writer x ++ fields_text default_writer (y ∷ more)) ++ 10 ∷ []
unfolding is_blank
row-is x y more = refl

module _ (a b y i : ℕ) (x z : List ℕ) (more : List (List ℕ)) (m : List ℕ) (is : m ++ 10 ∷ [] ≡ row_text default_writer (x ∷ z ∷ more))
    (a_small : a < 2 ^ 64) (b_small : b < 2 ^ 64) (y_small : y < 2 ^ 64) (i_small : i < 2 ^ 64) where
  middle-is : m ≡ field_text default_writer x ++ fields_text default_writer (z ∷ more)
  middle-is = append_cancel_right m (field_text default_writer x ++ fields_text default_writer (z ∷ more)) (10 ∷ []) (is ∙ row-is x z more)

  end-is : fields_text default_writer (decimal y ∷ decimal i ∷ []) ≡ 44 ∷ (decimal y ++ 44 ∷ decimal i)
  unfolding fields_text
  end-is = rw (number_field y y_small, number_field i i_small) (rw (append-nil (decimal i)) refl)

  rest-is : (field_text default_writer x ++ fields_text default_writer (z ∷ (more ++ decimal y ∷ decimal i ∷ []))) ≡ m ++ 44 ∷ (decimal y ++ 44 ∷ decimal i)
  rest-is =
      ap (λ l. field_text default_writer x ++ l) (fields-append default_writer (z ∷ more) (decimal y ∷ decimal i ∷ []))
      ∙ sym (append_assoc (field_text default_writer x) (fields_text default_writer (z ∷ more)) (fields_text default_writer (decimal y ∷ decimal i ∷ [])))
      ∙ ap (λ l. l ++ fields_text default_writer (decimal y ∷ decimal i ∷ [])) (sym middle-is)
      ∙ ap (λ l. m ++ l) end-is

  -- a row that begins and ends with two numbers, from the row of the fields between them
  pub row_between : row_text default_writer (decimal a ∷ decimal b ∷ x ∷ z ∷ (more ++ decimal y ∷ decimal i ∷ []))
      ≡ decimal a ++ 44 ∷ (decimal b ++ 44 ∷ (m ++ 44 ∷ (decimal y ++ 44 ∷ (decimal i ++ 10 ∷ []))))
  unfolding fields_text
  row_between =
      row-is (decimal a) (decimal b) (x ∷ z ∷ (more ++ decimal y ∷ decimal i ∷ []))
      ∙ rw (number_field a a_small, number_field b b_small) refl
      ∙ ap (λ l. (decimal a ++ 44 ∷ (decimal b ++ 44 ∷ l)) ++ 10 ∷ []) rest-is
      ∙ rw (append_assoc (decimal a), append_assoc (decimal b), append_assoc m, append_assoc (decimal y)) refl

-- the row that was added last, without its end
pub last_row : (x y : List ℕ) (more fields : List (List ℕ)) (old new : Option (List ℕ)) (before after text : List ℕ) → old ≡ Some before → new ≡ Some after
    → new ≡ option_map (λ t. t ++ row_text default_writer fields) old → fields ≡ x ∷ y ∷ more
    → text ≡ take (length (take (length after - length before) (drop (length before) after)) - 1) (take (length after - length before) (drop (length before) after))
    → text ++ 10 ∷ [] ≡ row_text default_writer (x ∷ y ∷ more)
last_row x y more fields old new before after text had has added are cut =
    let line = row_text default_writer (x ∷ y ∷ more) in
    let body = field_text default_writer x ++ fields_text default_writer (y ∷ more) in
    let ends : line ≡ body ++ 10 ∷ [] = row-is x y more in
    let whole : after ≡ before ++ line =
    ap (λ o. unwrap_or o after) (sym has ∙ added ∙ ap (option_map (λ t. t ++ row_text default_writer fields)) had) ∙ ap (λ fs. before ++ row_text default_writer fs) are in
    let last : take (length after - length before) (drop (length before) after) ≡ body ++ 10 ∷ [] = ap (λ a. take (length a - length before) (drop (length before) a)) whole ∙ added_last before line ∙ ends in
    ap (λ t. t ++ 10 ∷ []) (cut ∙ ap (λ r. take (length r - 1) r) last ∙ cut_last body) ∙ sym ends
  where
    added_last : (xs ys : List ℕ) → take (length (xs ++ ys) - length xs) (drop (length xs) (xs ++ ys)) ≡ ys
    added_last xs ys = grind (arith, common_steps)

    cut_last : (xs : List ℕ) → take (length (xs ++ 10 ∷ []) - 1) (xs ++ 10 ∷ []) ≡ xs
    cut_last xs = grind (arith, common_steps)
