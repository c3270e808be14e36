-- The lines of the first labels, label by label.
use Rattle.std.proofs.Common.{cond, ◌≡◌, ℕ, ◌+◌, ◌<◌, ◌≤◌, List, [], ◌∷◌, ◌++◌, Bool, length, get_or, take, arith, ap, ◌∙◌, sym, append_assoc, min}
use Rattle.std.specs.Prelude.{Some, slice_get}
use Rattle.std.specs.List.{zip, filter, flat_map}
use Rattle.std.proofs.Math.Seq.{take-length}
use Rattle.std.proofs.lemmas.List.{take_more, append-nil}
use Rattle.std.proofs.lemmas.Bool.{lt-ltb, le-ltb}
use Rattle.std.proofs.lemmas.List.Elements.{filter-append}
use Rattle.std.proofs.lemmas.Grind.{flat_map-append}
use Rattle.std.proofs.lemmas.Option.{get_or_from_slice_get, slice_get-get_or}
use Rattle.std.proofs.lemmas.Slice.Zip.{get_or-zip, length-zip}
use Rattle.interval_tables.specs.declared.row.Row.{Row}
use Rattle.interval_tables.specs.Rows.{no_samples}
use Rattle.output_lines.specs.Reports.{has_samples}

module _ (line : List ℕ × Row → List ℕ) (names : List (List ℕ)) (rows : List Row) (same : length rows ≡ length names) where
  -- the lines of the first labels
  abbrev pub first_lines : ℕ → List ℕ
  first_lines i = flat_map line (filter has_samples (take i (zip names rows)))

  one_more : (i : ℕ) (name : List ℕ) (row : Row) → i < length rows → slice_get names i ≡ Some name → row ≡ get_or rows i no_samples
      → first_lines (i + 1) ≡ first_lines i ++ flat_map line (filter has_samples ((name, row) ∷ []))
  one_more i name row low is here =
      let both = zip names rows in
      let long : length both ≡ min (length names) (length rows) = length-zip names rows in
      let pair : get_or both i ([], no_samples) ≡ (name, row) =
      get_or-zip names rows i ([], no_samples) (omega arith) low ∙ (λ k. (get_or_from_slice_get names i name [] is k, sym here k)) in
      ap (λ (l : List (List ℕ × Row)). flat_map line (filter has_samples l)) (take_more both i ([], no_samples) (omega arith) ∙ ap (λ (c : List ℕ × Row). take i both ++ c ∷ []) pair)
      ∙ ap (flat_map line) (filter-append has_samples (take i both) ((name, row) ∷ []))
      ∙ flat_map-append line (filter has_samples (take i both)) (filter has_samples ((name, row) ∷ []))

  -- a label that has samples
  printed : (i : ℕ) (name : List ℕ) (row : Row) → i < length rows → slice_get names i ≡ Some name → row ≡ get_or rows i no_samples → 0 < row.count
      → first_lines (i + 1) ≡ first_lines i ++ line (name, row)
  printed i name row low is here some = one_more i name row low is here
      ∙ ap (λ (b : Bool). first_lines i ++ flat_map line (cond b ((name, row) ∷ []) [])) (lt-ltb 0 row.count some)
      ∙ ap (λ (l : List ℕ). first_lines i ++ l) (append-nil (line (name, row)))

  -- a label without samples
  left_out : (i : ℕ) (row : Row) → i < length rows → row ≡ get_or rows i no_samples → row.count ≤ 0 → first_lines (i + 1) ≡ first_lines i
  left_out i row low here none =
      let name = get_or names i [] in
      one_more i name row low (slice_get-get_or names i [] (omega arith)) here
      ∙ ap (λ (b : Bool). first_lines i ++ flat_map line (cond b ((name, row) ∷ []) [])) (le-ltb 0 row.count none)
      ∙ append-nil (first_lines i)

  -- a text that has grown by the lines of the first labels grows by the line of one more, or not
  pub next_line : (old now new : List ℕ) (i : ℕ) (name : List ℕ) (row : Row) → i < length rows → slice_get names i ≡ Some name → row ≡ get_or rows i no_samples → 0 < row.count
      → now ≡ old ++ first_lines i → new ≡ now ++ line (name, row) → new ≡ old ++ first_lines (i + 1)
  next_line old now new i name row low is here some so_far then_ =
      then_ ∙ ap (λ (l : List ℕ). l ++ line (name, row)) so_far
      ∙ append_assoc old (first_lines i) (line (name, row))
      ∙ ap (λ (l : List ℕ). old ++ l) (sym (printed i name row low is here some))

  pub no_line : (old now : List ℕ) (i : ℕ) (row : Row) → i < length rows → row ≡ get_or rows i no_samples → row.count ≤ 0
      → now ≡ old ++ first_lines i → now ≡ old ++ first_lines (i + 1)
  no_line old now i row low here none so_far = so_far ∙ ap (λ (l : List ℕ). old ++ l) (sym (left_out i row low here none))

  -- the lines of all labels
  pub all_lines : (old now : List ℕ) (i : ℕ) → i ≡ length names → now ≡ old ++ first_lines i → now ≡ old ++ flat_map line (filter has_samples (zip names rows))
  all_lines old now i all so_far =
      let both = zip names rows in
      let long : length both ≡ min (length names) (length rows) = length-zip names rows in
      let end : i ≡ length both = omega arith in
      so_far ∙ ap (λ (l : List (List ℕ × Row)). old ++ flat_map line (filter has_samples l)) (ap (λ (n : ℕ). take n both) end ∙ take-length both)
