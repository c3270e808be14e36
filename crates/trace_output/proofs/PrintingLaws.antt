-- Texts that are put one after the other.
use Rattle.std.proofs.Common.{◌≡◌, ℕ, ◌+◌, ◌<◌, List, [], ◌∷◌, ◌++◌, length, get_or, take, drop, Option, refl, sym, ap, ◌∙◌, append_assoc, subst, add-one, suc, arith}
use Rattle.std.specs.Prelude.{◌≢◌, Result, Ok, Err}
use Rattle.std.proofs.Math.Seq.{take-suc}
use Rattle.std.proofs.lemmas.List.{append-nil, take-append-drop, length-take-le}
use Rattle.std.proofs.lemmas.Grind.{flat_map-append}
use Rattle.jm_base.specs.FaultCounts.{Rose}
use Rattle.edge_io.specs.Edges.{AppendsProperPrefix}
use Rattle.line_output.specs.OutputPieces.{AppendsPart}
use Rattle.line_output.proofs.PieceLaws.{moves_none, moves_more, front_wider, front_more, all_sent, front_sent, part_sent, part_none, part_more}
use Rattle.element_tree.specs.Tree.{Tree}
use Rattle.thread_machine.specs.declared.trace.TraceItem.{TraceItem}
use Rattle.trace_output.specs.declared.error.PrintError.{PrintError}
use Rattle.trace_output.specs.declared.error.PrintError.TheVariants.{WriteFault, NoMemory}
use Rattle.trace_output.specs.Texts.{line_of, trace_text, each_numbered}
use Rattle.trace_output.specs.Printing.{Way, way, IsPut, IsFailed, IsCut, HasPut, HasPrinted}

-- ---- one text after another

-- nothing is put
pub put_none : (w : Way) → IsPut [] w w
put_none w = record { moved = moves_none w.written w.held; calm = refl }

pub put_more : (s t : List ℕ) (u v w : Way) → IsPut s u v → IsPut t v w → IsPut (s ++ t) u w
put_more s t u v w p q = record { moved = moves_more u.written v.written w.written u.held v.held w.held s t p.moved q.moved; calm = q.calm ∙ p.calm }

-- the sink fails at the text after one that is put
failed_more : (s t : List ℕ) (u v w : Way) → IsPut s u v → IsFailed t v w → IsFailed (s ++ t) u w
failed_more s t u v w p f = record {
  prefix = front_more u.written v.written w.written u.held v.held s t p.moved f.prefix;
  rose = subst (λ n. Rose n w.faults) p.calm f.rose;
}

-- a prefix of a text is one of a longer text
failed_wider : (s t : List ℕ) (u w : Way) → IsFailed s u w → IsFailed (s ++ t) u w
failed_wider s t u w f = record {
  prefix = subst (λ l. AppendsProperPrefix u.written w.written l) (append_assoc u.held s t) (front_wider u.written w.written (u.held ++ s) t f.prefix);
  rose = f.rose;
}

-- no memory for the text
pub cut_none : (t : List ℕ) (w : Way) → IsCut t w w
cut_none t w = record { part = part_none w.written w.held t; calm = refl }

-- memory runs out at the text after one that is put, before one more
cut_more : (s t r : List ℕ) (u v w : Way) → IsPut s u v → IsCut t v w → IsCut (s ++ (t ++ r)) u w
cut_more s t r u v w p c = record { part = part_more u.written v.written w.written u.held v.held w.held s t r p.moved c.part; calm = c.calm ∙ p.calm }

-- of two texts, memory runs out at the first, or at the second
cut_first : (s t : List ℕ) (u w : Way) → IsCut s u w → IsCut (s ++ t) u w
cut_first s t u w c = cut_more [] s t u u w (put_none u) c

cut_last : (s t : List ℕ) (u v w : Way) → IsPut s u v → IsCut t v w → IsCut (s ++ t) u w
cut_last s t u v w p c = subst (λ l. IsCut (s ++ l) u w) (append-nil t) (cut_more s t [] u v w p c)

-- of two texts, the first isn't put whole, or the second
pub first_short : (e : PrintError) (s t : List ℕ) (u w : Way) → HasPut s u w (Err e) → HasPut (s ++ t) u w (Err e)
first_short WriteFault s t u w h = failed_wider s t u w h
first_short NoMemory s t u w h = cut_first s t u w h

pub second_short : (e : PrintError) (s t : List ℕ) (u v w : Way) → IsPut s u v → HasPut t v w (Err e) → HasPut (s ++ t) u w (Err e)
second_short WriteFault s t u v w p h = failed_more s t u v w p h
second_short NoMemory s t u v w p h = cut_last s t u v w p h

-- ---- a trace, item by item

pub lines_more : (plan : Tree) (thread : ℕ) (trace : List TraceItem) (i : ℕ) (item : TraceItem) → i < length trace
    → trace_text plan thread (take (i + 1) trace) ≡ trace_text plan thread (take i trace) ++ line_of plan thread (get_or trace i item)
lines_more plan thread trace i item within =
    ap (λ n. trace_text plan thread (take n trace)) (add-one i)
    ∙ ap (trace_text plan thread) (take-suc trace i item within)
    ∙ flat_map-append (line_of plan thread) (take i trace) (get_or trace i item ∷ [])
    ∙ ap (λ l. trace_text plan thread (take i trace) ++ l) (append-nil (line_of plan thread (get_or trace i item)))

-- ---- a trace, a few items at a time

module _ (plan : Tree) (thread : ℕ) (trace left : List TraceItem) (count : ℕ) (text : List ℕ) (own : text ≡ trace_text plan thread (take count left))
    (done : List ℕ) (so_far : done ++ trace_text plan thread left ≡ trace_text plan thread trace) where
  abbrev more : List ℕ
  more = trace_text plan thread (drop count left)

  -- the lines up to these items, their own, and those after them
  lines_split : done ++ (text ++ more) ≡ trace_text plan thread trace
  lines_split =
      let whole = flat_map-append (line_of plan thread) (take count left) (drop count left) in
      ap (λ l. done ++ l) (ap (λ t. t ++ more) own ∙ sym whole ∙ ap (trace_text plan thread) (take-append-drop count left)) ∙ so_far

  pub next_left : (done ++ text) ++ more ≡ trace_text plan thread trace
  next_left = append_assoc done text more ∙ lines_split

  pub next_short : (u v w : Way) → IsPut done u v → (e : PrintError) → HasPut text v w (Err e) → HasPut (trace_text plan thread trace) u w (Err e)
  next_short u v w before WriteFault f = subst (λ l. IsFailed l u w) lines_split (failed_more done (text ++ more) u v w before (failed_wider text more v w f))
  next_short u v w before NoMemory c = subst (λ l. IsCut l u w) lines_split (cut_more done text more u v w before c)

-- ---- the elements of a list, each by its number

module _ {A : Type 0} (text : ℕ → A → List ℕ) where
  each_append : (n : ℕ) (xs ys : List A) → each_numbered text n (xs ++ ys) ≡ each_numbered text n xs ++ each_numbered text (n + length xs) ys
  each_append n [] ys = let same : n ≡ n + 0 = omega arith in ap (λ k. each_numbered text k ys) same
  each_append n (x ∷ xs) ys =
      let same : n + 1 + length xs ≡ n + suc (length xs) = omega arith in
      ap (λ l. text n x ++ l) (each_append (n + 1) xs ys ∙ ap (λ k. each_numbered text (n + 1) xs ++ each_numbered text k ys) same)
      ∙ sym (append_assoc (text n x) (each_numbered text (n + 1) xs) (each_numbered text (n + suc (length xs)) ys))

  module _ (xs : List A) (i : ℕ) (d : A) (within : i < length xs) where
    each_more : each_numbered text 0 (take (i + 1) xs) ≡ each_numbered text 0 (take i xs) ++ text i (get_or xs i d)
    each_more =
        let many : 0 + length (take i xs) ≡ i = omega (arith, length-take-le i xs (omega arith)) in
        ap (λ n. each_numbered text 0 (take n xs)) (add-one i)
        ∙ ap (each_numbered text 0) (take-suc xs i d within)
        ∙ each_append 0 (take i xs) (get_or xs i d ∷ [])
        ∙ ap (λ l. each_numbered text 0 (take i xs) ++ l) (append-nil (text (0 + length (take i xs)) (get_or xs i d)) ∙ ap (λ k. text k (get_or xs i d)) many)

    each_split : each_numbered text 0 xs ≡ each_numbered text 0 (take i xs) ++ (text i (get_or xs i d) ++ each_numbered text (0 + length (take (i + 1) xs)) (drop (i + 1) xs))
    each_split =
        ap (each_numbered text 0) (sym (take-append-drop (i + 1) xs))
        ∙ each_append 0 (take (i + 1) xs) (drop (i + 1) xs)
        ∙ ap (λ l. l ++ each_numbered text (0 + length (take (i + 1) xs)) (drop (i + 1) xs)) each_more
        ∙ append_assoc (each_numbered text 0 (take i xs)) (text i (get_or xs i d)) _

    module _ (x : A) (here : x ≡ get_or xs i d) (u v w : Way) (before : IsPut (each_numbered text 0 (take i xs)) u v) where
      abbrev later : List ℕ
      later = each_numbered text (0 + length (take (i + 1) xs)) (drop (i + 1) xs)

      -- its own text is put, too
      pub each_put : IsPut (text i x) v w → IsPut (each_numbered text 0 (take (i + 1) xs)) u w
      each_put p =
          let own = subst (λ y. IsPut (text i y) v w) here p in
          subst (λ l. IsPut l u w) (sym each_more) (put_more (each_numbered text 0 (take i xs)) (text i (get_or xs i d)) u v w before own)

      pub each_short : (e : PrintError) → HasPut (text i x) v w (Err e) → HasPut (each_numbered text 0 xs) u w (Err e)
      each_short WriteFault f =
          let own = subst (λ y. IsFailed (text i y) v w) here f in
          let wide = failed_wider (text i (get_or xs i d)) later v w own in
          subst (λ l. IsFailed l u w) (sym each_split) (failed_more (each_numbered text 0 (take i xs)) (text i (get_or xs i d) ++ later) u v w before wide)
      each_short NoMemory c =
          let own = subst (λ y. IsCut (text i y) v w) here c in
          subst (λ l. IsCut l u w) (sym each_split) (cut_more (each_numbered text 0 (take i xs)) (text i (get_or xs i d)) later u v w before own)

-- ---- a whole text of two, where nothing was held back before

module _ (s t : List ℕ) (a : Option (List ℕ)) (f : ℕ) (held : List ℕ) (none : held ≡ []) where
  abbrev start : Way
  start = way a f []

  begins : (P : Way → Type 0) → P (way a f held) → P start
  begins P = subst (λ (l : List ℕ). P (way a f l)) none

  pub first_printed : (e : PrintError) (v : Way) → HasPut s (way a f held) v (Err e) → HasPrinted (s ++ t) a v.written f v.faults (Err e)
  first_printed WriteFault v h = let wide = failed_wider s t start v (begins (λ u. IsFailed s u v) h) in record { prefix = wide.prefix; rose = wide.rose }
  first_printed NoMemory v h =
      let all = cut_more [] s t start start v (put_none start) (begins (λ u. IsCut s u v) h) in
      record { part = part_sent a v.written v.held (s ++ t) all.part; calm = all.calm }

  module _ (v : Way) (first : IsPut s (way a f held) v) where
    begun : IsPut s start v
    begun = begins (λ u. IsPut s u v) first

    pub second_printed : (e : PrintError) (w : Way) → HasPut t v w (Err e) → HasPrinted (s ++ t) a w.written f w.faults (Err e)
    second_printed WriteFault w h = let both = failed_more s t start v w begun h in record { prefix = both.prefix; rose = both.rose }
    second_printed NoMemory w h =
        let both = cut_more s t [] start v w begun h in
        let part = part_sent a w.written w.held (s ++ (t ++ [])) both.part in
        record { part = subst (λ l. AppendsPart a w.written (s ++ l)) (append-nil t) part; calm = both.calm }

    -- what is held back at the end is sent, which takes no memory
    pub last_printed : (w : Way) → IsPut t v w → (b : Option (List ℕ)) (g : ℕ) (r : Result (Unit {0}) PrintError) → r ≢ Err NoMemory → HasPrinted w.held w.written b w.faults g r → HasPrinted (s ++ t) a b f g r
    last_printed w second b g (Ok u) never h =
        let both = put_more s t start v w begun second in
        record { out = all_sent a w.written b w.held (s ++ t) both.moved h.out; calm = h.calm ∙ both.calm }
    last_printed w second b g (Err WriteFault) never h =
        let both = put_more s t start v w begun second in
        record {
          prefix = front_sent a w.written b w.held (s ++ t) both.moved h.prefix;
          rose = subst (λ n. Rose n g) both.calm h.rose;
        }
    last_printed w second b g (Err NoMemory) never h = absurd (never refl)
