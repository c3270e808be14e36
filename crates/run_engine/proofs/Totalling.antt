-- All reports together are what all entries of the traces sum to.
use Rattle.std.proofs.Common.{◌≡◌, ◌∙◌, ℕ, zero, suc, ◌+◌, ◌-◌, ◌*◌, ◌<◌, ◌≤◌, ◌==◌, Bool, true, false, cond, List, [], ◌∷◌, ◌++◌, length, filter, map, take, refl, sym, ap, subst, arith, length-append, append_assoc, eq-eqb, ne_eqb}
use Rattle.std.proofs.lemmas.List.{length-take-le, get_or-take}
use mathlib.Core.Logic.{dite}
use native.Mathlib.Decide.{ℕ_discrete}
use Rattle.jm_base.specs.declared.types.Entry.{Entry}
use Rattle.jm_base.specs.SumTotals.{total}
use Rattle.interval_tables.specs.declared.row.Row.{Row}
use Rattle.interval_tables.specs.declared.report.Report.{Report}
use Rattle.interval_tables.specs.Rows.{sum_of, merged_rows, IsInBounds}
use Rattle.interval_tables.proofs.Sums.{sum_of_append, sum_of_swap, counts_over}
use Rattle.phaser_core.specs.declared.view.ReporterView.{ReporterView}
use Rattle.phaser_core.specs.Views.{Pair}
use Rattle.phaser_core.specs.Shares.{entries_of, entries_in, AllUpTo, AllTimed, Partition, rows_of_all}
use Rattle.phaser_core.specs.Cells.{no_report}
use Rattle.phaser_core.proofs.Merging.{in_turn, turns_labels, merged_turns, merged_bounds, report_more}
use Rattle.reporter_loop.specs.Counted.{CountsAll}
use Rattle.thread_machine.specs.declared.trace.TraceItem.{TraceItem}
use Rattle.phaser_core.specs.Keeps.{AllKeep, all_entries}
use Rattle.thread_machine.specs.Paired.{pairs_of}
use Rattle.run_engine.proofs.Bounding.{CanCount, counts_in_bounds, counts_lists, counts_shares}
use Rattle.run_engine.proofs.Joining.{pairs_length}

-- the entry where the test is true
abbrev one : Bool → Entry → List Entry
one b e = cond b (e ∷ []) []

kept_one : (b : Bool) (x : Pair) (l : List Pair) → map (λ (p : Pair). p.1) (cond b (x ∷ l) l) ≡ one b x.1 ++ map (λ (p : Pair). p.1) l
kept_one true x l = refl
kept_one false x l = refl

-- the entries of no interval
turns_nothing : (j n : ℕ) → in_turn j n (λ m. []) ≡ []
turns_nothing j zero = refl
turns_nothing j (suc n) = turns_nothing (suc j) n

-- one entry is in one interval
turns_past : (j n a : ℕ) (e : Entry) → a < j → in_turn j n (λ m. one (a == m) e) ≡ []
turns_past j zero a e low = refl
turns_past j (suc n) a e low = ap (λ (b : Bool). one b e ++ in_turn (suc j) n (λ m. one (a == m) e)) (ne_eqb a j (λ z. omega arith)) ∙ turns_past (suc j) n a e (omega arith)

turns_one : (j n a : ℕ) (e : Entry) → j ≤ a → a < j + n → in_turn j n (λ m. one (a == m) e) ≡ e ∷ []
turns_one j zero a e from low = absurd (omega arith)
turns_one j (suc n) a e from low = dite (ℕ_discrete a j)
    (λ is. ap (λ (b : Bool). one b e ++ in_turn (suc j) n (λ m. one (a == m) e)) (eq-eqb a j is) ∙ ap (λ (l : List Entry). e ∷ l) (turns_past (suc j) n a e (omega arith)))
    (λ ne. ap (λ (b : Bool). one b e ++ in_turn (suc j) n (λ m. one (a == m) e)) (ne_eqb a j ne) ∙ turns_one (suc j) n a e (omega arith) (omega arith))

module _ (labels : ℕ) where
  -- lists that sum to the same, one after the other
  sum_both : (a b c d : List Entry) → sum_of labels a ≡ sum_of labels b → sum_of labels c ≡ sum_of labels d → sum_of labels (a ++ c) ≡ sum_of labels (b ++ d)
  sum_both a b c d p q = sym (sum_of_append labels a c) ∙ (λ i. merged_rows (p i) (q i)) ∙ sum_of_append labels b d

  -- a list moves past another
  sum_past : (a b c : List Entry) → sum_of labels (a ++ (b ++ c)) ≡ sum_of labels (b ++ (a ++ c))
  sum_past a b c =
      ap (sum_of labels) (sym (append_assoc a b c)) ∙ sum_both (a ++ b) (b ++ a) c c (sum_of_swap labels a b) refl ∙ ap (sum_of labels) (append_assoc b a c)

  turns_both : (j n : ℕ) (f g : ℕ → List Entry) → sum_of labels (in_turn j n (λ m. f m ++ g m)) ≡ sum_of labels (in_turn j n f ++ in_turn j n g)
  turns_both j zero f g = refl
  turns_both j (suc n) f g =
      let later_f : List Entry = in_turn (suc j) n f in let later_g : List Entry = in_turn (suc j) n g in
      sum_both (f j ++ g j) (f j ++ g j) (in_turn (suc j) n (λ m. f m ++ g m)) (later_f ++ later_g) refl (turns_both (suc j) n f g)
      ∙ ap (sum_of labels) (append_assoc (f j) (g j) (later_f ++ later_g))
      ∙ sum_both (f j) (f j) (g j ++ (later_f ++ later_g)) (later_f ++ (g j ++ later_g)) refl (sum_past (g j) later_f later_g)
      ∙ ap (sum_of labels) (sym (append_assoc (f j) later_f (g j ++ later_g)))

  -- the entries of one list, interval by interval
  list_turns : (n last : ℕ) (l : List Pair) → last < n → AllUpTo last l → sum_of labels (in_turn 0 n (λ m. entries_of m l)) ≡ sum_of labels (map (λ (p : Pair). p.1) l)
  list_turns n last [] low h = ap (sum_of labels) (turns_nothing 0 n)
  list_turns n last (x ∷ xs) low h =
      let up : x.0 ≤ last = h.0 in
      ap (λ (f : ℕ → List Entry). sum_of labels (in_turn 0 n f)) (λ i m. kept_one (x.0 == m) x (filter (λ (p : Pair). p.0 == m) xs) i)
      ∙ turns_both 0 n (λ m. one (x.0 == m) x.1) (λ m. entries_of m xs)
      ∙ sum_both (in_turn 0 n (λ m. one (x.0 == m) x.1)) (x.1 ∷ []) (in_turn 0 n (λ m. entries_of m xs)) (map (λ (p : Pair). p.1) xs)
      (ap (sum_of labels) (turns_one 0 n x.0 x.1 (omega arith) (omega arith))) (list_turns n last xs low h.1)

  -- and of several
  lists_turns : (n last : ℕ) (lists : List (List Pair)) → last < n → AllTimed last lists → sum_of labels (in_turn 0 n (λ m. entries_in m lists)) ≡ sum_of labels (all_entries lists)
  lists_turns n last [] low h = ap (sum_of labels) (turns_nothing 0 n)
  lists_turns n last (l ∷ ls) low h =
      turns_both 0 n (λ m. entries_of m l) (λ m. entries_in m ls)
      ∙ sum_both (in_turn 0 n (λ m. entries_of m l)) (map (λ (p : Pair). p.1) l) (in_turn 0 n (λ m. entries_in m ls)) (all_entries ls) (list_turns n last l low h.0.1) (lists_turns n last ls low h.1)

  -- the first lists have no more entries than all
  firsts_few : (j i n : ℕ) (f : ℕ → List Entry) → i ≤ n → length (in_turn j i f) ≤ length (in_turn j n f)
  firsts_few j zero n f low = omega arith
  firsts_few j (suc i) zero f low = absurd (omega arith)
  firsts_few j (suc i) (suc n) f low =
      let r = firsts_few (suc j) i n f (omega arith) in
      let a = length-append (f j) (in_turn (suc j) i f) in let b = length-append (f j) (in_turn (suc j) n f) in omega arith

  -- reports of which each sums its interval are together the sum of all entries
  pub total_is : (lists : List (List Pair)) (reports : List Report) → Partition labels lists reports → rows_of_all labels reports ≡ sum_of labels (all_entries lists)
  total_is lists reports p =
      let some : 0 < length reports = p.some in
      merged_turns labels reports (λ m. entries_in m lists) (λ m low. ap (λ (q : Report). q.rows) (p.sums m low))
      ∙ lists_turns (length reports) (length reports - 1) lists (omega arith) p.timed

-- each trace has its list
pub few_lists : (traces : List (List TraceItem)) (n budget : ℕ) → n ≡ budget → length traces * budget ≤ 4194304 → length (pairs_of traces) * n ≤ 4194304
few_lists traces n budget same few =
    subst (λ (k : ℕ). length (pairs_of traces) * k ≤ 4194304) (sym same) (subst (λ (k : ℕ). k * budget ≤ 4194304) (sym (pairs_length traces)) few)

-- the total of the closed reports, with the last report merged into it
module _ (labels : ℕ) (r : ReporterView) (so_far last : Report) (lists : List (List Pair)) (reports : List Report) (c : CountsAll labels r so_far) (are : reports ≡ r.closed ++ last ∷ []) (parted : Partition labels lists reports) where
  pub all_counted : merged_rows so_far.rows last.rows ≡ sum_of labels (all_entries lists)
  all_counted =
      ap (λ (rows : List Row). merged_rows rows last.rows) c.all ∙ sym (report_more (sum_of labels []) r.closed last)
      ∙ ap (rows_of_all labels) (sym are) ∙ total_is labels lists reports parted

  pub all_fit : (budget : ℕ) → AllKeep labels budget lists → length lists * budget ≤ 4194304 → IsInBounds (merged_rows so_far.rows last.rows)
  all_fit budget keep few = subst IsInBounds (sym all_counted) (counts_in_bounds labels (length lists * budget) (all_entries lists) (counts_lists labels budget lists keep) few)

-- where each list keeps to the budget and all are few, the first reports are in bounds together
module _ (labels budget : ℕ) (lists : List (List Pair)) (reports : List Report) (parted : Partition labels lists reports) (keep : AllKeep labels budget lists) (few : length lists * budget ≤ 4194304) where
  in_interval : (m : ℕ) → CanCount labels (length lists * budget) (entries_in m lists)
  in_interval m = counts_shares labels budget m lists keep

  all_few : length (in_turn 0 (length reports) (λ m. entries_in m lists)) ≤ 4194304
  all_few =
      let some : 0 < length reports = parted.some in
      let all = counts_lists labels budget lists keep in
      let turns : List Entry = in_turn 0 (length reports) (λ m. entries_in m lists) in
      let here : total (λ (r : Row). r.count) (sum_of labels turns) ≡ length turns = counts_over labels turns (turns_labels labels 0 (length reports) (λ m. entries_in m lists) (λ m. (in_interval m).labelled)) in
      let there : total (λ (r : Row). r.count) (sum_of labels (all_entries lists)) ≡ length (all_entries lists) = counts_over labels (all_entries lists) all.labelled in
      let same : total (λ (r : Row). r.count) (sum_of labels turns) ≡ total (λ (r : Row). r.count) (sum_of labels (all_entries lists)) =
      ap (λ (rows : List Row). total (λ (r : Row). r.count) rows) (lists_turns labels (length reports) (length reports - 1) lists (omega arith) parted.timed) in
      let most : length (all_entries lists) ≤ length lists * budget = all.few in omega arith

  pub firsts_fit : (i : ℕ) → i ≤ length reports → IsInBounds (rows_of_all labels (take i reports))
  firsts_fit i low =
      let long : length (take i reports) ≡ i = length-take-le i reports low in
      let f : length (in_turn 0 (length (take i reports)) (λ m. entries_in m lists)) ≤ length (in_turn 0 (length reports) (λ m. entries_in m lists)) =
      firsts_few labels 0 (length (take i reports)) (length reports) (λ m. entries_in m lists) (omega arith) in
      let a = all_few in
      merged_bounds labels (take i reports) (λ m. entries_in m lists) (λ m at. ap (λ (q : Report). q.rows) (get_or-take i reports m no_report (omega arith) ∙ parted.sums m (omega arith)))
      (λ m. (in_interval m).labelled) (λ m. (in_interval m).small) (omega arith)
