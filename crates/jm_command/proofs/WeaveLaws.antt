-- The texts of a run by a schedule.
use Rattle.std.proofs.Common.{◌≡◌, ℕ, ◌+◌, ◌*◌, ◌<◌, ◌≤◌, List, [], ◌∷◌, length, take, get_or, Option, refl, sym, ap, ◌∙◌, subst, inl, inr}
use Rattle.std.specs.Prelude.{All}
use Rattle.std.proofs.lemmas.List.{get_or_default, take_more}
use Rattle.interval_tables.specs.declared.report.Report.{Report}
use Rattle.interval_tables.specs.declared.row.Row.{Row}
use Rattle.interval_tables.specs.Rows.{sum_of, merged_rows, IsInBounds}
use Rattle.interval_tables.proofs.Sums.{length-sum_of}
use Rattle.interval_tables.proofs.Folding.{length-merged_rows}
use Rattle.element_tree.specs.Tree.{Tree}
use Rattle.element_tree.specs.Names.{labels_of}
use Rattle.phaser_core.specs.Cells.{no_report}
use Rattle.phaser_core.specs.Shares.{entries_in, Partition, merged_from, rows_of_all}
use Rattle.phaser_core.proofs.Merging.{report_more}
use Rattle.thread_machine.specs.declared.trace.TraceItem.{TraceItem}
use Rattle.trace_output.specs.Texts.{CanPrint}
use Rattle.trace_output.specs.Printing.{TextOut, TextFailed, TextCut}
use Rattle.thread_machine.specs.Paired.{pairs_of}
use Rattle.phaser_core.specs.Keeps.{AllKeep, all_entries}
use Rattle.run_engine.proofs.Bounding.{counts_in_bounds, counts_shares}
use Rattle.run_engine.proofs.Joining.{pairs_length}
use Rattle.run_engine.proofs.Totalling.{total_is, firsts_fit}
use Rattle.command_words.specs.declared.command.Command.TheVariants.{Weave}
use Rattle.command_words.specs.declared.command.Weave.{Weave as WeaveOf}
use Rattle.jm_command.specs.declared.status.Status.{Status}
use Rattle.jm_command.specs.declared.status.Status.TheVariants.{Done, Usage, Refused, ReadFault, WriteFault, Memory}
use Rattle.jm_command.specs.Parts.{sinks, TextSays, PlanSays}
use Rattle.jm_command.specs.WovenTexts.{IsWeave, weave_results, weave_report, WeaveTexts}

-- ---- reports that are merged one after the other

from_length : (rows : List Row) (reports : List Report) → length (merged_from rows reports) ≡ length rows
from_length rows [] = refl
from_length rows (r ∷ rs) = from_length (merged_rows rows r.rows) rs ∙ length-merged_rows rows r.rows

module _ (labels : ℕ) (reports : List Report) (i : ℕ) (item : Report) (low : i < length reports) (is : item ≡ get_or reports i item) (so_far : List Row) (invariant : so_far ≡ rows_of_all labels (take i reports)) where
  pub so_far_length : length so_far ≡ labels
  so_far_length = ap length invariant ∙ from_length (sum_of labels []) (take i reports) ∙ length-sum_of labels []

  pub one_more : merged_rows so_far item.rows ≡ rows_of_all labels (take (i + 1) reports)
  one_more =
      (λ t. merged_rows (invariant t) (is t).rows) ∙ sym (report_more (sum_of labels []) (take i reports) (get_or reports i item))
      ∙ ap (rows_of_all labels) (sym (take_more reports i item low))

-- ---- each report is in bounds

module _ (plan : Tree) (budget : ℕ) (traces : List (List TraceItem)) (reports : List Report) where
  abbrev labels : ℕ
  labels = length (labels_of plan.elements)

  pub can_print : AllKeep labels budget (pairs_of traces) → length traces * budget ≤ 4194304 → Partition labels (pairs_of traces) reports → All (CanPrint plan) reports
  can_print keep few parted m d low =
      let lists = pairs_of traces in
      let is : get_or reports m d ≡ record { interval = m; rows = sum_of labels (entries_in m lists) } =
      get_or_default reports m d no_report low ∙ parted.sums m low in
      let most : length lists * budget ≤ 4194304 = subst (λ n. n * budget ≤ 4194304) (sym (pairs_length traces)) few in
      let bounds : IsInBounds (sum_of labels (entries_in m lists)) =
      counts_in_bounds labels (length lists * budget) (entries_in m lists) (counts_shares labels budget m lists keep) most in
      subst (CanPrint plan) (sym is) (length-sum_of labels (entries_in m lists), bounds)

  -- ---- the first reports are in bounds together

  pub firsts_low : AllKeep labels budget (pairs_of traces) → length traces * budget ≤ 4194304 → Partition labels (pairs_of traces) reports → (n : ℕ) → n ≤ length reports → IsInBounds (rows_of_all labels (take n reports))
  firsts_low keep few parted =
      firsts_fit labels budget (pairs_of traces) reports parted keep
      (subst (λ n. n * budget ≤ 4194304) (sym (pairs_length traces)) few)

-- ---- the reports together

pub all_counted : (labels : ℕ) (traces : List (List TraceItem)) (reports merged : List Report) (rows : List Row) → Partition labels (pairs_of traces) reports → merged ≡ reports → rows ≡ rows_of_all labels merged → rows ≡ sum_of labels (all_entries (pairs_of traces))
all_counted labels traces reports merged rows parted same is = is ∙ ap (rows_of_all labels) same ∙ total_is labels (pairs_of traces) reports parted

-- ---- what is printed

module _ (w : WeaveOf) (plan : Tree) (traces : List (List TraceItem)) (reports : List Report) (total : Report) (weave : IsWeave w plan traces reports total)
    (a b : Option (List ℕ)) (f g : ℕ) where
  abbrev results : List ℕ
  results = weave_results plan traces

  abbrev report : List ℕ
  report = weave_report plan reports total traces

  texts : WeaveTexts w plan results report
  texts = record { traces = traces; reports = reports; total = total; weave = weave; results_are = refl; report_is = refl }

  -- the results are not out
  pub weave_failed : TextFailed results a b f g → (r : Option (List ℕ)) (k : ℕ) → PlanSays (Weave w) plan (sinks a f r k) (sinks b g r k) WriteFault
  weave_failed h r k = (results, report, texts, inl (record { some = h.prefix; rose = h.rose; nothing = record { reports = refl; report_faults = refl } }))

  pub weave_cut : TextCut results a b f g → (r : Option (List ℕ)) (k : ℕ) → PlanSays (Weave w) plan (sinks a f r k) (sinks b g r k) Memory
  weave_cut h r k = inr (results, report, texts, inl (record { part = h.part; calm = h.calm; nothing = record { reports = refl; report_faults = refl } }))

  -- the results are out, and then comes the report
  pub weave_says : TextOut results a b f g → (r r' : Option (List ℕ)) (k k' : ℕ) (status : Status) → TextSays report r r' k k' status
      → PlanSays (Weave w) plan (sinks a f r k) (sinks b g r' k') status
  weave_says out r r' k k' Done h = (results, report, texts, record { results_out = out.out; result_calm = out.calm; report_out = h.out; report_calm = h.calm })
  weave_says out r r' k k' Usage h = absurd h
  weave_says out r r' k k' Refused h = absurd h
  weave_says out r r' k k' ReadFault h = absurd h
  weave_says out r r' k k' WriteFault h = (results, report, texts, inr (record { results_out = out.out; some = h.prefix; rose = h.rose; result_calm = out.calm }))
  weave_says out r r' k k' Memory h = inr (results, report, texts, inr (record { results_out = out.out; result_calm = out.calm; part = h.part; calm = h.calm }))
