-- The texts of a run by a schedule.
use Rattle.std.specs.Prelude.{◌≡◌, ℕ, List, ◌++◌, length}
use Rattle.element_tree.specs.Tree.{Tree}
use Rattle.element_tree.specs.Names.{labels_of}
use Rattle.interval_tables.specs.declared.report.Report.{Report}
use Rattle.interval_tables.specs.Rows.{sum_of}
use Rattle.jm_meaning.specs.Beginning.{Options}
use Rattle.output_lines.specs.Lines.{header_text}
use Rattle.output_lines.specs.Reports.{summary_text}
use Rattle.phaser_core.specs.Shares.{Partition}
use Rattle.phaser_core.specs.Keeps.{all_entries}
use Rattle.run_engine.specs.SectionsRun.{AllLeave}
use Rattle.thread_machine.specs.declared.trace.TraceItem.{TraceItem}
use Rattle.trace_output.specs.Texts.{traces_text, reports_text, ends_text}
use Rattle.thread_machine.specs.Paired.{pairs_of}
use Rattle.weave_engine.specs.Followed.{AllFollow}
use Rattle.weave_engine.specs.Woven.{Woven}
use Rattle.command_words.specs.declared.command.Weave.{Weave as WeaveOf}

-- the seed, the properties and each thread's sample budget
abbrev pub weave_options : WeaveOf → Options
weave_options w = record { seed = w.seed; props = w.props; budget = w.samples }

-- What the threads of a plan have done by a schedule: the traces and the reports of the woven run. Each trace is that of its
-- thread over the plan's own replies, or a prefix of it and the stop, and leaves each section that it enters; each sample of
-- each trace counts in exactly one report, that of the interval which its result line shows; and in the total, which all
-- reports sum to.
pub record IsWeave (w : WeaveOf) (plan : Tree) (traces : List (List TraceItem)) (reports : List Report) (total : Report) : Type 0 where
  pub woven : Woven plan (weave_options w) w.schedule traces reports
  pub follows : AllFollow plan (weave_options w) traces
  pub sections : AllLeave traces
  pub parted : Partition (length (labels_of plan.elements)) (pairs_of traces) reports
  pub total_is : total.rows ≡ sum_of (length (labels_of plan.elements)) (all_entries (pairs_of traces))

-- the results: the header, and the result lines in thread order
abbrev pub weave_results : Tree → List (List TraceItem) → List ℕ
weave_results plan traces = header_text ++ traces_text plan traces

-- the report: the reports in the order of their intervals, the summary of all of them, and the end lines in thread order
abbrev pub weave_report : Tree → List Report → Report → List (List TraceItem) → List ℕ
weave_report plan reports total traces = reports_text plan reports ++ (summary_text plan total ++ ends_text plan traces)

-- the texts of the woven run
pub record WeaveTexts (w : WeaveOf) (plan : Tree) (results report : List ℕ) : Type 0 where
  pub traces : List (List TraceItem)
  pub reports : List Report
  pub total : Report
  pub weave : IsWeave w plan traces reports total
  pub results_are : results ≡ weave_results plan traces
  pub report_is : report ≡ weave_report plan reports total traces
