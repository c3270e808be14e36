-- The result lines of a trace.
use Rattle.std.specs.Prelude.{◌≡◌, ℕ, ◌+◌, ◌-◌, ◌<◌, ◌≤◌, List, [], ◌∷◌, ◌++◌, length, take, slice_get, Option, Some, None, option_and_then}
use Rattle.std.specs.List.{flat_map}
use Rattle.std.specs.Option.{option_map_or}
use Rattle.jm_base.specs.declared.types.End.{End}
use Rattle.element_tree.specs.Tree.{Tree}
use Rattle.element_tree.specs.Names.{labels_of}
use Rattle.interval_tables.specs.declared.report.Report.{Report}
use Rattle.interval_tables.specs.Rows.{IsInBounds}
use Rattle.output_lines.specs.Bulk.{LinesOf}
use Rattle.output_lines.specs.Reports.{report_text}
use Rattle.output_lines.specs.Lines.{result_text, end_text}
use Rattle.thread_machine.specs.declared.trace.TraceItem.{TraceItem}
use Rattle.thread_machine.specs.declared.trace.TraceItem.TheVariants.{Sampled, Ended}

-- the line of a sample, with the interval in which it was counted; other items have none
abbrev pub line_of : Tree → ℕ → TraceItem → List ℕ
line_of plan thread (Sampled sample interval) = result_text plan thread sample interval
line_of plan thread item = []

-- the lines of a thread's trace
abbrev pub trace_text : Tree → ℕ → List TraceItem → List ℕ
trace_text plan thread trace = flat_map (line_of plan thread) trace

-- The lines of the first items of a thread's trace stand after a text: of that many items, which are all or bring the text to
-- the wanted length, and one fewer would not.
pub record AddsLines (lines : LinesOf) (items : List TraceItem) (most : ℕ) (old new : List ℕ) (count : ℕ) : Type 0 where
  pub text : new ≡ old ++ trace_text lines.plan lines.thread (take count items)
  pub within : count ≤ length items
  pub full : count < length items → most ≤ length new
  pub room : (k : ℕ) → k < count → length (old ++ trace_text lines.plan lines.thread (take k items)) < most

-- how a thread has ended, by an item of its trace
abbrev pub end_in : TraceItem → Option End
end_in (Ended end) = Some end
end_in item = None

-- how a thread has ended, by the last item of its trace
abbrev pub end_of : List TraceItem → Option End
end_of trace = option_and_then end_in (slice_get trace (length trace - 1))

-- the line that says how a thread has ended, where its trace says it
abbrev pub end_line_of : Tree → ℕ → List TraceItem → List ℕ
end_line_of plan thread trace = option_map_or (end_text plan thread) (end_of trace) []

-- the texts of the elements of a list, each by its number, from this number on
abbrev pub each_numbered : {A : Type 0} → (ℕ → A → List ℕ) → ℕ → List A → List ℕ
each_numbered text n [] = []
each_numbered text n (x ∷ xs) = text n x ++ each_numbered text (n + 1) xs

-- the lines of all threads' traces, in thread order
abbrev pub traces_text : Tree → List (List TraceItem) → List ℕ
traces_text plan traces = each_numbered (trace_text plan) 0 traces

-- the end lines of all threads, in thread order
abbrev pub ends_text : Tree → List (List TraceItem) → List ℕ
ends_text plan traces = each_numbered (end_line_of plan) 0 traces

-- a report has a row for each label of the plan, and its numbers are in bounds
abbrev pub CanPrint : Tree → Report → Type 0
CanPrint plan report = (length report.rows ≡ length (labels_of plan.elements)) × IsInBounds report.rows

-- the lines of reports, in their order
abbrev pub reports_text : Tree → List Report → List ℕ
reports_text plan reports = each_numbered (λ n report. report_text plan report) 0 reports
