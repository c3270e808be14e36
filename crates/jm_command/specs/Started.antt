-- What a run with threads comes to.
use Rattle.std.specs.Prelude.{◌≡◌, ◌⊎◌, ℕ, ◌-◌, ◌≤◌, Bool, true, List, [], ◌++◌, length, take, Option, Some, None, option_map}
use Rattle.std.specs.Option.{option_map_or}
use Rattle.std.specs.List.{list_all, range_with_len}
use Rattle.std.specs.Io.KnownBytes.{Appends}
use Rattle.jm_base.specs.FaultCounts.{Rose}
use Rattle.jm_base.specs.declared.types.Heard.{Heard}
use Rattle.edge_io.specs.Edges.{AppendsProperPrefix}
use Rattle.line_output.specs.OutputPieces.{AppendsPart}
use Rattle.element_tree.specs.Tree.{Tree, threads_of}
use Rattle.element_tree.specs.Names.{labels_of}
use Rattle.interval_tables.specs.declared.report.Report.{Report}
use Rattle.interval_tables.specs.Rows.{sum_of}
use Rattle.phaser_core.specs.Shares.{Partition}
use Rattle.jm_meaning.specs.Beginning.{Options}
use Rattle.outside_world.specs.Tickers.{Ticks, with_period}
use Rattle.output_lines.specs.Lines.{header_text}
use Rattle.output_lines.specs.Reports.{report_text, summary_text}
use Rattle.thread_machine.specs.declared.trace.TraceItem.{TraceItem}
use Rattle.trace_output.specs.Texts.{traces_text, end_of, ends_text}
use Rattle.reporter_loop.specs.ReportsWritten.{texts_of, WritesPrefix}
use Rattle.reporter_loop.specs.Ticked.{HasTickedWhere, TickedSoFar}
use Rattle.run_engine.specs.Followed.{AllFollow, AreFollowed}
use Rattle.run_engine.specs.Joins.{AllEnd, AllLabelled}
use Rattle.phaser_core.specs.Keeps.{all_entries}
use Rattle.thread_machine.specs.Paired.{pairs_of}
use Rattle.run_engine.specs.SectionsRun.{AllLeave}
use Rattle.run_engine.specs.Stops.{StopHasCause}
use Rattle.command_words.specs.declared.command.Command.{Command}
use Rattle.command_words.specs.declared.command.Command.TheVariants.{Check, Make, Solo, Weave, Run}
use Rattle.command_words.specs.declared.command.Run.{Run as RunOf}
use Rattle.jm_command.specs.declared.status.Status.{Status}
use Rattle.jm_command.specs.declared.status.Status.TheVariants as statuses
use Rattle.jm_command.specs.Printed.{end_is_whole}
use Rattle.jm_command.specs.Parts.{Sinks, sinks, NoResults}
use Rattle.jm_command.specs.Command.{Edges, Accepts, IsRefusal, IsUnread, NothingPrinted, RefusalUnwritten, Says, IsStatus, NoRise, status_for}

-- ---- what is printed of a run

-- the results: the header, and the result lines in thread order
abbrev pub run_results : Tree → List (List TraceItem) → List ℕ
run_results plan traces = header_text ++ traces_text plan traces

-- what is printed while the threads run, and when they have ended: the reports in the order of their intervals
abbrev pub run_reports : Tree → List Report → List ℕ
run_reports plan reports = texts_of (report_text plan) reports

-- what is printed last: the summary of all reports, and the end lines
abbrev pub run_tail : Tree → Report → List (List TraceItem) → List ℕ
run_tail plan total traces = summary_text plan total ++ ends_text plan traces

-- ---- the one history that is printed

-- the seed, the properties and each thread's sample budget
abbrev pub run_options : RunOf → Options
run_options r = record { seed = r.seed; props = r.props; budget = r.samples }

-- whether the world tells, the numbers of the outsides that it opened, what it was told of each thread, and what the ticker was
-- asked, where it tells
pub record Around : Type 0 where
  pub tells : Bool
  pub opened : List ℕ
  pub told : ℕ → Option (List Heard)
  pub ticks : Option Ticks

abbrev pub around : Bool → List ℕ → (ℕ → Option (List Heard)) → Option Ticks → Around
around tells opened told ticks = record { tells = tells; opened = opened; told = told; ticks = ticks }

-- no outside was opened, and the ticker was left alone
abbrev pub IsLeftAlone : Option Ticks → Around → Type 0
IsLeftAlone ticks after = (after.opened ≡ []) × (after.ticks ≡ ticks)

-- the ticker was set to the period that was asked for, and then gave that many true answers
abbrev pub HasTickedInAll : RunOf → ℕ → Option Ticks → Around → Type 0
HasTickedInAll r trues ticks after = HasTickedWhere trues (option_map (with_period r.every) ticks) after.ticks

-- the reports before the last
abbrev pub before_last : List Report → List Report
before_last reports = take (length reports - 1) reports

-- An outside was opened for each thread, and each thread has a trace that follows what its outside was told, where the world
-- tells. A trace ends once, leaves each section that it enters, and the labels of its samples are the plan's: so each sample of
-- each trace counts in exactly one report, that of the interval which its result line shows; and in the total, which all reports
-- sum to. A thread was stopped only where another has ended the test, or a report before the last has more errors than the limit
-- that was asked for.
pub record IsHistory (r : RunOf) (plan : Tree) (around : Around) (traces : List (List TraceItem)) (reports : List Report) (total : Report) : Type 0 where
  pub opened : around.opened ≡ range_with_len 0 (length (threads_of plan))
  pub threads : length traces ≡ length (threads_of plan)
  pub ends : AllEnd traces
  pub sections : AllLeave traces
  pub labelled : AllLabelled (length (labels_of plan.elements)) traces
  pub follows : around.tells ≡ true → AllFollow plan (run_options r) around.told traces
  pub parted : Partition (length (labels_of plan.elements)) (pairs_of traces) reports
  pub total_is : total.rows ≡ sum_of (length (labels_of plan.elements)) (all_entries (pairs_of traces))
  pub stopped : StopHasCause r.limit traces (before_last reports)

-- a thread was not cut short because memory ran out
abbrev pub is_whole_trace : List TraceItem → Bool
is_whole_trace trace = option_map_or end_is_whole (end_of trace) true

-- no thread was
abbrev pub all_whole : List (List TraceItem) → Bool
all_whole traces = list_all is_whole_trace traces

-- ---- printing while the threads run, and after them

-- the threads have run: what they did, and their reports in the sink up to here, one for each true answer of the ticker and the last
pub record HasRun (r : RunOf) (plan : Tree) (ticks : Option Ticks) (after : Around) (traces : List (List TraceItem)) (total : Report) (old between : Option (List ℕ)) : Type 0 where
  pub reports : List Report
  pub history : IsHistory r plan after traces reports total
  pub reports_out : Appends old between (run_reports plan reports)
  pub ticked : HasTickedInAll r (length reports - 1) ticks after

-- All is printed, of one history: the results hold the header and the result lines; the reports hold the reports, the summary and
-- the end lines. The ticker was set to the period that was asked for, and gave as many true answers as there are reports before
-- the last.
pub record AllPrinted (r : RunOf) (plan : Tree) (ticks : Option Ticks) (after : Around) (old new : Sinks) : Type 0 where
  pub traces : List (List TraceItem)
  pub reports : List Report
  pub total : Report
  pub history : IsHistory r plan after traces reports total
  pub whole : all_whole traces ≡ true
  pub results_out : Appends old.results new.results (run_results plan traces)
  pub reports_out : Appends old.reports new.reports (run_reports plan reports ++ run_tail plan total traces)
  pub ticked : HasTickedInAll r (length reports - 1) ticks after
  pub result_calm : new.result_faults ≡ old.result_faults
  pub report_calm : new.report_faults ≡ old.report_faults

-- the ticker was set to the period that was asked for, and gave at most 16,777,216 true answers
abbrev pub HasTickedSoFar : RunOf → Option Ticks → Around → Type 0
HasTickedSoFar r ticks after = (n : ℕ) × (n ≤ 16777216) × TickedSoFar n (option_map (with_period r.every) ticks) after.ticks

-- each outside that was opened was told what some trace of its thread follows, where the world tells
abbrev pub HasHeardSoFar : RunOf → Tree → Around → Type 0
HasHeardSoFar r plan after = after.tells ≡ true → AreFollowed plan (run_options r) after.opened after.told

-- A sink has failed while the threads ran: the reports hold a prefix of the lines of reports that are numbered from 0, and the
-- results nothing. No more outsides were opened than the plan has threads.
pub record RunFailed (r : RunOf) (plan : Tree) (ticks : Option Ticks) (after : Around) (old new : Sinks) : Type 0 where
  pub begun : WritesPrefix (report_text plan) old.reports new.reports
  pub ticked : HasTickedSoFar r ticks after
  pub few : length after.opened ≤ length (threads_of plan)
  pub heard : HasHeardSoFar r plan after
  pub rose : Rose old.report_faults new.report_faults
  pub nothing : NoResults old new

-- A sink has failed after them: a prefix of the results is out, and the summary was not begun; or the results and a prefix of the
-- summary and the end lines are out.
pub record RunResultsFailed (r : RunOf) (plan : Tree) (ticks : Option Ticks) (after : Around) (old new : Sinks) : Type 0 where
  pub traces : List (List TraceItem)
  pub total : Report
  pub ran : HasRun r plan ticks after traces total old.reports new.reports
  pub prefix : AppendsProperPrefix old.results new.results (run_results plan traces)
  pub rose : Rose old.result_faults new.result_faults
  pub report_calm : new.report_faults ≡ old.report_faults

pub record TailFailed (r : RunOf) (plan : Tree) (ticks : Option Ticks) (after : Around) (old new : Sinks) : Type 0 where
  pub traces : List (List TraceItem)
  pub total : Report
  pub between : Option (List ℕ)
  pub ran : HasRun r plan ticks after traces total old.reports between
  pub results_out : Appends old.results new.results (run_results plan traces)
  pub prefix : AppendsProperPrefix between new.reports (run_tail plan total traces)
  pub rose : Rose old.report_faults new.report_faults
  pub result_calm : new.result_faults ≡ old.result_faults

-- Memory ran out, and no sink has failed: the same, where a prefix may be all. All is printed where a thread was cut short and
-- memory sufficed after it.
pub record RunCut (r : RunOf) (plan : Tree) (ticks : Option Ticks) (after : Around) (old new : Sinks) : Type 0 where
  pub begun : WritesPrefix (report_text plan) old.reports new.reports
  pub ticked : HasTickedSoFar r ticks after
  pub few : length after.opened ≤ length (threads_of plan)
  pub heard : HasHeardSoFar r plan after
  pub report_calm : new.report_faults ≡ old.report_faults
  pub nothing : NoResults old new

pub record RunResultsCut (r : RunOf) (plan : Tree) (ticks : Option Ticks) (after : Around) (old new : Sinks) : Type 0 where
  pub traces : List (List TraceItem)
  pub total : Report
  pub ran : HasRun r plan ticks after traces total old.reports new.reports
  pub part : AppendsPart old.results new.results (run_results plan traces)
  pub result_calm : new.result_faults ≡ old.result_faults
  pub report_calm : new.report_faults ≡ old.report_faults

pub record TailCut (r : RunOf) (plan : Tree) (ticks : Option Ticks) (after : Around) (old new : Sinks) : Type 0 where
  pub traces : List (List TraceItem)
  pub total : Report
  pub between : Option (List ℕ)
  pub ran : HasRun r plan ticks after traces total old.reports between
  pub results_out : Appends old.results new.results (run_results plan traces)
  pub part : AppendsPart between new.reports (run_tail plan total traces)
  pub result_calm : new.result_faults ≡ old.result_faults
  pub report_calm : new.report_faults ≡ old.report_faults

-- what a status says of the sinks of a run
abbrev pub RunPrints : RunOf → Tree → Option Ticks → Around → Sinks → Sinks → Status → Type 0
RunPrints r plan ticks after old new statuses.Done = AllPrinted r plan ticks after old new
RunPrints r plan ticks after old new statuses.Usage = ⊥
RunPrints r plan ticks after old new statuses.Refused = ⊥
RunPrints r plan ticks after old new statuses.ReadFault = ⊥
RunPrints r plan ticks after old new statuses.WriteFault = RunFailed r plan ticks after old new ⊎ (RunResultsFailed r plan ticks after old new ⊎ TailFailed r plan ticks after old new)
RunPrints r plan ticks after old new statuses.Memory = RunCut r plan ticks after old new ⊎ (RunResultsCut r plan ticks after old new ⊎ TailCut r plan ticks after old new)

-- ---- the statuses of a start

abbrev pub sinks_of : Edges → Sinks
sinks_of e = sinks e.results e.result_faults e.reports e.report_faults

-- the plan was read to its end and accepted, no read failed, and the run on it came to this status
pub record RunSays (r : RunOf) (ticks : Option Ticks) (after : Around) (old new : Edges) (status : Status) : Type 0 where
  pub plan : Tree
  pub accepts : Accepts (Run r) old new plan
  pub read_calm : new.read_faults ≡ old.read_faults
  pub prints : RunPrints r plan ticks after (sinks_of old) (sinks_of new) status

-- What a status says of a run.
-- 0: all is printed. 3, 4: as of a plain command. 5: a line of a refusal is not out whole, or what is printed of the run.
-- 7: nothing is printed, or a prefix of what is printed of the run. Where the threads were not started the world and the ticker
-- were left alone.
abbrev pub RunStarts : RunOf → Option Ticks → Around → Edges → Edges → Status → Type 0
RunStarts r ticks after old new statuses.Done = RunSays r ticks after old new statuses.Done
RunStarts r ticks after old new statuses.Usage = ⊥
RunStarts r ticks after old new statuses.Refused = IsRefusal (Run r) old new × IsLeftAlone ticks after
RunStarts r ticks after old new statuses.ReadFault = IsUnread (Run r) old new × IsLeftAlone ticks after
RunStarts r ticks after old new statuses.WriteFault = (RefusalUnwritten (Run r) old new × IsLeftAlone ticks after) ⊎ RunSays r ticks after old new statuses.WriteFault
RunStarts r ticks after old new statuses.Memory = (NothingPrinted (Some (Run r)) old new × IsLeftAlone ticks after) ⊎ RunSays r ticks after old new statuses.Memory

-- What a status says of a start whose words are this command, or none: of a plain command what it says there, and then the world and
-- the ticker were left alone.
abbrev pub StartSays : Option Command → Option Ticks → Around → Edges → Edges → Status → Type 0
StartSays None ticks after old new status = Says None old new status × IsLeftAlone ticks after
StartSays (Some Check) ticks after old new status = Says (Some Check) old new status × IsLeftAlone ticks after
StartSays (Some (Make m)) ticks after old new status = Says (Some (Make m)) old new status × IsLeftAlone ticks after
StartSays (Some (Solo s)) ticks after old new status = Says (Some (Solo s)) old new status × IsLeftAlone ticks after
StartSays (Some (Weave w)) ticks after old new status = Says (Some (Weave w)) old new status × IsLeftAlone ticks after
StartSays (Some (Run r)) ticks after old new status = RunStarts r ticks after old new status

-- What the exit status of a start says, by its number. With no fault and no pattern too large the words and the bytes alone
-- decide it, unless memory runs out.
pub record StartEnds (words : Option Command) (ticks : Option Ticks) (after : Around) (old new : Edges) (number : ℕ) : Type 0 where
  pub status : IsStatus number
  pub done : number ≡ 0 → StartSays words ticks after old new statuses.Done
  pub usage : number ≡ 2 → StartSays words ticks after old new statuses.Usage
  pub refused : number ≡ 3 → StartSays words ticks after old new statuses.Refused
  pub unread : number ≡ 4 → StartSays words ticks after old new statuses.ReadFault
  pub unwritten : number ≡ 5 → StartSays words ticks after old new statuses.WriteFault
  pub cut_short : number ≡ 7 → StartSays words ticks after old new statuses.Memory
  pub exact : (bytes : List ℕ) → old.left ≡ Some bytes → NoRise old new → (number ≡ status_for words bytes) ⊎ (number ≡ 7)
