-- What the parts of the program say.
use Rattle.std.specs.Prelude.{◌≡◌, ◌⊎◌, ℕ, ◌*◌, ◌<◌, ◌≤◌, Bool, true, false, List, length, Option, Some, None}
use Rattle.std.specs.Io.KnownBytes.{Appends}
use Rattle.jm_base.specs.FaultCounts.{Rose}
use Rattle.edge_io.specs.Edges.{AppendsProperPrefix}
use Rattle.line_output.specs.OutputPieces.{AppendsPart}
use Rattle.trace_output.specs.Printing.{TextOut, TextFailed, TextCut}
use Rattle.element_props.specs.Patterns.{Asked}
use Rattle.element_tree.specs.Tree.{Tree, threads_of}
use Rattle.jm_meaning.specs.declared.item.Item.{Item}
use Rattle.jm_command.specs.declared.status.Status.{Status}
use Rattle.jm_command.specs.declared.status.Status.TheVariants.{Done, Usage, Refused, ReadFault, WriteFault, Memory}
use Rattle.command_words.specs.declared.command.Command.{Command}
use Rattle.command_words.specs.declared.command.Command.TheVariants.{Check, Make, Solo as SoloCommand, Weave, Run}
use Rattle.command_words.specs.declared.command.Make.{Make as MakeOf}
use Rattle.command_words.specs.declared.command.Solo.{Solo}
use Rattle.command_words.specs.declared.command.Weave.{Weave as WeaveOf}
use Rattle.jm_command.specs.declared.refusal.Refusal.{Refusal}
use Rattle.jm_command.specs.declared.judge.Judged.{Judged}
use Rattle.jm_command.specs.declared.judge.Judged.TheVariants.{Fit, Unfit, NoMemory}
use Rattle.jm_command.specs.Refusals.{IsAccepted, IsRefused, MayAsk, refusal_line}
use Rattle.jm_command.specs.Printed.{default_solo, shown_of, report_of, HasShown, TextsOf, MayPrint}

-- what the two sinks hold, where it is told, and their counts of faults
pub record Sinks : Type 0 where
  pub results : Option (List ℕ)
  pub result_faults : ℕ
  pub reports : Option (List ℕ)
  pub report_faults : ℕ

abbrev pub sinks : Option (List ℕ) → ℕ → Option (List ℕ) → ℕ → Sinks
sinks results written reports told = record { results = results; result_faults = written; reports = reports; report_faults = told }

-- the results were left alone
pub record NoResults (old new : Sinks) : Type 0 where
  pub results : new.results ≡ old.results
  pub result_faults : new.result_faults ≡ old.result_faults

pub record NoReports (old new : Sinks) : Type 0 where
  pub reports : new.reports ≡ old.reports
  pub report_faults : new.report_faults ≡ old.report_faults

-- both were
pub record NothingOut (old new : Sinks) : Type 0 where
  pub results : NoResults old new
  pub reports : NoReports old new

-- saying a line, which is to end with this status
abbrev pub LineSays : List ℕ → Status → Option (List ℕ) → Option (List ℕ) → ℕ → ℕ → Status → Type 0
LineSays line wanted old new faults now Done = ⊥
LineSays line wanted old new faults now Usage = (wanted ≡ Usage) × TextOut line old new faults now
LineSays line wanted old new faults now Refused = (wanted ≡ Refused) × TextOut line old new faults now
LineSays line wanted old new faults now ReadFault = ⊥
LineSays line wanted old new faults now WriteFault = TextFailed line old new faults now
LineSays line wanted old new faults now Memory = ⊥

-- both texts are out
pub record BothOut (results report : List ℕ) (old new : Sinks) : Type 0 where
  pub results_out : Appends old.results new.results results
  pub result_calm : new.result_faults ≡ old.result_faults
  pub report_out : Appends old.reports new.reports report
  pub report_calm : new.report_faults ≡ old.report_faults

-- a prefix of the results is out, and the report was not begun
pub record ResultsFailed (results : List ℕ) (old new : Sinks) : Type 0 where
  pub some : AppendsProperPrefix old.results new.results results
  pub rose : Rose old.result_faults new.result_faults
  pub nothing : NoReports old new

-- the results and a prefix of the report are out
pub record ReportFailed (results report : List ℕ) (old new : Sinks) : Type 0 where
  pub results_out : Appends old.results new.results results
  pub some : AppendsProperPrefix old.reports new.reports report
  pub rose : Rose old.report_faults new.report_faults
  pub result_calm : new.result_faults ≡ old.result_faults

-- a prefix of the results is out, and the report was not begun
pub record ResultsShort (results : List ℕ) (old new : Sinks) : Type 0 where
  pub part : AppendsPart old.results new.results results
  pub calm : new.result_faults ≡ old.result_faults
  pub nothing : NoReports old new

-- the results and a prefix of the report are out
pub record ReportShort (results report : List ℕ) (old new : Sinks) : Type 0 where
  pub results_out : Appends old.results new.results results
  pub result_calm : new.result_faults ≡ old.result_faults
  pub part : AppendsPart old.reports new.reports report
  pub calm : new.report_faults ≡ old.report_faults

-- printing two texts, of which the second says whether all is whole
abbrev pub TextsSay : List ℕ → List ℕ → Bool → Sinks → Sinks → Status → Type 0
TextsSay results report whole old new Done = (whole ≡ true) × BothOut results report old new
TextsSay results report whole old new Usage = ⊥
TextsSay results report whole old new Refused = ⊥
TextsSay results report whole old new ReadFault = ⊥
TextsSay results report whole old new WriteFault = ResultsFailed results old new ⊎ ReportFailed results report old new
TextsSay results report whole old new Memory = ResultsShort results old new ⊎ ReportShort results report old new

-- printing one text
abbrev pub TextSays : List ℕ → Option (List ℕ) → Option (List ℕ) → ℕ → ℕ → Status → Type 0
TextSays text old new faults now Done = TextOut text old new faults now
TextSays text old new faults now Usage = ⊥
TextSays text old new faults now Refused = ⊥
TextSays text old new faults now ReadFault = ⊥
TextSays text old new faults now WriteFault = TextFailed text old new faults now
TextSays text old new faults now Memory = TextCut text old new faults now

-- printing the report of a thread that has run, whole or cut short
abbrev pub ReportSays : List ℕ → Bool → Option (List ℕ) → Option (List ℕ) → ℕ → ℕ → Status → Type 0
ReportSays report whole old new faults now Done = (whole ≡ true) × TextOut report old new faults now
ReportSays report whole old new faults now Usage = ⊥
ReportSays report whole old new faults now Refused = ⊥
ReportSays report whole old new faults now ReadFault = ⊥
ReportSays report whole old new faults now WriteFault = TextFailed report old new faults now
ReportSays report whole old new faults now Memory = TextCut report old new faults now

-- a thread with what stands for the options of `solo` may have shown this report
abbrev pub MayReport : Tree → List ℕ → Type 0
MayReport plan report = (items : List Item) × HasShown plan default_solo items report

-- running a thread with these options and printing its report
abbrev pub MadeSays : Tree → Option (List ℕ) → Option (List ℕ) → ℕ → ℕ → Status → Type 0
MadeSays plan old new faults now Done = TextOut (report_of plan default_solo.thread (shown_of plan default_solo)) old new faults now
MadeSays plan old new faults now Usage = ⊥
MadeSays plan old new faults now Refused = ⊥
MadeSays plan old new faults now ReadFault = ⊥
MadeSays plan old new faults now WriteFault = (report : List ℕ) × MayReport plan report × TextFailed report old new faults now
MadeSays plan old new faults now Memory = ((new ≡ old) × (now ≡ faults)) ⊎ ((report : List ℕ) × MayReport plan report × TextCut report old new faults now)

-- printing the texts of a command on a plan
abbrev pub PlanSays : Command → Tree → Sinks → Sinks → Status → Type 0
PlanSays command plan old new Done = (results : List ℕ) × (report : List ℕ) × TextsOf command plan results report × BothOut results report old new
PlanSays command plan old new Usage = ⊥
PlanSays command plan old new Refused = ⊥
PlanSays command plan old new ReadFault = ⊥
PlanSays command plan old new WriteFault = (results : List ℕ) × (report : List ℕ) × MayPrint command plan results report
    × (ResultsFailed results old new ⊎ ReportFailed results report old new)
PlanSays command plan old new Memory = NothingOut old new ⊎ ((results : List ℕ) × (report : List ℕ) × MayPrint command plan results report
    × (ResultsShort results old new ⊎ ReportShort results report old new))

-- refusing a plan with a line, or with none where memory ran out
abbrev pub RefusalSays : Refusal → Option (List ℕ) → Option (List ℕ) → ℕ → ℕ → Status → Type 0
RefusalSays refusal old new faults now Done = ⊥
RefusalSays refusal old new faults now Usage = ⊥
RefusalSays refusal old new faults now Refused = TextOut (refusal_line refusal) old new faults now
RefusalSays refusal old new faults now ReadFault = ⊥
RefusalSays refusal old new faults now WriteFault = TextFailed (refusal_line refusal) old new faults now
RefusalSays refusal old new faults now Memory = (new ≡ old) × (now ≡ faults)

-- the bytes are a plan that is fit for the command, and nothing was printed
pub record IsFound (command : Command) (bytes : List ℕ) (before after : Asked) (old new : Option (List ℕ)) (faults now : ℕ) (plan : Tree) : Type 0 where
  pub accepted : IsAccepted command bytes before after plan
  pub same : new ≡ old
  pub calm : now ≡ faults

-- the bytes are refused with a line, or with none where memory ran out
abbrev pub SaysUnfound : Command → List ℕ → Asked → Asked → Option (List ℕ) → Option (List ℕ) → ℕ → ℕ → Status → Type 0
SaysUnfound command bytes before after old new faults now Done = ⊥
SaysUnfound command bytes before after old new faults now Usage = ⊥
SaysUnfound command bytes before after old new faults now Refused =
    (refusal : Refusal) × IsRefused command bytes before after refusal × TextOut (refusal_line refusal) old new faults now
SaysUnfound command bytes before after old new faults now ReadFault = ⊥
SaysUnfound command bytes before after old new faults now WriteFault =
    (refusal : Refusal) × IsRefused command bytes before after refusal × TextFailed (refusal_line refusal) old new faults now
SaysUnfound command bytes before after old new faults now Memory = (new ≡ old) × (now ≡ faults) × MayAsk bytes before after

-- the status after texts that are printed: done where they are whole, else 7
abbrev pub WholeSays : Bool → Status → Type 0
WholeSays whole Done = whole ≡ true
WholeSays whole Usage = ⊥
WholeSays whole Refused = ⊥
WholeSays whole ReadFault = ⊥
WholeSays whole WriteFault = ⊥
WholeSays whole Memory = whole ≡ false

-- a plan can be made for the size that `make` is given
pub record HasSize (m : MakeOf) : Type 0 where
  pub some : 1 ≤ m.size
  pub few : m.size ≤ 2047

abbrev pub IsInRange : Option Command → Type 0
IsInRange None = Unit {0}
IsInRange (Some Check) = Unit {0}
IsInRange (Some (Make m)) = HasSize m
IsInRange (Some (SoloCommand s)) = Unit {0}
IsInRange (Some (Weave w)) = Unit {0}
IsInRange (Some (Run r)) = ⊥

-- the command reads its plan and starts no threads
abbrev pub IsPlain : Command → Type 0
IsPlain Check = Unit {0}
IsPlain (Make m) = ⊥
IsPlain (SoloCommand s) = Unit {0}
IsPlain (Weave w) = Unit {0}
IsPlain (Run r) = ⊥

-- ---- the plan of some bytes

-- A plan that is fit for the command, or why it is refused. Where memory ran out, what was asked for on the way.
abbrev pub Judges : Command → List ℕ → Asked → Asked → Judged → Type 0
Judges command bytes before after (Fit plan) = IsAccepted command bytes before after plan
Judges command bytes before after (Unfit refusal) = IsRefused command bytes before after refusal
Judges command bytes before after NoMemory = MayAsk bytes before after

-- the thread that is run is one of the plan's, and its samples can be summed
pub record HasThread (s : Solo) (plan : Tree) : Type 0 where
  pub thread : s.thread < length (threads_of plan)
  pub samples : s.samples ≤ 4194304

-- all threads of the plan can have the samples
pub record HasSamples (w : WeaveOf) (plan : Tree) : Type 0 where
  pub samples : length (threads_of plan) * w.samples ≤ 4194304

-- the command can be run on the plan
abbrev pub CanRun : Command → Tree → Type 0
CanRun Check plan = Unit {0}
CanRun (Make m) plan = HasThread default_solo plan
CanRun (SoloCommand s) plan = HasThread s plan
CanRun (Weave w) plan = HasSamples w plan
CanRun (Run r) plan = ⊥
