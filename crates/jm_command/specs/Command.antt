-- What the program's statuses say.
use Rattle.std.specs.Prelude.{◌≡◌, ◌⊎◌, ℕ, ◌+◌, ◌≤◌, List, length, Option, Some, None, Result, Ok, Err, codes, nat_le, if◌then◌else◌}
use Rattle.std.specs.Io.KnownBytes.{Appends, Keeps}
use Rattle.jm_base.specs.FaultCounts.{Rose}
use Rattle.edge_io.specs.Edges.{TookAll, TookCount, TookAtMost, AppendsProperPrefix}
use Rattle.line_output.specs.OutputPieces.{AppendsPart}
use Rattle.plan_json.specs.Shape.{Raw, reading_of}
use Rattle.plan_json.specs.declared.error.TreeError.{TreeError}
use Rattle.element_props.specs.declared.error.BuildError.{BuildError}
use Rattle.element_props.specs.Patterns.{Asked}
use Rattle.element_props.specs.Reads.{judged}
use Rattle.element_tree.specs.Tree.{Tree}
use Rattle.element_tree.specs.Walk.{reading}
use Rattle.jm_command.specs.declared.status.Status.{Status}
use Rattle.jm_command.specs.declared.status.Status.TheVariants.{Done, Usage, Refused, ReadFault, WriteFault, Memory}
use Rattle.command_words.specs.declared.command.Command.{Command}
use Rattle.command_words.specs.declared.command.Command.TheVariants.{Check, Make, Solo, Weave, Run}
use Rattle.command_words.specs.declared.command.Make.{Make as MakeOf}
use Rattle.plan_maker.specs.Generated.{generated}
use Rattle.jm_command.specs.declared.refusal.Refusal.{Refusal}
use Rattle.jm_command.specs.declared.refusal.Refusal.TheVariants.{TooLong}
use Rattle.jm_command.specs.Refusals.{ReadsPlan, IsAccepted, IsRefused, AsksSome, fault_for, refusal_line}
use Rattle.jm_command.specs.Printed.{TextsOf, MayPrint}

abbrev pub usage_line : List ℕ
usage_line = codes "usage: jm check|make|run|solo|weave [--option value]\n"

-- the most bytes that a plan has
abbrev pub plan_limit : ℕ
plan_limit = 4194304

-- The edges of the program at one moment: what is left of the plan and what the two sinks hold, each where it is told, the
-- three counts of faults, and what the maker of patterns was asked.
pub record Edges : Type 0 where
  pub left : Option (List ℕ)
  pub read_faults : ℕ
  pub results : Option (List ℕ)
  pub result_faults : ℕ
  pub reports : Option (List ℕ)
  pub report_faults : ℕ
  pub asked : Asked

abbrev pub edges : Option (List ℕ) → ℕ → Option (List ℕ) → ℕ → Option (List ℕ) → ℕ → Asked → Edges
edges left read results written reports told asked =
    record { left = left; read_faults = read; results = results; result_faults = written; reports = reports; report_faults = told; asked = asked }

-- no count of faults has risen
pub record HasNoFault (old new : Edges) : Type 0 where
  pub source : new.read_faults ≡ old.read_faults
  pub results : new.result_faults ≡ old.result_faults
  pub reports : new.report_faults ≡ old.report_faults

-- the plan was read to its end and accepted, and is fit for the command
pub record Accepts (command : Command) (old new : Edges) (plan : Tree) : Type 0 where
  pub bytes : List ℕ
  pub within : length bytes ≤ plan_limit
  pub read : TookAll old.left new.left bytes
  pub accepted : IsAccepted command bytes old.asked new.asked plan

-- nothing was read, no read failed, and no pattern was asked for
pub record NothingRead (old new : Edges) : Type 0 where
  pub left : Keeps old.left new.left
  pub calm : new.read_faults ≡ old.read_faults
  pub asked : new.asked ≡ old.asked

-- nothing was read, and the plan is the one that is made for the size
pub record Makes (m : MakeOf) (old new : Edges) (plan : Tree) : Type 0 where
  pub made : plan ≡ generated m.size
  pub unread : NothingRead old new

-- the plan that a command runs: `make` has made it, and the others have read and accepted it
abbrev pub HasPlan : Command → Edges → Edges → Tree → Type 0
HasPlan Check old new plan = Accepts Check old new plan
HasPlan (Make m) old new plan = Makes m old new plan
HasPlan (Solo s) old new plan = Accepts (Solo s) old new plan
HasPlan (Weave w) old new plan = Accepts (Weave w) old new plan
HasPlan (Run r) old new plan = Accepts (Run r) old new plan

-- the plan has more bytes than its limit
pub record RefusesLong (old new : Edges) (refusal : Refusal) : Type 0 where
  pub long : TookCount old.left new.left (plan_limit + 1)
  pub refusal_is : refusal ≡ TooLong
  pub asked : new.asked ≡ old.asked

-- the plan was read to its end and is refused
pub record RefusesRead (command : Command) (old new : Edges) (refusal : Refusal) : Type 0 where
  pub bytes : List ℕ
  pub within : length bytes ≤ plan_limit
  pub read : TookAll old.left new.left bytes
  pub refused : IsRefused command bytes old.asked new.asked refusal

abbrev pub Refuses : Command → Edges → Edges → Refusal → Type 0
Refuses command old new refusal = ReadsPlan command × (RefusesLong old new refusal ⊎ RefusesRead command old new refusal)

-- Status 0: the command has its plan, and its texts stand in the results and the reports.
pub record IsDone (command : Command) (old new : Edges) : Type 0 where
  pub plan : Tree
  pub text : List ℕ
  pub report : List ℕ
  pub has_plan : HasPlan command old new plan
  pub texts : TextsOf command plan text report
  pub results : Appends old.results new.results text
  pub reports : Appends old.reports new.reports report
  pub no_fault : HasNoFault old new

-- Status 2: the usage line stands in the reports, nothing in the results, and nothing was read.
pub record IsUsage (old new : Edges) : Type 0 where
  pub unread : NothingRead old new
  pub results : Keeps old.results new.results
  pub reports : Appends old.reports new.reports usage_line
  pub no_fault : HasNoFault old new

-- Status 3: the refusal line stands in the reports, and nothing in the results.
pub record IsRefusal (command : Command) (old new : Edges) : Type 0 where
  pub refusal : Refusal
  pub refuses : Refuses command old new refusal
  pub results : Keeps old.results new.results
  pub reports : Appends old.reports new.reports (refusal_line refusal)
  pub no_fault : HasNoFault old new

-- Status 4: the source's count of faults rose, at most a plan's bytes were read, no pattern was asked for, and nothing was printed.
pub record IsUnread (command : Command) (old new : Edges) : Type 0 where
  pub reads : ReadsPlan command
  pub rose : Rose old.read_faults new.read_faults
  pub took : TookAtMost old.left new.left plan_limit
  pub asked : new.asked ≡ old.asked
  pub results : Keeps old.results new.results
  pub reports : Keeps old.reports new.reports
  pub result_calm : new.result_faults ≡ old.result_faults
  pub report_calm : new.report_faults ≡ old.report_faults

-- Status 5: the count of faults of one sink rose, and no other count; a prefix of the text that it was given is out. What was to be printed later was not begun.
pub record LineUnwritten (old new : Edges) (line : List ℕ) : Type 0 where
  pub rose : Rose old.report_faults new.report_faults
  pub results : Keeps old.results new.results
  pub reports : AppendsProperPrefix old.reports new.reports line
  pub read_calm : new.read_faults ≡ old.read_faults
  pub result_calm : new.result_faults ≡ old.result_faults

pub record ResultsUnwritten (command : Command) (old new : Edges) : Type 0 where
  pub plan : Tree
  pub text : List ℕ
  pub report : List ℕ
  pub has_plan : HasPlan command old new plan
  pub may : MayPrint command plan text report
  pub rose : Rose old.result_faults new.result_faults
  pub results : AppendsProperPrefix old.results new.results text
  pub reports : Keeps old.reports new.reports
  pub read_calm : new.read_faults ≡ old.read_faults
  pub report_calm : new.report_faults ≡ old.report_faults

pub record ReportUnwritten (command : Command) (old new : Edges) : Type 0 where
  pub plan : Tree
  pub text : List ℕ
  pub report : List ℕ
  pub has_plan : HasPlan command old new plan
  pub may : MayPrint command plan text report
  pub rose : Rose old.report_faults new.report_faults
  pub results : Appends old.results new.results text
  pub reports : AppendsProperPrefix old.reports new.reports report
  pub read_calm : new.read_faults ≡ old.read_faults
  pub result_calm : new.result_faults ≡ old.result_faults

abbrev pub RefusalUnwritten : Command → Edges → Edges → Type 0
RefusalUnwritten command old new = (refusal : Refusal) × Refuses command old new refusal × LineUnwritten old new (refusal_line refusal)

-- the usage line, before anything is read
pub record UsageUnwritten (old new : Edges) : Type 0 where
  pub unread : NothingRead old new
  pub unwritten : LineUnwritten old new usage_line

abbrev pub IsUnwritten : Option Command → Edges → Edges → Type 0
IsUnwritten None old new = UsageUnwritten old new
IsUnwritten (Some command) old new = RefusalUnwritten command old new ⊎ (ResultsUnwritten command old new ⊎ ReportUnwritten command old new)

-- the plan was read to its end, and of the patterns that its reading asks for a prefix was asked for
pub record HasAsked (old new : Edges) : Type 0 where
  pub bytes : List ℕ
  pub within : length bytes ≤ plan_limit
  pub read : TookAll old.left new.left bytes
  pub asks : AsksSome bytes old.asked new.asked

-- What was read and asked for where nothing is printed: nothing at all; or, by a command that reads its plan, no pattern was asked
-- for, or a prefix of those that the plan's reading asks for.
abbrev pub ReadsSome : Option Command → Edges → Edges → Type 0
ReadsSome None old new = NothingRead old new
ReadsSome (Some command) old new = NothingRead old new ⊎ (ReadsPlan command × ((new.asked ≡ old.asked) ⊎ HasAsked old new))

-- Status 7: memory ran out. No count of faults rose. Nothing is printed, and no more was read than shows that a plan is too long; or a prefix of one text of a command that has its plan, and then nothing later was begun.
pub record NothingPrinted (words : Option Command) (old new : Edges) : Type 0 where
  pub took : TookAtMost old.left new.left (plan_limit + 1)
  pub reads : ReadsSome words old new
  pub results : Keeps old.results new.results
  pub reports : Keeps old.reports new.reports
  pub no_fault : HasNoFault old new

pub record ResultsCut (command : Command) (old new : Edges) : Type 0 where
  pub plan : Tree
  pub text : List ℕ
  pub report : List ℕ
  pub has_plan : HasPlan command old new plan
  pub may : MayPrint command plan text report
  pub results : AppendsPart old.results new.results text
  pub reports : Keeps old.reports new.reports
  pub no_fault : HasNoFault old new

pub record ReportCut (command : Command) (old new : Edges) : Type 0 where
  pub plan : Tree
  pub text : List ℕ
  pub report : List ℕ
  pub has_plan : HasPlan command old new plan
  pub may : MayPrint command plan text report
  pub results : Appends old.results new.results text
  pub reports : AppendsPart old.reports new.reports report
  pub no_fault : HasNoFault old new

abbrev pub IsCutShort : Option Command → Edges → Edges → Type 0
IsCutShort None old new = NothingPrinted None old new
IsCutShort (Some command) old new = NothingPrinted (Some command) old new ⊎ (ResultsCut command old new ⊎ ReportCut command old new)

-- what a status says where a command that reads a plan has none
abbrev pub SaysUnplanned : Command → Edges → Edges → Status → Type 0
SaysUnplanned command old new Done = ⊥
SaysUnplanned command old new Usage = ⊥
SaysUnplanned command old new Refused = IsRefusal command old new
SaysUnplanned command old new ReadFault = IsUnread command old new
SaysUnplanned command old new WriteFault = RefusalUnwritten command old new
SaysUnplanned command old new Memory = NothingPrinted (Some command) old new

-- what a status says of a run whose words are this command, or none
abbrev pub Says : Option Command → Edges → Edges → Status → Type 0
Says words old new Done = (command : Command) × (words ≡ Some command) × IsDone command old new
Says words old new Usage = (words ≡ None) × IsUsage old new
Says words old new Refused = (command : Command) × (words ≡ Some command) × IsRefusal command old new
Says words old new ReadFault = (command : Command) × (words ≡ Some command) × IsUnread command old new
Says words old new WriteFault = IsUnwritten words old new
Says words old new Memory = IsCutShort words old new

abbrev pub number_of : Status → ℕ
number_of Done = 0
number_of Usage = 2
number_of Refused = 3
number_of ReadFault = 4
number_of WriteFault = 5
number_of Memory = 7

-- ---- the answer itself

-- the statuses
abbrev pub IsStatus : ℕ → Type 0
IsStatus n = (n ≡ 0) ⊎ ((n ≡ 2) ⊎ ((n ≡ 3) ⊎ ((n ≡ 4) ⊎ ((n ≡ 5) ⊎ (n ≡ 7)))))

-- no count of faults has risen, and no pattern was too large
pub record NoRise (old new : Edges) : Type 0 where
  pub source : Rose old.read_faults new.read_faults → ⊥
  pub results : Rose old.result_faults new.result_faults → ⊥
  pub reports : Rose old.report_faults new.report_faults → ⊥
  pub patterns : Rose old.asked.oversize new.asked.oversize → ⊥

abbrev pub status_of_fault : Option BuildError → ℕ
status_of_fault None = 0
status_of_fault (Some e) = 3

-- the status of a plan that is accepted: 0, or 3 where it does not meet the command's own conditions
abbrev pub status_of_plan : Command → Raw → Tree → ℕ
status_of_plan command tree plan = status_of_fault (fault_for command tree plan)

abbrev pub status_of_outcome : Command → Raw → Result Tree BuildError → ℕ
status_of_outcome command tree (Ok plan) = status_of_plan command tree plan
status_of_outcome command tree (Err e) = 3

abbrev pub status_of_shape : Command → Result Raw TreeError → ℕ
status_of_shape command (Ok tree) = status_of_outcome command tree (judged (reading tree))
status_of_shape command (Err e) = 3

-- the status of the bytes of a plan that the command reads
abbrev pub status_of_bytes : Command → List ℕ → ℕ
status_of_bytes command bytes = if nat_le (length bytes) plan_limit then status_of_shape command (reading_of bytes) else 3

-- the status that the words and the bytes of the plan call for, where every call of the source and the sinks succeeds; `make` reads none
abbrev pub status_for : Option Command → List ℕ → ℕ
status_for None bytes = 2
status_for (Some Check) bytes = status_of_bytes Check bytes
status_for (Some (Make m)) bytes = 0
status_for (Some (Solo s)) bytes = status_of_bytes (Solo s) bytes
status_for (Some (Weave w)) bytes = status_of_bytes (Weave w) bytes
status_for (Some (Run r)) bytes = status_of_bytes (Run r) bytes

-- What the exit status of a plain command says, by its number. With no fault and no pattern too large the words and the bytes
-- alone decide it, unless memory runs out.
pub record PlainEnds (words : Option Command) (old new : Edges) (number : ℕ) : Type 0 where
  pub status : IsStatus number
  pub done : number ≡ 0 → (command : Command) × (words ≡ Some command) × IsDone command old new
  pub usage : number ≡ 2 → (words ≡ None) × IsUsage old new
  pub refused : number ≡ 3 → (command : Command) × (words ≡ Some command) × IsRefusal command old new
  pub unread : number ≡ 4 → (command : Command) × (words ≡ Some command) × IsUnread command old new
  pub unwritten : number ≡ 5 → IsUnwritten words old new
  pub cut_short : number ≡ 7 → IsCutShort words old new
  pub exact : (bytes : List ℕ) → old.left ≡ Some bytes → NoRise old new → (number ≡ status_for words bytes) ⊎ (number ≡ 7)
