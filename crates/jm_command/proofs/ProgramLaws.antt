-- What the parts of the program say makes what the whole says.
use Rattle.std.proofs.Common.{◌≡◌, ℕ, ◌+◌, ◌*◌, ◌≤◌, ◌<◌, Bool, true, false, List, [], length, Option, Some, None, refl, sym, subst, ap, ◌∙◌, inl, inr, arith}
use Rattle.std.specs.Prelude.{◌⊎◌, Result, Ok, Err, IfErr, nat_le, if◌then◌else◌}
use Rattle.std.proofs.lemmas.Bool.Decides.{nat_tests}
use Rattle.std.proofs.lemmas.Nat.{mul-le}
use Rattle.plan_json.specs.Place.{at}
use Rattle.element_props.specs.declared.error.BuildError.{BuildError}
use Rattle.element_props.specs.declared.error.BuildError.TheVariants as builds
use Rattle.element_props.specs.declared.error.What.TheVariants as whats
use Rattle.std.specs.Io.KnownBytes.{Keeps}
use Rattle.std.proofs.lemmas.List.{drop_all}
use Rattle.edge_io.specs.Edges.{TookAll, TookCount, TookAtMost}
use Rattle.edge_io.proofs.EdgeLaws.{Keeps-refl}
use Rattle.element_props.specs.Patterns.{Asked}
use Rattle.jm_command.proofs.AskedLaws.{goes_some, stops_some}
use Rattle.element_tree.specs.Tree.{Tree, threads_of}
use Rattle.plan_maker.specs.Generated.{generated}
use Rattle.command_words.specs.declared.command.Command.{Command}
use Rattle.jm_command.specs.declared.refusal.Refusal.{Refusal}
use Rattle.jm_command.specs.declared.refusal.Refusal.TheVariants.{TooLong, Shape, Build, Unfit}
use Rattle.command_words.specs.declared.command.Command.TheVariants.{Check, Make, Solo, Weave, Run}
use Rattle.command_words.specs.declared.command.Make.{Make as MakeOf}
use Rattle.command_words.specs.declared.command.Solo.{Solo as SoloOf}
use Rattle.jm_command.specs.declared.status.Status.{Status}
use Rattle.jm_command.specs.declared.status.Status.TheVariants.{Done, Usage, Refused, ReadFault, WriteFault, Memory}
use Rattle.jm_command.specs.Refusals.{ReadsPlan, IsAccepted, IsRefused, AsksSome, MayAsk, replies_fault, thread_fault, first_fault, samples_fault, refusal_line}
use Rattle.jm_command.specs.Printed.{MayPrint}
use Rattle.trace_output.specs.Printing.{TextOut, TextFailed}
use Rattle.jm_command.specs.Command.{plan_limit, Edges, edges, Accepts, Makes, HasPlan, Refuses, IsRefusal, RefusalUnwritten, ResultsUnwritten, ReportUnwritten, ReadsSome, NothingPrinted, ResultsCut, ReportCut, IsCutShort, SaysUnplanned, Says, NothingRead, HasAsked, usage_line}
use Rattle.jm_command.specs.Parts.{Sinks, sinks, LineSays, ResultsFailed, ReportFailed, ResultsShort, ReportShort, PlanSays, RefusalSays, SaysUnfound, IsPlain, HasThread, CanRun}

-- what was asked for until a plan was accepted or refused
accepted_asks : (command : Command) (bytes : List ℕ) (before after : Asked) (plan : Tree) → IsAccepted command bytes before after plan → AsksSome bytes before after
accepted_asks command bytes before after plan is = record { tree = is.tree; shape = is.is_plan.shape; asks = goes_some is.is_plan.built }

pub refused_asks : (command : Command) (bytes : List ℕ) (before after : Asked) (refusal : Refusal) → IsRefused command bytes before after refusal → MayAsk bytes before after
refused_asks command bytes before after TooLong is = absurd is
refused_asks command bytes before after (Shape e) is = inl is.1
refused_asks command bytes before after (Build e) is = inr (record { tree = is.0; shape = is.1; asks = stops_some is.2 })
refused_asks command bytes before after (Unfit e) is = inr (record { tree = is.tree; shape = is.is_plan.shape; asks = goes_some is.is_plan.built })

-- a refusal and its line
pub refusal_said : (command : Command) (bytes : List ℕ) (before after : Asked) (old new : Option (List ℕ)) (faults now : ℕ) (refusal : Refusal) → IsRefused command bytes before after refusal
    → (status : Status) → RefusalSays refusal old new faults now status → SaysUnfound command bytes before after old new faults now status
refusal_said command bytes before after old new faults now refusal is Done s = absurd s
refusal_said command bytes before after old new faults now refusal is Usage s = absurd s
refusal_said command bytes before after old new faults now refusal is Refused s = (refusal, is, s)
refusal_said command bytes before after old new faults now refusal is ReadFault s = absurd s
refusal_said command bytes before after old new faults now refusal is WriteFault s = (refusal, is, s)
refusal_said command bytes before after old new faults now refusal is Memory s = (s.0, s.1, refused_asks command bytes before after refusal is)

-- one thread of the plan can be run, where the conditions of that hold
pub samples_fit : (plan : Tree) (samples : ℕ) → samples_fault plan samples ≡ None → length (threads_of plan) * samples ≤ 4194304
samples_fit plan samples none = by_test (nat_le (length (threads_of plan) * samples) 4194304) refl none where
  by_test : (b : Bool) → nat_le (length (threads_of plan) * samples) 4194304 ≡ b → (if b then None else Some (builds.TooMany (at []) whats.Samples)) ≡ None
      → length (threads_of plan) * samples ≤ 4194304
  by_test true is h = grind (arith, nat_tests)
  by_test false is h = absurd (cc)

no_second : (first second : Option BuildError) → first_fault first second ≡ None → second ≡ None
no_second None second none = none
no_second (Some e) second none = absurd (cc)

has_thread : (plan : Tree) (s : SoloOf) → thread_fault plan s ≡ None → HasThread s plan
has_thread plan s none = by_tests (nat_le (length (threads_of plan)) s.thread) (nat_le (length (threads_of plan) * s.samples) 4194304) refl refl none where
  by_tests : (a b : Bool) → nat_le (length (threads_of plan)) s.thread ≡ a → nat_le (length (threads_of plan) * s.samples) 4194304 ≡ b
      → (if a then Some builds.NoThread else if b then None else Some (builds.TooMany (at []) whats.Samples)) ≡ None → HasThread s plan
  by_tests true b is_a is_b h = absurd (cc)
  by_tests false false is_a is_b h = absurd (cc)
  by_tests false true is_a is_b h =
      let thread : s.thread < length (threads_of plan) = grind (arith, nat_tests) in
      let all : length (threads_of plan) * s.samples ≤ 4194304 = grind (arith, nat_tests) in
      let one : 1 * s.samples ≤ length (threads_of plan) * s.samples = mul-le 1 s.samples (length (threads_of plan)) s.samples (omega arith) (omega arith) in
      record { thread = thread; samples = omega arith }

pub can_run : (command : Command) (bytes : List ℕ) (before after : Asked) (plan : Tree) → IsPlain command → IsAccepted command bytes before after plan → CanRun command plan
can_run Check bytes before after plan plain is = tt
can_run (Make m) bytes before after plan plain is = absurd plain
can_run (Solo s) bytes before after plan plain is = has_thread plan s (no_second (replies_fault is.tree plan) (thread_fault plan s) is.fit)
can_run (Weave w) bytes before after plan plain is =
    record { samples = samples_fit plan w.samples (no_second (replies_fault is.tree plan) (samples_fault plan w.samples) is.fit) }
can_run (Run r) bytes before after plan plain is = absurd plain

pub reads_plan : (command : Command) → IsPlain command → ReadsPlan command
reads_plan Check plain = tt
reads_plan (Make m) plain = absurd plain
reads_plan (Solo s) plain = tt
reads_plan (Weave w) plain = tt
reads_plan (Run r) plain = absurd plain

keeps_same : (a b : Option (List ℕ)) → b ≡ a → Keeps a b
keeps_same a b is = subst (Keeps a) (sym is) (Keeps-refl a)

-- a command that reads a plan has the one that it accepts
plan_read : (command : Command) (old new : Edges) (plan : Tree) → ReadsPlan command → Accepts command old new plan → HasPlan command old new plan
plan_read Check old new plan reads accepts = accepts
plan_read (Make m) old new plan reads accepts = absurd reads
plan_read (Run r) old new plan reads accepts = accepts
plan_read (Solo s) old new plan reads accepts = accepts
plan_read (Weave w) old new plan reads accepts = accepts

-- texts that are not out, of a command that has its plan
texts_unwritten : (left left' : Option (List ℕ)) (read read' : ℕ) (old new : Sinks) (asked asked' : Asked) (command : Command)
    → let before = edges left read old.results old.result_faults old.reports old.report_faults asked in
    let after = edges left' read' new.results new.result_faults new.reports new.report_faults asked' in
    read' ≡ read → (plan : Tree) → HasPlan command before after plan → (results report : List ℕ) → MayPrint command plan results report
    → ResultsFailed results old new ⊎ ReportFailed results report old new
    → ResultsUnwritten command before after ⊎ ReportUnwritten command before after
texts_unwritten left left' read read' old new asked asked' command calm plan has results report may failed = elim failed [
  | inl r ↦ inl (record {
    plan = plan;
    text = results;
    report = report;
    has_plan = has;
    may = may;
    rose = r.rose;
    results = r.some;
    reports = keeps_same old.reports new.reports r.nothing.reports;
    read_calm = calm;
    report_calm = r.nothing.report_faults;
  })
  | inr r ↦ inr (record {
    plan = plan;
    text = results;
    report = report;
    has_plan = has;
    may = may;
    rose = r.rose;
    results = r.results_out;
    reports = r.some;
    read_calm = calm;
    result_calm = r.result_calm;
  })
]

-- ---- where memory runs out

took_none : (left : Option (List ℕ)) → TookCount left left 0
took_none None = tt
took_none (Some l) = (omega arith, refl)

took_whole : (left left' : Option (List ℕ)) (bytes : List ℕ) → TookAll left left' bytes → TookCount left left' (length bytes)
took_whole None left' bytes took = tt
took_whole (Some l) left' bytes took = (omega (arith, ap length took.0), took.1 ∙ ap Some (sym (drop_all (length bytes) l (omega (arith, ap length took.0)))))

-- nothing is printed, whatever the words are
pub cut_with_nothing : (words : Option Command) (old new : Edges) → NothingPrinted words old new → IsCutShort words old new
cut_with_nothing None old new nothing = nothing
cut_with_nothing (Some command) old new nothing = inl nothing

-- memory ran out before anything was read or printed
none_read : (words : Option Command) (edges : Edges) → ReadsSome words edges edges
none_read None edges = record { left = Keeps-refl edges.left; calm = refl; asked = refl }
none_read (Some command) edges = inl (record { left = Keeps-refl edges.left; calm = refl; asked = refl })

pub nothing_at_start : (words : Option Command) (edges : Edges) → NothingPrinted words edges edges
nothing_at_start words edges = record {
  took = (0, omega arith, took_none edges.left);
  reads = none_read words edges;
  results = Keeps-refl edges.results;
  reports = Keeps-refl edges.reports;
  no_fault = record { source = refl; results = refl; reports = refl };
}

pub cut_at_start : (words : Option Command) (edges : Edges) → IsCutShort words edges edges
cut_at_start words edges = cut_with_nothing words edges edges (nothing_at_start words edges)

-- texts that are cut short, of a command that has its plan
texts_cut : (left left' : Option (List ℕ)) (read read' : ℕ) (old new : Sinks) (asked asked' : Asked) (command : Command)
    → let before = edges left read old.results old.result_faults old.reports old.report_faults asked in
    let after = edges left' read' new.results new.result_faults new.reports new.report_faults asked' in
    read' ≡ read → (plan : Tree) → HasPlan command before after plan → (results report : List ℕ) → MayPrint command plan results report
    → ResultsShort results old new ⊎ ReportShort results report old new
    → ResultsCut command before after ⊎ ReportCut command before after
texts_cut left left' read read' old new asked asked' command calm plan has results report may short = elim short [
  | inl r ↦ inl (record {
    plan = plan;
    text = results;
    report = report;
    has_plan = has;
    may = may;
    results = r.part;
    reports = keeps_same old.reports new.reports r.nothing.reports;
    no_fault = record { source = calm; results = r.calm; reports = r.nothing.report_faults };
  })
  | inr r ↦ inr (record {
    plan = plan;
    text = results;
    report = report;
    has_plan = has;
    may = may;
    results = r.results_out;
    reports = r.part;
    no_fault = record { source = calm; results = r.result_calm; reports = r.calm };
  })
]

-- ---- a command that has no plan

module _ (left left' : Option (List ℕ)) (read read' : ℕ) (results : Option (List ℕ)) (written : ℕ) (old new : Option (List ℕ)) (told told' : ℕ) (asked asked' : Asked)
    (calm : read' ≡ read) (command : Command) (reads : ReadsPlan command) where
  abbrev before : Edges
  before = edges left read results written old told asked

  abbrev after : Edges
  after = edges left' read' results written new told' asked'

  refused_with : (refusal : Refusal) → Refuses command before after refusal → TextOut (refusal_line refusal) old new told told' → IsRefusal command before after
  refused_with refusal refuses out = record {
    refusal = refusal;
    refuses = refuses;
    results = Keeps-refl results;
    reports = out.out;
    no_fault = record { source = calm; results = refl; reports = out.calm };
  }

  unwritten_with : (refusal : Refusal) → Refuses command before after refusal → TextFailed (refusal_line refusal) old new told told' → RefusalUnwritten command before after
  unwritten_with refusal refuses failed = (
    refusal,
    refuses,
    record { rose = failed.rose; results = Keeps-refl results; reports = failed.prefix; read_calm = calm; result_calm = refl },
  )

  nothing_with : TookAtMost left left' (plan_limit + 1) → (asked' ≡ asked) ⊎ HasAsked before after → new ≡ old → told' ≡ told → NothingPrinted (Some command) before after
  nothing_with took asks same quiet = record {
    took = took;
    reads = inr (reads, asks);
    results = Keeps-refl results;
    reports = keeps_same old new same;
    no_fault = record { source = calm; results = refl; reports = quiet };
  }

  -- a plan with more bytes than its limit
  pub long_said : TookCount left left' (plan_limit + 1) → asked' ≡ asked → (status : Status) → RefusalSays TooLong old new told told' status → SaysUnplanned command before after status
  long_said took still Done s = absurd s
  long_said took still Usage s = absurd s
  long_said took still Refused s = refused_with TooLong (reads, inl (record { long = took; refusal_is = refl; asked = still })) s
  long_said took still ReadFault s = absurd s
  long_said took still WriteFault s = unwritten_with TooLong (reads, inl (record { long = took; refusal_is = refl; asked = still })) s
  long_said took still Memory s = nothing_with (plan_limit + 1, omega arith, took) (inl still) s.0 s.1

  module _ (bytes : List ℕ) (within : length bytes ≤ plan_limit) (took : TookAll left left' bytes) where
    refuses : (refusal : Refusal) → IsRefused command bytes asked asked' refusal → Refuses command before after refusal
    refuses refusal is = (reads, inr (record { bytes = bytes; within = within; read = took; refused = is }))

    has_asked : MayAsk bytes asked asked' → (asked' ≡ asked) ⊎ HasAsked before after
    has_asked may = elim may [ inl still ↦ inl still | inr some ↦ inr (record { bytes = bytes; within = within; read = took; asks = some }) ]

    pub unfound_said : (status : Status) → SaysUnfound command bytes asked asked' old new told told' status → SaysUnplanned command before after status
    unfound_said Done s = absurd s
    unfound_said Usage s = absurd s
    unfound_said Refused s = refused_with s.0 (refuses s.0 s.1) s.2
    unfound_said ReadFault s = absurd s
    unfound_said WriteFault s = unwritten_with s.0 (refuses s.0 s.1) s.2
    unfound_said Memory s = nothing_with (length bytes, omega (arith, within), took_whole left left' bytes took) (has_asked s.2) s.0 s.1

-- the same of what a call answered
pub unfound_by : {P : Type 0} (left left' : Option (List ℕ)) (read read' : ℕ) (old new : Option (List ℕ)) (told told' : ℕ) (asked asked' : Asked) → read' ≡ read → (command : Command)
    → ReadsPlan command → (bytes : List ℕ) → length bytes ≤ plan_limit → TookAll left left' bytes → (result : Result P Status) → IfErr result (SaysUnfound command bytes asked asked' old new told told')
    → IfErr result (λ status. (results : Option (List ℕ)) (written : ℕ)
    → SaysUnplanned command (edges left read results written old told asked) (edges left' read' results written new told' asked') status)
unfound_by left left' read read' old new told told' asked asked' calm command reads bytes within took (Ok plan) h = tt
unfound_by left left' read read' old new told told' asked asked' calm command reads bytes within took (Err status) h = λ results written.
    unfound_said left left' read read' results written old new told told' asked asked' calm command reads bytes within took status h

-- the plan of the bytes is accepted
pub found_accepts : (left left' : Option (List ℕ)) (read read' : ℕ) (results : Option (List ℕ)) (written : ℕ) (old new : Option (List ℕ)) (told told' : ℕ) (asked asked' : Asked)
    (command : Command) (bytes : List ℕ) (plan : Tree) → length bytes ≤ plan_limit → TookAll left left' bytes → IsAccepted command bytes asked asked' plan
    → Accepts command (edges left read results written old told asked) (edges left' read' results written new told' asked') plan
found_accepts left left' read read' results written old new told told' asked asked' command bytes plan within took is =
    record { bytes = bytes; within = within; read = took; accepted = is }

-- what is said where there is no plan is said of the words
pub unplanned_said : (command : Command) (old new : Edges) (status : Status) → SaysUnplanned command old new status → Says (Some command) old new status
unplanned_said command old new Done s = absurd s
unplanned_said command old new Usage s = absurd s
unplanned_said command old new Refused s = (command, refl, s)
unplanned_said command old new ReadFault s = (command, refl, s)
unplanned_said command old new WriteFault s = inl s
unplanned_said command old new Memory s = inl s

-- ---- a command that has its plan

module _ (left left' : Option (List ℕ)) (read read' : ℕ) (old new : Sinks) (asked asked' : Asked) (calm : read' ≡ read) (command : Command) (reads : ReadsPlan command) where
  abbrev begun : Edges
  begun = edges left read old.results old.result_faults old.reports old.report_faults asked

  abbrev ended : Edges
  ended = edges left' read' new.results new.result_faults new.reports new.report_faults asked'

  -- the texts of its plan
  pub plan_said : (plan : Tree) → Accepts command begun ended plan → (status : Status) → PlanSays command plan old new status → Says (Some command) begun ended status
  plan_said plan is Done s = (
    command,
    refl,
    record {
      plan = plan;
      text = s.0;
      report = s.1;
      has_plan = plan_read command begun ended plan reads is;
      texts = s.2;
      results = s.3.results_out;
      reports = s.3.report_out;
      no_fault = record { source = calm; results = s.3.result_calm; reports = s.3.report_calm };
    },
  )
  plan_said plan is Usage s = absurd s
  plan_said plan is Refused s = absurd s
  plan_said plan is ReadFault s = absurd s
  plan_said plan is WriteFault s = inr (texts_unwritten left left' read read' old new asked asked' command calm plan (plan_read command begun ended plan reads is) s.0 s.1 s.2 s.3)
  plan_said plan is Memory s = elim s [
    | inl nothing ↦ inl (record {
      took = (length is.bytes, omega (arith, is.within), took_whole left left' is.bytes is.read);
      reads = inr (reads, inr (record { bytes = is.bytes; within = is.within; read = is.read; asks = accepted_asks command is.bytes asked asked' plan is.accepted }));
      results = keeps_same old.results new.results nothing.results.results;
      reports = keeps_same old.reports new.reports nothing.reports.reports;
      no_fault = record { source = calm; results = nothing.results.result_faults; reports = nothing.reports.report_faults };
    })
    | inr t ↦ inr (texts_cut left left' read read' old new asked asked' command calm plan (plan_read command begun ended plan reads is) t.0 t.1 t.2 t.3)
  ]

-- acceptance says nothing of the sinks
pub accepts_beside : (command : Command) (left left' : Option (List ℕ)) (read read' : ℕ) (old new old' new' : Sinks) (asked asked' : Asked) (plan : Tree)
    → Accepts command (edges left read old.results old.result_faults old.reports old.report_faults asked) (edges left' read' new.results new.result_faults new.reports new.report_faults asked') plan
    → Accepts command (edges left read old'.results old'.result_faults old'.reports old'.report_faults asked) (edges left' read' new'.results new'.result_faults new'.reports new'.report_faults asked') plan
accepts_beside command left left' read read' old new old' new' asked asked' plan is =
    record { bytes = is.bytes; within = is.within; read = is.read; accepted = is.accepted }

-- the plan was read, which printed nothing, and then its texts were printed
pub plan_printed : (left left' : Option (List ℕ)) (read read' : ℕ) (results results' : Option (List ℕ)) (written written' : ℕ) (old between new : Option (List ℕ)) (told told' told'' : ℕ)
    (asked asked' : Asked) (command : Command) → IsPlain command → (read' ≡ read) × (between ≡ old) × (told' ≡ told) → (plan : Tree)
    → Accepts command (edges left read results written old told asked) (edges left' read' results written between told' asked') plan
    → (status : Status) → PlanSays command plan (sinks results written between told') (sinks results' written' new told'') status
    → Says (Some command) (edges left read results written old told asked) (edges left' read' results' written' new told'' asked') status
plan_printed left left' read read' results results' written written' old between new told told' told'' asked asked' command plain calm plan is status s =
    plan_said left left' read read' (sinks results written old told) (sinks results' written' new told'') asked asked' calm.0 command (reads_plan command plain) plan
    (accepts_beside command left left' read read' (sinks results written old told) (sinks results written between told') (sinks results written old told) (sinks results' written' new told'') asked asked' plan is)
    status
    (subst (λ n. PlanSays command plan (sinks results written old n) (sinks results' written' new told'') status) calm.2
    (subst (λ o. PlanSays command plan (sinks results written o told') (sinks results' written' new told'') status) calm.1 s))

-- a plan that was made, where nothing was read and no pattern was asked for
module _ (left : Option (List ℕ)) (read : ℕ) (old new : Sinks) (asked : Asked) (m : MakeOf) where
  abbrev before_made : Edges
  before_made = edges left read old.results old.result_faults old.reports old.report_faults asked

  abbrev after_made : Edges
  after_made = edges left read new.results new.result_faults new.reports new.report_faults asked

  makes : Makes m before_made after_made (generated m.size)
  makes = record { made = refl; unread = record { left = Keeps-refl left; calm = refl; asked = refl } }

  pub made_said : (status : Status) → PlanSays (Make m) (generated m.size) old new status → Says (Some (Make m)) before_made after_made status
  made_said Done s = (
    Make m,
    refl,
    record {
      plan = generated m.size;
      text = s.0;
      report = s.1;
      has_plan = makes;
      texts = s.2;
      results = s.3.results_out;
      reports = s.3.report_out;
      no_fault = record { source = refl; results = s.3.result_calm; reports = s.3.report_calm };
    },
  )
  made_said Usage s = absurd s
  made_said Refused s = absurd s
  made_said ReadFault s = absurd s
  made_said WriteFault s = inr (texts_unwritten left left read read old new asked asked (Make m) refl (generated m.size) makes s.0 s.1 s.2 s.3)
  made_said Memory s = elim s [
    | inl nothing ↦ inl (record {
      took = (0, omega arith, took_none left);
      reads = inl makes.unread;
      results = keeps_same old.results new.results nothing.results.results;
      reports = keeps_same old.reports new.reports nothing.reports.reports;
      no_fault = record { source = refl; results = nothing.results.result_faults; reports = nothing.reports.report_faults };
    })
    | inr t ↦ inr (texts_cut left left read read old new asked asked (Make m) refl (generated m.size) makes t.0 t.1 t.2 t.3)
  ]

-- the usage line, of words that are not a command: nothing was read
module _ (left : Option (List ℕ)) (read : ℕ) (results : Option (List ℕ)) (written : ℕ) (old new : Option (List ℕ)) (told told' : ℕ) (asked : Asked) where
  abbrev before_usage : Edges
  before_usage = edges left read results written old told asked

  abbrev after_usage : Edges
  after_usage = edges left read results written new told' asked

  unread : NothingRead before_usage after_usage
  unread = record { left = Keeps-refl left; calm = refl; asked = refl }

  not_refused : Usage ≡ Refused → ⊥
  not_refused same = cc

  pub usage_said : (status : Status) → LineSays usage_line Usage old new told told' status → Says None before_usage after_usage status
  usage_said Done s = absurd s
  usage_said Usage s =
      (refl, record { unread = unread; results = Keeps-refl results; reports = s.1.out; no_fault = record { source = refl; results = refl; reports = s.1.calm } })
  usage_said Refused s = absurd (not_refused s.0)
  usage_said ReadFault s = absurd s
  usage_said WriteFault s = record {
    unread = unread;
    unwritten = record { rose = s.rose; results = Keeps-refl results; reports = s.prefix; read_calm = refl; result_calm = refl };
  }
  usage_said Memory s = absurd s
