-- What a run with threads comes to.
use Rattle.std.proofs.Common.{◌≡◌, ℕ, suc, Bool, true, false, List, [], ◌∷◌, ◌++◌, Option, Some, None, refl, sym, ap, ◌∙◌, subst, inl, inr, arith, length-append}
use Rattle.std.specs.Prelude.{◌⊎◌, ◌≤◌, ◌*◌, All, length, ◌-◌, take, option_map}
use Rattle.std.specs.Prelude.{option_and_then, if◌then◌else◌, ⊤}
use Rattle.std.specs.List.{list_all}
use Rattle.std.proofs.lemmas.List.{append-nil}
use Rattle.std.proofs.Math.Seq.{take-append_seam}
use Rattle.std.proofs.lemmas.List.Elements.{All-nil, All-cons}
use Rattle.thread_machine.specs.Bare.{IsLabelled}
use Rattle.run_engine.specs.Joins.{AllLabelled}
use Rattle.std.specs.Io.KnownBytes.{Appends}
use Rattle.jm_base.specs.FaultCounts.{Rose}
use Rattle.element_props.specs.Patterns.{Asked}
use Rattle.edge_io.proofs.EdgeLaws.{Appends-append}
use Rattle.element_tree.specs.Tree.{Tree, threads_of}
use Rattle.interval_tables.specs.declared.report.Report.{Report}
use Rattle.outside_world.specs.Tickers.{Ticks, with_period}
use Rattle.thread_machine.specs.declared.trace.TraceItem.{TraceItem}
use Rattle.reporter_loop.specs.Ticked.{HasTickedWhere, TickedSoFar}
use Rattle.run_engine.specs.Served.{AreServed}
use Rattle.run_engine.specs.Stops.{StopHasCause}
use Rattle.run_engine.proofs.Seqs.{range_length}
use Rattle.command_words.specs.CommandGrammar.{Word, Given, is_word, given_for, value_of}
use Rattle.command_words.specs.Commands.{run, run_of, asked_of, command_of, names_run}
use Rattle.command_words.proofs.OptionLaws.{same_text}
use Rattle.command_words.proofs.RunLaws.{run_is_named}
use Rattle.command_words.specs.declared.command.Command.{Command}
use Rattle.command_words.specs.declared.command.Command.TheVariants.{Check, Make, Solo, Weave, Run}
use Rattle.command_words.specs.declared.command.Make.{Make as MakeOf}
use Rattle.command_words.specs.declared.command.Solo.{Solo as SoloOf}
use Rattle.command_words.specs.declared.command.Weave.{Weave as WeaveOf}
use Rattle.command_words.specs.declared.command.Run.{Run as RunOf}
use Rattle.jm_command.specs.declared.status.Status.{Status}
use Rattle.jm_command.specs.declared.status.Status.TheVariants.{Done, Usage, Refused, ReadFault, WriteFault, Memory}
use Rattle.jm_command.specs.Command.{Edges, edges, Accepts, Says, SaysUnplanned, NoRise, status_for, number_of}
use Rattle.jm_command.specs.Parts.{sinks, TextsSay}
use Rattle.jm_command.specs.Started.{Around, before_last, IsHistory, run_results, run_reports, run_tail, all_whole, RunPrints, IsLeftAlone, RunStarts, StartSays, sinks_of}
use Rattle.jm_command.proofs.ProgramLaws.{samples_fit, accepts_beside, nothing_at_start, cut_at_start}
use Rattle.jm_command.proofs.ExactLaws.{exactly, plan_status, refuses_status}

-- ---- the traces

pub labelled_all : (n : ℕ) (traces : List (List TraceItem)) → AllLabelled n traces → All (All (IsLabelled n)) traces
labelled_all n [] h = All-nil (All (IsLabelled n))
labelled_all n (trace ∷ traces) h =
    All-cons (All (IsLabelled n)) trace traces (h 0 trace (omega arith)) (labelled_all n traces (λ i d low. h (suc i) d (omega arith)))

-- ---- after the threads have run

module _ (r : RunOf) (plan : Tree) (ticks : Option Ticks) (after : Around) (traces : List (List TraceItem)) (reports : List Report) (total : Report)
    (history : IsHistory r plan after traces reports total) (ticked : HasTickedWhere (length reports - 1) (option_map (with_period r.every) ticks) after.ticks) where
  -- the reports were out, and then the results and the tail were printed
  pub books_say : (results results' : Option (List ℕ)) (written written' : ℕ) (old between new : Option (List ℕ)) (told told' told'' : ℕ)
      → Appends old between (run_reports plan reports) → told' ≡ told → (status : Status)
      → TextsSay (run_results plan traces) (run_tail plan total traces) (all_whole traces) (sinks results written between told') (sinks results' written' new told'') status
      → RunPrints r plan ticks after (sinks results written old told) (sinks results' written' new told'') status
  books_say results results' written written' old between new told told' told'' out calm Done s = record {
    traces = traces;
    reports = reports;
    total = total;
    history = history;
    whole = s.0;
    results_out = s.1.results_out;
    reports_out = Appends-append old between new (run_reports plan reports) (run_tail plan total traces) out s.1.report_out;
    ticked = ticked;
    result_calm = s.1.result_calm;
    report_calm = s.1.report_calm ∙ calm;
  }
  books_say results results' written written' old between new told told' told'' out calm Usage s = absurd s
  books_say results results' written written' old between new told told' told'' out calm Refused s = absurd s
  books_say results results' written written' old between new told told' told'' out calm ReadFault s = absurd s
  books_say results results' written written' old between new told told' told'' out calm WriteFault s = elim s [
    | inl f ↦ inr (inl (record {
      traces = traces;
      total = total;
      ran = record { reports = reports; history = history; reports_out = subst (λ b. Appends old b (run_reports plan reports)) (sym f.nothing.reports) out; ticked = ticked };
      prefix = f.some;
      rose = f.rose;
      report_calm = f.nothing.report_faults ∙ calm;
    }))
    | inr f ↦ inr (inr (record {
      traces = traces;
      total = total;
      between = between;
      ran = record { reports = reports; history = history; reports_out = out; ticked = ticked };
      results_out = f.results_out;
      prefix = f.some;
      rose = subst (λ n. Rose n told'') calm f.rose;
      result_calm = f.result_calm;
    }))
  ]
  books_say results results' written written' old between new told told' told'' out calm Memory s = elim s [
    | inl c ↦ inr (inl (record {
      traces = traces;
      total = total;
      ran = record { reports = reports; history = history; reports_out = subst (λ b. Appends old b (run_reports plan reports)) (sym c.nothing.reports) out; ticked = ticked };
      part = c.part;
      result_calm = c.calm;
      report_calm = c.nothing.report_faults ∙ calm;
    }))
    | inr c ↦ inr (inr (record {
      traces = traces;
      total = total;
      between = between;
      ran = record { reports = reports; history = history; reports_out = out; ticked = ticked };
      results_out = c.results_out;
      part = c.part;
      result_calm = c.result_calm;
      report_calm = c.calm ∙ calm;
    }))
  ]

-- the ticker was set, and then gave as many true answers as intervals were closed
pub ticked_reports : (closed : List Report) (last : Report) (n ms : ℕ) (before between after : Option Ticks) → length closed ≡ n → between ≡ option_map (with_period ms) before
    → HasTickedWhere n between after → HasTickedWhere (length (closed ++ last ∷ []) - 1) (option_map (with_period ms) before) after
ticked_reports closed last n ms before between after count set ticked =
    let many : n ≡ length (closed ++ last ∷ []) - 1 = omega (arith, count, length-append closed (last ∷ [])) in
    subst (λ k. HasTickedWhere k (option_map (with_period ms) before) after) many (subst (λ t. HasTickedWhere n t after) set ticked)

-- what was stopped before the last report
pub stopped_before : (limit : ℕ) (traces : List (List TraceItem)) (closed : List Report) (last : Report) → StopHasCause limit traces closed → StopHasCause limit traces (before_last (closed ++ last ∷ []))
stopped_before limit traces closed last h = subst (StopHasCause limit traces) (sym (all_but_last closed last)) h where
  all_but_last : (xs : List Report) (x : Report) → before_last (xs ++ x ∷ []) ≡ xs
  all_but_last xs x =
      let n : length (xs ++ x ∷ []) - 1 ≡ length xs = omega (arith, length-append xs (x ∷ [])) in
      ap (λ k. take k (xs ++ x ∷ [])) n ∙ take-append_seam xs (x ∷ [])

-- ---- the statuses

-- what is printed of a run whose plan is accepted
pub run_says : (r : RunOf) (ticks : Option Ticks) (after : Around) (old new : Edges) (plan : Tree) → Accepts (Run r) old new plan → new.read_faults ≡ old.read_faults
    → (status : Status) → RunPrints r plan ticks after (sinks_of old) (sinks_of new) status → RunStarts r ticks after old new status
run_says r ticks after old new plan accepts calm Done s = record { plan = plan; accepts = accepts; read_calm = calm; prints = s }
run_says r ticks after old new plan accepts calm Usage s = absurd s
run_says r ticks after old new plan accepts calm Refused s = absurd s
run_says r ticks after old new plan accepts calm ReadFault s = absurd s
run_says r ticks after old new plan accepts calm WriteFault s = inr (record { plan = plan; accepts = accepts; read_calm = calm; prints = s })
run_says r ticks after old new plan accepts calm Memory s = inr (record { plan = plan; accepts = accepts; read_calm = calm; prints = s })

-- what is said where there is no plan
pub unplanned_start : (r : RunOf) (ticks : Option Ticks) (after : Around) (old new : Edges) → IsLeftAlone ticks after → (status : Status) → SaysUnplanned (Run r) old new status → RunStarts r ticks after old new status
unplanned_start r ticks after old new alone Done s = absurd s
unplanned_start r ticks after old new alone Usage s = absurd s
unplanned_start r ticks after old new alone Refused s = (s, alone)
unplanned_start r ticks after old new alone ReadFault s = (s, alone)
unplanned_start r ticks after old new alone WriteFault s = inl (s, alone)
unplanned_start r ticks after old new alone Memory s = inl (s, alone)

-- the same of a command that is this run
pub run_unplanned : (command : Command) (r : RunOf) → command ≡ Run r → (ticks : Option Ticks) (after : Around) (old new : Edges) → IsLeftAlone ticks after → (status : Status) → SaysUnplanned command old new status
    → RunStarts r ticks after old new status
run_unplanned command r is ticks after old new alone status s =
    unplanned_start r ticks after old new alone status (subst (λ c. SaysUnplanned c old new status) is s)

-- all threads of a plan that is accepted can have the samples
pub run_fits : (command : Command) (r : RunOf) (old new : Edges) (plan : Tree) → command ≡ Run r → Accepts command old new plan → length (threads_of plan) * r.samples ≤ 4194304
run_fits command r old new plan is accepts =
    let a : Accepts (Run r) old new plan = subst (λ c. Accepts c old new plan) is accepts in samples_fit plan r.samples a.accepted.fit

-- the plan was read, which printed nothing, and then the run on it was printed
pub run_printed : (left left' : Option (List ℕ)) (read read' : ℕ) (results results' : Option (List ℕ)) (written written' : ℕ) (old between new : Option (List ℕ)) (told told' told'' : ℕ)
    (asked asked' : Asked) (command : Command) (r : RunOf) → command ≡ Run r → (read' ≡ read) × (between ≡ old) × (told' ≡ told) → (plan : Tree)
    → Accepts command (edges left read results written old told asked) (edges left' read' results written between told' asked') plan
    → (ticks : Option Ticks) (after : Around) (status : Status) → RunPrints r plan ticks after (sinks results written between told') (sinks results' written' new told'') status
    → RunStarts r ticks after (edges left read results written old told asked) (edges left' read' results' written' new told'' asked') status
run_printed left left' read read' results results' written written' old between new told told' told'' asked asked' command r is calm plan accepts ticks after status s =
    run_says r ticks after (edges left read results written old told asked) (edges left' read' results' written' new told'' asked') plan
    (accepts_beside (Run r) left left' read read' (sinks results written old told) (sinks results written between told') (sinks results written old told) (sinks results' written' new told'') asked asked' plan
    (subst (λ c. Accepts c (edges left read results written old told asked) (edges left' read' results written between told' asked') plan) is accepts))
    calm.0 status
    (subst (λ n. RunPrints r plan ticks after (sinks results written old n) (sinks results' written' new told'') status) calm.2
    (subst (λ o. RunPrints r plan ticks after (sinks results written o told') (sinks results' written' new told'') status) calm.1 s))

-- memory ran out before anything was read or printed
pub cut_start : (words : Option Command) (ticks : Option Ticks) (after : Around) (e : Edges) → IsLeftAlone ticks after → StartSays words ticks after e e Memory
cut_start None ticks after e alone = (cut_at_start None e, alone)
cut_start (Some Check) ticks after e alone = (cut_at_start (Some Check) e, alone)
cut_start (Some (Make m)) ticks after e alone = (cut_at_start (Some (Make m)) e, alone)
cut_start (Some (Solo o)) ticks after e alone = (cut_at_start (Some (Solo o)) e, alone)
cut_start (Some (Weave w)) ticks after e alone = (cut_at_start (Some (Weave w)) e, alone)
cut_start (Some (Run r)) ticks after e alone = inl (nothing_at_start (Some (Run r)) e, alone)

-- the ticker was set, and then gave no more true answers than it may
pub ticked_so_far : (ms : ℕ) (before between after : Option Ticks) → between ≡ option_map (with_period ms) before → (n : ℕ) × (n ≤ 16777216) × TickedSoFar n between after
    → (n : ℕ) × (n ≤ 16777216) × TickedSoFar n (option_map (with_period ms) before) after
ticked_so_far ms before between after set ticked = subst (λ (b : Option Ticks). (n : ℕ) × (n ≤ 16777216) × TickedSoFar n b after) set ticked

-- as many outsides were opened as were served
pub few_opened : (most : ℕ) (opened before closed : List ℕ) → (n : ℕ) × (n ≤ most) × AreServed n opened before closed → length opened ≤ most
few_opened most opened before closed h =
    let many : length opened ≡ h.0 = ap length h.2.opened_are ∙ range_length 0 h.0 in
    let low : h.0 ≤ most = h.1 in omega arith

-- no outside was opened
pub none_served : (opened closed : List ℕ) → opened ≡ [] → (n : ℕ) × AreServed n opened closed closed
none_served opened closed none = (0, record { opened_are = none; closed_are = sym (append-nil closed) })

-- ---- a first word `run` asks for `run` alone

-- nothing but a run is asked for
abbrev pub OnlyRuns : Option Command → Type 0
OnlyRuns None = ⊤
OnlyRuns (Some Check) = ⊥
OnlyRuns (Some (Make m)) = ⊥
OnlyRuns (Some (Solo o)) = ⊥
OnlyRuns (Some (Weave w)) = ⊥
OnlyRuns (Some (Run r)) = ⊤

as_run : (o : Option RunOf) → OnlyRuns (option_map Run o)
as_run None = tt
as_run (Some r) = tt

given_run : (o : Option Given) → OnlyRuns (option_and_then (λ given. run.meaning (value_of given)) o)
given_run None = tt
given_run (Some given) = as_run (run_of (value_of given))

only_after_run : (words : List Word) (b : Bool) → OnlyRuns (if b then asked_of (run.name ∷ words) else None)
only_after_run words true = given_run (given_for run.options words)
only_after_run words false = tt

only_run : (words : List Word) → names_run words ≡ true → OnlyRuns (command_of words)
only_run [] named = absurd (cc)
only_run (word ∷ words) named =
    subst (λ w. OnlyRuns (command_of (w ∷ words))) (same_text run.name word named) (only_after_run words (list_all is_word (run.name ∷ words)))

pub never_another : (words : List Word) → names_run words ≡ true → (c : Command) → command_of words ≡ Some c → OnlyRuns (Some c)
never_another words named c is = subst OnlyRuns is (only_run words named)

-- what is asked for is no other command
pub not_another : (c : Command) → OnlyRuns (Some c) → (c ≡ Check) ⊎ (((m : MakeOf) × (c ≡ Make m)) ⊎ (((o : SoloOf) × (c ≡ Solo o)) ⊎ ((w : WeaveOf) × (c ≡ Weave w)))) → ⊥
not_another c only is = elim is [
  | inl a ↦ subst (λ x. OnlyRuns (Some x)) a only
  | inr b ↦ elim b [
    | inl m ↦ subst (λ x. OnlyRuns (Some x)) m.1 only
    | inr d ↦ elim d [ inl o ↦ subst (λ x. OnlyRuns (Some x)) o.1 only | inr w ↦ subst (λ x. OnlyRuns (Some x)) w.1 only ]
  ]
]

not_run : (words : List Word) (r : RunOf) → names_run words ≡ false → command_of words ≡ Some (Run r) → ⊥
not_run words r other is = let both : true ≡ false = sym (run_is_named words r is) ∙ other in cc

-- what a plain command says is said of a start
pub plain_start : (words : List Word) (ticks : Option Ticks) (after : Around) (old new : Edges) → IsLeftAlone ticks after → names_run words ≡ false → (c : Option Command) → command_of words ≡ c
    → (status : Status) → Says c old new status → StartSays c ticks after old new status
plain_start words ticks after old new alone other None is status s = (s, alone)
plain_start words ticks after old new alone other (Some Check) is status s = (s, alone)
plain_start words ticks after old new alone other (Some (Make m)) is status s = (s, alone)
plain_start words ticks after old new alone other (Some (Solo o)) is status s = (s, alone)
plain_start words ticks after old new alone other (Some (Weave w)) is status s = (s, alone)
plain_start words ticks after old new alone other (Some (Run r)) is status s = absurd (not_run words r other is)

-- with no fault the words and the bytes alone decide the status
module _ (old new : Edges) (bytes : List ℕ) (told : old.left ≡ Some bytes) (calm : NoRise old new) (ticks : Option Ticks) (after : Around) where
  pub run_exactly : (r : RunOf) (status : Status) → RunStarts r ticks after old new status → (number_of status ≡ status_for (Some (Run r)) bytes) ⊎ (number_of status ≡ 7)
  run_exactly r Done s = inl (sym (plan_status old new bytes told calm (Run r) s.plan s.accepts))
  run_exactly r Usage s = absurd s
  run_exactly r Refused s = inl (sym (refuses_status old new bytes told calm (Run r) s.0.refusal s.0.refuses))
  run_exactly r ReadFault s = absurd (calm.source s.0.rose)
  run_exactly r WriteFault s = elim s [
    | inl f ↦ absurd (calm.reports f.0.2.rose)
    | inr f ↦ elim f.prints [
      | inl p ↦ absurd (calm.reports p.rose)
      | inr q ↦ elim q [ inl p ↦ absurd (calm.results p.rose) | inr p ↦ absurd (calm.reports p.rose) ]
    ]
  ]
  run_exactly r Memory s = inr refl

  pub start_exactly : (c : Option Command) (status : Status) → StartSays c ticks after old new status → (number_of status ≡ status_for c bytes) ⊎ (number_of status ≡ 7)
  start_exactly None status s = exactly old new bytes told calm None status s.0
  start_exactly (Some Check) status s = exactly old new bytes told calm (Some Check) status s.0
  start_exactly (Some (Make m)) status s = exactly old new bytes told calm (Some (Make m)) status s.0
  start_exactly (Some (Solo o)) status s = exactly old new bytes told calm (Some (Solo o)) status s.0
  start_exactly (Some (Weave w)) status s = exactly old new bytes told calm (Some (Weave w)) status s.0
  start_exactly (Some (Run r)) status s = run_exactly r status s
