-- The run of a schedule.
use Rattle.std.specs.Prelude.{◌≡◌, ℕ, zero, suc, ◌-◌, Bool, true, false, List, [], ◌∷◌, ◌++◌, length, map, replicate}
use Rattle.jm_base.specs.Run.{over_value}
use Rattle.jm_base.specs.Outside.{script_form}
use Rattle.interval_tables.specs.declared.report.Report.{Report}
use Rattle.element_tree.specs.Tree.{Tree, threads_of}
use Rattle.element_tree.specs.Names.{labels_of, locks_of}
use Rattle.jm_meaning.specs.Beginning.{Options}
use Rattle.jm_meaning.specs.Meaning.{events}
use Rattle.outside_world.specs.Scripted.{scripts_of}
use Rattle.phaser_core.specs.declared.view.Numbers.{Numbers}
use Rattle.phaser_core.specs.declared.view.Event.TheVariants.{Split}
use Rattle.phaser_core.specs.Step.{CoreState, first_state, next_state}
use Rattle.thread_machine.specs.declared.trace.TraceItem.{TraceItem}
use Rattle.schedule_text.specs.declared.token.Token.{Token}
use Rattle.schedule_text.specs.declared.token.Token.TheVariants.{Turn, Turns, Reporter, Reporters}
use Rattle.weave_engine.specs.Repeats.{Repeats}
use Rattle.weave_engine.specs.Steps.{Thread, thread_with}
use Rattle.weave_engine.specs.Turns.{Weave, thread_turn, ends_row, reporter_turn, ends_reporters_row, idle_after, is_idle, closing_of, turns_to, ends_rounds, joined_to, reports_of}

-- The start

abbrev pub numbers_of : Tree → Options → Numbers
numbers_of plan options = record { labels = length (labels_of plan.elements); writers = length (threads_of plan); budget = options.budget }

-- that many further writers are made
abbrev pub split_to : Numbers → ℕ → CoreState
split_to n zero = first_state n
split_to n (suc more) = next_state n (split_to n more) Split

-- a thread is the list of its events over the replies of the plan
abbrev pub thread_at_start : Tree → Options → ℕ → Thread
thread_at_start plan options thread = thread_with (over_value script_form (events plan thread options) (scripts_of plan)).events

abbrev pub threads_to : Tree → Options → ℕ → List Thread
threads_to plan options zero = []
threads_to plan options (suc thread) = threads_to plan options thread ++ thread_at_start plan options thread ∷ []

abbrev pub at_start : Tree → Options → Weave
at_start plan options = record {
  threads = threads_to plan options (length (threads_of plan));
  core = split_to (numbers_of plan options) (length (threads_of plan) - 1);
  locks = replicate (length (locks_of plan.elements)) 0;
}

-- The tokens

abbrev pub Runs : Numbers → Token → Weave → Weave → Type 0
Runs n (Turn d) s t = t ≡ thread_turn n d s
Runs n (Turns d) s t = Repeats (thread_turn n d) (ends_row n d) s t
Runs n Reporter s t = t ≡ reporter_turn n s
Runs n Reporters s t = Repeats (reporter_turn n) (ends_reporters_row n) s t

-- one token after another
pub data AllRun (n : Numbers) : List Token → Weave → Weave → Type 0 where
  at_end : {s : Weave} → AllRun n [] s s
  first : {token : Token} {tokens : List Token} {s t u : Weave} → Runs n token s t → AllRun n tokens t u → AllRun n (token ∷ tokens) s u

-- an open closing is finished
abbrev pub CloseIf : Bool → Numbers → Weave → Weave → Type 0
CloseIf true n s t = t ≡ s
CloseIf false n s t = Repeats (reporter_turn n) (idle_after n) s t

-- The traces with intervals and places, and the reports, of a schedule's run: its tokens in order, then one turn each in
-- thread order again and again until all threads have ended and owe nothing, then the open closing, and the joins.
pub record Woven (plan : Tree) (options : Options) (schedule : List Token) (traces : List (List TraceItem)) (reports : List Report) : Type 0 where
  pub scheduled : Weave
  pub settled : Weave
  pub closed : Weave
  pub tokens : AllRun (numbers_of plan options) schedule (at_start plan options) scheduled
  pub rounds : Repeats (turns_to (numbers_of plan options) (length (threads_of plan))) (ends_rounds (numbers_of plan options) (length (threads_of plan))) scheduled settled
  pub closes : CloseIf (is_idle (closing_of settled)) (numbers_of plan options) settled closed
  pub traces_are : traces ≡ map (λ t. t.trace) closed.threads
  pub reports_are : reports ≡ reports_of (numbers_of plan options) (joined_to (numbers_of plan options) (length (threads_of plan)) closed.core)

-- a plan, its options and a schedule name one run
abbrev pub NamesOneRun : Type 0
NamesOneRun =
    (plan : Tree) (options : Options) (schedule : List Token) (traces traces' : List (List TraceItem)) (reports reports' : List Report) → Woven plan options schedule traces reports
    → Woven plan options schedule traces' reports' → (traces' ≡ traces) × (reports' ≡ reports)
