-- The whole run of a schedule.
use Rattle.std.proofs.Common.{◌≡◌, ℕ, suc, ◌+◌, Bool, true, false, List, [], ◌∷◌, ◌++◌, Option, Some, None, length, map, refl, sym, ap, ◌∙◌, subst}
use Rattle.std.specs.Prelude.{◌==◌, slice_get, slice_index}
use Rattle.std.proofs.lemmas.List.{length-set}
use lib.ListN.{get_elem?}
use Rattle.element_tree.specs.Tree.{Tree, threads_of}
use Rattle.element_tree.specs.Names.{labels_of}
use Rattle.interval_tables.specs.declared.report.Report.{Report}
use Rattle.jm_meaning.specs.Beginning.{Options}
use Rattle.phaser_core.specs.declared.view.Event.TheVariants.{LookStop}
use Rattle.phaser_core.specs.declared.view.Numbers.{Numbers}
use Rattle.phaser_core.specs.declared.view.View.{View}
use Rattle.phaser_core.specs.declared.view.View.TheVariants.{Reporter, Writer, Gone}
use Rattle.phaser_core.specs.Cells.{is_odd}
use Rattle.phaser_core.specs.Invariant.{RecorderInvariant, AllKept, AllLow}
use Rattle.phaser_core.specs.declared.view.Joined.{Joined}
use Rattle.phaser_core.specs.Plain.{Parts}
use Rattle.phaser_core.specs.CoreShape.{Shape, Shows, open_report, joined_lists}
use Rattle.phaser_core.specs.Shares.{Partition}
use Rattle.phaser_core.specs.Step.{CoreState}
use Rattle.schedule_text.specs.declared.token.Token.{Token}
use Rattle.schedule_text.specs.declared.token.Token.TheVariants.{Turn, Turns, Reporter as ReporterToken, Reporters}
use Rattle.weave_engine.specs.declared.seat.Seat.{Seat}
use Rattle.weave_engine.specs.Repeats.{Repeats, ends, goes_on}
use Rattle.weave_engine.specs.Steps.{Owed, Nought, Record, Section, Stop, Thread}
use Rattle.jm_base.specs.Run.{Event}
use Rattle.weave_engine.specs.Turns.{Weave, thread_turn, turn_of, owed_turn, try_turn, free_turn, looked_turn, step_turn, core_moves, reporter_turn, turns_to, ends_rounds, closing_of, is_idle, joined_to, reports_in, reports_of}
use Rattle.weave_engine.specs.Woven.{Runs as RunsAs, AllRun, at_end, first, at_start, numbers_of, CloseIf, Woven}
use Rattle.weave_engine.specs.Seats.{AreSeats, CoreIs, Runs, RunsOn, Starts, IsJoined, lists_of, traces_in}
use Rattle.thread_machine.specs.Paired.{pairs, pairs_of}
use Rattle.phaser_core.specs.Keeps.{AllKeep}
use Rattle.weave_engine.proofs.JoinLaws.{joined_as}

-- No turn changes how many threads there are

long_step : (d : ℕ) (steps : List (List Event)) (t : Thread) (s : Weave) → length (step_turn d steps t s).threads ≡ length s.threads
long_step d [] t s = refl
long_step d (step ∷ steps) t s = length-set s.threads d _

long_looked : (b : Bool) (d : ℕ) (t : Thread) (s : Weave) → length (looked_turn b d t s).threads ≡ length s.threads
long_looked true d t s = length-set s.threads d _
long_looked false d t s = long_step d t.ahead t s

long_free : (n : Numbers) (d : ℕ) (steps : List (List Event)) (t : Thread) (s : Weave) → length (free_turn n d steps t s).threads ≡ length s.threads
long_free n d [] t s = refl
long_free n d (step ∷ steps) t s = long_looked (slice_index s.core.0 4 == 1) d t (core_moves n (LookStop d) s)

long_try : (b : Bool) (d lock : ℕ) (t : Thread) (s : Weave) → length (try_turn b d lock t s).threads ≡ length s.threads
long_try true d lock t s = refl
long_try false d lock t s = length-set s.threads d _

long_owed : (n : Numbers) (d : ℕ) (o : Owed) (t : Thread) (s : Weave) → length (owed_turn n d o t s).threads ≡ length s.threads
long_owed n d Nought t s = long_free n d t.ahead t s
long_owed n d (Record sample interval []) t s = refl
long_owed n d (Record sample interval (e ∷ steps)) t s = length-set s.threads d _
long_owed n d (Section lock) t s = long_try (is_odd (slice_index s.locks lock)) d lock t s
long_owed n d Stop t s = length-set s.threads d _

long_of : (n : Numbers) (d : ℕ) (o : Option Thread) (s : Weave) → length (turn_of n d o s).threads ≡ length s.threads
long_of n d None s = refl
long_of n d (Some t) s = long_owed n d t.owed t s

turn_long : (n : Numbers) (d : ℕ) (s : Weave) → length (thread_turn n d s).threads ≡ length s.threads
turn_long n d s = long_of n d (slice_get s.threads d) s

again_long : (move : Weave → Weave) (last : Weave → Bool) (s t : Weave) → ((u : Weave) → length (move u).threads ≡ length u.threads) → Repeats move last s t → length t.threads ≡ length s.threads
again_long move last s t one (ends h) = one s
again_long move last s t one (goes_on h more) = again_long move last (move s) t one more ∙ one s

token_long : (n : Numbers) (token : Token) (s t : Weave) → RunsAs n token s t → length t.threads ≡ length s.threads
token_long n (Turn d) s t r = ap (λ u. length u.threads) r ∙ turn_long n d s
token_long n (Turns d) s t r = again_long (thread_turn n d) _ s t (turn_long n d) r
token_long n ReporterToken s t r = ap (λ u. length u.threads) r
token_long n Reporters s t r = again_long (reporter_turn n) _ s t (λ u. refl) r

pub tokens_long : (n : Numbers) (tokens : List Token) (s t : Weave) → AllRun n tokens s t → length t.threads ≡ length s.threads
tokens_long n [] s t at_end = refl
tokens_long n (token ∷ tokens) s t (first {t = u} r more) = tokens_long n tokens u t more ∙ token_long n token s u r

-- Seats and threads

seats_long : (i : ℕ) (xs : List Seat) (ts : List Thread) → AreSeats i xs ts → length xs ≡ length ts
seats_long i [] [] are = refl
seats_long i [] (t ∷ ts) are = absurd are
seats_long i (x ∷ xs) [] are = absurd are
seats_long i (x ∷ xs) (t ∷ ts) are = ap suc (seats_long (i + 1) xs ts are.2)

-- after the tokens there are as many seats as before
pub seats_kept : (n : Numbers) (tokens : List Token) (old new : List Seat) (core after : Shape) (s t : Weave) → Runs n old core s → AllRun n tokens s t → Runs n new after t → length new ≡ length old
seats_kept n tokens old new core after s t before run after_run =
    seats_long 0 new t.threads after_run.threads ∙ tokens_long n tokens s t run ∙ sym (seats_long 0 old s.threads before.threads)

pub traces_are : (i : ℕ) (xs : List Seat) (ts : List Thread) → AreSeats i xs ts → traces_in xs ≡ map (λ (t : Thread). t.trace) ts
traces_are i [] [] are = refl
traces_are i [] (t ∷ ts) are = absurd are
traces_are i (x ∷ xs) [] are = absurd are
traces_are i (x ∷ xs) (t ∷ ts) are = ap (λ a. a ∷ traces_in xs) (sym are.0.trace) ∙ ap (λ l. t.trace ∷ l) (traces_are (i + 1) xs ts are.2)

-- The reports

abbrev reports_with : Numbers → List ℕ → Parts → List Report
reports_with m ws p = p.closed ++ open_report (record { numbers = m; words = ws; writers = []; reporter = p }) ∷ []

reports_by : (n : Numbers) (core : Shape) (ws : List ℕ) (vs : List View) → core.numbers ≡ n → ws ≡ core.words → Shows core vs → reports_in n ws (get_elem? vs 0) ≡ core.reporter.closed ++ open_report core ∷ []
reports_by n core ws [] numbers words shows = absurd shows
reports_by n core ws (Writer w ∷ others) numbers words shows = absurd shows
reports_by n core ws (Gone ∷ others) numbers words shows = absurd shows
reports_by n core ws (Reporter r ∷ others) numbers words shows =
    ap (reports_with n ws) shows.reporter ∙ ap (λ m. reports_with m ws core.reporter) (sym numbers) ∙ ap (λ l. reports_with core.numbers l core.reporter) words

pub reports_are : (n : Numbers) (core : Shape) (state : CoreState) (reports : List Report) → CoreIs core n state → reports ≡ core.reporter.closed ++ open_report core ∷ [] → reports ≡ reports_of n state
reports_are n core state reports is h = h ∙ sym (reports_by n core state.0 state.1 is.numbers is.words is.shows)

pub parted : (n : Numbers) (seats : List Seat) (core : Shape) (state : CoreState) (reports : List Report) → IsJoined n seats core state
    → ((views : List View) → Shows core views → RecorderInvariant core.numbers core.words views → Partition core.numbers.labels (joined_lists views) reports) → Partition n.labels (lists_of seats) reports
parted n seats core state reports j h =
    let held : RecorderInvariant core.numbers core.words state.1 =
    subst (λ m. RecorderInvariant m core.words state.1) (sym j.core_is.numbers) (subst (λ ws. RecorderInvariant n ws state.1) j.core_is.words j.core_is.invariant) in
    subst (λ l. Partition n.labels l reports) (joined_as n seats core state j)
    (subst (λ (m : Numbers). Partition m.labels (joined_lists state.1) reports) j.core_is.numbers (h state.1 j.core_is.shows held))

lists_as : (seats : List Seat) → lists_of seats ≡ pairs_of (traces_in seats)
lists_as [] = refl
lists_as (x ∷ xs) = ap (λ l. pairs x.worker.trace ∷ l) (lists_as xs)

-- the recorder keeps every joined list to its numbers
all_keep : (n : Numbers) (made : ℕ) (js : List Joined) → AllKept n made js → AllLow js → AllKeep n.labels n.budget (map (λ (j : Joined). j.list) js)
all_keep n made [] kept low = tt
all_keep n made (j ∷ js) kept low = (record { few = kept.0; in_range = kept.1; small = low.0 }, all_keep n made js kept.4 low.1)

kept_in : (n : Numbers) (ws : List ℕ) (vs : List View) → RecorderInvariant n ws vs → AllKeep n.labels n.budget (joined_lists vs)
kept_in n ws [] k = tt
kept_in n ws (Writer w ∷ others) k = tt
kept_in n ws (Gone ∷ others) k = tt
kept_in n ws (Reporter r ∷ others) k = all_keep n k.accounts.made r.joined (k.accounts.each 0 (Reporter r) refl).1 (k.accounts.low 0 (Reporter r) refl)

kept : (n : Numbers) (seats : List Seat) (core : Shape) (state : CoreState) → IsJoined n seats core state → AllKeep n.labels n.budget (lists_of seats)
kept n seats core state j = subst (AllKeep n.labels n.budget) (joined_as n seats core state j) (kept_in n state.0 state.1 j.core_is.invariant)

-- One part after the other

-- after the tokens
pub record Scheduled (plan : Tree) (options : Options) (tokens : List Token) (seats : List Seat) (core : Shape) (locks : List ℕ) : Type 0 where
  pub state : Weave
  pub ran : AllRun (numbers_of plan options) tokens (at_start plan options) state
  pub runs : RunsOn (numbers_of plan options) seats core locks state
  pub count : length seats ≡ length (threads_of plan)

-- the tokens, and then the rounds, lead here
pub record LeadsTo (plan : Tree) (options : Options) (tokens : List Token) (settled : Weave) : Type 0 where
  pub scheduled : Weave
  pub ran : AllRun (numbers_of plan options) tokens (at_start plan options) scheduled
  pub rounds : Repeats (turns_to (numbers_of plan options) (length (threads_of plan))) (ends_rounds (numbers_of plan options) (length (threads_of plan))) scheduled settled

-- after the rounds
pub record Settled (plan : Tree) (options : Options) (tokens : List Token) (seats : List Seat) (core : Shape) (locks : List ℕ) : Type 0 where
  pub state : Weave
  pub leads : LeadsTo plan options tokens state
  pub runs : RunsOn (numbers_of plan options) seats core locks state
  pub count : length seats ≡ length (threads_of plan)

-- after the open closing
pub record Closed (plan : Tree) (options : Options) (tokens : List Token) (seats : List Seat) (core : Shape) : Type 0 where
  pub settled : Weave
  pub leads : LeadsTo plan options tokens settled
  pub state : Weave
  pub closes : CloseIf (is_idle (closing_of settled)) (numbers_of plan options) settled state
  pub runs : Runs (numbers_of plan options) seats core state
  pub count : length seats ≡ length (threads_of plan)

pub scheduled : {plan : Tree} {options : Options} {tokens read : List Token} {seats0 seats : List Seat} {core0 core : Shape} {locks0 locks : List ℕ} → Starts plan options seats0 core0 locks0
    → read ≡ tokens → ((n : Numbers) (s : Weave) → RunsOn n seats0 core0 locks0 s → (t : Weave) × AllRun n read s t × RunsOn n seats core locks t)
    → Scheduled plan options tokens seats core locks
scheduled {plan} {options} {tokens} {read} {seats0} {seats} {core0} {core} start same run =
    let after = run (numbers_of plan options) (at_start plan options) start.runs in
    let ran : AllRun (numbers_of plan options) tokens (at_start plan options) after.0 = subst (λ l. AllRun (numbers_of plan options) l (at_start plan options) after.0) same after.1 in
    record {
      state = after.0;
      ran = ran;
      runs = after.2;
      count = seats_kept (numbers_of plan options) tokens seats0 seats core0 core (at_start plan options) after.0 start.runs.runs ran after.2.runs ∙ start.count;
    }

pub settled : {plan : Tree} {options : Options} {tokens : List Token} {seats1 seats : List Seat} {core1 core : Shape} {locks1 locks : List ℕ} → Scheduled plan options tokens seats1 core1 locks1
    → ((n : Numbers) (s : Weave) → RunsOn n seats1 core1 locks1 s → (t : Weave) × Repeats (turns_to n (length seats1)) (ends_rounds n (length seats1)) s t × RunsOn n seats core locks t)
    → length seats ≡ length seats1 → Settled plan options tokens seats core locks
settled {plan} {options} before run same =
    let after = run (numbers_of plan options) before.state before.runs in
    record {
      state = after.0;
      leads = record {
        scheduled = before.state;
        ran = before.ran;
        rounds = subst (λ k. Repeats (turns_to (numbers_of plan options) k) (ends_rounds (numbers_of plan options) k) before.state after.0) before.count after.1;
      };
      runs = after.2;
      count = same ∙ before.count;
    }

pub closed : {plan : Tree} {options : Options} {tokens : List Token} {seats : List Seat} {core2 core : Shape} {locks : List ℕ} → Settled plan options tokens seats core2 locks
    → ((n : Numbers) (s : Weave) → Runs n seats core2 s → (t : Weave) × CloseIf (is_idle (closing_of s)) n s t × Runs n seats core t) → Closed plan options tokens seats core
closed {plan} {options} before run =
    let after = run (numbers_of plan options) before.state before.runs.runs in
    record {
      settled = before.state;
      leads = before.leads;
      state = after.0;
      closes = after.1;
      runs = after.2;
      count = before.count;
    }

module _ {plan : Tree} {options : Options} {tokens : List Token} {seats : List Seat} {core3 core : Shape} (before : Closed plan options tokens seats core3)
    (joins : (n : Numbers) (s : Weave) → Runs n seats core3 s → IsJoined n seats core (joined_to n (length seats) s.core)) (reports : List Report) where
  joined : IsJoined (numbers_of plan options) seats core (joined_to (numbers_of plan options) (length (threads_of plan)) before.state.core)
  joined = subst (λ k. IsJoined (numbers_of plan options) seats core (joined_to (numbers_of plan options) k before.state.core)) before.count (joins (numbers_of plan options) before.state before.runs)

  pub woven : reports ≡ core.reporter.closed ++ open_report core ∷ [] → Woven plan options tokens (traces_in seats) reports
  woven is = record {
    scheduled = before.leads.scheduled;
    settled = before.settled;
    closed = before.state;
    tokens = before.leads.ran;
    rounds = before.leads.rounds;
    closes = before.closes;
    traces_are = traces_are 0 seats before.state.threads before.runs.threads;
    reports_are = reports_are (numbers_of plan options) core (joined_to (numbers_of plan options) (length (threads_of plan)) before.state.core) reports joined.core_is is;
  }

  pub partition : ((views : List View) → Shows core views → RecorderInvariant core.numbers core.words views → Partition core.numbers.labels (joined_lists views) reports)
      → Partition (length (labels_of plan.elements)) (pairs_of (traces_in seats)) reports
  partition h = subst (λ l. Partition (length (labels_of plan.elements)) l reports) (lists_as seats)
      (parted (numbers_of plan options) seats core (joined_to (numbers_of plan options) (length (threads_of plan)) before.state.core) reports joined h)

  pub keep : AllKeep (length (labels_of plan.elements)) options.budget (pairs_of (traces_in seats))
  keep = subst (AllKeep (length (labels_of plan.elements)) options.budget) (lists_as seats)
      (kept (numbers_of plan options) seats core (joined_to (numbers_of plan options) (length (threads_of plan)) before.state.core) joined)
