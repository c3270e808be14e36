-- Before the first turn, and tokens one after another.
use Rattle.std.proofs.Common.{◌≡◌, ◌⊎◌, inl, inr, zero, suc, ◌<◌, ◌≤◌, true, Some, None, set, ℕ, ◌+◌, false, List, [], ◌∷◌, ◌++◌, length, refl, sym, ap, ◌∙◌, subst, arith}
use Rattle.jm_base.specs.Run.{over_value}
use Rattle.jm_base.specs.Outside.{script_form}
use Rattle.element_tree.specs.Tree.{Tree, threads_of}
use Rattle.element_tree.specs.Names.{labels_of}
use Rattle.jm_meaning.specs.Beginning.{Options}
use Rattle.outside_world.specs.Scripted.{scripts_of, scripted_account}
use Rattle.phaser_core.specs.declared.view.Numbers.{Numbers}
use Rattle.phaser_core.specs.Views.{IsSized}
use Rattle.phaser_core.specs.CoreMoves.{first_words}
use Rattle.phaser_core.specs.Step.{first_state}
use Rattle.phaser_core.specs.CoreShape.{Shape, Shows, first_shape}
use Rattle.phaser_core.proofs.Every.{every_order_keeps}
use Rattle.thread_machine.specs.Standing.{rest, IsAtStart}
use Rattle.schedule_text.specs.declared.token.Token.{Token}
use Rattle.weave_engine.specs.declared.seat.Owed.TheVariants as by
use Rattle.weave_engine.specs.declared.seat.Seat.{Seat}
use Rattle.weave_engine.specs.Steps.{Nought, Thread, steps_of}
use Rattle.weave_engine.specs.Turns.{Weave}
use Rattle.weave_engine.specs.Woven.{Runs, AllRun, at_end, first, thread_at_start, numbers_of}
use Rattle.weave_engine.specs.Seats.{OwesSame, SeatIs, AreSeats, CoreIs, events_over, IsFresh, AllFresh, HasRoom, Writes, AreWriters, StageOf, LabelIn, pending_of, units_in, Runs as SeatsRun}
use Rattle.thread_machine.specs.Paired.{pairs}
use Rattle.std.specs.Prelude.{slice_get, unwrap_or, nat_lt, ◌-◌}
use Rattle.std.proofs.lemmas.Option.{slice_get_past}
use Rattle.std.proofs.lemmas.List.{length-append, length-set}
use Rattle.std.proofs.lemmas.Bool.Decides.{nat_tests}
use lib.ListN.{get_elem?}
use mathlib.Core.Option.{some}
use Rattle.phaser_core.specs.declared.view.Stage.TheVariants.{Out}
use Rattle.phaser_core.specs.declared.view.WriterView.{WriterView}
use Rattle.phaser_core.specs.declared.view.View.{View}
use Rattle.phaser_core.specs.declared.view.View.TheVariants.{Writer}
use Rattle.phaser_core.specs.declared.view.Event.TheVariants.{Split}
use Rattle.phaser_core.specs.Step.{CoreState, next_state, split_at, split_if}
use Rattle.phaser_core.specs.Views.{further}
use Rattle.phaser_core.proofs.Lists.{set_here, set_else, at_longer, at_last}
use Rattle.weave_engine.specs.Woven.{split_to, at_start, threads_to}

pub starts_as : (plan : Tree) (options : Options) (thread : ℕ) (x : Seat) → IsAtStart plan thread options x.worker → x.outside ≡ scripted_account (scripts_of plan) false
    → x.owed ≡ by.Nothing → x.section ≡ None → x.ended ≡ false → x.number ≡ thread → SeatIs x (thread_at_start plan options thread)
starts_as plan options thread x is outside owed section ended number = record {
  ahead = ap (λ r. steps_of (over_value script_form r (scripts_of plan)).events) (sym is.left) ∙ ap (λ o. steps_of (events_over o.value (rest x.worker))) (sym outside);
  trace = sym is.no_items;
  owed = subst (λ o. OwesSame o x.worker Nought) (sym owed) (is.owes_nothing, is.enters_none, refl);
  open_lock = sym is.none_open;
  section = section ∙ sym is.none_open;
  at_end = λ e. is.none_open;
  scripts = scripts_of plan;
  value = ap (λ o. o.value) outside;
  ended = ended ∙ sym is.goes_on;
  number = number ∙ sym is.thread_is;
}

pub seats_push : (i : ℕ) (xs : List Seat) (ts : List Thread) (x : Seat) (t : Thread) → AreSeats i xs ts → SeatIs x t → x.worker.thread ≡ i + length xs → AreSeats i (xs ++ x ∷ []) (ts ++ t ∷ [])
seats_push i [] [] x t are is number = (is, omega (arith, number), tt)
seats_push i [] (u ∷ us) x t are is number = absurd are
seats_push i (y ∷ ys) [] x t are is number = absurd are
seats_push i (y ∷ ys) (u ∷ us) x t are is number = (are.0, are.1, seats_push (i + 1) ys us x t are.2 is (omega (arith, number)))

-- one token more
pub all_run_more : {n : Numbers} {tokens : List Token} {s t u : Weave} (token : Token) → AllRun n tokens s t → Runs n token t u → AllRun n (tokens ++ token ∷ []) s u
all_run_more token at_end r = first r at_end
all_run_more token (first q more) r = first q (all_run_more token more r)

-- The core

pub numbers_same : (plan : Tree) (options : Options) (l w b : ℕ) → l ≡ length (labels_of plan.elements) → w ≡ length (threads_of plan) → options.budget ≡ b
    → record { labels = l; writers = w; budget = b } ≡ numbers_of plan options
numbers_same plan options l w b labels writers budget = rw (labels, writers, sym budget) refl

pub core_first : (m n : Numbers) (core : Shape) → m ≡ n → core ≡ first_shape m → Shows core (first_state m).1 → IsSized n → CoreIs core n (first_state n)
core_first m n core same made shows sized = record {
  numbers = ap (λ c. c.numbers) made ∙ same;
  words = sym (ap (λ c. c.words) made ∙ ap (λ k. first_words k.labels) same);
  shows = subst (λ k. Shows core (first_state k).1) same shows;
  invariant = every_order_keeps n [] sized tt;
}

pub length_push : {A : Type 0} (xs : List A) (x : A) → length (xs ++ x ∷ []) ≡ length xs + 1
length_push [] x = omega arith
length_push (y ∷ ys) x = let h = length_push ys x in omega (arith, h)

-- Fresh seats

pub pushed : (xs : List Seat) (y : Seat) (k : ℕ) (x : Seat) → slice_get (xs ++ y ∷ []) k ≡ Some x → (slice_get xs k ≡ Some x) ⊎ (x ≡ y)
pushed [] y zero x h = inr (let e : Some y ≡ Some x = h in cc)
pushed [] y (suc k) x h = inl h
pushed (z ∷ zs) y zero x h = inl h
pushed (z ∷ zs) y (suc k) x h = pushed zs y k x h

pub none_fresh : (plan : Tree) (budget : ℕ) → AllFresh plan budget []
none_fresh plan budget k x h = absurd (let e : None ≡ Some x = sym (slice_get_past [] k (omega arith)) ∙ h in cc)

pub fresh_push : (plan : Tree) (budget : ℕ) (xs : List Seat) (y : Seat) → AllFresh plan budget xs → IsFresh plan budget y → AllFresh plan budget (xs ++ y ∷ [])
fresh_push plan budget xs y all one k x there = elim (pushed xs y k x there) [
  | inl h ↦ all k x h
  | inr e ↦ subst (IsFresh plan budget) (sym e) one
]

-- The writers before the first turn

abbrev zero_with : ℕ → WriterView
zero_with made = record { number = 0; list = []; stage = Out; made = made; raised = false; saw = false }

-- after that many splits
record SplitViews (m : ℕ) (views : List View) : Type 0 where
  ports : length views ≡ m + 2
  made : ℕ
  made_is : made ≡ m + 1
  first : get_elem? views 1 ≡ some (Writer (zero_with made))
  more : (k : ℕ) → k < m → get_elem? views (k + 2) ≡ some (further (k + 1))

pub below_or : (k m : ℕ) → k < suc m → (k ≡ m) ⊎ (k < m)
below_or zero zero less = inl refl
below_or zero (suc m) less = inr (omega arith)
below_or (suc k) zero less = absurd (omega (arith, less))
below_or (suc k) (suc m) less = elim (below_or k m (omega (arith, less))) [
  | inl e ↦ inl (ap suc e)
  | inr below ↦ inr (omega (arith, below))
]

split_once : (n : Numbers) (m : ℕ) (state : CoreState) → SplitViews m state.1 → m + 1 < n.writers → SplitViews (suc m) (next_state n state Split).1
split_once n m state h few =
    let v = Writer (zero_with h.made) in
    let made = h.made_is in
    let ports = h.ports in
    let test : nat_lt h.made n.writers ≡ true = grind (nat_tests, arith, made, few) in
    let after = set state.1 1 (Writer (zero_with (h.made + 1))) in
    let is : (next_state n state Split).1 ≡ after ++ further h.made ∷ [] =
    ap (λ o. (unwrap_or {T = CoreState} (split_at n state.0 state.1 o) state).1) h.first ∙ ap (λ b. (unwrap_or {T = CoreState} (split_if b state.0 state.1 v) state).1) test in
    let long : length after ≡ m + 2 = length-set state.1 1 (Writer (zero_with (h.made + 1))) ∙ ports in
    let all : length (after ++ further h.made ∷ []) ≡ length after + 1 = length-append after (further h.made ∷ []) in
    subst (SplitViews (suc m)) (sym is) (record {
      ports = omega (arith, long, all);
      made = h.made + 1;
      made_is = omega (arith, made);
      first = at_longer after (further h.made ∷ []) 1 (Writer (zero_with (h.made + 1))) (set_here state.1 1 (Writer (zero_with (h.made + 1))) (omega (arith, ports)));
      more = λ k less. by_last k less (below_or k m less);
    }) where
      by_last : (k : ℕ) → k < suc m → (k ≡ m) ⊎ (k < m) → get_elem? (set state.1 1 (Writer (zero_with (h.made + 1))) ++ further h.made ∷ []) (k + 2) ≡ some (further (k + 1))
      by_last k less (inl e) =
          let long : length (set state.1 1 (Writer (zero_with (h.made + 1)))) ≡ k + 2 = (let a = length-set state.1 1 (Writer (zero_with (h.made + 1))) in let b = h.ports in omega (arith, a, b, e)) in
          at_last (set state.1 1 (Writer (zero_with (h.made + 1)))) (further h.made) (k + 2) long ∙ ap (λ j. some (further j)) (let a = h.made_is in omega (arith, a, e))
      by_last k less (inr below) =
          at_longer (set state.1 1 (Writer (zero_with (h.made + 1)))) (further h.made ∷ []) (k + 2) (further (k + 1))
          (set_else state.1 1 (k + 2) (Writer (zero_with (h.made + 1))) (λ e. omega (arith, e)) ∙ h.more k below)

split_all : (n : Numbers) (m : ℕ) → m < n.writers → SplitViews m (split_to n m).1
split_all n zero few = record { ports = refl; made = 1; made_is = refl; first = refl; more = λ k less. absurd (omega (arith, less)) }
split_all n (suc m) few = split_once n m (split_to n m) (split_all n m (omega (arith, few))) (omega (arith, few))

-- the writer of each number
writer_there : (m : ℕ) (views : List View) → SplitViews m views → (k : ℕ) → k < m + 1 → (w : WriterView) × (get_elem? views (k + 1) ≡ some (Writer w)) × (w.number ≡ k) × (w.stage ≡ Out) × (w.list ≡ [])
writer_there m views h zero less = (zero_with h.made, h.first, refl, refl, refl)
writer_there m views h (suc k) less =
    (record { number = k + 1; list = []; stage = Out; made = 0; raised = false; saw = false }, subst (λ j. get_elem? views j ≡ some (further (k + 1))) (omega arith) (h.more k (omega (arith, less))), omega arith, refl, refl)

pub writers_start : (plan : Tree) (options : Options) (seats : List Seat) → AllFresh plan options.budget seats → length seats ≡ length (threads_of plan) → 1 ≤ length (threads_of plan)
    → AreWriters (numbers_of plan options) seats (split_to (numbers_of plan options) (length (threads_of plan) - 1)).1
writers_start plan options seats fresh count some_thread =
    let m = length (threads_of plan) - 1 in
    let split = split_all (numbers_of plan options) m (omega (arith, some_thread)) in
    record {
      ports = (let p = split.ports in omega (arith, p, count, some_thread));
      each = λ k x there. by_fresh m split k x (fresh k x there) (within k x there);
    } where
      past : (xs : List Seat) (k : ℕ) (x : Seat) → slice_get xs k ≡ Some x → k < length xs
      past [] k x h = absurd (let e : None ≡ Some x = sym (slice_get_past [] k (omega arith)) ∙ h in cc)
      past (y ∷ ys) zero x h = omega arith
      past (y ∷ ys) (suc k) x h = let below = past ys k x h in omega (arith, below)

      within : (k : ℕ) (x : Seat) → slice_get seats k ≡ Some x → k < length (threads_of plan) - 1 + 1
      within k x there = let p = past seats k x there in omega (arith, p, count, some_thread)

      by_fresh : (m : ℕ) → SplitViews m (split_to (numbers_of plan options) m).1 → (k : ℕ) (x : Seat) → IsFresh plan options.budget x → k < m + 1
          → HasRoom (numbers_of plan options) x × Writes (split_to (numbers_of plan options) m).1 k x.owed (pairs x.worker.trace)
      by_fresh m split k x f less =
          let w = writer_there m (split_to (numbers_of plan options) m).1 split k less in
          let none : length (pairs x.worker.trace) ≡ 0 = ap (λ t. length (pairs t)) f.no_items in
          let pends : pending_of x.owed ≡ 0 = ap pending_of f.owes_nothing in
          let left : units_in x.ended x.worker.units ≡ options.budget = ap (λ b. units_in b x.worker.units) f.goes_on ∙ f.units in (
            record {
              room = omega (arith, none, pends, left);
              labels = ap (λ (p : Tree). length (labels_of p.elements)) (sym f.plan_is);
              label = subst (LabelIn (length (labels_of plan.elements))) (sym f.owes_nothing) tt;
            },
            record {
              writer = w.0;
              there = w.1;
              number = w.2;
              stage = subst (λ o. StageOf o w.0.stage) (sym f.owes_nothing) w.3;
              list_is = w.4 ∙ ap pairs (sym f.no_items);
            },
          )

-- before the first turn
pub start_runs : (plan : Tree) (options : Options) (seats : List Seat) (core : Shape) → AreSeats 0 seats (threads_to plan options (length (threads_of plan)))
    → CoreIs core (numbers_of plan options) (split_to (numbers_of plan options) (length (threads_of plan) - 1)) → AllFresh plan options.budget seats → length seats ≡ length (threads_of plan) → 1 ≤ length (threads_of plan)
    → SeatsRun (numbers_of plan options) seats core (at_start plan options)
start_runs plan options seats core are core_is fresh count some_thread = record {
  threads = are;
  core_is = core_is;
  writers = writers_start plan options seats fresh count some_thread;
}
