-- Turns of the reporter.
use Rattle.std.proofs.Common.{◌≡◌, ◌⊎◌, inl, inr, ℕ, zero, suc, length, Some, None, ◌+◌, ◌-◌, ◌<◌, ◌≤◌, Bool, true, false, List, [], ◌∷◌, ◌++◌, Option, refl, sym, ap, ◌∙◌, subst, arith}
use Rattle.std.specs.Prelude.{◌==◌, ◌||◌, ◌&&◌, nat_lt, slice_index, slice_get, unwrap_or}
use lib.ListN.{get_elem?}
use Rattle.phaser_core.specs.declared.view.Numbers.{Numbers}
use Rattle.phaser_core.specs.declared.view.ReporterStage.{ReporterStage}
use Rattle.phaser_core.specs.declared.view.ReporterStage.TheVariants.{Idle, Swapped, Cleared, Waiting, Harvest}
use Rattle.phaser_core.specs.declared.view.ReporterView.{ReporterView}
use Rattle.phaser_core.specs.declared.view.View.{View}
use Rattle.phaser_core.specs.declared.view.View.TheVariants.{Reporter, Writer, Gone}
use mathlib.Core.Option.{some}
use Rattle.phaser_core.specs.declared.view.Event.TheVariants as event
use Rattle.phaser_core.specs.Cells.{table_cells, cell_at, end_at, is_odd}
use Rattle.phaser_core.specs.CoreMoves.{Move, swapping, gathered_if, settled, with_seen}
use Rattle.phaser_core.specs.Invariant.{RecorderInvariant, InTable}
use Rattle.phaser_core.specs.CoreShape.{Shape, Shows}
use Rattle.phaser_core.specs.Step.{next_state, given, moved, reporter_move, FitsEvent}
use Rattle.weave_engine.specs.declared.seat.Seat.{Seat}
use Rattle.weave_engine.specs.Turns.{Weave, closing_event, closing_in, closing_of, reporter_turn, ends_reporters_row, idle_after, is_idle, is_waiting}
use Rattle.weave_engine.proofs.RowLaws.{Moves}
use Rattle.weave_engine.proofs.StageLaws.{reporter_leaves, reporter_ports, look_settles}
use Rattle.weave_engine.specs.Seats.{CoreIs, Runs, StageOf, is_nothing, is_settled, all_seats_settled}
use Rattle.weave_engine.specs.Woven.{CloseIf}
use Rattle.weave_engine.specs.declared.seat.Owed.{Owed as OwedBy}
use Rattle.weave_engine.specs.declared.seat.Owed.TheVariants as by
use Rattle.jm_base.specs.SumTotals.{total}
use Rattle.phaser_core.specs.declared.view.Stage.TheVariants.{Out}
use Rattle.phaser_core.specs.Step.{CoreState}
use Rattle.phaser_core.specs.Views.{inside, stage_inside}
use Rattle.std.proofs.lemmas.Bool.Decides.{nat_tests}
use Rattle.std.proofs.lemmas.Option.{slice_get_past}

-- the core knows how far the reporter is
closing_shown : (core : Shape) (views : List View) → Shows core views → closing_in (get_elem? views 0) ≡ core.reporter.closing
closing_shown core [] h = absurd h
closing_shown core (Reporter r ∷ others) h = ap (λ p. p.closing) h.reporter
closing_shown core (Writer w ∷ others) h = absurd h
closing_shown core (Gone ∷ others) h = absurd h

pub closing_is : (n : Numbers) (seats : List Seat) (core : Shape) (s : Weave) → Runs n seats core s → closing_of s ≡ core.reporter.closing
closing_is n seats core s runs = closing_shown core s.core.1 runs.core_is.shows

pub closing_fits : (c : ReporterStage) → FitsEvent (closing_event c)
closing_fits Idle = tt
closing_fits Swapped = tt
closing_fits Cleared = tt
closing_fits (Waiting want) = tt
closing_fits (Harvest j) = tt

pub reporter_runs : (n : Numbers) (seats : List Seat) (core after : Shape) (s : Weave) → Runs n seats core s → CoreIs after n (next_state n s.core (closing_event core.reporter.closing)) → Runs n seats after (reporter_turn n s)
reporter_runs n seats core after s runs h = record {
  threads = runs.threads;
  core_is = subst (λ c. CoreIs after n (next_state n s.core (closing_event c))) (sym (closing_is n seats core s runs)) h;
  writers = record {
    ports = reporter_ports n s.core.0 s.core.1 (closing_of s) ∙ runs.writers.ports;
    each = λ k x there.
        let w = runs.writers.each k x there in (
          w.0,
          record {
            writer = w.1.writer;
            there = reporter_leaves n s.core.0 s.core.1 (k + 1) (closing_of s) (λ e. omega (arith, e)) ∙ w.1.there;
            number = w.1.number;
            stage = w.1.stage;
            list_is = w.1.list_is;
          },
        );
  };
}

-- A row of the reporter's turns ends

-- how many turns of a row are left, at most
abbrev pub rank : ReporterStage → ℕ
rank Idle = 1000004
rank Swapped = 1000003
rank Cleared = 1000002
rank (Waiting want) = 1000001
rank (Harvest j) = 1000000 - j

-- after a turn the reporter is idle, or has looked in vain, or has come nearer
abbrev pub Nears : ReporterStage → ReporterStage → Type 0
Nears c c' = (is_idle c' ≡ true) ⊎ (((is_waiting c && is_waiting c') ≡ true) ⊎ (rank c' < rank c))

module _ (n : Numbers) (ws : List ℕ) (r : ReporterView) (others : List View) (labels : r.labels ≤ 256) (within : InTable (table_cells r.labels) r.closing) where
  abbrev after_move : Option Move → ReporterStage
  after_move o = closing_in (get_elem? (unwrap_or (moved ws (Reporter r ∷ others) 0 o) (ws, Reporter r ∷ others)).1 0)

  idle_case : r.closing ≡ Idle → (b : Bool) → Nears Idle (after_move (given b (swapping r)))
  idle_case h true = inr (inr (omega arith))
  idle_case h false = inl (ap is_idle h)

  gathered_case : (c : ReporterStage) (v : ReporterView) (l : List ℕ) (j : ℕ) (b : Bool) → 1000000 - j < rank c → Nears c (closing_in (some (Reporter (gathered_if b v l j))))
  gathered_case c v l j true less = inl refl
  gathered_case c v l j false less = inr (inr less)

  look_case : (want : ℕ) (v : ReporterView) → v.closing ≡ Waiting want → (b : Bool) → Nears (Waiting want) (closing_in (some (Reporter (settled v b))))
  look_case want v h true = gathered_case (Waiting want) v [] 0 (0 == table_cells v.labels) (omega arith)
  look_case want v h false = inr (inl (ap is_waiting h))

  nears_by : (c : ReporterStage) → r.closing ≡ c → InTable (table_cells r.labels) c → Nears c (closing_in (get_elem? (next_state n (ws, Reporter r ∷ others) (closing_event c)).1 0))
  nears_by Idle h t = subst (λ k. Nears Idle (after_move (reporter_move event.SwapActive r k))) (sym h) (idle_case h (nat_lt r.interval 16777216))
  nears_by Swapped h t = subst (λ k. Nears Swapped (after_move (reporter_move event.ClearEnd r k))) (sym h) (inr (inr (omega arith)))
  nears_by Cleared h t = subst (λ k. Nears Cleared (after_move (reporter_move event.Flip r k))) (sym h) (inr (inr (omega arith)))
  nears_by (Waiting want) h t =
      subst (λ k. Nears (Waiting want) (after_move (reporter_move event.Look r k))) (sym h)
      (look_case want (with_seen r (slice_index ws (end_at (is_odd r.interval)))) h (slice_index ws (end_at (is_odd r.interval)) == want))
  nears_by (Harvest j) h t =
      subst (λ k. Nears (Harvest j) (after_move (reporter_move event.Take r k))) (sym h)
      (gathered_case (Harvest j) r (r.cells ++ slice_index ws (cell_at r.labels r.interval j) ∷ []) (j + 1) ((j + 1) == table_cells r.labels) (omega (arith, t, labels)))

  nears_all : Nears r.closing (closing_in (get_elem? (next_state n (ws, Reporter r ∷ others) (closing_event r.closing)).1 0))
  nears_all = nears_by r.closing refl within

some-view : {a b : View} → some a ≡ some b → a ≡ b
some-view h = cc

reader_of : {a b : ReporterView} → Reporter a ≡ Reporter b → b ≡ a
reader_of h = cc

reader_is : (n : Numbers) (ws : List ℕ) (r : ReporterView) (others : List View) → RecorderInvariant n ws (Reporter r ∷ others) → (r.labels ≤ 256) × InTable (table_cells r.labels) r.closing
reader_is n ws r others k =
    let same : k.reader ≡ r = reader_of (some-view k.reporter) in
    let sized = k.accounts.sizes.0 in
    let labels : k.reader.labels ≡ n.labels = k.accounts.labels in
    let table : InTable (table_cells n.labels) k.reader.closing = k.cells.in_table in
    let own : InTable (table_cells k.reader.labels) k.reader.closing = subst (λ l. InTable (table_cells l) k.reader.closing) (sym labels) table in (
      subst (λ x. x.labels ≤ 256) same (subst (λ l. l ≤ 256) (sym labels) sized),
      subst (λ (x : ReporterView). InTable (table_cells x.labels) x.closing) same own,
    )

nears_state : (n : Numbers) (core : Shape) (ws : List ℕ) (views : List View) → Shows core views → RecorderInvariant n ws views
    → Nears core.reporter.closing (closing_in (get_elem? (next_state n (ws, views) (closing_event core.reporter.closing)).1 0))
nears_state n core ws [] h k = absurd h
nears_state n core ws (Writer w ∷ others) h k = absurd h
nears_state n core ws (Gone ∷ others) h k = absurd h
nears_state n core ws (Reporter r ∷ others) h k =
    let facts = reader_is n ws r others k in
    subst (λ c. Nears c (closing_in (get_elem? (next_state n (ws, Reporter r ∷ others) (closing_event c)).1 0))) (ap (λ p. p.closing) h.reporter)
    (nears_all n ws r others facts.0 facts.1)

-- a turn of the reporter, by what the core shows before and after it
pub turn_nears : (n : Numbers) (seats : List Seat) (core after : Shape) (s : Weave) → Runs n seats core s → Runs n seats after (reporter_turn n s) → Nears core.reporter.closing after.reporter.closing
turn_nears n seats core after s runs then =
    let one = nears_state n core s.core.0 s.core.1 runs.core_is.shows runs.core_is.invariant in
    let same : closing_in (get_elem? (next_state n s.core (closing_event core.reporter.closing)).1 0) ≡ after.reporter.closing =
    ap (λ c. closing_in (get_elem? (next_state n s.core (closing_event c)).1 0)) (sym (closing_is n seats core s runs)) ∙ closing_is n seats after (reporter_turn n s) then in
    subst (Nears core.reporter.closing) same one

-- The reporter's row

pub reporter_moves : (n : Numbers) (seats : List Seat) (core after : Shape) (b : Bool) → ((n : Numbers) (seats : List Seat) (s : Weave) → Runs n seats core s → Runs n seats after (reporter_turn n s))
    → b ≡ (is_idle after.reporter.closing || (is_waiting core.reporter.closing && is_waiting after.reporter.closing)) → Moves (reporter_turn n) (ends_reporters_row n) (Runs n seats core) (Runs n seats after) b
reporter_moves n seats core after b turned is = record {
  runs = turned n seats;
  last_is = λ u runs. ap (λ c. is_idle c || (is_waiting (closing_of u) && is_waiting c)) (closing_is n seats after (reporter_turn n u) (turned n seats u runs))
      ∙ ap (λ c. is_idle after.reporter.closing || (is_waiting c && is_waiting after.reporter.closing)) (closing_is n seats core u runs) ∙ sym is;
}

comes_nearer : (c c' : ReporterStage) → Nears c c' → (is_idle c' || (is_waiting c && is_waiting c')) ≡ false → rank c' < rank c
comes_nearer c c' near on = elim near [
  | inl idle ↦ absurd (let e : true ≡ false = sym (ap (λ b. b || (is_waiting c && is_waiting c')) idle) ∙ on in cc)
  | inr more ↦ by_more more
] where
  by_more : (((is_waiting c && is_waiting c') ≡ true) ⊎ (rank c' < rank c)) → rank c' < rank c
  by_more (inl waits) = absurd (either (is_idle c') (is_waiting c && is_waiting c') waits on) where
    either : (a b : Bool) → b ≡ true → (a || b) ≡ false → ⊥
    either true b h k = let e : true ≡ false = k in cc
    either false b h k = let e : true ≡ false = sym h ∙ k in cc
  by_more (inr less) = less

pub row_nears : (n : Numbers) (seats : List Seat) (core after : Shape) (s : Weave) → Runs n seats core s → Runs n seats after (reporter_turn n s)
    → (is_idle after.reporter.closing || (is_waiting core.reporter.closing && is_waiting after.reporter.closing)) ≡ false → rank after.reporter.closing < rank core.reporter.closing
row_nears n seats core after s runs then on = comes_nearer core.reporter.closing after.reporter.closing (turn_nears n seats core after s runs then) on

-- An open closing, once all threads have settled

pub some_seat : (xs : List Seat) (k : ℕ) → k < length xs → (x : Seat) × (slice_get xs k ≡ Some x)
some_seat [] k less = absurd (omega (arith, less))
some_seat (x ∷ xs) zero less = (x, refl)
some_seat (x ∷ xs) (suc k) less = some_seat xs k (omega (arith, less))

nothing_is : (o : OwedBy) → is_nothing o ≡ true → o ≡ by.Nothing
nothing_is by.Nothing h = refl
nothing_is (by.Record entry done interval) h = absurd (cc)
nothing_is (by.Enter lock) h = absurd (cc)
nothing_is by.Stop h = absurd (cc)

both_true : (a b : Bool) → (a && b) ≡ true → (a ≡ true) × (b ≡ true)
both_true true b h = (refl, h)
both_true false b h = absurd (cc)

pub settled_owes : (xs : List Seat) (k : ℕ) (x : Seat) → all_seats_settled xs ≡ true → slice_get xs k ≡ Some x → x.owed ≡ by.Nothing
settled_owes [] k x h there = absurd (let e : None ≡ Some x = sym (slice_get_past [] k (omega arith)) ∙ there in cc)
settled_owes (y ∷ ys) zero x h there =
    let e : Some y ≡ Some x = there in
    let one = both_true (is_settled y) (all_seats_settled ys) h in
    let two = both_true y.ended (is_nothing y.owed) one.0 in
    ap (λ (z : Seat). z.owed) (sym (some_same e)) ∙ nothing_is y.owed two.1 where
      some_same : {a b : Seat} → Some a ≡ Some b → a ≡ b
      some_same h = cc
settled_owes (y ∷ ys) (suc k) x h there = settled_owes ys k x (both_true (is_settled y) (all_seats_settled ys) h).1 there

none_in : (p : Bool) (vs : List View) → ((k : ℕ) → k < length vs → (v : View) × (get_elem? vs k ≡ some v) × (inside p v ≡ 0)) → total (inside p) vs ≡ 0
none_in p [] h = refl
none_in p (v ∷ vs) h =
    let (w, there, none) = h 0 (omega arith) in
    let one : inside p v ≡ 0 = ap (inside p) (some-view there) ∙ none in
    let more = none_in p vs (λ k less. h (suc k) (omega (arith, less))) in
    omega (arith, one, more)

-- whether the reporter's port is that of a reporter
pub reporter_there : (core : Shape) (views : List View) → Shows core views → (r : ReporterView) × (get_elem? views 0 ≡ some (Reporter r))
reporter_there core [] h = absurd h
reporter_there core (Reporter r ∷ others) h = (r, refl)
reporter_there core (Writer w ∷ others) h = absurd h
reporter_there core (Gone ∷ others) h = absurd h

-- no writer is inside
pub none_within : (n : Numbers) (seats : List Seat) (core : Shape) (s : Weave) → Runs n seats core s → all_seats_settled seats ≡ true → (p : Bool) → total (inside p) s.core.1 ≡ 0
none_within n seats core s runs quiet p = none_in p s.core.1 at_port where
  at_port : (k : ℕ) → k < length s.core.1 → (v : View) × (get_elem? s.core.1 k ≡ some v) × (inside p v ≡ 0)
  at_port zero less = let r = reporter_there core s.core.1 runs.core_is.shows in (Reporter r.0, r.1, refl)
  at_port (suc k) less =
      let ports = runs.writers.ports in
      let x = some_seat seats k (omega (arith, less, ports)) in
      let w = (runs.writers.each k x.0 x.1).1 in
      let out : w.writer.stage ≡ Out = subst (λ o. StageOf o w.writer.stage) (settled_owes seats k x.0 quiet x.1) w.stage in
      (Writer w.writer, subst (λ j. get_elem? s.core.1 j ≡ some (Writer w.writer)) (omega arith) w.there, ap (stage_inside p) out)

-- after a turn the reporter is idle, or has come nearer
abbrev pub Comes : ReporterStage → ReporterStage → Type 0
Comes c c' = (is_idle c' ≡ true) ⊎ (rank c' < rank c)

module _ (n : Numbers) (ws : List ℕ) (r : ReporterView) (others : List View) (labels : r.labels ≤ 256) (finds : (want : ℕ) → r.closing ≡ Waiting want → slice_index ws (end_at (is_odd r.interval)) ≡ want) where
  abbrev closing_after : Option Move → ReporterStage
  closing_after o = closing_in (get_elem? (unwrap_or {T = CoreState} (moved ws (Reporter r ∷ others) 0 o) (ws, Reporter r ∷ others)).1 0)

  idle_comes : r.closing ≡ Idle → (b : Bool) → Comes Idle (closing_after (given b (swapping r)))
  idle_comes h true = inr (omega arith)
  idle_comes h false = inl (ap is_idle h)

  gathered_comes : (c : ReporterStage) (v : ReporterView) (l : List ℕ) (j : ℕ) (b : Bool) → 1000000 - j < rank c → Comes c (closing_in (some (Reporter (gathered_if b v l j))))
  gathered_comes c v l j true less = inl refl
  gathered_comes c v l j false less = inr less

  look_comes : (want : ℕ) (v : ReporterView) (b : Bool) → b ≡ true → Comes (Waiting want) (closing_in (some (Reporter (settled v b))))
  look_comes want v true h = gathered_comes (Waiting want) v [] 0 (0 == table_cells v.labels) (omega arith)
  look_comes want v false h = absurd (cc)

  comes_by : (c : ReporterStage) → r.closing ≡ c → InTable (table_cells r.labels) c → Comes c (closing_in (get_elem? (next_state n (ws, Reporter r ∷ others) (closing_event c)).1 0))
  comes_by Idle h t = subst (λ k. Comes Idle (closing_after (reporter_move event.SwapActive r k))) (sym h) (idle_comes h (nat_lt r.interval 16777216))
  comes_by Swapped h t = subst (λ k. Comes Swapped (closing_after (reporter_move event.ClearEnd r k))) (sym h) (inr (omega arith))
  comes_by Cleared h t = subst (λ k. Comes Cleared (closing_after (reporter_move event.Flip r k))) (sym h) (inr (omega arith))
  comes_by (Waiting want) h t =
      subst (λ k. Comes (Waiting want) (closing_after (reporter_move event.Look r k))) (sym h)
      (look_comes want (with_seen r (slice_index ws (end_at (is_odd r.interval)))) (slice_index ws (end_at (is_odd r.interval)) == want) (let found = finds want h in grind (nat_tests, arith, found)))
  comes_by (Harvest j) h t =
      subst (λ k. Comes (Harvest j) (closing_after (reporter_move event.Take r k))) (sym h)
      (gathered_comes (Harvest j) r (r.cells ++ slice_index ws (cell_at r.labels r.interval j) ∷ []) (j + 1) ((j + 1) == table_cells r.labels) (omega (arith, t, labels)))

comes_state : (n : Numbers) (core : Shape) (ws : List ℕ) (views : List View) → Shows core views → RecorderInvariant n ws views → ((p : Bool) → total (inside p) views ≡ 0)
    → Comes core.reporter.closing (closing_in (get_elem? (next_state n (ws, views) (closing_event core.reporter.closing)).1 0))
comes_state n core ws [] h k quiet = absurd h
comes_state n core ws (Writer w ∷ others) h k quiet = absurd h
comes_state n core ws (Gone ∷ others) h k quiet = absurd h
comes_state n core ws (Reporter r ∷ others) h k quiet =
    let facts = reader_is n ws r others k in
    let same : k.reader ≡ r = reader_of (some-view k.reporter) in
    let finds : (want : ℕ) → r.closing ≡ Waiting want → slice_index ws (end_at (is_odd r.interval)) ≡ want =
    subst (λ (x : ReporterView). (want : ℕ) → x.closing ≡ Waiting want → slice_index ws (end_at (is_odd x.interval)) ≡ want) same (λ want waits. look_settles n ws (Reporter r ∷ others) k want waits quiet) in
    subst (λ c. Comes c (closing_in (get_elem? (next_state n (ws, Reporter r ∷ others) (closing_event c)).1 0))) (ap (λ p. p.closing) h.reporter)
    (comes_by n ws r others facts.0 finds r.closing refl facts.1)

-- a turn of the reporter once all threads have settled
pub turn_comes : (n : Numbers) (seats : List Seat) (core after : Shape) (s : Weave) → Runs n seats core s → Runs n seats after (reporter_turn n s) → all_seats_settled seats ≡ true → Comes core.reporter.closing after.reporter.closing
turn_comes n seats core after s runs then quiet =
    let one = comes_state n core s.core.0 s.core.1 runs.core_is.shows runs.core_is.invariant (none_within n seats core s runs quiet) in
    let same : closing_in (get_elem? (next_state n s.core (closing_event core.reporter.closing)).1 0) ≡ after.reporter.closing =
    ap (λ c. closing_in (get_elem? (next_state n s.core (closing_event c)).1 0)) (sym (closing_is n seats core s runs)) ∙ closing_is n seats after (reporter_turn n s) then in
    subst (Comes core.reporter.closing) same one

pub close_nears : (n : Numbers) (seats : List Seat) (core after : Shape) (s : Weave) → Runs n seats core s → Runs n seats after (reporter_turn n s) → all_seats_settled seats ≡ true
    → is_idle after.reporter.closing ≡ false → rank after.reporter.closing < rank core.reporter.closing
close_nears n seats core after s runs then quiet on = elim (turn_comes n seats core after s runs then quiet) [
  | inl idle ↦ absurd (let e : true ≡ false = sym idle ∙ on in cc)
  | inr less ↦ less
]

pub close_moves : (n : Numbers) (seats : List Seat) (core after : Shape) (b : Bool) → ((n : Numbers) (seats : List Seat) (s : Weave) → Runs n seats core s → Runs n seats after (reporter_turn n s))
    → b ≡ is_idle after.reporter.closing → Moves (reporter_turn n) (idle_after n) (Runs n seats core) (Runs n seats after) b
close_moves n seats core after b turned is = record {
  runs = turned n seats;
  last_is = λ u runs. ap is_idle (closing_is n seats after (reporter_turn n u) (turned n seats u runs)) ∙ sym is;
}

-- what was open is closed
pub closes : (n : Numbers) (seats : List Seat) (core after : Shape) (s : Weave) → Runs n seats core s → (b : Bool) → is_idle core.reporter.closing ≡ b
    → (t : Weave) × CloseIf b n s t × Runs n seats after t → (t : Weave) × CloseIf (is_idle (closing_of s)) n s t × Runs n seats after t
closes n seats core after s runs b is h =
    (h.0, subst (λ k. CloseIf k n s h.0) (sym (ap is_idle (closing_is n seats core s runs) ∙ is)) h.1, h.2)
