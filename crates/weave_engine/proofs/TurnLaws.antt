-- How a seat's turn is a turn of its thread.
use Rattle.std.proofs.Common.{◌≡◌, ◌⊎◌, inl, inr, ◌++◌, ℕ, zero, suc, ◌+◌, ◌/◌, ◌<◌, Bool, true, false, List, [], ◌∷◌, Option, Some, None, length, drop, get_or, set, refl, sym, ap, ◌∙◌, subst, arith}
use Rattle.std.specs.Prelude.{◌==◌, slice_get, slice_index, slice_set}
use Rattle.std.proofs.lemmas.List.{set-get_or, length-set}
use Rattle.phaser_core.specs.Views.{Pair}
use Rattle.weave_engine.specs.declared.seat.Owed.{Owed as OwedBy}
use Rattle.std.proofs.lemmas.Option.{get_or_from_slice_get, slice_get_past}
use Rattle.jm_base.specs.declared.types.Entry.{Entry}
use Rattle.phaser_core.specs.declared.view.Event.{Event as CoreEvent}
use Rattle.phaser_core.specs.declared.view.Event.TheVariants.{LookStop, RaiseStop}
use Rattle.phaser_core.specs.declared.view.Numbers.{Numbers}
use Rattle.phaser_core.specs.CoreShape.{Shape}
use Rattle.phaser_core.specs.Step.{CoreState, next_state}
use Rattle.weave_engine.specs.declared.seat.Owed.TheVariants as by
use Rattle.weave_engine.specs.declared.seat.Seat.{Seat}
use Rattle.thread_machine.specs.declared.trace.TraceItem.TheVariants.{Entered as EnteredItem}
use Rattle.phaser_core.specs.Cells.{is_odd}
use Rattle.weave_engine.specs.Steps.{Owed, Nought, Record, Section, Stop, Thread, record_steps, shows, owes, opens, all_happen, stopped}
use Rattle.weave_engine.specs.Turns.{Weave, thread_turn, turn_of, owed_turn, record_turn, interval_after, recorded, try_turn, free_turn, looked_turn, step_turn, lock_left, with_thread, with_locks, core_moves}
use Rattle.weave_engine.specs.Seats.{SeatIs, MakesStep, RecordedAs, Records, OwesSame, CoreIs, AreSeats, Runs, RunsOn, Turned, HasRoom, Writes, Wrote, AreWriters, StepsOut, RecordsOn, IsNext, owed_then, pair_then, pending_of, LabelIn}
use Rattle.thread_machine.specs.Paired.{pairs}
use Rattle.phaser_core.specs.declared.view.View.{View}
use Rattle.weave_engine.proofs.StageLaws.{record_wrote, looked_out, raised_out}
use Rattle.weave_engine.proofs.SeatLaws.{going_on, none_to_come, none_owed, record_of, enters_by}

set_same : (ts : List Thread) (d : ℕ) (t : Thread) → slice_get ts d ≡ Some t → slice_set ts d t ≡ ts
set_same ts d t there = ap (set ts d) (sym (get_or_from_slice_get ts d t t there)) ∙ set-get_or ts d t

module _ (n : Numbers) (s : Weave) (d : ℕ) (t : Thread) (there : slice_get s.threads d ≡ Some t) where
  turn_is : (o : Owed) → t.owed ≡ o → thread_turn n d s ≡ owed_turn n d o t s
  turn_is o is = ap (λ x. turn_of n d x s) there ∙ ap (λ o. owed_turn n d o t s) is

  abbrev turned_with : Thread → CoreState → List ℕ → Weave
  turned_with t' state locks = record { threads = slice_set s.threads d t'; core = state; locks = locks }

  module _ (seat new : Seat) (core after : Shape) (is : SeatIs seat t) (core_is : CoreIs core n s.core)
      (has_room : HasRoom n seat) (writes : Writes s.core.1 d seat.owed (pairs seat.worker.trace)) where
    out_by : (e : CoreEvent) → Wrote s.core.1 (next_state n s.core e).1 d by.Nothing (pairs seat.worker.trace) → StepsOut seat new
        → Wrote s.core.1 (next_state n s.core e).1 d new.owed (pairs new.worker.trace)
    out_by e w o = record {
      writes = record {
        writer = w.writes.writer;
        there = w.writes.there;
        number = w.writes.number;
        stage = o.out w.writes.writer.stage w.writes.stage;
        list_is = w.writes.list_is ∙ sym o.list;
      };
      others = w.others;
      ports = w.ports;
    }

    -- a step of a record
    pub record_turned : (locks : List ℕ) → s.locks ≡ locks → (entry : Entry) (done interval found : ℕ) (event : CoreEvent) (rest : List CoreEvent) (last : Bool) → seat.owed ≡ by.Record entry done interval → seat.worker.thread ≡ d
        → IsNext (drop done (record_steps seat.worker.thread entry)) event rest last → drop done (record_steps seat.worker.thread entry) ≡ event ∷ rest → found ≡ interval_after event core.words interval
        → CoreIs after n (next_state n s.core event) → RecordedAs t.owed t rest found new → RecordsOn last entry (done + 1) found seat new → Turned n d s new after locks
    record_turned locks words entry done interval found event rest last owed number is_next next found_is after_is recorded_as on =
        let r : Records entry done interval seat.worker t.owed = record_of seat.owed entry done interval seat.worker t.owed owed is.owed in
        let found_there : found ≡ interval_after event s.core.0 interval = found_is ∙ ap (λ ws. interval_after event ws interval) (sym core_is.words) in
        record {
          thread = recorded r.sample found rest t;
          state = next_state n s.core event;
          turn = turn_is (Record r.sample interval (drop done (record_steps seat.worker.thread entry))) r.left ∙ ap (λ l. record_turn n d r.sample interval l t s) next
              ∙ ap (λ k. turned_with (recorded r.sample k rest t) (next_state n s.core event) s.locks) (sym found_there)
              ∙ ap (turned_with (recorded r.sample found rest t) (next_state n s.core event)) words;
          seat_is = subst (λ o. RecordedAs o t rest found new) r.left recorded_as;
          core_is = after_is;
          room = on.room n has_room;
          wrote =
              (let pends : pending_of seat.owed ≡ 1 = ap pending_of owed in
              let room = has_room.room in
              let stands : Writes s.core.1 d (by.Record entry done interval) (pairs seat.worker.trace) = subst (λ o. Writes s.core.1 d o (pairs seat.worker.trace)) owed writes in
              let label : entry.label < n.labels = subst (LabelIn n.labels) owed has_room.label in
              let one = record_wrote n s.core d entry done interval (pairs seat.worker.trace) event rest last stands r.more (omega (arith, pends, room)) label
              (subst (λ k. IsNext (drop done (record_steps k entry)) event rest last) number is_next) in
              let two : Wrote s.core.1 (next_state n s.core event).1 d (owed_then last entry (done + 1) found) (pairs seat.worker.trace ++ pair_then last entry found) =
              subst (λ k. Wrote s.core.1 (next_state n s.core event).1 d (owed_then last entry (done + 1) k) (pairs seat.worker.trace ++ pair_then last entry k)) (sym found_there) one in
              subst (λ o. Wrote s.core.1 (next_state n s.core event).1 d o (pairs new.worker.trace)) (sym on.owed)
              (subst (Wrote s.core.1 (next_state n s.core event).1 d (owed_then last entry (done + 1) found)) (sym on.list) two));
        }

    -- stop is raised
    pub raise_turned : (locks : List ℕ) → s.locks ≡ locks → seat.owed ≡ by.Stop → CoreIs after n (next_state n s.core (RaiseStop d)) → new ≡ record seat { owed = by.Nothing } → Turned n d s new after locks
    raise_turned locks words owed after_is new_is =
        let o : (seat.worker.owed ≡ None) × (seat.worker.entering ≡ None) × (t.owed ≡ Stop) = subst (λ o. OwesSame o seat.worker t.owed) owed is.owed in
        record {
          thread = owes Nought t;
          state = next_state n s.core (RaiseStop d);
          turn = turn_is Stop o.2 ∙ ap (turned_with (owes Nought t) (next_state n s.core (RaiseStop d))) words;
          seat_is = subst (λ x. SeatIs x (owes Nought t)) (sym new_is) (record {
            ahead = is.ahead;
            trace = is.trace;
            owed = (o.0, o.1, refl);
            open_lock = is.open_lock;
            section = is.section;
            at_end = is.at_end;
            scripts = is.scripts;
            value = is.value;
            ended = is.ended;
            number = is.number;
          });
          core_is = after_is;
          room =
              (let pends : pending_of seat.owed ≡ 0 = ap pending_of owed in
              let room = has_room.room in
              subst (HasRoom n) (sym new_is) (record { room = omega (arith, pends, room); labels = has_room.labels; label = tt }));
          wrote = subst (λ (x : Seat). Wrote s.core.1 (next_state n s.core (RaiseStop d)).1 d x.owed (pairs x.worker.trace)) (sym new_is)
              (raised_out n s.core.0 s.core.1 d (pairs seat.worker.trace) (subst (λ o. Writes s.core.1 d o (pairs seat.worker.trace)) owed writes));
        }

    -- a try to enter

    section_owed : (lock : ℕ) → seat.owed ≡ by.Enter lock → t.owed ≡ Section lock
    section_owed lock owed = (enters_by seat t lock is owed).left

    -- of a section that is busy
    pub blocked_turned : (locks : List ℕ) → s.locks ≡ locks → (lock : ℕ) → seat.owed ≡ by.Enter lock → is_odd (slice_index locks lock) ≡ true → new ≡ seat → after ≡ core → Turned n d s new after locks
    blocked_turned locks words lock owed odd new_is after_is = record {
      thread = t;
      state = s.core;
      turn = turn_is (Section lock) (section_owed lock owed) ∙ ap (λ ws. try_turn (is_odd (slice_index ws lock)) d lock t s) words ∙ ap (λ b. try_turn b d lock t s) odd
          ∙ ap (λ ts. record { threads = ts; core = s.core; locks = s.locks }) (sym (set_same s.threads d t there)) ∙ ap (turned_with t s.core) words;
      seat_is = subst (λ x. SeatIs x t) (sym new_is) is;
      core_is = subst (λ c. CoreIs c n s.core) (sym after_is) core_is;
      room = subst (HasRoom n) (sym new_is) has_room;
      wrote = record {
        writes = subst (λ (x : Seat). Writes s.core.1 d x.owed (pairs x.worker.trace)) (sym new_is) writes;
        others = λ k ne. refl;
        ports = refl;
      };
    }

    -- and of one that is free
    pub entered_turned : (locks : List ℕ) → s.locks ≡ locks → (lock : ℕ) → seat.owed ≡ by.Enter lock → is_odd (slice_index locks lock) ≡ false
        → SeatIs new (opens (Some lock) (owes Nought (shows (EnteredItem lock (slice_index locks lock / 2)) t))) → StepsOut seat new → after ≡ core → Turned n d s new after (lock_left (Some lock) locks)
    entered_turned locks words lock owed even seat_is out after_is =
        let stands : Writes s.core.1 d (by.Enter lock) (pairs seat.worker.trace) = subst (λ o. Writes s.core.1 d o (pairs seat.worker.trace)) owed writes in
        record {
          thread = opens (Some lock) (owes Nought (shows (EnteredItem lock (slice_index locks lock / 2)) t));
          state = s.core;
          turn = turn_is (Section lock) (section_owed lock owed) ∙ ap (λ ws. try_turn (is_odd (slice_index ws lock)) d lock t s) words ∙ ap (λ b. try_turn b d lock t s) even
              ∙ ap (λ ws. turned_with (opens (Some lock) (owes Nought (shows (EnteredItem lock (slice_index ws lock / 2)) t))) s.core (lock_left (Some lock) ws)) words;
          seat_is = seat_is;
          core_is = subst (λ c. CoreIs c n s.core) (sym after_is) core_is;
          room = out.room n has_room;
          wrote = record {
            writes = record {
              writer = stands.writer;
              there = stands.there;
              number = stands.number;
              stage = out.out stands.writer.stage stands.stage;
              list_is = stands.list_is ∙ sym out.list;
            };
            others = λ k ne. refl;
            ports = refl;
          };
        }

    module _ (locks : List ℕ) (words : s.locks ≡ locks) (free : seat.owed ≡ by.Nothing) where
      owes_nought : t.owed ≡ Nought
      owes_nought = (none_owed seat.owed seat.worker t.owed free is.owed).2

      -- a thread that has ended has an empty turn
      pub empty_turned : seat.ended ≡ true → new ≡ seat → after ≡ core → Turned n d s new after locks
      empty_turned ended new_is after_is = record {
        thread = t;
        state = s.core;
        turn = turn_is Nought owes_nought ∙ ap (λ l. free_turn n d l t s) (none_to_come seat t is ended)
            ∙ ap (λ ts. record { threads = ts; core = s.core; locks = s.locks }) (sym (set_same s.threads d t there)) ∙ ap (turned_with t s.core) words;
        seat_is = subst (λ x. SeatIs x t) (sym new_is) is;
        core_is = subst (λ c. CoreIs c n s.core) (sym after_is) core_is;
        room = subst (HasRoom n) (sym new_is) has_room;
        wrote = record {
          writes = subst (λ (x : Seat). Writes s.core.1 d x.owed (pairs x.worker.trace)) (sym new_is) writes;
          others = λ k ne. refl;
          ports = refl;
        };
      }

      looked_wrote : StepsOut seat new → Wrote s.core.1 (next_state n s.core (LookStop d)).1 d new.owed (pairs new.worker.trace)
      looked_wrote o = out_by (LookStop d) (looked_out n s.core.0 s.core.1 d (pairs seat.worker.trace) (subst (λ o. Writes s.core.1 d o (pairs seat.worker.trace)) free writes)) o

      -- after the look at the stop word
      looked : seat.ended ≡ false → (b : Bool) → (slice_index core.words 4 == 1) ≡ b → thread_turn n d s ≡ looked_turn b d t (core_moves n (LookStop d) s)
      looked going b is_b =
          let g = going_on seat t is going in
          turn_is Nought owes_nought ∙ ap (λ l. free_turn n d l t s) g.2
          ∙ ap (λ ws. looked_turn (slice_index ws 4 == 1) d t (core_moves n (LookStop d) s)) core_is.words
          ∙ ap (λ b. looked_turn b d t (core_moves n (LookStop d) s)) is_b

      pub stop_turned : seat.ended ≡ false → (slice_index core.words 4 == 1) ≡ true → CoreIs after n (next_state n s.core (LookStop d)) → SeatIs new (stopped t) → StepsOut seat new
          → (left : Option ℕ) → left ≡ t.open_lock → Turned n d s new after (lock_left left locks)
      stop_turned going seen after_is new_is out left left_is = record {
        thread = stopped t;
        state = next_state n s.core (LookStop d);
        turn = looked going true seen ∙ ap (λ l. with_locks (lock_left l s.locks) (with_thread d (stopped t) (core_moves n (LookStop d) s))) (sym left_is)
            ∙ ap (λ ws. turned_with (stopped t) (next_state n s.core (LookStop d)) (lock_left left ws)) words;
        seat_is = new_is;
        core_is = after_is;
        room = out.room n has_room;
        wrote = looked_wrote out;
      }

      pub step_turned : seat.ended ≡ false → (slice_index core.words 4 == 1) ≡ false → CoreIs after n (next_state n s.core (LookStop d)) → new.worker.thread ≡ d → (left : Option ℕ) → MakesStep t left new → StepsOut seat new
          → Turned n d s new after (lock_left left locks)
      step_turned going unseen after_is number left made out = record {
        thread = all_happen new.worker.thread made.step (record { ahead = made.steps; trace = t.trace; owed = t.owed; open_lock = t.open_lock });
        state = next_state n s.core (LookStop d);
        turn = looked going false unseen ∙ ap (λ l. step_turn d l t (core_moves n (LookStop d) s)) made.next
            ∙ ap (λ l. with_locks l (with_thread d (all_happen d made.step (record { ahead = made.steps; trace = t.trace; owed = t.owed; open_lock = t.open_lock })) (core_moves n (LookStop d) s))) (made.leaves s.locks)
            ∙ ap (λ k. turned_with (all_happen k made.step (record { ahead = made.steps; trace = t.trace; owed = t.owed; open_lock = t.open_lock })) (next_state n s.core (LookStop d)) (lock_left left s.locks)) (sym number)
            ∙ ap (λ ws. turned_with (all_happen new.worker.thread made.step (record { ahead = made.steps; trace = t.trace; owed = t.owed; open_lock = t.open_lock })) (next_state n s.core (LookStop d)) (lock_left left ws)) words;
        seat_is = made.made;
        core_is = after_is;
        room = out.room n has_room;
        wrote = looked_wrote out;
      }

-- One seat among the seats

pub seat_at : (i : ℕ) (xs : List Seat) (ts : List Thread) (k : ℕ) (x : Seat) → AreSeats i xs ts → k < length xs → (t : Thread) × (slice_get ts k ≡ Some t) × SeatIs (get_or xs k x) t × ((get_or xs k x).worker.thread ≡ i + k)
seat_at i [] ts k x are within = absurd (omega arith)
seat_at i (y ∷ ys) [] k x are within = absurd are
seat_at i (y ∷ ys) (t ∷ ts) zero x are within = (t, refl, are.0, (let h = are.1 in omega (arith, h)))
seat_at i (y ∷ ys) (t ∷ ts) (suc k) x are within =
    let r = seat_at (i + 1) ys ts k x are.2 (omega arith) in
    (r.0, r.1, r.2, (let h = r.3 in omega (arith, h)))

pub seats_set : (i : ℕ) (xs : List Seat) (ts : List Thread) (k : ℕ) (x : Seat) (t : Thread) → AreSeats i xs ts → SeatIs x t → x.worker.thread ≡ i + k → AreSeats i (set xs k x) (set ts k t)
seats_set i [] [] k x t are is number = tt
seats_set i [] (u ∷ us) k x t are is number = absurd are
seats_set i (y ∷ ys) [] k x t are is number = absurd are
seats_set i (y ∷ ys) (u ∷ us) zero x t are is number = (is, (omega (arith, number)), are.2)
seats_set i (y ∷ ys) (u ∷ us) (suc k) x t are is number = (are.0, are.1, seats_set (i + 1) ys us k x t are.2 is (omega (arith, number)))

pub none_there : (i : ℕ) (xs : List Seat) (ts : List Thread) (k : ℕ) → AreSeats i xs ts → length xs < k + 1 → slice_get ts k ≡ None
none_there i [] [] k are past = slice_get_past [] k (omega arith)
none_there i [] (t ∷ ts) k are past = absurd are
none_there i (x ∷ xs) [] k are past = absurd are
none_there i (x ∷ xs) (t ∷ ts) zero are past = absurd (omega arith)
none_there i (x ∷ xs) (t ∷ ts) (suc k) are past = none_there (i + 1) xs ts k are.2 (omega arith)

-- The writers of all seats

pub no_item : (k : ℕ) (x : Seat) → slice_get [] k ≡ Some x → ⊥
no_item k x h = let e : None ≡ Some x = sym (slice_get_past [] k (omega arith)) ∙ h in cc

pub set_at : (xs : List Seat) (d k : ℕ) (y x : Seat) → slice_get (set xs d y) k ≡ Some x → ((k ≡ d) × (x ≡ y)) ⊎ ((k ≡ d → ⊥) × (slice_get xs k ≡ Some x))
set_at [] d k y x h = absurd (no_item k x h)
set_at (z ∷ zs) zero zero y x h = inl (refl, (let e : Some y ≡ Some x = h in cc))
set_at (z ∷ zs) zero (suc k) y x h = inr ((λ e. omega (arith, e)), h)
set_at (z ∷ zs) (suc d) zero y x h = inr ((λ e. omega (arith, e)), h)
set_at (z ∷ zs) (suc d) (suc k) y x h = elim (set_at zs d k y x h) [
  | inl p ↦ inl (ap suc p.0, p.1)
  | inr q ↦ inr ((λ e. q.0 (omega (arith, e))), q.1)
]

writes_else : (before after : List View) (d k : ℕ) (owed : OwedBy) (list : List Pair) (w : Wrote before after d owed list) (x : Seat) → (k ≡ d → ⊥)
    → Writes before k x.owed (pairs x.worker.trace) → Writes after k x.owed (pairs x.worker.trace)
writes_else before after d k owed list w x ne h = record {
  writer = h.writer;
  there = w.others (k + 1) (λ e. ne (omega (arith, e))) ∙ h.there;
  number = h.number;
  stage = h.stage;
  list_is = h.list_is;
}

writers_set : (n : Numbers) (seats : List Seat) (before after : List View) (d : ℕ) (new : Seat) → AreWriters n seats before → HasRoom n new → Wrote before after d new.owed (pairs new.worker.trace)
    → AreWriters n (set seats d new) after
writers_set n seats before after d new are room w = record {
  ports = w.ports ∙ are.ports ∙ ap (λ k. k + 1) (sym (length-set seats d new));
  each = λ k x there. elim (set_at seats d k new x there) [
    | inl p ↦ subst (λ (y : Seat). HasRoom n y × Writes after k y.owed (pairs y.worker.trace)) (sym p.1)
        (room, subst (λ j. Writes after j new.owed (pairs new.worker.trace)) (sym p.0) w.writes)
    | inr q ↦ (let h = are.each k x q.1 in (h.0, writes_else before after d k new.owed (pairs new.worker.trace) w x q.0 h.1))
  ];
}

pub turned_runs : (n : Numbers) (s : Weave) (seats : List Seat) (core after : Shape) (locks : List ℕ) (d : ℕ) (new : Seat) → Runs n seats core s → Turned n d s new after locks → new.worker.thread ≡ d
    → RunsOn n (set seats d new) after locks (thread_turn n d s)
turned_runs n s seats core after locks d new runs h number = subst (RunsOn n (set seats d new) after locks) (sym h.turn) (record {
  runs = record {
    threads = seats_set 0 seats s.threads d new h.thread runs.threads h.seat_is (omega (arith, number));
    core_is = h.core_is;
    writers = writers_set n seats s.core.1 h.state.1 d new runs.writers h.room h.wrote;
  };
  words = refl;
})
