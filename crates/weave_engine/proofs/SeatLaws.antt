-- How a worker's step is the next step of its thread's list.
use Rattle.std.proofs.Common.{◌≡◌, ℕ, zero, suc, ◌+◌, ◌<◌, Bool, arith, length, drop, get_or, true, false, List, [], ◌∷◌, ◌++◌, Option, Some, None, refl, sym, ap, ◌∙◌, subst, inl, inr}
use Rattle.std.specs.Prelude.{MatchOption, IfSome, if◌then◌else◌, Result, Ok, Err, OnOk, IfOk, ◌==◌, slice_get, unwrap_or}
use Rattle.std.proofs.lemmas.Option.{unwrap_or-slice_get}
use Rattle.std.proofs.lemmas.Bool.Decides.{nat_tests}
use Rattle.phaser_core.specs.declared.view.Event.TheVariants.{Add, Lower, Raise, Exit}
use Rattle.jm_base.specs.declared.types.End.{End}
use Rattle.jm_base.specs.declared.types.End.TheVariants.{Completed, StopThread, StopTest, Stopped, SampleLimit, RoundLimit, ValueLimit, NoMemory}
use Rattle.jm_base.specs.declared.types.Entry.{Entry}
use Rattle.jm_base.specs.Run.{Run, over, give, read, wait, ask, ◌>>=◌, Event, Waited, Sampled, Nothing, Entered, Left, Ended, over_value}
use Rattle.jm_base.specs.Outside.{Account, Goes, Scripts, Replays, script_form, scripted_ask, later}
use Rattle.jm_base.proofs.RunLaws.{path-value}
use Rattle.thread_machine.specs.declared.trace.TraceItem.{TraceItem}
use Rattle.thread_machine.specs.declared.trace.TraceItem.TheVariants.{Paused as PausedItem, Sampled as SampledItem, Entered as EnteredItem, Ended as EndedItem}
use Rattle.thread_machine.specs.declared.step.Step.{Step}
use Rattle.thread_machine.specs.declared.step.Step.TheVariants.{Sampled as SampledStep, Null as NullStep, Enter as EnterStep, Leave as LeaveStep, Ended as EndedStep}
use Rattle.thread_machine.specs.Standing.{Standing, part_left, before_end, rest}
use Rattle.thread_machine.specs.SectionOrder.{left_traced}
use Rattle.thread_machine.proofs.Ends.{BegunOn, begun_on, thread_same}
use Rattle.thread_machine.proofs.Labels.{lock_within}
use Rattle.element_tree.specs.Tree.{Tree}
use Rattle.element_tree.specs.Names.{locks_of}
use Rattle.jm_meaning.specs.State.{Ending}
use Rattle.jm_meaning.specs.Meaning.{and_end, after_pause, end_of}
use Rattle.phaser_core.specs.declared.view.Event.{Event as CoreEvent}
use Rattle.thread_machine.specs.Stepped.{trace_paused, events_paused, Begins, GivesSample, GivesNone, EntersSection, LeavesSection, IsOver, Ends, Steps, entry_of}
use Rattle.weave_engine.specs.declared.seat.Owed.{Owed as OwedBy}
use Rattle.weave_engine.specs.declared.seat.Owed.TheVariants as by
use Rattle.weave_engine.specs.declared.seat.Seat.{Seat}
use Rattle.weave_engine.specs.Steps.{Owed, Nought, Record, Section, Thread, shows, owes, opens, steps_of, cut_at, error_adds, record_steps, owed_at_end, happens, all_happen, left_items, stopped}
use Rattle.weave_engine.specs.Turns.{locks_left, lock_left, recorded}
use Rattle.weave_engine.specs.Seats.{events_over, step_count, Records, Enters, OwesSame, SeatIs, IsSameThread, StepSections, MakesStep, RecordedAs, IsNext, owed_after, IsNoMemory}

abbrev pub IsCons : {A : Type 0} → List A → Type 0
IsCons {A} xs = (x : A) × (rest : List A) × (xs ≡ x ∷ rest)

-- what a run that has gone on has given, and what it still gives over the replies
record Given (a b : Account) (run left : Run (Unit {0})) (given : List Event) : Type 0 where
  after : Scripts
  value : b.value ≡ Some after
  events : events_over a.value run ≡ given ++ events_over b.value left

given_by : (a b : Account) (run left : Run (Unit {0})) (given : List Event) (v : Scripts) → a.value ≡ Some v → Goes a run given left b → Given a b run left given
given_by a b run left given v is g =
    let m : MatchOption (Some v) (b.value ≡ None) (λ v. (w : Scripts) × (b.value ≡ Some w) × Replays script_form v g.heard w) =
    subst (λ o. MatchOption o (b.value ≡ None) (λ v. (w : Scripts) × (b.value ≡ Some w) × Replays script_form v g.heard w)) is g.hears.value in
    let all = path-value script_form g.path v m.0 m.2 in
    record {
      after = m.0;
      value = m.1;
      events = ap (λ o. events_over o run) is ∙ ap (λ r. r.events) all ∙ ap (λ o. given ++ events_over o left) (sym m.1);
    }

-- the same, where the run has come to an event and has heard nothing after it
given_heard : (a b : Account) (run left : Run (Unit {0})) (e : Event) (v : Scripts) → a.value ≡ Some v → Goes a run [] (give e left) b → Given a b run left (e ∷ [])
unfolding over_value
given_heard a b run left e v is g =
    let h = given_by a b run (give e left) [] v is g in
    record {
      after = h.after;
      value = h.value;
      events = h.events ∙ ap (λ o. events_over o (give e left)) h.value ∙ ap (λ o. e ∷ events_over o left) (sym h.value);
    }

-- an event that ends a step
abbrev IsAct : Event → Type 0
IsAct (Waited ms) = ⊥
IsAct (Sampled giver sample) = Unit {0}
IsAct (Nothing sampler) = Unit {0}
IsAct (Entered lock) = Unit {0}
IsAct (Left lock) = Unit {0}
IsAct (Ended end) = Unit {0}

-- the section that it leaves
abbrev left_by : Event → Option ℕ
left_by (Waited ms) = None
left_by (Sampled giver sample) = None
left_by (Nothing sampler) = None
left_by (Entered lock) = None
left_by (Left lock) = Some lock
left_by (Ended end) = None

cut_one : (e : Event) (steps : List (List Event)) → IsAct e → cut_at e steps ≡ (e ∷ []) ∷ steps
cut_one (Waited ms) steps is = absurd is
cut_one (Sampled giver sample) steps is = refl
cut_one (Nothing sampler) steps is = refl
cut_one (Entered lock) steps is = refl
cut_one (Left lock) steps is = refl
cut_one (Ended end) steps is = refl

leaves_one : (e : Event) (locks : List ℕ) → locks_left (e ∷ []) locks ≡ lock_left (left_by e) locks
leaves_one (Waited ms) locks = refl
leaves_one (Sampled giver sample) locks = refl
leaves_one (Nothing sampler) locks = refl
leaves_one (Entered lock) locks = refl
leaves_one (Left lock) locks = refl
leaves_one (Ended end) locks = refl

-- an event and the pause before it are one step
cut_paused : (ms : ℕ) (e : Event) (events : List Event) → IsAct e → steps_of (events_paused ms (e ∷ []) ++ events) ≡ events_paused ms (e ∷ []) ∷ steps_of events
cut_paused zero e events act = cut_one e (steps_of events) act
cut_paused (suc ms) e events act = ap (cut_at (Waited (suc ms))) (cut_one e (steps_of events) act)

leaves_paused : (ms : ℕ) (e : Event) (locks : List ℕ) → locks_left (events_paused ms (e ∷ [])) locks ≡ lock_left (left_by e) locks
leaves_paused zero e locks = leaves_one e locks
leaves_paused (suc ms) e locks = leaves_one e locks

abbrev with_trace : List TraceItem → Thread → Thread
with_trace trace t = record { ahead = t.ahead; trace = trace; owed = t.owed; open_lock = t.open_lock }

paused_happens : (d ms : ℕ) (e : Event) (t : Thread) → all_happen d (events_paused ms (e ∷ [])) t ≡ happens d e (with_trace (trace_paused t.trace ms) t)
paused_happens d zero e t = refl
paused_happens d (suc ms) e t = refl

-- The list begins with one step: the pause before the first variables, where it is still to come, the pause of timers, and this
-- event.
record Cuts (seat : Seat) (between : Standing) (b : Account) (left : Run (Unit {0})) (paused : ℕ) (e : Event) : Type 0 where
  step : List Event
  next : steps_of (events_over seat.outside.value (rest seat.worker)) ≡ step ∷ steps_of (events_over b.value left)
  leaves : (locks : List ℕ) → locks_left step locks ≡ lock_left (left_by e) locks
  happen : (d : ℕ) (t : Thread) → t.trace ≡ seat.worker.trace → all_happen d step t ≡ happens d e (with_trace (trace_paused between.trace paused) t)
  after : Scripts
  value : b.value ≡ Some after

cuts : (seat : Seat) (m b : Account) (between : Standing) (left : Run (Unit {0})) (paused : ℕ) (e : Event) (v : Scripts) → seat.outside.value ≡ Some v → IsAct e
    → Begins seat.outside m seat.worker between → ((w : Scripts) → m.value ≡ Some w → Given m b (rest between) left (events_paused paused (e ∷ []))) → Cuts seat between b left paused e
cuts seat m b between left paused e v is act begins given = elim begins [
  | inl p ↦
      let one = given_by seat.outside m (rest seat.worker) (rest between) (Waited seat.worker.pause ∷ []) v is p.goes in
      let two = given one.after one.value in
      record {
        step = Waited seat.worker.pause ∷ events_paused paused (e ∷ []);
        next = ap steps_of (one.events ∙ ap (λ es. Waited seat.worker.pause ∷ es) two.events) ∙ ap (cut_at (Waited seat.worker.pause)) (cut_paused paused e (events_over b.value left) act);
        leaves = λ locks. leaves_paused paused e locks;
        happen = λ d t trace. paused_happens d paused e (with_trace (t.trace ++ PausedItem seat.worker.pause ∷ []) t)
            ∙ ap (λ xs. happens d e (with_trace (trace_paused xs paused) t)) (ap (λ xs. xs ++ PausedItem seat.worker.pause ∷ []) trace ∙ sym (ap (λ s. s.trace) p.new_is));
        after = two.after;
        value = two.value;
      }
  | inr s ↦
      let two = given v (ap (λ (a : Account). a.value) s.account ∙ is) in
      let here : events_over seat.outside.value (rest seat.worker) ≡ events_over m.value (rest between) =
      ap (λ (a : Account). events_over a.value (rest seat.worker)) (sym s.account) ∙ ap (λ w. events_over m.value (rest w)) (sym s.standing) in
      record {
        step = events_paused paused (e ∷ []);
        next = ap steps_of (here ∙ two.events) ∙ cut_paused paused e (events_over b.value left) act;
        leaves = λ locks. leaves_paused paused e locks;
        happen = λ d t trace. paused_happens d paused e t ∙ ap (λ xs. happens d e (with_trace (trace_paused xs paused) t)) (trace ∙ sym (ap (λ s. s.trace) s.standing));
        after = two.after;
        value = two.value;
      }
]

most_steps : (ok : Bool) → step_count ok < 10
most_steps true = omega arith
most_steps false = omega arith

some_steps : (ok : Bool) → 0 < step_count ok
some_steps true = omega arith
some_steps false = omega arith

pub none_owed : (o : OwedBy) (worker : Standing) (owed : Owed) → o ≡ by.Nothing → OwesSame o worker owed → (worker.owed ≡ None) × (worker.entering ≡ None) × (owed ≡ Nought)
none_owed o worker owed is h = subst (λ o. OwesSame o worker owed) is h

-- after an end that is not out of memory
ended_owes : (end : End) (worker : Standing) → worker.owed ≡ None → worker.entering ≡ None → OwesSame (owed_after end) worker (owed_at_end end)
ended_owes Completed worker none free = (none, free, refl)
ended_owes StopThread worker none free = (none, free, refl)
ended_owes StopTest worker none free = (none, free, refl)
ended_owes Stopped worker none free = (none, free, refl)
ended_owes SampleLimit worker none free = (none, free, refl)
ended_owes RoundLimit worker none free = (none, free, refl)
ended_owes ValueLimit worker none free = (none, free, refl)
ended_owes NoMemory worker none free = (none, free, refl)

over_is : (w : Standing) → w.ended ≡ true → rest w ≡ over tt
over_is w ended = rw ended refl

module _ (seat new : Seat) (t : Thread) (is : SeatIs seat t) (free : seat.owed ≡ by.Nothing) (number : new.number ≡ seat.number) where
  nothing : (seat.worker.owed ≡ None) × (seat.worker.entering ≡ None) × (t.owed ≡ Nought)
  nothing = none_owed seat.owed seat.worker t.owed free is.owed

  module _ (m : Account) (between : Standing) (begins : Begins seat.outside m seat.worker between) where
    on : BegunOn seat.worker between
    on = begun_on seat.outside m seat.worker between begins

    made_sample : (entry : Entry) → GivesSample m new.outside (rest between) between new.worker entry → new.owed ≡ by.Record entry 0 0 → new.ended ≡ seat.ended → new.section ≡ seat.section → MakesStep t None new
    made_sample entry g owed ended open_ =
        let c = cuts seat m new.outside between (rest new.worker) g.paused (Sampled g.giver g.sample) is.scripts is.value tt begins
        (λ w value. given_by m new.outside (rest between) (rest new.worker) (events_paused g.paused (Sampled g.giver g.sample ∷ [])) w value g.goes) in
        let ahead : Thread = record { ahead = steps_of (events_over new.outside.value (rest new.worker)); trace = t.trace; owed = t.owed; open_lock = t.open_lock } in
        let section : new.worker.section ≡ seat.worker.section = ap (λ w. w.section) g.new_is ∙ on.section in
        let records : Records entry 0 0 new.worker (Record g.sample 0 (record_steps new.worker.thread (entry_of g.sample))) = record {
          sample = g.sample;
          there = ap (λ w. w.owed) g.new_is;
          enters_none = ap (λ w. w.entering) g.new_is ∙ on.entering ∙ nothing.1;
          entry_is = g.entry_is;
          more = some_steps entry.ok;
          left = ap (λ e. Record g.sample 0 (record_steps new.worker.thread e)) (sym g.entry_is);
        } in
        record {
          step = c.step;
          steps = ahead.ahead;
          next = is.ahead ∙ c.next;
          leaves = c.leaves;
          made = subst (SeatIs new) (sym (c.happen new.worker.thread ahead is.trace)) (record {
            ahead = refl;
            trace = sym (ap (λ w. w.trace) g.new_is);
            owed = subst (λ o. OwesSame o new.worker (Record g.sample 0 (record_steps new.worker.thread (entry_of g.sample)))) (sym owed) records;
            open_lock = is.open_lock ∙ sym section;
            section = open_ ∙ is.section ∙ sym section;
            at_end = λ e. section ∙ is.at_end (sym ended ∙ e);
            scripts = c.after;
            value = c.value;
            ended = ended ∙ is.ended ∙ sym (ap (λ w. w.ended) g.new_is ∙ on.ended);
            number = number ∙ is.number ∙ sym (ap (λ w. w.thread) g.new_is ∙ on.thread);
          });
        }

    made_none : GivesNone m new.outside (rest between) between new.worker → new.owed ≡ seat.owed → new.ended ≡ seat.ended → new.section ≡ seat.section → MakesStep t None new
    made_none g owed ended open_ =
        let c = cuts seat m new.outside between (rest new.worker) g.paused (Nothing g.number) is.scripts is.value tt begins
        (λ w value. given_by m new.outside (rest between) (rest new.worker) (events_paused g.paused (Nothing g.number ∷ [])) w value g.goes) in
        let ahead : Thread = record { ahead = steps_of (events_over new.outside.value (rest new.worker)); trace = t.trace; owed = t.owed; open_lock = t.open_lock } in
        let section : new.worker.section ≡ seat.worker.section = ap (λ w. w.section) g.new_is ∙ on.section in
        record {
          step = c.step;
          steps = ahead.ahead;
          next = is.ahead ∙ c.next;
          leaves = c.leaves;
          made = subst (SeatIs new) (sym (c.happen new.worker.thread ahead is.trace)) (record {
            ahead = refl;
            trace = sym (ap (λ w. w.trace) g.new_is);
            owed = subst (λ o. OwesSame o new.worker t.owed) (sym (owed ∙ free)) (ap (λ w. w.owed) g.new_is ∙ on.owed ∙ nothing.0, ap (λ w. w.entering) g.new_is ∙ on.entering ∙ nothing.1, nothing.2);
            open_lock = is.open_lock ∙ sym section;
            section = open_ ∙ is.section ∙ sym section;
            at_end = λ e. section ∙ is.at_end (sym ended ∙ e);
            scripts = c.after;
            value = c.value;
            ended = ended ∙ is.ended ∙ sym (ap (λ w. w.ended) g.new_is ∙ on.ended);
            number = number ∙ is.number ∙ sym (ap (λ w. w.thread) g.new_is ∙ on.thread);
          });
        }

    made_enter : (lock : ℕ) → EntersSection m new.outside (rest between) between new.worker lock → seat.ended ≡ false → new.owed ≡ by.Enter lock → new.ended ≡ seat.ended → new.section ≡ seat.section → MakesStep t None new
    made_enter lock g going owed ended open_ =
        let c = cuts seat m new.outside between (rest new.worker) 0 (Entered lock) is.scripts is.value tt begins
        (λ w value. given_heard m new.outside (rest between) (rest new.worker) (Entered lock) w value g.heard) in
        let ahead : Thread = record { ahead = steps_of (events_over new.outside.value (rest new.worker)); trace = t.trace; owed = t.owed; open_lock = t.open_lock } in
        let section : new.worker.section ≡ seat.worker.section = ap (λ w. w.section) g.new_is ∙ on.section in
        let enters : Enters lock new.worker (Section lock) = record {
          no_sample = ap (λ w. w.owed) g.new_is ∙ on.owed ∙ nothing.0;
          there = ap (λ w. w.entering) g.new_is;
          none_open = ap (λ w. w.section) g.new_is ∙ g.none_open;
          going = ap (λ w. w.ended) g.new_is ∙ on.ended ∙ sym is.ended ∙ going;
          known = subst (λ (p : Tree). lock < length (locks_of p.elements)) (sym (ap (λ w. w.plan) g.new_is)) (lock_within between.plan.elements lock g.lock_is);
          left = refl;
        } in
        record {
          step = c.step;
          steps = ahead.ahead;
          next = is.ahead ∙ c.next;
          leaves = c.leaves;
          made = subst (SeatIs new) (sym (c.happen new.worker.thread ahead is.trace)) (record {
            ahead = refl;
            trace = sym (ap (λ w. w.trace) g.new_is);
            owed = subst (λ o. OwesSame o new.worker (Section lock)) (sym owed) enters;
            open_lock = is.open_lock ∙ sym section;
            section = open_ ∙ is.section ∙ sym section;
            at_end = λ e. section ∙ is.at_end (sym ended ∙ e);
            scripts = c.after;
            value = c.value;
            ended = ended ∙ is.ended ∙ sym (ap (λ w. w.ended) g.new_is ∙ on.ended);
            number = number ∙ is.number ∙ sym (ap (λ w. w.thread) g.new_is ∙ on.thread);
          });
        }

    made_leave : (lock : ℕ) → LeavesSection m new.outside (rest between) between new.worker lock → new.owed ≡ seat.owed → new.ended ≡ seat.ended → new.section ≡ None → MakesStep t (Some lock) new
    made_leave lock g owed ended open_ =
        let c = cuts seat m new.outside between (rest new.worker) 0 (Left lock) is.scripts is.value tt begins
        (λ w value. given_heard m new.outside (rest between) (rest new.worker) (Left lock) w value g.heard) in
        let ahead : Thread = record { ahead = steps_of (events_over new.outside.value (rest new.worker)); trace = t.trace; owed = t.owed; open_lock = t.open_lock } in
        let section : new.worker.section ≡ None = ap (λ w. w.section) g.new_is in
        record {
          step = c.step;
          steps = ahead.ahead;
          next = is.ahead ∙ c.next;
          leaves = c.leaves;
          made = subst (SeatIs new) (sym (c.happen new.worker.thread ahead is.trace)) (record {
            ahead = refl;
            trace = sym (ap (λ w. w.trace) g.new_is);
            owed = subst (λ o. OwesSame o new.worker t.owed) (sym (owed ∙ free)) (ap (λ w. w.owed) g.new_is ∙ on.owed ∙ nothing.0, ap (λ w. w.entering) g.new_is ∙ on.entering ∙ nothing.1, nothing.2);
            open_lock = sym section;
            section = open_ ∙ sym section;
            at_end = λ e. section;
            scripts = c.after;
            value = c.value;
            ended = ended ∙ is.ended ∙ sym (ap (λ w. w.ended) g.new_is ∙ on.ended);
            number = number ∙ is.number ∙ sym (ap (λ w. w.thread) g.new_is ∙ on.thread);
          });
        }

    made_end : (end : End) → IsOver m new.outside (rest between) between new.worker end → new.owed ≡ owed_after end → new.ended ≡ true → new.section ≡ seat.section → MakesStep t None new
    made_end end g owed ended open_ =
        let c = cuts seat m new.outside between (over tt) 0 (Ended end) is.scripts is.value tt begins
        (λ w value. given_by m new.outside (rest between) (over tt) (Ended end ∷ []) w value g.goes) in
        let at_end : new.worker.ended ≡ true = ap (λ w. w.ended) g.new_is in
        let section : new.worker.section ≡ seat.worker.section = ap (λ w. w.section) g.new_is ∙ on.section in
        let ahead : Thread = record { ahead = steps_of (events_over new.outside.value (over tt)); trace = t.trace; owed = t.owed; open_lock = t.open_lock } in
        record {
          step = c.step;
          steps = ahead.ahead;
          next = is.ahead ∙ c.next;
          leaves = c.leaves;
          made = subst (SeatIs new) (sym (c.happen new.worker.thread ahead is.trace)) (record {
            ahead = ap (λ r. steps_of (events_over new.outside.value r)) (sym (over_is new.worker at_end));
            trace = sym (ap (λ w. w.trace) g.new_is);
            owed = subst (λ o. OwesSame o new.worker (owed_at_end end)) (sym owed)
                (ended_owes end new.worker (ap (λ w. w.owed) g.new_is ∙ on.owed ∙ nothing.0) (ap (λ w. w.entering) g.new_is ∙ on.entering ∙ nothing.1));
            open_lock = is.open_lock ∙ sym section;
            section = open_ ∙ is.section ∙ sym section;
            at_end = λ e. ap (λ w. w.section) g.new_is ∙ g.settled;
            scripts = c.after;
            value = c.value;
            ended = ended ∙ sym at_end;
            number = number ∙ is.number ∙ sym (ap (λ w. w.thread) g.new_is ∙ on.thread);
          });
        }

    made_ended : (end : End) → Ends m new.outside (rest between) between new.worker end → (IsNoMemory end → ⊥) → new.owed ≡ owed_after end → new.ended ≡ true → new.section ≡ seat.section → MakesStep t None new
    made_ended Stopped g memory owed ended open_ = absurd g
    made_ended NoMemory g memory owed ended open_ = absurd (memory tt)
    made_ended end g memory owed ended open_ = made_end end g owed ended open_

  pub step_sample : (entry : Entry) → Steps seat.outside new.outside seat.worker new.worker (SampledStep entry) → new.owed ≡ by.Record entry 0 0 → new.ended ≡ seat.ended → new.section ≡ seat.section → MakesStep t None new
  step_sample entry s owed ended open_ = made_sample s.begun s.between s.begins entry s.gives owed ended open_

  pub step_none : Steps seat.outside new.outside seat.worker new.worker NullStep → new.owed ≡ seat.owed → new.ended ≡ seat.ended → new.section ≡ seat.section → MakesStep t None new
  step_none s owed ended open_ = made_none s.begun s.between s.begins s.gives owed ended open_

  pub step_enter : (lock : ℕ) → Steps seat.outside new.outside seat.worker new.worker (EnterStep lock) → seat.ended ≡ false → new.owed ≡ by.Enter lock → new.ended ≡ seat.ended → new.section ≡ seat.section → MakesStep t None new
  step_enter lock s going owed ended open_ = made_enter s.begun s.between s.begins lock s.gives going owed ended open_

  pub step_leave : (lock : ℕ) → Steps seat.outside new.outside seat.worker new.worker (LeaveStep lock) → new.owed ≡ seat.owed → new.ended ≡ seat.ended → new.section ≡ None → MakesStep t (Some lock) new
  step_leave lock s owed ended open_ = made_leave s.begun s.between s.begins lock s.gives owed ended open_

  pub step_ended : (end : End) → Steps seat.outside new.outside seat.worker new.worker (EndedStep end) → (IsNoMemory end → ⊥) → new.owed ≡ owed_after end → new.ended ≡ true → new.section ≡ seat.section → MakesStep t None new
  step_ended end s memory owed ended open_ = made_ended s.begun s.between s.begins end s.gives memory owed ended open_

-- A thread that goes on has an event to come

-- after whatever a run asks of the replies there is an answer
ends_over : {A : Type 0} (run : Run A) (f : A → Run (Unit {0})) (v : Scripts) → ((x : A) (w : Scripts) → IsCons (over_value script_form (f x) w).events) → IsCons (over_value script_form (run >>= f) v).events
unfolding over_value
ends_over (over x) f v some = some x v
ends_over (give e r) f v some = (e, (over_value script_form (r >>= f) v).events, refl)
ends_over (read k) f v some = ends_over (k v.clock) f v some
ends_over (wait ms r) f v some = ends_over r f (record v { clock = later v.clock ms }) some
ends_over (ask s q k) f v some = ends_over (k (scripted_ask s q v).0) f (scripted_ask s q v).1 some

first_step : (e : Event) (steps : List (List Event)) → IsCons (cut_at e steps)
first_step (Waited ms) [] = (Waited ms ∷ [], [], refl)
first_step (Waited ms) (step ∷ steps) = (Waited ms ∷ step, steps, refl)
first_step (Sampled giver sample) steps = (Sampled giver sample ∷ [], steps, refl)
first_step (Nothing sampler) steps = (Nothing sampler ∷ [], steps, refl)
first_step (Entered lock) steps = (Entered lock ∷ [], steps, refl)
first_step (Left lock) steps = (Left lock ∷ [], steps, refl)
first_step (Ended end) steps = (Ended end ∷ [], steps, refl)

some_step : (es : List Event) → IsCons es → IsCons (steps_of es)
some_step es is = subst (λ l. IsCons (steps_of l)) (sym is.2) (first_step is.0 (steps_of is.1))

after_any_pause : (ms : ℕ) (run : Run Ending) (v : Scripts) → IsCons (over_value script_form (after_pause ms (and_end run)) v).events
unfolding over_value
after_any_pause zero run v = ends_over run (λ e. give (Ended (end_of e.signal)) (over tt)) v (λ e w. (Ended (end_of e.signal), [], refl))
after_any_pause (suc ms) run v = (Waited (suc ms), (over_value script_form (and_end run) (record v { clock = later v.clock (suc ms) })).events, refl)

before_any_end : (last : Option End) (ms : ℕ) (run : Run Ending) (v : Scripts) → IsCons (over_value script_form (before_end last (after_pause ms (and_end run))) v).events
unfolding over_value
before_any_end None ms run v = after_any_pause ms run v
before_any_end (Some end) ms run v = (Ended end, [], refl)

left_while_going : (w : Standing) (v : Scripts) → w.ended ≡ false → IsCons (over_value script_form (rest w) v).events
left_while_going w v going = subst (λ b. IsCons (over_value script_form (if b then over tt else before_end w.last (after_pause w.pause (and_end (part_left w)))) v).events) (sym going)
    (before_any_end w.last w.pause (part_left w) v)

-- a thread that goes on has a step to come, and one that has ended has none
pub going_on : (seat : Seat) (t : Thread) → SeatIs seat t → seat.ended ≡ false → (step : List Event) × (steps : List (List Event)) × (t.ahead ≡ step ∷ steps)
going_on seat t is going =
    let events : IsCons (events_over seat.outside.value (rest seat.worker)) = subst (λ o. IsCons (events_over o (rest seat.worker))) (sym is.value) (left_while_going seat.worker is.scripts (sym is.ended ∙ going)) in
    let steps = some_step (events_over seat.outside.value (rest seat.worker)) events in
    (steps.0, steps.1, is.ahead ∙ steps.2)

pub none_to_come : (seat : Seat) (t : Thread) → SeatIs seat t → seat.ended ≡ true → t.ahead ≡ []
unfolding over_value
none_to_come seat t is ended =
    is.ahead ∙ ap (λ r. steps_of (events_over seat.outside.value r)) (over_is seat.worker (sym is.ended ∙ ended)) ∙ ap (λ o. steps_of (events_over o (over tt))) is.value

-- A thread that has seen stop

same_items : (o : Option ℕ) → left_items o ≡ left_traced o
same_items None = refl
same_items (Some lock) = refl

pub stopped_is : (seat new : Seat) (t : Thread) → SeatIs seat t → seat.owed ≡ by.Nothing
    → new.worker ≡ record seat.worker { section = None; ended = true; trace = seat.worker.trace ++ (left_traced seat.worker.section ++ EndedItem Stopped ∷ []) }
    → new.outside ≡ seat.outside → new.owed ≡ by.Nothing → new.section ≡ None → new.ended ≡ true → new.number ≡ seat.number → SeatIs new (stopped t)
unfolding over_value
stopped_is seat new t is free worker outside owed open_ ended number =
    let none = none_owed seat.owed seat.worker t.owed free is.owed in
    record {
      ahead = sym (ap (λ o. steps_of (events_over o.value (rest new.worker))) outside ∙ ap (λ r. steps_of (events_over seat.outside.value r)) (over_is new.worker (ap (λ w. w.ended) worker)) ∙ ap (λ o. steps_of (events_over o (over tt))) is.value);
      trace = ap (λ l. t.trace ++ (left_items l ++ EndedItem Stopped ∷ [])) is.open_lock ∙ ap (λ l. t.trace ++ (l ++ EndedItem Stopped ∷ [])) (same_items seat.worker.section)
          ∙ ap (λ xs. xs ++ (left_traced seat.worker.section ++ EndedItem Stopped ∷ [])) is.trace ∙ sym (ap (λ w. w.trace) worker);
      owed = subst (λ o. OwesSame o new.worker Nought) (sym owed) (ap (λ w. w.owed) worker ∙ none.0, ap (λ w. w.entering) worker ∙ none.1, refl);
      open_lock = sym (ap (λ w. w.section) worker);
      section = open_ ∙ sym (ap (λ w. w.section) worker);
      at_end = λ e. ap (λ w. w.section) worker;
      scripts = is.scripts;
      value = ap (λ o. o.value) outside ∙ is.value;
      ended = ended ∙ sym (ap (λ w. w.ended) worker);
      number = number ∙ is.number ∙ sym (ap (λ w. w.thread) worker);
    }

-- A section that is entered

pub enters_by : (seat : Seat) (t : Thread) (lock : ℕ) → SeatIs seat t → seat.owed ≡ by.Enter lock → Enters lock seat.worker t.owed
enters_by seat t lock is owed = subst (λ o. OwesSame o seat.worker t.owed) owed is.owed

-- a section is to be entered
pub some_entering : (seat : Seat) (lock : ℕ) → ((t : Thread) × SeatIs seat t) → seat.owed ≡ by.Enter lock → seat.worker.entering ≡ Some lock
some_entering seat lock is owed = (enters_by seat is.0 lock is.1 owed).there

pub worker_entered : (seat : Seat) (w : Standing) (lock place : ℕ) → ((t : Thread) × SeatIs seat t) → seat.owed ≡ by.Enter lock
    → IfSome seat.worker.entering (λ l. w ≡ record seat.worker { entering = None; section = Some l; trace = seat.worker.trace ++ EnteredItem l place ∷ [] })
    → w ≡ record seat.worker { entering = None; section = Some lock; trace = seat.worker.trace ++ EnteredItem lock place ∷ [] }
worker_entered seat w lock place is owed entered =
    subst (λ o. IfSome o (λ l. w ≡ record seat.worker { entering = None; section = Some l; trace = seat.worker.trace ++ EnteredItem l place ∷ [] })) (some_entering seat lock is owed) entered

pub entered_is : (seat new : Seat) (t : Thread) (lock place : ℕ) → SeatIs seat t → seat.owed ≡ by.Enter lock
    → IfSome seat.worker.entering (λ l. new.worker ≡ record seat.worker { entering = None; section = Some l; trace = seat.worker.trace ++ EnteredItem l place ∷ [] })
    → new.outside ≡ seat.outside → new.owed ≡ by.Nothing → new.section ≡ Some lock → new.ended ≡ seat.ended → new.number ≡ seat.number
    → SeatIs new (opens (Some lock) (owes Nought (shows (EnteredItem lock place) t)))
entered_is seat new t lock place is owed_is entered outside owed open_ ended number =
    let e = enters_by seat t lock is owed_is in
    let worker = worker_entered seat new.worker lock place (t, is) owed_is entered in
    record {
      ahead = is.ahead ∙ sym (ap (λ o. steps_of (events_over o.value (rest new.worker))) outside ∙ ap (λ w. steps_of (events_over seat.outside.value (rest w))) worker);
      trace = ap (λ xs. xs ++ EnteredItem lock place ∷ []) is.trace ∙ sym (ap (λ w. w.trace) worker);
      owed = subst (λ o. OwesSame o new.worker Nought) (sym owed) (ap (λ w. w.owed) worker ∙ e.no_sample, ap (λ w. w.entering) worker, refl);
      open_lock = sym (ap (λ w. w.section) worker);
      section = open_ ∙ sym (ap (λ w. w.section) worker);
      at_end = λ h. absurd (let bad : true ≡ false = sym h ∙ ended ∙ is.ended ∙ e.going in cc);
      scripts = is.scripts;
      value = ap (λ o. o.value) outside ∙ is.value;
      ended = ended ∙ is.ended ∙ sym (ap (λ w. w.ended) worker);
      number = number ∙ is.number ∙ sym (ap (λ w. w.thread) worker);
    }

-- A sample that is recorded

long : (writer : ℕ) (label elapsed bytes : ℕ) (ok : Bool) → length (record_steps writer (record { label = label; ok = ok; elapsed = elapsed; bytes = bytes })) ≡ step_count ok
long writer label elapsed bytes true = refl
long writer label elapsed bytes false = refl

some_left : {A : Type 0} (n : ℕ) (xs : List A) → IsCons (drop n xs) → n < length xs
some_left zero [] is = absurd (let h = is.2 in cc)
some_left (suc n) [] is = absurd (let h = is.2 in cc)
some_left zero (x ∷ xs) is = omega arith
some_left (suc n) (x ∷ xs) is = let below = some_left n xs is in omega arith

pub record_of : (o : OwedBy) (entry : Entry) (done interval : ℕ) (worker : Standing) (owed : Owed) → o ≡ by.Record entry done interval → OwesSame o worker owed → Records entry done interval worker owed
record_of o entry done interval worker owed is h = subst (λ o. OwesSame o worker owed) is h

rest_same : (w new : Standing) (trace : List TraceItem) → new ≡ record w { owed = None; trace = trace } → rest new ≡ rest w
rest_same w new trace is = ap rest is

module _ (seat new : Seat) (t : Thread) (is : SeatIs seat t) (entry : Entry) (done old interval : ℕ) (owed_is : seat.owed ≡ by.Record entry done old)
    (outside : new.outside ≡ seat.outside) (open_ : new.section ≡ seat.section) (ended : new.ended ≡ seat.ended) (number : new.number ≡ seat.number) where
  abbrev all_steps : List CoreEvent
  all_steps = record_steps seat.worker.thread entry

  r : Records entry done old seat.worker t.owed
  r = record_of seat.owed entry done old seat.worker t.owed owed_is is.owed

  ahead_same : rest new.worker ≡ rest seat.worker → t.ahead ≡ steps_of (events_over new.outside.value (rest new.worker))
  ahead_same same = is.ahead ∙ sym (ap (λ o. steps_of (events_over o.value (rest new.worker))) outside ∙ ap (λ r. steps_of (events_over seat.outside.value r)) same)

  as_recorded : (rest_steps : List CoreEvent) → SeatIs new (recorded r.sample interval rest_steps t) → RecordedAs t.owed t rest_steps interval new
  as_recorded rest_steps h = subst (λ o. RecordedAs o t rest_steps interval new) (sym r.left) h

  pub last_recorded : (rest_steps : List CoreEvent) → rest_steps ≡ [] → new.owed ≡ by.Nothing
      → IfSome seat.worker.owed (λ s. new.worker ≡ record seat.worker { owed = None; trace = seat.worker.trace ++ SampledItem s interval ∷ [] })
      → RecordedAs t.owed t rest_steps interval new
  last_recorded rest_steps none owed noted =
      let worker : new.worker ≡ record seat.worker { owed = None; trace = seat.worker.trace ++ SampledItem r.sample interval ∷ [] } =
      subst (λ o. IfSome o (λ s. new.worker ≡ record seat.worker { owed = None; trace = seat.worker.trace ++ SampledItem s interval ∷ [] })) r.there noted in
      as_recorded rest_steps (subst (λ l. SeatIs new (recorded r.sample interval l t)) (sym none) (record {
        ahead = ahead_same (rest_same seat.worker new.worker (seat.worker.trace ++ SampledItem r.sample interval ∷ []) worker);
        trace = ap (λ xs. xs ++ SampledItem r.sample interval ∷ []) is.trace ∙ sym (ap (λ w. w.trace) worker);
        owed = subst (λ o. OwesSame o new.worker Nought) (sym owed) (ap (λ w. w.owed) worker, ap (λ w. w.entering) worker ∙ r.enters_none, refl);
        open_lock = is.open_lock ∙ sym (ap (λ w. w.section) worker);
        section = open_ ∙ is.section ∙ sym (ap (λ w. w.section) worker);
        at_end = λ e. ap (λ w. w.section) worker ∙ is.at_end (sym ended ∙ e);
        scripts = is.scripts;
        value = ap (λ o. o.value) outside ∙ is.value;
        ended = ended ∙ is.ended ∙ sym (ap (λ w. w.ended) worker);
        number = number ∙ is.number ∙ sym (ap (λ w. w.thread) worker);
      }))

  pub more_recorded : (rest_steps : List CoreEvent) → rest_steps ≡ drop (done + 1) all_steps → IsCons rest_steps → new.worker ≡ seat.worker → new.owed ≡ by.Record entry (done + 1) interval
      → RecordedAs t.owed t rest_steps interval new
  more_recorded rest_steps rest_is some worker owed =
      let within : done + 1 < length all_steps = some_left (done + 1) all_steps (subst IsCons rest_is some) in
      let few : length all_steps ≡ step_count entry.ok = long seat.worker.thread entry.label entry.elapsed entry.bytes entry.ok in
      let records : Records entry (done + 1) interval new.worker (Record r.sample interval rest_steps) = record {
        sample = r.sample;
        there = ap (λ w. w.owed) worker ∙ r.there;
        enters_none = ap (λ w. w.entering) worker ∙ r.enters_none;
        entry_is = r.entry_is;
        more = omega (arith, within, few);
        left = ap (Record r.sample interval) (rest_is ∙ ap (λ w. drop (done + 1) (record_steps w.thread entry)) (sym worker));
      } in
      as_recorded rest_steps (subst (λ l. SeatIs new (recorded r.sample interval l t)) (sym some.2) (record {
        ahead = ahead_same (ap rest worker);
        trace = is.trace ∙ sym (ap (λ w. w.trace) worker);
        owed = subst (λ o. OwesSame o new.worker (Record r.sample interval (some.0 ∷ some.1))) (sym owed)
            (subst (λ l. Records entry (done + 1) interval new.worker (Record r.sample interval l)) some.2 records);
        open_lock = is.open_lock ∙ sym (ap (λ w. w.section) worker);
        section = open_ ∙ is.section ∙ sym (ap (λ w. w.section) worker);
        at_end = λ e. ap (λ w. w.section) worker ∙ is.at_end (sym ended ∙ e);
        scripts = is.scripts;
        value = ap (λ o. o.value) outside ∙ is.value;
        ended = ended ∙ is.ended ∙ sym (ap (λ w. w.ended) worker);
        number = number ∙ is.number ∙ sym (ap (λ w. w.thread) worker);
      }))

-- After calls that can refuse

pub ended_left : {E : Type 0} (r : Result (Option ℕ) E) (seat new : Seat) (end : End) → seat.owed ≡ by.Nothing → new.number ≡ seat.number → new.section ≡ seat.section
    → Steps seat.outside new.outside seat.worker new.worker (EndedStep end) → OnOk r ((new.owed ≡ owed_after end) × (new.ended ≡ true)) → IfOk r (λ left. left ≡ None) → (IsNoMemory end → OnOk r ⊥)
    → IfOk r (λ left. (t : Thread) → SeatIs seat t → MakesStep t left new)
ended_left (Ok x) seat new end free number open_ s owed none memory = λ t is. subst (λ left. MakesStep t left new) (sym none) (step_ended seat new t is free number end s memory owed.0 owed.1 open_)
ended_left (Err e) seat new end free number open_ s owed none memory = tt

-- What a step leaves of the thread

-- whatever it answers
pub same_seat : (seat new : Seat) (a b : Account) (step : Step) → Steps a b seat.worker new.worker step → IsSameThread seat new
same_seat seat new a b step s = let same = thread_same a b seat.worker new.worker step s in record { number = same.thread; plan = same.plan }

pub sample_section : (a b : Account) (old new : Standing) (entry : Entry) → Steps a b old new (SampledStep entry) → new.section ≡ old.section
sample_section a b old new entry s = ap (λ w. w.section) s.gives.new_is ∙ (begun_on a s.begun old s.between s.begins).section

pub null_section : (a b : Account) (old new : Standing) → Steps a b old new NullStep → new.section ≡ old.section
null_section a b old new s = ap (λ w. w.section) s.gives.new_is ∙ (begun_on a s.begun old s.between s.begins).section

pub enter_section : (a b : Account) (old new : Standing) (lock : ℕ) → Steps a b old new (EnterStep lock) → new.section ≡ old.section
enter_section a b old new lock s = ap (λ w. w.section) s.gives.new_is ∙ (begun_on a s.begun old s.between s.begins).section

pub left_section : (a b : Account) (old new : Standing) (lock : ℕ) → Steps a b old new (LeaveStep lock) → (old.section ≡ Some lock) × (new.section ≡ None)
left_section a b old new lock s =
    let on = begun_on a s.begun old s.between s.begins in
    (sym on.section ∙ s.gives.open_, ap (λ w. w.section) s.gives.new_is)

-- of a thread that ended, unless it was out of memory
end_section : (m b : Account) (run : Run (Unit {0})) (between new : Standing) (end : End) → (IsNoMemory end → ⊥) → Ends m b run between new end → new.section ≡ between.section
end_section m b run between new Stopped memory g = absurd g
end_section m b run between new NoMemory memory g = absurd (memory tt)
end_section m b run between new end memory g = ap (λ w. w.section) g.new_is

pub ended_section : (a b : Account) (old new : Standing) (end : End) → (IsNoMemory end → ⊥) → Steps a b old new (EndedStep end) → new.section ≡ old.section
ended_section a b old new end memory s = end_section s.begun b (rest s.between) s.between new end memory s.gives ∙ (begun_on a s.begun old s.between s.begins).section

pub ended_sections : {E : Type 0} (r : Result (Option ℕ) E) (seat new : Seat) (end : End) → Steps seat.outside new.outside seat.worker new.worker (EndedStep end) → IfOk r (λ left. left ≡ None) → (IsNoMemory end → OnOk r ⊥)
    → IfOk r (StepSections seat new)
ended_sections (Ok x) seat new end s none memory = subst (StepSections seat new) (sym none) (ended_section seat.outside new.outside seat.worker new.worker end memory s)
ended_sections (Err e) seat new end s none memory = tt

pub ended_thread : {X E : Type 0} (r : Result X E) (seat new : Seat) (end : End) → Steps seat.outside new.outside seat.worker new.worker (EndedStep end) → OnOk r (IsSameThread seat new)
ended_thread (Ok x) seat new end s = same_seat seat new seat.outside new.outside (EndedStep end) s
ended_thread (Err e) seat new end s = tt

-- a stop leaves the open section
pub stop_sections : (seat new : Seat) (left : Option ℕ) → ((t : Thread) × SeatIs seat t)
    → new.worker ≡ record seat.worker { section = None; ended = true; trace = seat.worker.trace ++ (left_traced seat.worker.section ++ EndedItem Stopped ∷ []) } → left ≡ seat.section → StepSections seat new left
stop_sections seat new left is worker left_is = subst (StepSections seat new) (sym (left_is ∙ (is.1).section)) (by_open seat.worker.section refl) where
  none : new.worker.section ≡ None
  none = ap (λ w. w.section) worker

  by_open : (o : Option ℕ) → seat.worker.section ≡ o → StepSections seat new o
  by_open None h = none ∙ sym h
  by_open (Some lock) h = (h, none)

-- The next step of a record

next_by : (steps rest : List CoreEvent) (event : CoreEvent) (b : Bool) → IsNext steps event rest b → steps ≡ event ∷ rest
next_by steps rest event true h = h.0
next_by steps rest event false h = h.0

pub next_is : (steps rest : List CoreEvent) (event : CoreEvent) (b : Bool) → IsNext steps event rest b → steps ≡ event ∷ rest
next_is steps rest event b h = next_by steps rest event b h

pub next_last : (steps rest : List CoreEvent) (event : CoreEvent) (b : Bool) → b ≡ true → IsNext steps event rest b → rest ≡ []
next_last steps rest event b is h = (subst (IsNext steps event rest) is h).1

pub next_more : (steps rest : List CoreEvent) (event : CoreEvent) (b : Bool) → b ≡ false → IsNext steps event rest b → IsCons rest
next_more steps rest event b is h = (subst (IsNext steps event rest) is h).1

-- fewer than nine steps are done
pub few_done : (seat : Seat) (entry : Entry) (done old : ℕ) → ((t : Thread) × SeatIs seat t) → seat.owed ≡ by.Record entry done old → done < 9
few_done seat entry done old is owed =
    let r = record_of seat.owed entry done old seat.worker (is.0).owed owed (is.1).owed in
    let few = r.more in
    let most = most_steps entry.ok in
    omega (arith, few, most)

pub on_both : {X E P Q S : Type 0} (r : Result X E) → OnOk r P → OnOk r Q → (P → Q → S) → OnOk r S
on_both (Ok x) p q f = f p q
on_both (Err e) p q f = tt

pub on_three : {X E P Q U S : Type 0} (r : Result X E) → OnOk r P → OnOk r Q → OnOk r U → (P → Q → U → S) → OnOk r S
on_three (Ok x) p q u f = f p q u
on_three (Err e) p q u f = tt

pub after_adds : (writer : ℕ) (ok : Bool) → IsCons (error_adds writer ok ++ Lower writer ∷ Raise writer ∷ Exit writer ∷ [])
after_adds writer true = (Lower writer, Raise writer ∷ Exit writer ∷ [], refl)
after_adds writer false = (Add writer, Lower writer ∷ Raise writer ∷ Exit writer ∷ [], refl)

pub is_one : (k : ℕ) → k ≡ 1 → (k == 1) ≡ true
is_one k is = ap (λ n. n == 1) is

pub not_one : (k : ℕ) → (k ≡ 1 → ⊥) → (k == 1) ≡ false
not_one k other = grind (arith, nat_tests, other)

pub word_is : (o : Option ℕ) (xs : List ℕ) (i : ℕ) → o ≡ slice_get xs i → unwrap_or o 0 ≡ get_or xs i 0
word_is o xs i is = ap (λ o. unwrap_or o 0) is ∙ unwrap_or-slice_get xs i 0
