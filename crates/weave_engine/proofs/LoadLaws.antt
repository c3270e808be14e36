-- Each turn takes one of those that a thread can still take.
use Rattle.std.proofs.Common.{◌≡◌, inr, ℕ, ◌+◌, ◌-◌, ◌*◌, ◌<◌, Bool, true, false, List, [], ◌∷◌, Option, Some, None, refl, sym, ap, ◌∙◌, subst, arith}
use Rattle.std.specs.Prelude.{◌&&◌, ◌||◌, ◌++◌, if◌then◌else◌, IfSome, Result, Ok, Err, OnOk, slice_index}
use Rattle.thread_machine.specs.declared.trace.TraceItem.TheVariants.{Sampled as SampledItem, Entered as EnteredItem}
use Rattle.weave_engine.specs.Steps.{Thread}
use Rattle.thread_machine.proofs.Ends.{begun_on}
use Rattle.weave_engine.proofs.SeatLaws.{record_of, enters_by, worker_entered, ended_section}
use Rattle.jm_base.specs.declared.types.End.{End}
use Rattle.jm_base.specs.declared.types.End.TheVariants.{Completed, StopThread, StopTest, Stopped, SampleLimit, RoundLimit, ValueLimit, NoMemory}
use Rattle.jm_base.specs.declared.types.Entry.{Entry}
use Rattle.jm_base.specs.Outside.{Account}
use Rattle.thread_machine.specs.declared.step.Step.TheVariants.{Sampled as SampledStep, Null as NullStep, Enter as EnterStep, Leave as LeaveStep, Ended as EndedStep}
use Rattle.thread_machine.specs.Stepped.{Steps}
use Rattle.thread_machine.specs.Standing.{Standing}
use Rattle.jm_base.specs.declared.types.Sample.{Sample}
use Rattle.phaser_core.specs.Cells.{is_odd}
use Rattle.weave_engine.specs.declared.seat.Owed.TheVariants as by
use Rattle.weave_engine.specs.declared.seat.Seat.{Seat}
use Rattle.weave_engine.specs.Seats.{step_count, owed_after, owed_left, section_left, turns_left, is_nothing, is_settled, is_blocked, is_still, Lightens, SeatIs, IsNoMemory}

while_going : (x : Seat) → x.ended ≡ false → turns_left x ≡ 12 * x.worker.units + 12 + owed_left x.owed + section_left x.worker.section
while_going x is = ap (λ b. (if b then 0 else 12 * x.worker.units + 12) + owed_left x.owed + section_left x.worker.section) is

once_ended : (x : Seat) → x.ended ≡ true → turns_left x ≡ 0 + owed_left x.owed + section_left x.worker.section
once_ended x is = ap (λ b. (if b then 0 else 12 * x.worker.units + 12) + owed_left x.owed + section_left x.worker.section) is

one_section : (o : Option ℕ) → section_left o < 2
one_section None = omega arith
one_section (Some lock) = omega arith

few_steps : (ok : Bool) → step_count ok < 10
few_steps true = omega arith
few_steps false = omega arith

little_after : (end : End) → owed_left (owed_after end) < 2
little_after Completed = omega arith
little_after StopThread = omega arith
little_after StopTest = omega arith
little_after Stopped = omega arith
little_after SampleLimit = omega arith
little_after RoundLimit = omega arith
little_after ValueLimit = omega arith
little_after NoMemory = omega arith

module _ (seat new : Seat) (going : seat.ended ≡ false) (free : seat.owed ≡ by.Nothing) where
  before : turns_left seat ≡ 12 * seat.worker.units + 12 + 0 + section_left seat.worker.section
  before = while_going seat going ∙ ap (λ o. 12 * seat.worker.units + 12 + owed_left o + section_left seat.worker.section) free

  pub sample_lightens : (a b : Account) (entry : Entry) → Steps a b seat.worker new.worker (SampledStep entry) → new.ended ≡ seat.ended → new.owed ≡ by.Record entry 0 0 → turns_left new < turns_left seat
  sample_lightens a b entry s ended owed =
      let now : turns_left new ≡ 12 * new.worker.units + 12 + (step_count entry.ok - 0) + section_left new.worker.section =
      while_going new (ended ∙ going) ∙ ap (λ o. 12 * new.worker.units + 12 + owed_left o + section_left new.worker.section) owed in
      let used = s.gives.unit in
      let units = ap (λ w. w.units) s.gives.new_is in
      let on = begun_on a s.begun seat.worker s.between s.begins in
      let begun = on.units in
      let open_ : section_left new.worker.section ≡ section_left seat.worker.section = ap section_left (ap (λ w. w.section) s.gives.new_is ∙ on.section) in
      let few = few_steps entry.ok in
      let was = before in
      omega (arith, now, used, units, begun, open_, few, was)

  pub null_lightens : (a b : Account) → Steps a b seat.worker new.worker NullStep → new.ended ≡ seat.ended → new.owed ≡ seat.owed → turns_left new < turns_left seat
  null_lightens a b s ended owed =
      let now : turns_left new ≡ 12 * new.worker.units + 12 + 0 + section_left new.worker.section =
      while_going new (ended ∙ going) ∙ ap (λ o. 12 * new.worker.units + 12 + owed_left o + section_left new.worker.section) (owed ∙ free) in
      let used = s.gives.unit in
      let units = ap (λ w. w.units) s.gives.new_is in
      let on = begun_on a s.begun seat.worker s.between s.begins in
      let begun = on.units in
      let open_ : section_left new.worker.section ≡ section_left seat.worker.section = ap section_left (ap (λ w. w.section) s.gives.new_is ∙ on.section) in
      let was = before in
      omega (arith, now, used, units, begun, open_, was)

  pub enter_lightens : (a b : Account) (lock : ℕ) → Steps a b seat.worker new.worker (EnterStep lock) → new.ended ≡ seat.ended → new.owed ≡ by.Enter lock → turns_left new < turns_left seat
  enter_lightens a b lock s ended owed =
      let now : turns_left new ≡ 12 * new.worker.units + 12 + 2 + section_left new.worker.section =
      while_going new (ended ∙ going) ∙ ap (λ o. 12 * new.worker.units + 12 + owed_left o + section_left new.worker.section) owed in
      let used = s.gives.unit in
      let units = ap (λ w. w.units) s.gives.new_is in
      let on = begun_on a s.begun seat.worker s.between s.begins in
      let begun = on.units in
      let open_ : section_left new.worker.section ≡ section_left seat.worker.section = ap section_left (ap (λ w. w.section) s.gives.new_is ∙ on.section) in
      let was = before in
      omega (arith, now, used, units, begun, open_, was)

  pub leave_lightens : (a b : Account) (lock : ℕ) → Steps a b seat.worker new.worker (LeaveStep lock) → new.ended ≡ seat.ended → new.owed ≡ seat.owed → turns_left new < turns_left seat
  leave_lightens a b lock s ended owed =
      let now : turns_left new ≡ 12 * new.worker.units + 12 + 0 + section_left new.worker.section =
      while_going new (ended ∙ going) ∙ ap (λ o. 12 * new.worker.units + 12 + owed_left o + section_left new.worker.section) (owed ∙ free) in
      let fewer = s.gives.fewer in
      let on = begun_on a s.begun seat.worker s.between s.begins in
      let begun = on.units in
      let open_ : section_left seat.worker.section ≡ 1 = ap section_left (sym on.section ∙ s.gives.open_) in
      let left : section_left new.worker.section ≡ 0 = ap section_left (ap (λ w. w.section) s.gives.new_is) in
      let was = before in
      omega (arith, now, fewer, begun, open_, left, was)

  end_lightens : (end : End) → new.worker.section ≡ seat.worker.section → new.ended ≡ true → new.owed ≡ owed_after end → turns_left new < turns_left seat
  end_lightens end open_ ended owed =
      let now : turns_left new ≡ 0 + owed_left (owed_after end) + section_left new.worker.section = once_ended new ended ∙ ap (λ o. 0 + owed_left o + section_left new.worker.section) owed in
      let same = ap section_left open_ in
      let little = little_after end in
      let was = before in
      omega (arith, now, same, little, was)

  pub ended_lightens : {X E : Type 0} (r : Result X E) (end : End) → Steps seat.outside new.outside seat.worker new.worker (EndedStep end) → OnOk r ((new.owed ≡ owed_after end) × (new.ended ≡ true)) → (IsNoMemory end → OnOk r ⊥)
      → OnOk r (turns_left new < turns_left seat)
  ended_lightens (Ok x) end s owed memory = end_lightens end (ended_section seat.outside new.outside seat.worker new.worker end memory s) owed.1 owed.0
  ended_lightens (Err e) end s owed memory = tt

  pub stop_lightens : new.worker.section ≡ None → new.ended ≡ true → new.owed ≡ by.Nothing → turns_left new < turns_left seat
  stop_lightens open_ ended owed =
      let now : turns_left new ≡ 0 + 0 + section_left new.worker.section = once_ended new ended ∙ ap (λ o. 0 + owed_left o + section_left new.worker.section) owed in
      let none : section_left new.worker.section ≡ 0 = ap section_left open_ in
      let was = before in
      omega (arith, now, none, was)

-- one step of what is owed is done
owes_less : (b : Bool) (units x y z : ℕ) → x < y → (if b then 0 else 12 * units + 12) + x + z < (if b then 0 else 12 * units + 12) + y + z
owes_less true units x y z less = omega (arith, less)
owes_less false units x y z less = omega (arith, less)

pub owed_lightens : (seat new : Seat) → new.ended ≡ seat.ended → new.worker.units ≡ seat.worker.units → new.worker.section ≡ seat.worker.section → owed_left new.owed < owed_left seat.owed → turns_left new < turns_left seat
owed_lightens seat new ended units section less =
    let here = owes_less seat.ended seat.worker.units (owed_left new.owed) (owed_left seat.owed) (section_left seat.worker.section) less in
    let now : turns_left new ≡ (if seat.ended then 0 else 12 * seat.worker.units + 12) + owed_left new.owed + section_left seat.worker.section =
    ap (λ b. (if b then 0 else 12 * new.worker.units + 12) + owed_left new.owed + section_left new.worker.section) ended
    ∙ ap (λ u. (if seat.ended then 0 else 12 * u + 12) + owed_left new.owed + section_left new.worker.section) units
    ∙ ap (λ o. (if seat.ended then 0 else 12 * seat.worker.units + 12) + owed_left new.owed + section_left o) section in
    subst (λ k. k < turns_left seat) (sym now) here

-- of a record one step more is done
pub step_recorded : (seat new : Seat) (entry : Entry) (done old interval : ℕ) → ((t : Thread) × SeatIs seat t) → seat.owed ≡ by.Record entry done old → new.ended ≡ seat.ended → new.worker ≡ seat.worker
    → new.owed ≡ by.Record entry (done + 1) interval → turns_left new < turns_left seat
step_recorded seat new entry done old interval is owed ended worker now =
    let r = record_of seat.owed entry done old seat.worker (is.0).owed owed (is.1).owed in
    let more = r.more in
    let was : owed_left seat.owed ≡ step_count entry.ok - done = ap owed_left owed in
    let less : owed_left new.owed ≡ step_count entry.ok - (done + 1) = ap owed_left now in
    owed_lightens seat new ended (ap (λ w. w.units) worker) (ap (λ w. w.section) worker) (omega (arith, more, was, less))

-- the sample is in the trace
pub worker_noted : (seat : Seat) (w : Standing) (entry : Entry) (done old interval : ℕ) (is : (t : Thread) × SeatIs seat t) (owed : seat.owed ≡ by.Record entry done old)
    → IfSome seat.worker.owed (λ s. w ≡ record seat.worker { owed = None; trace = seat.worker.trace ++ SampledItem s interval ∷ [] })
    → (sample : Sample) × (w ≡ record seat.worker { owed = None; trace = seat.worker.trace ++ SampledItem sample interval ∷ [] })
worker_noted seat w entry done old interval is owed noted =
    let r = record_of seat.owed entry done old seat.worker (is.0).owed owed (is.1).owed in
    (r.sample, subst (λ o. IfSome o (λ s. w ≡ record seat.worker { owed = None; trace = seat.worker.trace ++ SampledItem s interval ∷ [] })) r.there noted)

-- and after the last one nothing is owed
pub last_recorded : (seat new : Seat) (entry : Entry) (done old interval : ℕ) → ((t : Thread) × SeatIs seat t) → seat.owed ≡ by.Record entry done old → new.ended ≡ seat.ended
    → IfSome seat.worker.owed (λ s. new.worker ≡ record seat.worker { owed = None; trace = seat.worker.trace ++ SampledItem s interval ∷ [] }) → new.owed ≡ by.Nothing
    → turns_left new < turns_left seat
last_recorded seat new entry done old interval is owed ended noted now =
    let r = record_of seat.owed entry done old seat.worker (is.0).owed owed (is.1).owed in
    let more = r.more in
    let w = worker_noted seat new.worker entry done old interval is owed noted in
    let was : owed_left seat.owed ≡ step_count entry.ok - done = ap owed_left owed in
    let less : owed_left new.owed ≡ 0 = ap owed_left now in
    owed_lightens seat new ended (ap (λ w. w.units) w.1) (ap (λ w. w.section) w.1) (omega (arith, more, was, less))

pub same_noted : (seat : Seat) (w : Standing) (entry : Entry) (done old interval : ℕ) → ((t : Thread) × SeatIs seat t) → seat.owed ≡ by.Record entry done old
    → IfSome seat.worker.owed (λ s. w ≡ record seat.worker { owed = None; trace = seat.worker.trace ++ SampledItem s interval ∷ [] })
    → (w.section ≡ seat.worker.section) × (w.thread ≡ seat.worker.thread) × (w.plan ≡ seat.worker.plan)
same_noted seat w entry done old interval is owed noted =
    let h = worker_noted seat w entry done old interval is owed noted in
    (ap (λ w. w.section) h.1, ap (λ w. w.thread) h.1, ap (λ w. w.plan) h.1)

-- a section is entered
pub entered_lightens : (seat new : Seat) (lock place : ℕ) → ((t : Thread) × SeatIs seat t) → seat.owed ≡ by.Enter lock → new.ended ≡ seat.ended
    → IfSome seat.worker.entering (λ l. new.worker ≡ record seat.worker { entering = None; section = Some l; trace = seat.worker.trace ++ EnteredItem l place ∷ [] }) → new.owed ≡ by.Nothing
    → turns_left new < turns_left seat
entered_lightens seat new lock place is owed ended entered now =
    let w = worker_entered seat new.worker lock place is owed entered in
    let e = enters_by seat is.0 lock is.1 owed in
    let going : seat.ended ≡ false = (is.1).ended ∙ e.going in
    let was : turns_left seat ≡ 12 * seat.worker.units + 12 + 2 + section_left seat.worker.section =
    while_going seat going ∙ ap (λ o. 12 * seat.worker.units + 12 + owed_left o + section_left seat.worker.section) owed in
    let is_now : turns_left new ≡ 12 * new.worker.units + 12 + 0 + section_left new.worker.section =
    while_going new (ended ∙ going) ∙ ap (λ o. 12 * new.worker.units + 12 + owed_left o + section_left new.worker.section) now in
    let units = ap (λ w. w.units) w in
    let open_ : section_left new.worker.section ≡ 1 = ap (λ w. section_left w.section) w in
    omega (arith, was, is_now, units, open_)

pub stop_raised : (seat new : Seat) → seat.owed ≡ by.Stop → new ≡ record seat { owed = by.Nothing } → turns_left new < turns_left seat
stop_raised seat new owed is =
    let was : owed_left seat.owed ≡ 1 = ap owed_left owed in
    let now : owed_left new.owed ≡ 0 = ap (λ x. owed_left x.owed) is in
    owed_lightens seat new (ap (λ x. x.ended) is) (ap (λ x. x.worker.units) is) (ap (λ x. x.worker.section) is) (omega (arith, was, now))

pub has_settled : (locks : List ℕ) (seat : Seat) → seat.ended ≡ true → seat.owed ≡ by.Nothing → Lightens locks locks seat seat
has_settled locks seat ended owed = inr (still, refl, refl) where
  settled : is_settled seat ≡ true
  settled = ap (λ b. b && is_nothing seat.owed) ended ∙ ap is_nothing owed

  still : is_still locks seat ≡ true
  still = ap (λ b. b || is_blocked locks seat.owed) settled

pub is_stuck : (locks : List ℕ) (seat : Seat) (lock : ℕ) → seat.owed ≡ by.Enter lock → is_odd (slice_index locks lock) ≡ true → is_still locks seat ≡ true
is_stuck locks seat lock owed odd = or_true (is_settled seat) (is_blocked locks seat.owed) (ap (is_blocked locks) owed ∙ odd) where
  or_true : (a b : Bool) → b ≡ true → (a || b) ≡ true
  or_true true b h = refl
  or_true false b h = h
