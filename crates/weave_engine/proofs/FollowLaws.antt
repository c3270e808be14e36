-- Each turn keeps how the traces stand.
use Rattle.std.proofs.Common.{◌≡◌, inl, inr, ℕ, zero, suc, ◌+◌, ◌<◌, Bool, true, false, List, [], ◌∷◌, ◌++◌, Some, None, length, set, get_or, refl, sym, ap, ◌∙◌, subst, arith}
use Rattle.std.specs.Prelude.{IfSome, Result, Ok, Err, OnOk, slice_get, ◌&&◌}
use Rattle.std.proofs.lemmas.Option.{slice_get-get_or, slice_get_past}
use Rattle.jm_base.specs.declared.types.End.{End}
use Rattle.jm_base.specs.declared.types.End.TheVariants.{Stopped, NoMemory}
use Rattle.jm_base.specs.declared.types.Entry.{Entry}
use Rattle.jm_base.specs.declared.types.Sample.{Sample}
use Rattle.jm_base.specs.Outside.{Account}
use Rattle.element_tree.specs.Tree.{Tree}
use Rattle.jm_meaning.specs.Beginning.{Options}
use Rattle.thread_machine.specs.declared.trace.TraceItem.TheVariants.{Sampled as SampledItem, Entered as EnteredItem, Ended as EndedItem}
use Rattle.thread_machine.specs.declared.step.Step.TheVariants.{Ended as EndedStep}
use Rattle.thread_machine.specs.Standing.{Standing, rest, Stands}
use Rattle.thread_machine.specs.Stepped.{Steps}
use Rattle.thread_machine.specs.Follows.{HasRun, IsScripted, IsScriptedStop, WasStopped}
use Rattle.thread_machine.specs.SectionOrder.{left_traced}
use Rattle.weave_engine.specs.declared.seat.Owed.TheVariants as by
use Rattle.weave_engine.specs.declared.seat.Seat.{Seat}
use Rattle.weave_engine.specs.Steps.{Thread}
use Rattle.weave_engine.specs.Seats.{SeatIs, IsNoMemory, owed_after, StandsFor, SeatStands, KeepsOn, AllStand, AllKeepOn, AllClosed, traces_in, first_outside, AreSeats, all_seats_settled, is_settled, is_nothing}
use Rattle.outside_world.specs.Scripted.{scripts_of}
use Rattle.thread_machine.specs.declared.trace.TraceItem.{TraceItem}
use Rattle.weave_engine.specs.Followed.{Followed, AllFollow}
use Rattle.weave_engine.proofs.StartLaws.{pushed}
use Rattle.thread_machine.proofs.Ends.{begun_on, ended_on, thread_same}
use Rattle.weave_engine.proofs.SeatLaws.{none_owed, record_of, enters_by, worker_entered}
use Rattle.weave_engine.proofs.TurnLaws.{set_at, no_item}

-- a thread that goes on
pub going_keeps : (seat new : Seat) → new.worker.plan ≡ seat.worker.plan → seat.ended ≡ false → new.ended ≡ seat.ended
    → ((start : Account) (options : Options) → Stands start seat.outside options seat.worker → Stands start new.outside options new.worker) → KeepsOn seat new
going_keeps seat new same going ended f = λ plan start options h.
    (same ∙ h.0, subst (λ b. StandsFor b start new.outside options new.worker) (sym (ended ∙ going)) (f start options (subst (λ b. StandsFor b start seat.outside options seat.worker) going h.1)))

ended_by : (seat new : Seat) (end : End) → seat.ended ≡ false → (IsNoMemory end → ⊥) → new.ended ≡ true → new.worker.owed ≡ None → new.worker.plan ≡ seat.worker.plan → new.worker.thread ≡ seat.worker.thread
    → ((start : Account) (options : Options) → Stands start seat.outside options seat.worker → HasRun start new.outside seat.worker.plan seat.worker.thread options new.worker.trace end) → KeepsOn seat new
ended_by seat new end going memory ended none plan thread f = λ whole start options h.
    let run = f start options (subst (λ b. StandsFor b start seat.outside options seat.worker) going h.1) in (
      plan ∙ h.0,
      subst (λ b. StandsFor b start new.outside options new.worker) (sym ended) (
        none,
        inl (
          end,
          memory,
          subst (λ k. HasRun start new.outside new.worker.plan k options new.worker.trace end) (sym thread)
              (subst (λ (p : Tree). HasRun start new.outside p seat.worker.thread options new.worker.trace end) (sym plan) run),
        ),
      ),
    )

pub ended_keeps : {X E : Type 0} (r : Result X E) (seat new : Seat) (end : End) → ((t : Thread) × SeatIs seat t) → seat.owed ≡ by.Nothing → seat.ended ≡ false
    → Steps seat.outside new.outside seat.worker new.worker (EndedStep end)
    → ((start : Account) (options : Options) → Stands start seat.outside options seat.worker → HasRun start new.outside seat.worker.plan seat.worker.thread options new.worker.trace end)
    → OnOk r ((new.owed ≡ owed_after end) × (new.ended ≡ true)) → (IsNoMemory end → OnOk r ⊥) → OnOk r (KeepsOn seat new)
ended_keeps (Ok x) seat new end is free going s f owed memory =
    let on = begun_on seat.outside s.begun seat.worker s.between s.begins in
    let ended = ended_on s.begun new.outside (rest s.between) s.between new.worker end s.gives in
    let same = thread_same seat.outside new.outside seat.worker new.worker (EndedStep end) s in
    let none = none_owed seat.owed seat.worker (is.0).owed free (is.1).owed in
    ended_by seat new end going memory owed.1 (ended.owed ∙ on.owed ∙ none.0) same.plan same.thread f
ended_keeps (Err e) seat new end is free going s f owed memory = tt

pub stop_keeps : (seat new : Seat) → ((t : Thread) × SeatIs seat t) → seat.owed ≡ by.Nothing → seat.ended ≡ false
    → new.worker ≡ record seat.worker { section = None; ended = true; trace = seat.worker.trace ++ (left_traced seat.worker.section ++ EndedItem Stopped ∷ []) } → new.ended ≡ true → new.outside ≡ seat.outside
    → ((start now : Account) (options : Options) → Stands start now options seat.worker → WasStopped start now seat.worker.plan seat.worker.thread options new.worker.trace) → KeepsOn seat new
stop_keeps seat new is free going worker ended outside f = λ plan start options h.
    let none = none_owed seat.owed seat.worker (is.0).owed free (is.1).owed in
    let was : WasStopped start seat.outside seat.worker.plan seat.worker.thread options new.worker.trace =
    f start seat.outside options (subst (λ b. StandsFor b start seat.outside options seat.worker) going h.1) in (
      ap (λ w. w.plan) worker ∙ h.0,
      subst (λ b. StandsFor b start new.outside options new.worker) (sym ended) (
        ap (λ w. w.owed) worker ∙ none.0,
        inr (subst (λ (a : Account). WasStopped start a new.worker.plan new.worker.thread options new.worker.trace) (sym outside)
            (subst (λ k. WasStopped start seat.outside new.worker.plan k options new.worker.trace) (sym (ap (λ w. w.thread) worker))
            (subst (λ (p : Tree). WasStopped start seat.outside p seat.worker.thread options new.worker.trace) (sym (ap (λ w. w.plan) worker)) was))),
      ),
    )

-- a thread that enters a section goes on
pub entered_keeps : (seat new : Seat) (lock place : ℕ) → ((t : Thread) × SeatIs seat t) → seat.owed ≡ by.Enter lock → new.outside ≡ seat.outside → new.ended ≡ seat.ended
    → IfSome seat.worker.entering (λ l. new.worker ≡ record seat.worker { entering = None; section = Some l; trace = seat.worker.trace ++ EnteredItem l place ∷ [] })
    → ((start now : Account) (options : Options) → Stands start now options seat.worker → Stands start now options new.worker) → KeepsOn seat new
entered_keeps seat new lock place is owed outside ended entered f =
    let worker = worker_entered seat new.worker lock place is owed entered in
    let e = enters_by seat is.0 lock is.1 owed in
    going_keeps seat new (ap (λ w. w.plan) worker) ((is.1).ended ∙ e.going) ended
    (λ start options h. subst (λ (a : Account). Stands start a options new.worker) (sym outside) (f start seat.outside options h))

-- a thread that owes a sample goes on
pub noted_keeps : (seat new : Seat) (entry : Entry) (done old : ℕ) → ((t : Thread) × SeatIs seat t) → seat.owed ≡ by.Record entry done old → new.outside ≡ seat.outside → new.ended ≡ seat.ended
    → (interval : ℕ) → IfSome seat.worker.owed (λ s. new.worker ≡ record seat.worker { owed = None; trace = seat.worker.trace ++ SampledItem s interval ∷ [] })
    → ((start now : Account) (options : Options) → Stands start now options seat.worker → Stands start now options new.worker) → KeepsOn seat new
noted_keeps seat new entry done old is owed outside ended interval noted f = by_end seat.ended refl where
  there : (sample : Sample) × (seat.worker.owed ≡ Some sample)
  there = let r = record_of seat.owed entry done old seat.worker (is.0).owed owed (is.1).owed in (r.sample, r.there)

  same : new.worker.plan ≡ seat.worker.plan
  same =
      let worker : new.worker ≡ record seat.worker { owed = None; trace = seat.worker.trace ++ SampledItem there.0 interval ∷ [] } =
      subst (λ o. IfSome o (λ s. new.worker ≡ record seat.worker { owed = None; trace = seat.worker.trace ++ SampledItem s interval ∷ [] })) there.1 noted in
      ap (λ w. w.plan) worker

  by_end : (b : Bool) → seat.ended ≡ b → KeepsOn seat new
  by_end true at_end = λ plan start options h.
      absurd (let none : seat.worker.owed ≡ None = (subst (λ b. StandsFor b start seat.outside options seat.worker) at_end h.1).0 in let e : None ≡ Some there.0 = sym none ∙ there.1 in cc)
  by_end false going = going_keeps seat new same going ended (λ start options h. subst (λ (a : Account). Stands start a options new.worker) (sym outside) (f start seat.outside options h))

-- One among all

pub all_kept : (seats : List Seat) (d : ℕ) (old new : Seat) → d < length seats → old ≡ get_or seats d old → KeepsOn old new → AllKeepOn seats (set seats d new)
all_kept seats d old new within is keeps = λ plan start options h k x there. elim (set_at seats d k new x there) [
  | inl p ↦ subst (SeatStands plan start options) (sym p.1) (keeps plan start options (h d old (slice_get-get_or seats d old within ∙ ap Some (sym is))))
  | inr q ↦ h k x q.1
]

-- Before the first turn, and after the last

pub stands_first : (plan : Tree) (options : Options) (w : Standing) (a : Account) → w.plan ≡ plan → a ≡ first_outside plan → ((start : Account) → Stands start start options w)
    → (w.plan ≡ plan) × Stands (first_outside plan) a options w
stands_first plan options w a same outside f = (same, subst (λ (b : Account). Stands (first_outside plan) b options w) (sym outside) (f (first_outside plan)))

pub stand_push : (plan : Tree) (start : Account) (options : Options) (xs : List Seat) (y : Seat) → AllStand plan start options xs → SeatStands plan start options y → AllStand plan start options (xs ++ y ∷ [])
stand_push plan start options xs y all one k x there = elim (pushed xs y k x there) [
  | inl h ↦ all k x h
  | inr e ↦ subst (SeatStands plan start options) (sym e) one
]

both_first : (a b : Bool) → (a && b) ≡ true → (a ≡ true) × (b ≡ true)
both_first true b h = (refl, h)
both_first false b h = absurd (cc)

seat_same : {a b : Seat} → Some a ≡ Some b → a ≡ b
seat_same h = cc

settled_ended : (xs : List Seat) (k : ℕ) (x : Seat) → all_seats_settled xs ≡ true → slice_get xs k ≡ Some x → x.ended ≡ true
settled_ended [] k x h there = absurd (no_item k x there)
settled_ended (y ∷ ys) zero x h there =
    ap (λ (z : Seat). z.ended) (sym (seat_same there)) ∙ (both_first y.ended (is_nothing y.owed) (both_first (is_settled y) (all_seats_settled ys) h).0).0
settled_ended (y ∷ ys) (suc k) x h there = settled_ended ys k x (both_first (is_settled y) (all_seats_settled ys) h).1 there

number_at : (i : ℕ) (xs : List Seat) (ts : List Thread) (k : ℕ) (x : Seat) → AreSeats i xs ts → slice_get xs k ≡ Some x → x.worker.thread ≡ i + k
number_at i [] ts k x are there = absurd (no_item k x there)
number_at i (y ∷ ys) [] k x are there = absurd are
number_at i (y ∷ ys) (t ∷ ts) zero x are there = let same = ap (λ (z : Seat). z.worker.thread) (sym (seat_same there)) in let is = are.1 in omega (arith, same, is)
number_at i (y ∷ ys) (t ∷ ts) (suc k) x are there = let h = number_at (i + 1) ys ts k x are.2 there in omega (arith, h)

closed_at : (i : ℕ) (xs : List Seat) (ts : List Thread) (k : ℕ) (x : Seat) → AreSeats i xs ts → slice_get xs k ≡ Some x → x.ended ≡ true → x.worker.section ≡ None
closed_at i [] ts k x are there ended = absurd (no_item k x there)
closed_at i (y ∷ ys) [] k x are there ended = absurd are
closed_at i (y ∷ ys) (t ∷ ts) zero x are there ended =
    subst (λ (z : Seat). z.worker.section ≡ None) (seat_same there) (are.0.at_end (ap (λ (z : Seat). z.ended) (seat_same there) ∙ ended))
closed_at i (y ∷ ys) (t ∷ ts) (suc k) x are there ended = closed_at (i + 1) ys ts k x are.2 there ended

-- threads that have settled have no section open
pub all_closed : (seats : List Seat) (ts : List Thread) → AreSeats 0 seats ts → all_seats_settled seats ≡ true → AllClosed seats
all_closed seats ts are quiet k x there = closed_at 0 seats ts k x are there (settled_ended seats k x quiet there)

-- a thread that has run to an end which is not out of memory shows all of its events
script_of : (now : Account) (plan : Tree) (options : Options) (d : ℕ) (trace : List TraceItem) (end : End) → (IsNoMemory end → ⊥) → HasRun (first_outside plan) now plan d options trace end
    → IsScripted plan d options (scripts_of plan) trace
script_of now plan options d trace Stopped memory f = absurd f
script_of now plan options d trace NoMemory memory f = absurd (memory tt)
script_of now plan options d trace end memory f = f.scripted (scripts_of plan) refl

same_trace : {a b : List TraceItem} → Some a ≡ Some b → b ≡ a
same_trace h = cc

-- the trace of a place is that of the seat there
trace_at : (xs : List Seat) (d : ℕ) (trace : List TraceItem) → slice_get (traces_in xs) d ≡ Some trace → (x : Seat) × (slice_get xs d ≡ Some x) × (trace ≡ x.worker.trace)
trace_at [] d trace there = absurd (let e : None ≡ Some trace = sym (slice_get_past [] d (omega arith)) ∙ there in cc)
trace_at (x ∷ xs) zero trace there = (x, refl, same_trace there)
trace_at (x ∷ xs) (suc d) trace there = trace_at xs d trace there

follows_of : (plan : Tree) (options : Options) (seats : List Seat) (ts : List Thread) (d : ℕ) (x : Seat) → AreSeats 0 seats ts → all_seats_settled seats ≡ true
    → AllStand plan (first_outside plan) options seats → slice_get seats d ≡ Some x → Followed plan options d x.worker.trace
follows_of plan options seats ts d x are quiet stand there =
    let h = stand d x there in
    let number : x.worker.thread ≡ d = (let k = number_at 0 seats ts d x are there in omega (arith, k)) in
    let at_end = (subst (λ b. StandsFor b (first_outside plan) x.outside options x.worker) (settled_ended seats d x quiet there) h.1).1 in
    elim at_end [
      | inl r ↦ inl (script_of x.outside plan options d x.worker.trace r.0 r.1 (subst (λ k. HasRun (first_outside plan) x.outside plan k options x.worker.trace r.0) number
          (subst (λ (p : Tree). HasRun (first_outside plan) x.outside p x.worker.thread options x.worker.trace r.0) h.0 r.2)))
      | inr w ↦ inr (stopped_as x.outside (subst (λ k. WasStopped (first_outside plan) x.outside plan k options x.worker.trace) number
          (subst (λ (p : Tree). WasStopped (first_outside plan) x.outside p x.worker.thread options x.worker.trace) h.0 w)))
    ] where
      stopped_as : (now : Account) → WasStopped (first_outside plan) now plan d options x.worker.trace → IsScriptedStop plan d options (scripts_of plan) x.worker.trace
      stopped_as now w = w.scripted (scripts_of plan) refl

pub all_follow : (plan : Tree) (options : Options) (seats : List Seat) (ts : List Thread) → AreSeats 0 seats ts → all_seats_settled seats ≡ true → AllStand plan (first_outside plan) options seats
    → AllFollow plan options (traces_in seats)
all_follow plan options seats ts are quiet stand d trace there =
    let at = trace_at seats d trace there in
    subst (Followed plan options d) (sym at.2) (follows_of plan options seats ts d at.0 are quiet stand at.1)
