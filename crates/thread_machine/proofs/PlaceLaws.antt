-- The places of the sections of a trace: how many of the same lock came before.
use Rattle.std.proofs.Common.{◌≡◌, ℕ, ◌+◌, ◌-◌, ◌≤◌, ◌<◌, Bool, true, false, List, [], ◌∷◌, ◌++◌, length, Some, None, refl, sym, ap, ◌∙◌, subst, append_assoc, arith, inl, inr, get_or-set_same, get_or-set_other}
use Rattle.std.specs.Prelude.{◌==◌, ◌≢◌, slice_index, slice_set, if◌then◌else◌}
use Rattle.std.proofs.lemmas.List.{append-nil, get_or-replicate, length-replicate, length-set}
use Rattle.std.proofs.lemmas.Bool.{eqb-true, eqb-false}
use Rattle.std.specs.Prelude.{replicate}
use Rattle.jm_base.specs.declared.types.Entry.{Entry}
use Rattle.jm_base.specs.declared.types.Sample.{Sample}
use Rattle.jm_base.specs.Outside.{Account}
use Rattle.thread_machine.specs.declared.step.Step.{Step}
use Rattle.thread_machine.specs.declared.step.Step.TheVariants.{Sampled as SampledStep, Null as NullStep, Enter as EnterStep, Leave as LeaveStep}
use Rattle.std.proofs.lemmas.List.Sums.{sum_by_push, sum_by-le-sum_by}
use Rattle.thread_machine.specs.declared.trace.TraceItem.{TraceItem}
use Rattle.thread_machine.specs.declared.trace.TraceItem.TheVariants.{Paused, Sampled, Null, Entered, Left, Ended}
use Rattle.thread_machine.specs.Inside.{owed_count}
use Rattle.thread_machine.specs.SectionOrder.{one_if_section, sections_in, one_if_of, sections_of, IsPlaced, PlacedAfter}
use Rattle.thread_machine.specs.Standing.{Standing}
use Rattle.thread_machine.specs.Stepped.{Begins, Steps}
use Rattle.thread_machine.proofs.Appended.{after_step}

-- one more item
pub placed-push : (before xs : List TraceItem) (item : TraceItem) → PlacedAfter before xs → IsPlaced (before ++ xs) item → PlacedAfter before (xs ++ item ∷ [])
placed-push before [] item h k = (subst (λ l. IsPlaced l item) (append-nil before) k, tt)
placed-push before (x ∷ xs) item h k =
    (h.0, placed-push (before ++ x ∷ []) xs item h.1 (subst (λ l. IsPlaced l item) (sym (append_assoc before (x ∷ []) xs)) k))

-- sections of one lock are sections
pub few_of : (lock : ℕ) (trace : List TraceItem) → sections_of lock trace ≤ sections_in trace
few_of lock trace = sum_by-le-sum_by (one_if_of lock) one_if_section trace few_item where
  few_item : (item : TraceItem) → one_if_of lock item ≤ one_if_section item
  few_item (Paused ms) = omega arith
  few_item (Sampled sample interval) = omega arith
  few_item (Null sampler) = omega arith
  few_item (Entered other place) = by_test (other == lock) where
    by_test : (b : Bool) → (if b then 1 else 0) ≤ 1
    by_test true = omega arith
    by_test false = omega arith
  few_item (Left other) = omega arith
  few_item (Ended end) = omega arith

-- more items of a trace that are no section
pub record Grows (old new : List TraceItem) : Type 0 where
  pub placed : PlacedAfter [] old → PlacedAfter [] new
  pub same : (lock : ℕ) → sections_of lock new ≡ sections_of lock old

grows_not : (old : List TraceItem) → Grows old old
grows_not old = record { placed = λ p. p; same = λ lock. refl }

grows_then : (a b c : List TraceItem) → Grows a b → Grows b c → Grows a c
grows_then a b c g h = record { placed = λ p. h.placed (g.placed p); same = λ lock. h.same lock ∙ g.same lock }

grows_push : (old new : List TraceItem) (item : TraceItem) → new ≡ old ++ item ∷ [] → IsPlaced old item → ((lock : ℕ) → one_if_of lock item ≡ 0) → Grows old new
grows_push old new item is placed none = record {
  placed = λ p. subst (PlacedAfter []) (sym is) (placed-push [] old item p placed);
  same = λ lock. (let a : sections_of lock new ≡ sections_of lock old + one_if_of lock item = ap (sections_of lock) is ∙ sum_by_push (one_if_of lock) old item in let b = none lock in omega (arith, a, b));
}

-- a step, whatever it answers
pub grows_behind : (a b : Account) (old new : Standing) (step : Step) → Steps a b old new step → Grows old.trace new.trace
grows_behind = after_step {R = Grows} (record {
  same = grows_not;
  further = grows_then;
  paused = λ t ms. grows_push t (t ++ Paused ms ∷ []) (Paused ms) refl tt (λ lock. refl);
  none = λ t number. grows_push t (t ++ Null number ∷ []) (Null number) refl tt (λ lock. refl);
  left = λ t lock. grows_push t (t ++ Left lock ∷ []) (Left lock) refl tt (λ other. refl);
  ended = λ t end. grows_push t (t ++ Ended end ∷ []) (Ended end) refl tt (λ lock. refl);
})

-- a sample that is noted
pub grows_noted : (old new : Standing) (sample : Sample) (k : ℕ) → new ≡ record old { owed = None; trace = old.trace ++ Sampled sample k ∷ [] } → Grows old.trace new.trace
grows_noted old new sample k is = grows_push old.trace new.trace (Sampled sample k) (ap (λ s. s.trace) is) tt (λ lock. refl)

-- ---- the places that come next

-- for each lock the place that comes next is how many sections of it there were
abbrev pub AreNext : List ℕ → List TraceItem → Type 0
AreNext places trace = (lock : ℕ) → lock < length places → slice_index places lock ≡ sections_of lock trace

pub next_grows : (places : List ℕ) (old new : List TraceItem) → Grows old new → AreNext places old → AreNext places new
next_grows places old new g next lock within = next lock within ∙ sym (g.same lock)

-- before the first section
pub next_first : (n : ℕ) (places : List ℕ) (trace : List TraceItem) → places ≡ replicate n 0 → trace ≡ [] → AreNext places trace
next_first n places trace zeros none lock within =
    let long : length places ≡ n = ap length zeros ∙ length-replicate n 0 in
    let at : slice_index places lock ≡ 0 = ap (λ xs. slice_index xs lock) zeros ∙ get_or-replicate n lock 0 0 (omega (arith, within, long)) in
    at ∙ sym (ap (sections_of lock) none)

-- a section more
more_next : (places : List ℕ) (lock l : ℕ) (b : Bool) → (lock == l) ≡ b → l < length places → slice_index (slice_set places lock (slice_index places lock + 1)) l ≡ slice_index places l + (if b then 1 else 0)
more_next places lock l true is within =
    let same : lock ≡ l = eqb-true lock l is in
    subst (λ k. slice_index (slice_set places k (slice_index places k + 1)) l ≡ slice_index places l + 1) (sym same) (get_or-set_same places l (slice_index places l + 1) 0 within)
more_next places lock l false is within =
    let other : l ≢ lock = λ same. eqb-false lock l is (sym same) in
    let at : slice_index (slice_set places lock (slice_index places lock + 1)) l ≡ slice_index places l = get_or-set_other places lock l (slice_index places lock + 1) 0 other in
    omega (arith, at)

pub next_entered : (old new : Standing) (places after : List ℕ) (lock : ℕ) → after ≡ slice_set places lock (slice_index places lock + 1)
    → new ≡ record old { entering = None; section = Some lock; trace = old.trace ++ Entered lock (slice_index places lock) ∷ [] } → AreNext places old.trace → AreNext after new.trace
next_entered old new places after lock after_is is next l within =
    let long : length after ≡ length places = ap length after_is ∙ length-set places lock (slice_index places lock + 1) in
    let within' : l < length places = omega (arith, within, long) in
    let counts : sections_of l new.trace ≡ sections_of l old.trace + (if lock == l then 1 else 0) = ap (λ s. sections_of l s.trace) is ∙ sum_by_push (one_if_of l) old.trace (Entered lock (slice_index places lock)) in
    ap (λ xs. slice_index xs l) after_is ∙ more_next places lock l (lock == l) refl within' ∙ ap (λ n. n + (if lock == l then 1 else 0)) (next l within') ∙ sym counts

pub placed_entered : (old new : Standing) (places : List ℕ) (lock : ℕ) → lock < length places
    → new ≡ record old { entering = None; section = Some lock; trace = old.trace ++ Entered lock (slice_index places lock) ∷ [] } → AreNext places old.trace → PlacedAfter [] old.trace → PlacedAfter [] new.trace
placed_entered old new places lock within is next placed =
    subst (PlacedAfter []) (sym (ap (λ s. s.trace) is)) (placed-push [] old.trace (Entered lock (slice_index places lock)) placed (next lock within))

-- ---- the steps of a thread are few

-- each unit can be used once, and a section that is open left once
abbrev pub weight : Standing → ℕ
weight w = w.units + w.units + owed_count w.section

begun_weight : (a b : Account) (old new : Standing) → Begins a b old new → weight new ≡ weight old
begun_weight a b old new h = elim h [
  | inl p ↦ ap weight p.new_is
  | inr s ↦ ap weight s.standing
]

pub fewer_sampled : (a b : Account) (old mid new : Standing) (k : ℕ) {entry : Entry} → (s : Steps a b old mid (SampledStep entry)) → new ≡ record mid { owed = None; trace = mid.trace ++ Sampled s.gives.sample k ∷ [] } → weight new < weight old
fewer_sampled a b old mid new k s is =
    let first : weight s.between ≡ weight old = begun_weight a s.begun old s.between s.begins in
    let same : weight new ≡ weight mid = ap weight is in
    let units : mid.units ≡ s.between.units - 1 = ap (λ s. s.units) s.gives.new_is in
    let section : owed_count mid.section ≡ owed_count s.between.section = ap (λ s. owed_count s.section) s.gives.new_is in
    let unit = s.gives.unit in omega (arith, first, same, units, section, unit)

pub fewer_null : (a b : Account) (old new : Standing) → Steps a b old new NullStep → weight new < weight old
fewer_null a b old new s =
    let first : weight s.between ≡ weight old = begun_weight a s.begun old s.between s.begins in
    let units : new.units ≡ s.between.units - 1 = ap (λ s. s.units) s.gives.new_is in
    let section : owed_count new.section ≡ owed_count s.between.section = ap (λ s. owed_count s.section) s.gives.new_is in
    let unit = s.gives.unit in omega (arith, first, units, section, unit)

pub fewer_enters : (a b : Account) (old mid new : Standing) (lock place : ℕ) → Steps a b old mid (EnterStep lock) → new ≡ record mid { entering = None; section = Some lock; trace = mid.trace ++ Entered lock place ∷ [] } → weight new < weight old
fewer_enters a b old mid new lock place s is =
    let first : weight s.between ≡ weight old = begun_weight a s.begun old s.between s.begins in
    let units : mid.units ≡ s.between.units - 1 = ap (λ s. s.units) s.gives.new_is in
    let same : new.units ≡ mid.units = ap (λ s. s.units) is in
    let one : owed_count new.section ≡ 1 = ap (λ s. owed_count s.section) is in
    let unit = s.gives.unit in omega (arith, first, units, same, one, unit)

pub fewer_leaves : (a b : Account) (old new : Standing) (lock : ℕ) → Steps a b old new (LeaveStep lock) → weight new < weight old
fewer_leaves a b old new lock s =
    let first : weight s.between ≡ weight old = begun_weight a s.begun old s.between s.begins in
    let none : owed_count new.section ≡ 0 = ap (λ s. owed_count s.section) s.gives.new_is in
    let one : owed_count s.between.section ≡ 1 = ap owed_count s.gives.open_ in
    let fewer = s.gives.fewer in omega (arith, first, none, one, fewer)
