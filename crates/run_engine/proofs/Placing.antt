-- The sections of a worker's trace, and its seat at the locks.
use Rattle.std.proofs.Common.{◌≡◌, ◌∙◌, ℕ, ◌+◌, ◌-◌, ◌<◌, ◌≤◌, List, [], ◌∷◌, ◌++◌, length, Option, Some, None, refl, sym, ap, subst, arith, append_assoc, length-append}
use Rattle.std.specs.Prelude.{IfSome}
use Rattle.std.proofs.lemmas.List.{append-nil}
use Rattle.jm_base.specs.declared.types.End.{End}
use Rattle.jm_base.specs.declared.types.End.TheVariants.{Stopped}
use Rattle.jm_base.specs.declared.types.Sample.{Sample}
use Rattle.jm_base.specs.Outside.{Account}
use Rattle.element_tree.specs.Tree.{Tree}
use Rattle.element_tree.specs.Names.{locks_of}
use Rattle.critical_section.specs.declared.rule.SeatView.{SeatView}
use Rattle.critical_section.specs.declared.places.Sections.{Sections}
use Rattle.critical_section.specs.declared.places.SectionSeat.{SectionSeat}
use Rattle.critical_section.specs.Book.{Section, IsPast, HasOpen, HasPlacesBelow, Enters, closed, closed_list, further_view, one_more as more_made, taking, times}
use Rattle.critical_section.specs.SectionSeats.{view_of, IsSeatOf, locks_of as locks_in, book_lists}
use Rattle.critical_section.specs.declared.places.SectionBook.{SectionBook}
use Rattle.jm_base.specs.SumTotals.{total}
use Rattle.thread_machine.specs.declared.step.Step.{Step}
use Rattle.thread_machine.specs.declared.step.Step.TheVariants.{Enter, Leave, Ended}
use Rattle.thread_machine.specs.declared.trace.TraceItem.{TraceItem}
use Rattle.thread_machine.specs.declared.trace.TraceItem.TheVariants.{Sampled as SampledItem, Entered as EnteredItem}
use Rattle.thread_machine.specs.Standing.{Standing}
use Rattle.thread_machine.specs.Stepped.{Steps}
use Rattle.thread_machine.proofs.Appended.{HoldsOn, after_step, after_end, no_more, gathered}
use Rattle.thread_machine.proofs.Ends.{begun_on, thread_same}
use Rattle.thread_machine.proofs.Labels.{lock_within}
use Rattle.run_engine.proofs.Traces.{stopped_as}
use Rattle.run_engine.specs.SectionsRun.{section_in, entered_in, sections_of_all, RisesAfter, Rises, AreNumbered, IsFirstSeat, HasTaken, KeepsSections, HeldAs}

-- ---- the sections of a trace

sections_snoc : (items : List TraceItem) (item : TraceItem) → entered_in (items ++ item ∷ []) ≡ entered_in items ++ section_in item
sections_snoc [] item = append-nil (section_in item)
sections_snoc (x ∷ items) item = ap (λ l. section_in x ++ l) (sections_snoc items item) ∙ sym (append_assoc (section_in x) (entered_in items) (section_in item))

same_sections : HoldsOn (λ s t. entered_in t ≡ entered_in s)
same_sections = gathered entered_in section_in sections_snoc (λ ms. refl) (λ number. refl) (λ lock. refl) (λ end. refl)

-- no step shows a section as entered
pub sections_same : (a b : Account) (old new : Standing) (step : Step) → Steps a b old new step → entered_in new.trace ≡ entered_in old.trace
sections_same = after_step same_sections

rises_push : (before xs : List Section) (x : Section) → RisesAfter before xs → IsPast x.0 x.1 (before ++ xs) → RisesAfter before (xs ++ x ∷ [])
rises_push before [] x h past = (subst (IsPast x.0 x.1) (append-nil before) past, tt)
rises_push before (y ∷ xs) x h past = (h.0, rises_push (before ++ y ∷ []) xs x h.1 (subst (IsPast x.0 x.1) (sym (append_assoc before (y ∷ []) xs)) past))

-- ---- the seat of a worker that runs

-- the seat has the open section of the worker, and those of its trace
pub record Holding (s : Sections) (held : Option ℕ) (seat : SectionSeat) (w : Standing) : Type 0 where
  pub seat_of : IsSeatOf s seat
  pub held_is : held ≡ w.section
  pub open_ : HeldAs held (view_of seat)
  pub own : closed_list (view_of seat).own (view_of seat).inside ≡ entered_in w.trace
  pub joined : (view_of seat).joined ≡ []
  pub one : (view_of seat).seats ≡ 1
  pub locks : length (locks_of w.plan.elements) ≤ locks_in s
  pub rises : Rises w.trace
  pub few : length (entered_in w.trace) + w.units ≤ 4194304
  pub known : IfSome held (λ lock. lock < locks_in s)

pub holding_first : (s : Sections) (seat : SectionSeat) (w : Standing) → KeepsSections s seat w → w.section ≡ None → Rises w.trace → length (entered_in w.trace) + w.units ≤ 4194304 → Holding s None seat w
holding_first s seat w k none rises few = record {
  seat_of = k.seat_of;
  held_is = sym none;
  open_ = k.none_open;
  own = ap (closed_list (view_of seat).own) k.none_open ∙ k.own;
  joined = k.joined;
  one = k.one;
  locks = k.locks;
  rises = rises;
  few = few;
  known = tt;
}

locks_fit : (s : Sections) (old new : Standing) → new.plan ≡ old.plan → length (locks_of old.plan.elements) ≤ locks_in s → length (locks_of new.plan.elements) ≤ locks_in s
locks_fit s old new is low = subst (λ (p : Tree). length (locks_of p.elements) ≤ locks_in s) (sym is) low

-- no section more, and none less
pub holding_same : (s : Sections) (held : Option ℕ) (seat : SectionSeat) (old new : Standing) → Holding s held seat old → new.section ≡ old.section → entered_in new.trace ≡ entered_in old.trace → new.plan ≡ old.plan → new.units ≤ old.units
    → Holding s held seat new
holding_same s held seat old new h section same plan fewer = record {
  seat_of = h.seat_of;
  held_is = h.held_is ∙ sym section;
  open_ = h.open_;
  own = h.own ∙ sym same;
  joined = h.joined;
  one = h.one;
  locks = locks_fit s old new plan h.locks;
  rises = subst (RisesAfter []) (sym same) h.rises;
  few = (let n : length (entered_in new.trace) ≡ length (entered_in old.trace) = ap length same in let few = h.few in omega (arith, n, few, fewer));
  known = h.known;
}

module _ (s : Sections) (held : Option ℕ) (seat : SectionSeat) (a b : Account) (old new : Standing) (h : Holding s held seat old) where
  -- ---- a section is to be entered
  module _ (lock : ℕ) (e : Steps a b old new (Enter lock)) where
    pub none_held : held ≡ None
    none_held = h.held_is ∙ sym (begun_on a e.begun old e.between e.begins).section ∙ e.gives.none_open

    pub none_inside : (view_of seat).inside ≡ None
    none_inside = subst (λ o. HeldAs o (view_of seat)) none_held h.open_

    own_is : (view_of seat).own ≡ entered_in old.trace
    own_is = sym (ap (closed_list (view_of seat).own) none_inside) ∙ h.own

    units_were : e.between.units ≡ old.units
    units_were = (begun_on a e.begun old e.between e.begins).units

    pub few_own : length (view_of seat).own < 4194304
    few_own =
        let n : length (view_of seat).own ≡ length (entered_in old.trace) = ap length own_is in
        let few = h.few in let units = units_were in let unit = e.gives.unit in omega (arith, n, few, units, unit)

    pub lock_low : lock < locks_in s
    lock_low =
        let within : lock < length (locks_of e.between.plan.elements) = lock_within e.between.plan.elements lock e.gives.lock_is in
        let same : length (locks_of e.between.plan.elements) ≡ length (locks_of old.plan.elements) = ap (λ (p : Tree). length (locks_of p.elements)) (begun_on a e.begun old e.between e.begins).plan in
        let locks = h.locks in omega (arith, within, same, locks)

    -- and was entered
    pub holding_entered : (place : ℕ) (after : SectionSeat) (last : Standing) → last ≡ record new { entering = None; section = Some lock; trace = new.trace ++ EnteredItem lock place ∷ [] } → IsSeatOf s after
        → Enters lock place (view_of seat) (view_of after) → Holding s (Some lock) after last
    holding_entered place after last is seat_of entered =
        let seen : entered_in new.trace ≡ entered_in old.trace = sections_same a b old new (Enter lock) e in
        let more : entered_in last.trace ≡ entered_in old.trace ++ (lock, place) ∷ [] = ap (λ w. entered_in w.trace) is ∙ sections_snoc new.trace (EnteredItem lock place) ∙ ap (λ l. l ++ (lock, place) ∷ []) seen in
        let inside : (view_of after).inside ≡ Some (lock, place) = ap (λ v. v.inside) entered.0 in
        let own : (view_of after).own ≡ entered_in old.trace = ap (λ v. v.own) entered.0 ∙ own_is in
        let count : length (entered_in last.trace) ≡ length (entered_in old.trace) + 1 = ap length more ∙ length-append (entered_in old.trace) ((lock, place) ∷ []) in
        let used : new.units ≡ e.between.units - 1 = ap (λ w. w.units) e.gives.new_is in
        let kept : last.units ≡ new.units = ap (λ w. w.units) is in
        let units = units_were in let unit = e.gives.unit in let few = h.few in
        record {
          seat_of = seat_of;
          held_is = sym (ap (λ w. w.section) is);
          open_ = (place, inside);
          own = ap (closed_list (view_of after).own) inside ∙ ap (λ l. l ++ (lock, place) ∷ []) own ∙ sym more;
          joined = ap (λ v. v.joined) entered.0 ∙ h.joined;
          one = ap (λ v. v.seats) entered.0 ∙ h.one;
          locks = locks_fit s old last (ap (λ w. w.plan) is ∙ (thread_same a b old new (Enter lock) e).plan) h.locks;
          rises = subst (RisesAfter []) (sym more) (rises_push [] (entered_in old.trace) (lock, place) h.rises (subst (IsPast lock place) own_is entered.1));
          few = omega (arith, count, used, kept, units, unit, few);
          known = lock_low;
        }

  -- ---- a section was left
  module _ (lock : ℕ) (e : Steps a b old new (Leave lock)) where
    held_so : held ≡ Some lock
    held_so = h.held_is ∙ sym (begun_on a e.begun old e.between e.begins).section ∙ e.gives.open_

    pub open_so : HasOpen lock (view_of seat)
    open_so = subst (λ o. HeldAs o (view_of seat)) held_so h.open_

    pub known_so : lock < locks_in s
    known_so = subst (λ o. IfSome o (λ lock. lock < locks_in s)) held_so h.known

    pub holding_left : (after : SectionSeat) → IsSeatOf s after → view_of after ≡ closed (view_of seat) → Holding s None after new
    holding_left after seat_of is =
        let seen : entered_in new.trace ≡ entered_in old.trace = sections_same a b old new (Leave lock) e in
        let count : length (entered_in new.trace) ≡ length (entered_in old.trace) = ap length seen in
        let units : e.between.units ≡ old.units = (begun_on a e.begun old e.between e.begins).units in
        let fewer = e.gives.fewer in let few = h.few in
        let inside : (view_of after).inside ≡ None = ap (λ v. v.inside) is in
        record {
          seat_of = seat_of;
          held_is = sym (ap (λ w. w.section) e.gives.new_is);
          open_ = inside;
          own = ap (closed_list (view_of after).own) inside ∙ ap (λ v. v.own) is ∙ h.own ∙ sym seen;
          joined = ap (λ v. v.joined) is ∙ h.joined;
          one = ap (λ v. v.seats) is ∙ h.one;
          locks = locks_fit s old new (thread_same a b old new (Leave lock) e).plan h.locks;
          rises = subst (RisesAfter []) (sym seen) h.rises;
          few = omega (arith, count, units, fewer, few);
          known = tt;
        }

  -- ---- the thread has ended
  pub keeps_ended : (end : End) → Steps a b old new (Ended end) → (after : SectionSeat) → IsSeatOf s after → view_of after ≡ closed (view_of seat) → KeepsSections s after new
  keeps_ended end e after seat_of is =
      let seen : entered_in new.trace ≡ entered_in old.trace = sections_same a b old new (Ended end) e in
      record {
        seat_of = seat_of;
        none_open = ap (λ v. v.inside) is;
        own = ap (λ v. v.own) is ∙ h.own ∙ sym seen;
        joined = ap (λ v. v.joined) is ∙ h.joined;
        one = ap (λ v. v.seats) is ∙ h.one;
        locks = locks_fit s old new (thread_same a b old new (Ended end) e).plan h.locks;
      }

  pub rises_ended : (end : End) → Steps a b old new (Ended end) → Rises new.trace
  rises_ended end e = subst (RisesAfter []) (sym (sections_same a b old new (Ended end) e)) h.rises

-- ---- the thread was stopped

module _ (s : Sections) (held : Option ℕ) (seat : SectionSeat) (old new : Standing) (h : Holding s held seat old) (is : new ≡ stopped_as old) where
  stopped_same : entered_in new.trace ≡ entered_in old.trace
  stopped_same = ap (λ w. entered_in w.trace) is ∙ after_end same_sections old.trace old.section Stopped

  pub keeps_stopped : (after : SectionSeat) → IsSeatOf s after → view_of after ≡ closed (view_of seat) → KeepsSections s after new
  keeps_stopped after seat_of closes = record {
    seat_of = seat_of;
    none_open = ap (λ v. v.inside) closes;
    own = ap (λ v. v.own) closes ∙ h.own ∙ sym stopped_same;
    joined = ap (λ v. v.joined) closes ∙ h.joined;
    one = ap (λ v. v.seats) closes ∙ h.one;
    locks = locks_fit s old new (ap (λ w. w.plan) is) h.locks;
  }

  pub rises_stopped : Rises new.trace
  rises_stopped = subst (RisesAfter []) (sym stopped_same) h.rises

-- a seat without an open section is as it would be with it closed
pub closed_none : (v : SeatView) → v.inside ≡ None → v ≡ closed v
closed_none v none = ap (λ o. record v { inside = o }) none ∙ sym (ap (λ o. record v { inside = None; own = closed_list v.own o }) none)

-- a sample that was noted
pub sections_noted : (old new : Standing) (sample : Sample) (k : ℕ) → new ≡ record old { owed = None; trace = old.trace ++ SampledItem sample k ∷ [] } → entered_in new.trace ≡ entered_in old.trace
sections_noted old new sample k is = ap (λ w. entered_in w.trace) is ∙ no_more entered_in section_in sections_snoc old.trace (SampledItem sample k) refl

-- ---- before the first thread starts

pub keeps_first : (s : Sections) (seat : SectionSeat) (w : Standing) → IsSeatOf s seat → view_of seat ≡ further_view → w.trace ≡ [] → length (locks_of w.plan.elements) ≤ locks_in s → KeepsSections s seat w
keeps_first s seat w seat_of is none locks = record {
  seat_of = seat_of;
  none_open = ap (λ v. v.inside) is;
  own = ap (λ v. v.own) is ∙ sym (ap entered_in none);
  joined = ap (λ v. v.joined) is;
  one = ap (λ v. v.seats) is;
  locks = locks;
}

pub rises_first : (w : Standing) → w.trace ≡ [] → Rises w.trace
rises_first w none = subst Rises (sym none) tt

pub first_more : (s : Sections) (n : ℕ) (old new : SectionSeat) → IsFirstSeat s n old → IsSeatOf s new → view_of new ≡ more_made (view_of old) → IsFirstSeat s (n + 1) new
first_more s n old new f seat_of is = record {
  seat_of = seat_of;
  made = ap (λ v. v.made) is ∙ ap (λ m. m + 1) f.made;
  one = ap (λ v. v.seats) is ∙ f.one;
  none_open = ap (λ v. v.inside) is ∙ f.none_open;
  own = ap (λ v. v.own) is ∙ f.own;
  joined = ap (λ v. v.joined) is ∙ f.joined;
}

-- ---- after the last has ended

all_snoc : (ts : List (List TraceItem)) (t : List TraceItem) → sections_of_all (ts ++ t ∷ []) ≡ sections_of_all ts ++ entered_in t ∷ []
all_snoc [] t = refl
all_snoc (x ∷ ts) t = ap (λ l. entered_in x ∷ l) (all_snoc ts t)

all_length : (ts : List (List TraceItem)) → length (sections_of_all ts) ≡ length ts
all_length [] = refl
all_length (x ∷ ts) = let l : length (sections_of_all ts) ≡ length ts = all_length ts in omega arith

pub taken_none : (s : Sections) (seat : SectionSeat) → IsSeatOf s seat → HasTaken s (view_of seat) [] seat
taken_none s seat seat_of = record {
  seat_of = seat_of;
  view = ap (λ n. record (view_of seat) { seats = n }) (let e : (view_of seat).seats ≡ (view_of seat).seats + 0 = omega arith in e)
      ∙ ap (λ l. record (view_of seat) { seats = (view_of seat).seats + 0; joined = l }) (sym (append-nil (view_of seat).joined));
}

-- one seat more was taken in
pub taken_more : (s t : Sections) (before : SeatView) (old new : List (List TraceItem)) (seat after_ gone : SectionSeat) (w : Standing) → HasTaken s before (sections_of_all old) seat → KeepsSections t gone w → IsSeatOf s after_
    → view_of after_ ≡ taking (view_of seat) (view_of gone) → new ≡ old ++ w.trace ∷ [] → HasTaken s before (sections_of_all new) after_
taken_more s t before old new seat after_ gone w h k seat_of is grown =
    let lists : sections_of_all new ≡ sections_of_all old ++ entered_in w.trace ∷ [] = ap sections_of_all grown ∙ all_snoc old w.trace in
    let many : length (sections_of_all new) ≡ length (sections_of_all old) + 1 = ap length lists ∙ length-append (sections_of_all old) (entered_in w.trace ∷ []) in
    let one = k.one in
    let seats : (view_of seat).seats ≡ before.seats + length (sections_of_all old) = ap (λ v. v.seats) h.view in
    let joined : (view_of seat).joined ≡ before.joined ++ sections_of_all old = ap (λ v. v.joined) h.view in
    let all : (view_of seat).seats + (view_of gone).seats ≡ before.seats + length (sections_of_all new) = omega (arith, many, one, seats) in
    let tail : (view_of gone).own ∷ (view_of gone).joined ≡ entered_in w.trace ∷ [] = ap (λ l. l ∷ (view_of gone).joined) k.own ∙ ap (λ l. entered_in w.trace ∷ l) k.joined in
    let whole : (view_of seat).joined ++ (view_of gone).own ∷ (view_of gone).joined ≡ before.joined ++ sections_of_all new =
    ap (λ l. (view_of seat).joined ++ l) tail ∙ ap (λ l. l ++ entered_in w.trace ∷ []) joined ∙ append_assoc before.joined (sections_of_all old) (entered_in w.trace ∷ []) ∙ ap (λ l. before.joined ++ l) (sym lists) in
    record {
      seat_of = seat_of;
      view = is ∙ ap (λ n. record (view_of seat) { seats = n; joined = (view_of seat).joined ++ (view_of gone).own ∷ (view_of gone).joined }) all
          ∙ ap (λ l. record (view_of seat) { seats = before.seats + length (sections_of_all new); joined = l }) whole
          ∙ ap (λ (v : SeatView). record v { seats = before.seats + length (sections_of_all new); joined = before.joined ++ sections_of_all new }) h.view;
    }

pub makes_still : (s : Sections) (before : SeatView) (lists : List (List Section)) (seat : SectionSeat) → HasTaken s before lists seat → 0 < before.made → 0 < (view_of seat).made
makes_still s before lists seat h some = let e : (view_of seat).made ≡ before.made = ap (λ v. v.made) h.view in omega (arith, e, some)

-- the first seat has taken in all others that were made, and with them the sections of these traces
pub record HasAllSeats (s : Sections) (seat : SectionSeat) (traces : List (List TraceItem)) : Type 0 where
  pub seat_of : IsSeatOf s seat
  pub first : 0 < (view_of seat).made
  pub all : (view_of seat).made ≡ (view_of seat).seats
  pub none_open : (view_of seat).inside ≡ None
  pub own : (view_of seat).own ≡ []
  pub joined : (view_of seat).joined ≡ sections_of_all traces

pub all_seats : (s : Sections) (count : ℕ) (before seat : SectionSeat) (traces : List (List TraceItem)) → IsFirstSeat s count before → HasTaken s (view_of before) (sections_of_all traces) seat → length traces ≡ count → HasAllSeats s seat traces
all_seats s count before seat traces f h many =
    let made : (view_of seat).made ≡ count + 1 = ap (λ v. v.made) h.view ∙ f.made in
    let seats : (view_of seat).seats ≡ 1 + length (sections_of_all traces) = ap (λ v. v.seats) h.view ∙ ap (λ n. n + length (sections_of_all traces)) f.one in
    let lists = all_length traces in
    record {
      seat_of = h.seat_of;
      first = omega (arith, made);
      all = omega (arith, made, seats, lists, many);
      none_open = ap (λ v. v.inside) h.view ∙ f.none_open;
      own = ap (λ v. v.own) h.view ∙ f.own;
      joined = ap (λ v. v.joined) h.view ∙ ap (λ l. l ++ sections_of_all traces) f.joined;
    }

-- an empty list more
no_times : (lock place : ℕ) (lists : List (List Section)) → total (times lock place) ([] ∷ lists) ≡ total (times lock place) lists
no_times lock place lists = let e : total (times lock place) ([] ∷ lists) ≡ total (times lock place) lists = omega arith in e

pub numbered_all : (s : Sections) (locks : ℕ) (seat : SectionSeat) (traces : List (List TraceItem)) (book : SectionBook) → HasAllSeats s seat traces → locks ≤ locks_in s
    → book_lists book ≡ (view_of seat).own ∷ (view_of seat).joined → ((lock : ℕ) → lock < locks_in s → (n : ℕ) × HasPlacesBelow lock n (book_lists book)) → AreNumbered locks traces
numbered_all s locks seat traces book h few lists numbered lock low =
    let n = numbered lock (omega (arith, low, few)) in
    let is : book_lists book ≡ [] ∷ sections_of_all traces = lists ∙ ap (λ l. l ∷ (view_of seat).joined) h.own ∙ ap (λ l. [] ∷ l) h.joined in
    (n.0, λ place. sym (no_times lock place (sections_of_all traces)) ∙ sym (ap (total (times lock place)) is) ∙ n.1 place)
