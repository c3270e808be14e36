-- The words of the locks at a turn.
use Rattle.std.proofs.Common.{◌≡◌, inl, inr, ℕ, zero, suc, ◌+◌, ◌*◌, ◌<◌, ◌≤◌, Bool, true, false, List, [], ◌∷◌, Option, Some, None, length, set, get_or, refl, sym, ap, ◌∙◌, subst, arith}
use Rattle.std.specs.Prelude.{◌&&◌, slice_get, slice_index, replicate, option_map}
use Rattle.std.proofs.lemmas.List.{map-set, set-get_or, length-set, length-replicate}
use Rattle.std.proofs.lemmas.Option.{slice_get-get_or, slice_get_past, slice_get-map}
use Rattle.phaser_core.specs.Cells.{is_odd}
use Rattle.element_tree.specs.Tree.{Tree}
use Rattle.element_tree.specs.Names.{locks_of}
use Rattle.weave_engine.specs.declared.seat.Owed.{Owed as OwedBy}
use Rattle.weave_engine.specs.declared.seat.Owed.TheVariants as by
use Rattle.weave_engine.specs.declared.seat.Seat.{Seat}
use Rattle.weave_engine.specs.Steps.{Thread}
use Rattle.weave_engine.specs.Turns.{lock_left}
use Rattle.weave_engine.specs.Exclusive.{Exclusive}
use Rattle.weave_engine.specs.Seats.{SeatIs, AreSeats, MovesOne, StepSections, IsSameThread, HasWords, Locked, Lightens, opens_of, turns_left, owed_left, section_left, total_left, is_settled, is_blocked, is_still, all_still, all_seats_settled, IsFresh, AllFresh}
use Rattle.weave_engine.proofs.Exclusion.{enters, leaves, none_open, zero_at}
use Rattle.weave_engine.proofs.SeatLaws.{enters_by}
use Rattle.weave_engine.proofs.TurnLaws.{set_at, no_item}
use Rattle.weave_engine.proofs.RowLaws.{same_at, either}
use Rattle.weave_engine.proofs.RoundLaws.{total_set}

-- what one of the threads can still take is within what all can
turns_within : (xs : List Seat) (d : ℕ) (e : Seat) → d < length xs → turns_left (get_or xs d e) ≤ total_left xs
turns_within [] d e within = absurd (omega (arith, within))
turns_within (x ∷ xs) zero e within = omega arith
turns_within (x ∷ xs) (suc d) e within = let h = turns_within xs d e (omega (arith, within)) in omega (arith, h)

pub words_for : (seats : List Seat) (locks : List ℕ) (d : ℕ) (seat : Seat) → d < length seats → seat ≡ get_or seats d seat → Locked seats locks → HasWords seat locks
words_for seats locks d seat within is locked =
    let there : slice_get seats d ≡ Some seat = slice_get-get_or seats d seat within ∙ ap Some (sym is) in
    let mine : turns_left seat ≤ total_left seats = subst (λ x. turns_left x ≤ total_left seats) (sym is) (turns_within seats d seat within) in
    record {
      count = locked.count d seat there;
      light = λ lock. (let h = locked.light lock in omega (arith, h, mine));
    }

-- a word goes up by one at most
raised : (locks : List ℕ) (lock l : ℕ) → get_or (set locks lock (get_or locks lock 0 + 1)) l 0 ≤ get_or locks l 0 + 1
raised [] lock l = omega arith
raised (w ∷ ws) zero zero = omega arith
raised (w ∷ ws) zero (suc l) = omega arith
raised (w ∷ ws) (suc lock) zero = omega arith
raised (w ∷ ws) (suc lock) (suc l) = raised ws lock l

moved_words : (old new : Option ℕ) (locks locks' : List ℕ) (l : ℕ) → MovesOne old new locks locks' → (slice_index locks' l ≤ slice_index locks l + 1) × (length locks' ≡ length locks)
moved_words old new locks locks' l h = elim h [
  | inl p ↦ ((let same = ap (λ ws. slice_index ws l) p.1 in omega (arith, same)), ap length p.1)
  | inr more ↦ elim more [
    | inl e ↦ (
      (let same = ap (λ ws. slice_index ws l) e.5 in let most = raised locks e.0 l in omega (arith, same, most)),
      ap length e.5 ∙ length-set locks e.0 (get_or locks e.0 0 + 1),
    )
    | inr q ↦ (
      (let same = ap (λ ws. slice_index ws l) q.3 in let most = raised locks q.0 l in omega (arith, same, most)),
      ap length q.3 ∙ length-set locks q.0 (get_or locks q.0 0 + 1),
    )
  ]
]

-- a step, or a stop, that leaves this section, if any
pub left_moves : (old new : Seat) (left : Option ℕ) (locks : List ℕ) → StepSections old new left → MovesOne old.worker.section new.worker.section locks (lock_left left locks)
left_moves old new None locks h = inl (h, refl)
left_moves old new (Some lock) locks h = inr (inr (lock, h.0, h.1, refl))

module _ (seats : List Seat) (locks locks' : List ℕ) (d : ℕ) (old new : Seat) (within : d < length seats) (is : old ≡ get_or seats d old) (locked : Locked seats locks)
    (moves : MovesOne old.worker.section new.worker.section locks locks') (same : IsSameThread old new) (lighter : Lightens locks locks' old new) where
  there : slice_get seats d ≡ Some old
  there = slice_get-get_or seats d old within ∙ ap Some (sym is)

  open_there : slice_get (opens_of seats) d ≡ Some old.worker.section
  open_there = slice_get-map (λ (x : Seat). x.worker.section) seats d ∙ ap (option_map (λ (x : Seat). x.worker.section)) there

  opens_set : opens_of (set seats d new) ≡ set (opens_of seats) d new.worker.section
  opens_set = map-set (λ (x : Seat). x.worker.section) seats d new

  set_self : (xs : List (Option ℕ)) (k : ℕ) (o : Option ℕ) → slice_get xs k ≡ Some o → set xs k o ≡ xs
  set_self [] k o h = refl
  set_self (x ∷ xs) zero o h = (let e : Some x ≡ Some o = h in ap (λ y. y ∷ xs) (sym (one e))) where
    one : {a b : Option ℕ} → Some a ≡ Some b → a ≡ b
    one h = cc
  set_self (x ∷ xs) (suc k) o h = ap (λ ys. x ∷ ys) (set_self xs k o h)

  exclusive : Exclusive (set (opens_of seats) d new.worker.section) locks'
  exclusive = elim moves [
    | inl p ↦ subst (Exclusive (set (opens_of seats) d new.worker.section)) (sym p.1)
        (subst (λ os. Exclusive os locks) (sym (ap (set (opens_of seats) d) p.0 ∙ set_self (opens_of seats) d old.worker.section open_there)) locked.exclusive)
    | inr more ↦ elim more [
      | inl e ↦ subst (Exclusive (set (opens_of seats) d new.worker.section)) (sym e.5)
          (subst (λ o. Exclusive (set (opens_of seats) d o) (lock_left (Some e.0) locks)) (sym e.2)
          (enters (opens_of seats) locks locked.exclusive d e.0 (open_there ∙ ap Some e.1) e.3 e.4))
      | inr q ↦ subst (Exclusive (set (opens_of seats) d new.worker.section)) (sym q.3)
          (subst (λ o. Exclusive (set (opens_of seats) d o) (lock_left (Some q.0) locks)) (sym q.2)
          (leaves (opens_of seats) locks locked.exclusive d q.0 (open_there ∙ ap Some q.1)))
    ]
  ]

  counts : (k : ℕ) (x : Seat) → slice_get (set seats d new) k ≡ Some x → length locks' ≡ length (locks_of x.worker.plan.elements)
  counts k x at = elim (set_at seats d k new x at) [
    | inl p ↦ (moved_words old.worker.section new.worker.section locks locks' 0 moves).1 ∙ locked.count d old there
        ∙ ap (λ (p : Tree). length (locks_of p.elements)) (sym same.plan) ∙ ap (λ (y : Seat). length (locks_of y.worker.plan.elements)) (sym p.1)
    | inr q ↦ (moved_words old.worker.section new.worker.section locks locks' 0 moves).1 ∙ locked.count k x q.1
  ]

  light : (l : ℕ) → slice_index locks' l + total_left (set seats d new) ≤ 4294967295
  light l = elim lighter [
    | inl less ↦
        (let sum = total_set seats d new old within in
        let mine : turns_left (get_or seats d old) ≡ turns_left old = ap turns_left (sym is) in
        let most = (moved_words old.worker.section new.worker.section locks locks' l moves).0 in
        let was = locked.light l in
        omega (arith, less, sum, mine, most, was))
    | inr s ↦
        (let words = ap (λ ws. slice_index ws l) s.2 in
        let seats_are : total_left (set seats d new) ≡ total_left seats = ap (λ x. total_left (set seats d x)) (s.1 ∙ is) ∙ ap total_left (set-get_or seats d old) in
        let was = locked.light l in
        omega (arith, words, seats_are, was))
  ]

  pub turn_locked : Locked (set seats d new) locks'
  turn_locked = record {
    exclusive = subst (λ os. Exclusive os locks') (sym opens_set) exclusive;
    count = counts;
    light = light;
  }

-- Where all threads are still, all have settled: a word is odd only while a thread has the section open, and that thread is not still.

blocked_enters : (locks : List ℕ) (o : OwedBy) → is_blocked locks o ≡ true → (l : ℕ) × (o ≡ by.Enter l) × (is_odd (slice_index locks l) ≡ true)
blocked_enters locks by.Nothing h = absurd (cc)
blocked_enters locks (by.Record entry done interval) h = absurd (cc)
blocked_enters locks (by.Enter l) h = (l, refl, h)
blocked_enters locks by.Stop h = absurd (cc)

two : (a b : Bool) → (a && b) ≡ true → (a ≡ true) × (b ≡ true)
two true b h = (refl, h)
two false b h = absurd (cc)

seat_same : {a b : Seat} → Some a ≡ Some b → a ≡ b
seat_same h = cc

still_at : (locks : List ℕ) (xs : List Seat) (k : ℕ) (x : Seat) → all_still locks xs ≡ true → slice_get xs k ≡ Some x → is_still locks x ≡ true
still_at locks [] k x h at = absurd (no_item k x at)
still_at locks (y ∷ ys) zero x h at = ap (is_still locks) (sym (seat_same at)) ∙ (two (is_still locks y) (all_still locks ys) h).0
still_at locks (y ∷ ys) (suc k) x h at = still_at locks ys k x (two (is_still locks y) (all_still locks ys) h).1 at

seat_of : (xs : List Seat) (ts : List Thread) (k : ℕ) (x : Seat) → AreSeats 0 xs ts → slice_get xs k ≡ Some x → (t : Thread) × SeatIs x t
seat_of xs ts k x are at = elim (same_at 0 xs ts k are) [
  | inl h ↦ absurd (let e : None ≡ Some x = sym h.0 ∙ at in cc)
  | inr h ↦ (h.1, subst (λ y. SeatIs y h.1) (seat_same (sym h.2 ∙ at)) h.4)
]

-- a thread that is still has no section open
none_at : (locks : List ℕ) (x : Seat) (t : Thread) → SeatIs x t → is_still locks x ≡ true → x.worker.section ≡ None
none_at locks x t is still = elim (either (is_settled x) (is_blocked locks x.owed) still) [
  | inl settled ↦ is.at_end (two x.ended _ settled).0
  | inr stuck ↦ (let b = blocked_enters locks x.owed stuck in (enters_by x t b.0 is b.1).none_open)
]

open_at : (xs : List Seat) (k l : ℕ) → slice_get (opens_of xs) k ≡ Some (Some l) → (x : Seat) × (slice_get xs k ≡ Some x) × (x.worker.section ≡ Some l)
open_at [] k l h = absurd (let e : None ≡ Some (Some l) = sym (slice_get_past {X = Option ℕ} [] k (omega arith)) ∙ h in cc)
open_at (x ∷ xs) zero l h = (x, refl, one h) where
  one : {a b : Option ℕ} → Some a ≡ Some b → a ≡ b
  one h = cc
open_at (x ∷ xs) (suc k) l h = open_at xs k l h

settle_one : (seats : List Seat) (ts : List Thread) (locks : List ℕ) (x : Seat) → AreSeats 0 seats ts → Locked seats locks → all_still locks seats ≡ true → is_still locks x ≡ true → is_settled x ≡ true
settle_one seats ts locks x are locked all still = elim (either (is_settled x) (is_blocked locks x.owed) still) [
  | inl settled ↦ settled
  | inr stuck ↦
      let b = blocked_enters locks x.owed stuck in
      let o = locked.exclusive.opened b.0 b.2 in
      let y = open_at seats o.0 b.0 o.1 in
      let t = seat_of seats ts o.0 y.0 are y.1 in
      let none = none_at locks y.0 t.0 t.1 (still_at locks seats o.0 y.0 all y.1) in
      absurd (let e : None ≡ Some b.0 = sym none ∙ y.2 in cc)
]

pub all_settle : (seats : List Seat) (ts : List Thread) (locks : List ℕ) → AreSeats 0 seats ts → Locked seats locks → all_still locks seats ≡ true → all_seats_settled seats ≡ true
all_settle seats ts locks are locked all = by_each seats all where
  both : (a b : Bool) → a ≡ true → b ≡ true → (a && b) ≡ true
  both true b h k = k
  both false b h k = absurd (cc)

  by_each : (xs : List Seat) → all_still locks xs ≡ true → all_seats_settled xs ≡ true
  by_each [] h = refl
  by_each (x ∷ xs) h =
      let p = two (is_still locks x) (all_still locks xs) h in
      both (is_settled x) (all_seats_settled xs) (settle_one seats ts locks x are locked all p.0) (by_each xs p.1)

-- before the first turn

fresh_opens : (plan : Tree) (budget : ℕ) (xs : List Seat) → AllFresh plan budget xs → (k : ℕ) (o : Option ℕ) → slice_get (opens_of xs) k ≡ Some o → o ≡ None
fresh_opens plan budget [] fresh k o h = absurd (let e : None ≡ Some o = sym (slice_get_past {X = Option ℕ} [] k (omega arith)) ∙ h in cc)
fresh_opens plan budget (x ∷ xs) fresh zero o h = one h ∙ (fresh 0 x refl).none_open where
  one : {a b : Option ℕ} → Some a ≡ Some b → b ≡ a
  one h = cc
fresh_opens plan budget (x ∷ xs) fresh (suc k) o h = fresh_opens plan budget xs (λ k y at. fresh (suc k) y at) k o h

fresh_turns : (plan : Tree) (budget : ℕ) (x : Seat) → IsFresh plan budget x → turns_left x ≡ 12 * budget + 12
fresh_turns plan budget x f =
    let one : turns_left x ≡ 12 * x.worker.units + 12 + owed_left x.owed + section_left x.worker.section = going x f.goes_on in
    let owed : owed_left x.owed ≡ 0 = ap owed_left f.owes_nothing in
    let open_ : section_left x.worker.section ≡ 0 = ap section_left f.none_open in
    let units = f.units in
    omega (arith, one, owed, open_, units) where
      going : (x : Seat) → x.ended ≡ false → turns_left x ≡ 12 * x.worker.units + 12 + owed_left x.owed + section_left x.worker.section
      going x is = rw is refl

fresh_total : (plan : Tree) (budget : ℕ) (xs : List Seat) → AllFresh plan budget xs → total_left xs ≡ length xs * (12 * budget + 12)
fresh_total plan budget [] fresh = omega arith
fresh_total plan budget (x ∷ xs) fresh =
    let one = fresh_turns plan budget x (fresh 0 x refl) in
    let others = fresh_total plan budget xs (λ k y at. fresh (suc k) y at) in
    let more : suc (length xs) * (12 * budget + 12) ≡ length xs * (12 * budget + 12) + (12 * budget + 12) = grind (arith) in
    omega (arith, one, others, more)

long_words : (count : ℕ) → length (replicate {A = ℕ} count 0) ≡ count
long_words count = length-replicate count 0

little : (count budget : ℕ) → count ≤ 64 → count * budget ≤ 4194304 → count * (12 * budget + 12) ≤ 4294967295
little count budget few less =
    let apart : count * (12 * budget + 12) ≡ 12 * (count * budget) + 12 * count = grind (arith) in
    omega (arith, apart, few, less)

pub start_locked : (plan : Tree) (budget : ℕ) (seats : List Seat) (count : ℕ) → AllFresh plan budget seats → count ≡ length (locks_of plan.elements) → length seats ≤ 64 → length seats * budget ≤ 4194304
    → Locked seats (replicate count 0)
start_locked plan budget seats count fresh is few less = record {
  exclusive = none_open (opens_of seats) count (fresh_opens plan budget seats fresh);
  count = λ k x at. long_words count ∙ is ∙ ap (λ (p : Tree). length (locks_of p.elements)) (sym (fresh k x at).plan_is);
  light = λ l.
      (let none = zero_at count l in
      let total = fresh_total plan budget seats fresh in
      let most = little (length seats) budget few less in
      omega (arith, none, total, most));
}
