-- Turns in a row.
use Rattle.std.proofs.Common.{◌≡◌, ◌⊎◌, inl, inr, ℕ, zero, suc, ◌+◌, ◌<◌, ◌≤◌, Bool, true, false, List, [], ◌∷◌, Some, None, length, set, get_or, refl, sym, ap, subst, ◌∙◌, arith}
use Rattle.std.specs.Prelude.{◌||◌, ◌&&◌, slice_get}
use Rattle.std.proofs.lemmas.List.{get_or-set_same, length-set}
use Rattle.std.proofs.lemmas.Option.{slice_get-get_or, slice_get_past}
use Rattle.thread_machine.specs.Standing.{Standing}
use Rattle.phaser_core.specs.declared.view.Numbers.{Numbers}
use Rattle.phaser_core.specs.CoreShape.{Shape}
use Rattle.weave_engine.specs.declared.seat.Owed.{Owed as OwedBy}
use Rattle.weave_engine.specs.declared.seat.Owed.TheVariants as by
use Rattle.weave_engine.specs.declared.seat.Seat.{Seat}
use Rattle.weave_engine.specs.Repeats.{Repeats, ends, goes_on}
use Rattle.weave_engine.specs.Steps.{Owed, Thread}
use Rattle.weave_engine.specs.Turns.{Weave, thread_turn, ends_row, reporter_turn, owes_nothing, is_free, finds_busy, is_busy}
use Rattle.weave_engine.specs.Seats.{OwesSame, SeatIs, AreSeats, Runs, RunsOn, turns_left, turns_of, turns_at, is_nothing, is_settled, is_free_seat, is_free_at, is_blocked, is_blocked_seat, is_blocked_at, Lightens, TakesTurn}

-- The item that a lookup found, or that it found none

pub found_there : {X : Type 0} (xs ys : List X) (i j : ℕ) (x : X) → xs ≡ ys → i ≡ j → i < length xs → x ≡ get_or xs i x → slice_get ys j ≡ Some x
found_there xs ys i j x same at within is =
    subst (λ l. slice_get l j ≡ Some x) same (subst (λ k. slice_get xs k ≡ Some x) at (slice_get-get_or xs i x within ∙ ap Some (sym is)))

pub missed_there : {X : Type 0} (xs ys : List X) (i j : ℕ) → xs ≡ ys → i ≡ j → length xs ≤ i → slice_get ys j ≡ None
missed_there xs ys i j same at past = subst (λ l. slice_get l j ≡ None) same (subst (λ k. slice_get xs k ≡ None) at (slice_get_past xs i past))

-- What a row keeps

-- Continues moves that were none of them the last: whatever row begins where the one holds, has begun where the other did.
abbrev pub Continues : (Weave → Weave) → (Weave → Bool) → (Weave → Type 0) → (Weave → Type 0) → Type 0
Continues move last First Now = (s : Weave) → First s → (u : Weave) × Now u × ((t : Weave) → Repeats move last u t → Repeats move last s t)

-- a move is made, and is it the last
pub record Moves (move : Weave → Weave) (last : Weave → Bool) (Now After : Weave → Type 0) (is_last : Bool) : Type 0 where
  pub runs : (u : Weave) → Now u → After (move u)
  pub last_is : (u : Weave) → Now u → last u ≡ is_last

module _ (move : Weave → Weave) (last : Weave → Bool) (First : Weave → Type 0) where
  pub continues_none : Continues move last First First
  continues_none = λ s runs. (s, runs, λ t row. row)

  pub continues_more : (Now After : Weave → Type 0) → Continues move last First Now → Moves move last Now After false → Continues move last First After
  continues_more Now After so_far m = λ s runs.
      let u = so_far s runs in
      (move u.0, m.runs u.0 u.1, λ t row. u.2 t (goes_on (m.last_is u.0 u.1) row))

  pub row_of : (Now After : Weave → Type 0) → Continues move last First Now → Moves move last Now After true → (s : Weave) → First s → (t : Weave) × Repeats move last s t × After t
  row_of Now After so_far m = λ s runs.
      let u = so_far s runs in
      (move u.0, u.2 (move u.0) (ends (m.last_is u.0 u.1)), m.runs u.0 u.1)

-- A thread's row

-- the seat and the thread of a number
abbrev pub SameAt : List Seat → List Thread → ℕ → Type 0
SameAt xs ts k = ((slice_get xs k ≡ None) × (slice_get ts k ≡ None)) ⊎ ((x : Seat) × (t : Thread) × (slice_get xs k ≡ Some x) × (slice_get ts k ≡ Some t) × SeatIs x t)

pub same_at : (i : ℕ) (xs : List Seat) (ts : List Thread) (k : ℕ) → AreSeats i xs ts → SameAt xs ts k
same_at i [] [] k are = inl (slice_get_past [] k (omega arith), slice_get_past [] k (omega arith))
same_at i [] (t ∷ ts) k are = absurd are
same_at i (x ∷ xs) [] k are = absurd are
same_at i (x ∷ xs) (t ∷ ts) zero are = inr (x, t, refl, refl, are.0)
same_at i (x ∷ xs) (t ∷ ts) (suc k) are = same_at (i + 1) xs ts k are.2

pub nothing_same : (o : OwedBy) (worker : Standing) (owed : Owed) → OwesSame o worker owed → owes_nothing owed ≡ is_nothing o
nothing_same by.Nothing worker owed h = ap owes_nothing h.2
nothing_same (by.Record entry done interval) worker owed h = ap owes_nothing h.left
nothing_same (by.Enter lock) worker owed h = ap owes_nothing h.left
nothing_same by.Stop worker owed h = ap owes_nothing h.2

busy_same : (o : OwedBy) (worker : Standing) (owed : Owed) (locks : List ℕ) → OwesSame o worker owed → finds_busy owed locks ≡ is_blocked locks o
busy_same by.Nothing worker owed locks h = ap (λ o. finds_busy o locks) h.2
busy_same (by.Record entry done interval) worker owed locks h = ap (λ o. finds_busy o locks) h.left
busy_same (by.Enter lock) worker owed locks h = ap (λ o. finds_busy o locks) h.left
busy_same by.Stop worker owed locks h = ap (λ o. finds_busy o locks) h.2

module _ (n : Numbers) (seats : List Seat) (core : Shape) (s : Weave) (runs : Runs n seats core s) (d : ℕ) where
  pub free_is : is_free (slice_get s.threads d) ≡ is_free_at seats d
  free_is = elim (same_at 0 seats s.threads d runs.threads) [
    | inl h ↦ ap is_free h.1 ∙ sym (ap is_free_seat h.0)
    | inr h ↦ ap is_free h.3 ∙ nothing_same h.0.owed h.0.worker h.1.owed h.4.owed ∙ sym (ap is_free_seat h.2)
  ]

  pub busy_is : is_busy (slice_get s.threads d) s.locks ≡ is_blocked_at seats s.locks d
  busy_is = elim (same_at 0 seats s.threads d runs.threads) [
    | inl h ↦ ap (λ o. is_busy o s.locks) h.1 ∙ sym (ap (is_blocked_seat s.locks) h.0)
    | inr h ↦ ap (λ o. is_busy o s.locks) h.3 ∙ busy_same h.0.owed h.0.worker h.1.owed s.locks h.4.owed ∙ sym (ap (is_blocked_seat s.locks) h.2)
  ]

-- a turn of a row is the last where the thread owes nothing after it, or was blocked before it
pub row_moves : (n : Numbers) (d : ℕ) (seats new : List Seat) (core after : Shape) (locks locks' : List ℕ) (last : Bool)
    → ((n : Numbers) (s : Weave) → RunsOn n seats core locks s → RunsOn n new after locks' (thread_turn n d s))
    → last ≡ (is_free_at new d || is_blocked_at seats locks d) → Moves (thread_turn n d) (ends_row n d) (RunsOn n seats core locks) (RunsOn n new after locks') last
row_moves n d seats new core after locks locks' last turned is = record {
  runs = turned n;
  last_is = λ u runs.
      ap (λ b. b || is_busy (slice_get u.threads d) u.locks) (free_is n new after (thread_turn n d u) (turned n u runs).runs d)
      ∙ ap (λ b. is_free_at new d || b) (busy_is n seats core u runs.runs d ∙ ap (λ ws. is_blocked_at seats ws d) runs.words) ∙ sym is;
}

free_true : (x : Seat) → is_settled x ≡ true → is_nothing x.owed ≡ true
free_true x h = both x.ended (is_nothing x.owed) h where
  both : (a b : Bool) → (a && b) ≡ true → b ≡ true
  both true b h = h
  both false b h = absurd (cc)

neither : (a b : Bool) → (a || b) ≡ false → (a ≡ false) × (b ≡ false)
neither true b h = absurd (cc)
neither false b h = (refl, h)

pub either : (a b : Bool) → (a || b) ≡ true → (a ≡ true) ⊎ (b ≡ true)
either true b h = inl refl
either false b h = inr h

-- a turn after which the row goes on has taken one of those that were left
pub row_lightens : (locks locks' : List ℕ) (old new : List Seat) (d : ℕ) → TakesTurn locks locks' old new d → (is_free_at new d || is_blocked_at old locks d) ≡ false → turns_at new d < turns_at old d
row_lightens locks locks' old new d h goes_on_ = elim h [
  | inl p ↦ absurd (let none : is_free_at new d ≡ true = ap (λ xs. is_free_at xs d) p.1 ∙ ap is_free_seat (slice_get_past old d (omega (arith, p.0))) in let e : true ≡ false = sym none ∙ owes in cc)
  | inr q ↦
      let x = q.0 in
      let here : slice_get old d ≡ Some (get_or old d x) = slice_get-get_or old d x q.1 in
      let old_is : turns_at old d ≡ turns_left (get_or old d x) = ap turns_of here in
      let long : length (set old d x) ≡ length old = length-set old d x in
      let there : slice_get (set old d x) d ≡ Some x = slice_get-get_or (set old d x) d x (omega (arith, long, q.1)) ∙ ap Some (get_or-set_same old d x x q.1) in
      let new_is : turns_at new d ≡ turns_left x = ap (λ xs. turns_at xs d) q.2 ∙ ap turns_of there in
      let free : is_free_at new d ≡ is_nothing x.owed = ap (λ xs. is_free_at xs d) q.2 ∙ ap is_free_seat there in
      let open_ : is_blocked_at old locks d ≡ is_blocked locks (get_or old d x).owed = ap (is_blocked_seat locks) here in
      by_lighter x (get_or old d x) old_is new_is (sym free ∙ owes) (sym open_ ∙ unblocked) q.3
] where
  owes : is_free_at new d ≡ false
  owes = (neither (is_free_at new d) (is_blocked_at old locks d) goes_on_).0

  unblocked : is_blocked_at old locks d ≡ false
  unblocked = (neither (is_free_at new d) (is_blocked_at old locks d) goes_on_).1

  by_lighter : (x y : Seat) → turns_at old d ≡ turns_left y → turns_at new d ≡ turns_left x → is_nothing x.owed ≡ false → is_blocked locks y.owed ≡ false → Lightens locks locks' y x → turns_at new d < turns_at old d
  by_lighter x y was now some open_ l = elim l [
    | inl less ↦ omega (arith, was, now, less)
    | inr s ↦ elim (either (is_settled y) (is_blocked locks y.owed) s.0) [
      | inl settled ↦ absurd (let done : is_nothing x.owed ≡ true = ap (λ z. is_nothing z.owed) s.1 ∙ free_true y settled in let e : true ≡ false = sym done ∙ some in cc)
      | inr stuck ↦ absurd (let e : true ≡ false = sym stuck ∙ open_ in cc)
    ]
  ]

-- turns of the reporter leave the words of the locks
pub words_stay : (n : Numbers) (last : Weave → Bool) (s t : Weave) → Repeats (reporter_turn n) last s t → t.locks ≡ s.locks
words_stay n last s _ (ends is) = refl
words_stay n last s t (goes_on is row) = words_stay n last (reporter_turn n s) t row
