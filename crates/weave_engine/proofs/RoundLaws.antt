-- Rounds of turns.
use Rattle.std.proofs.Common.{◌≡◌, ◌⊎◌, inl, inr, ℕ, zero, suc, ◌+◌, ◌<◌, ◌≤◌, Bool, true, false, List, [], ◌∷◌, ◌++◌, length, set, get_or, take, refl, sym, ap, ◌∙◌, subst, arith}
use Rattle.std.specs.Prelude.{◌&&◌}
use Rattle.std.proofs.lemmas.List.{set-get_or, length-set, take_more, take_all, get_or_default}
use Rattle.phaser_core.specs.declared.view.Numbers.{Numbers}
use Rattle.phaser_core.specs.CoreShape.{Shape}
use Rattle.weave_engine.specs.declared.seat.Seat.{Seat}
use Rattle.weave_engine.specs.Steps.{Thread}
use Rattle.weave_engine.specs.Turns.{Weave, turns_to, has_no_step, has_settled, all_settled, owes_nothing, ends_rounds}
use Rattle.weave_engine.specs.Seats.{SeatIs, AreSeats, RunsOn, turns_left, is_nothing, is_settled, is_still, all_still, Lightens, TakesTurn, total_left, all_seats_settled, TakesRound}
use Rattle.weave_engine.proofs.SeatLaws.{going_on, none_to_come}
use Rattle.weave_engine.proofs.RowLaws.{nothing_same, Moves}

-- What is left of all threads

pub total_set : (xs : List Seat) (d : ℕ) (x e : Seat) → d < length xs → total_left (set xs d x) + turns_left (get_or xs d e) ≡ total_left xs + turns_left x
total_set [] d x e within = absurd (omega arith)
total_set (y ∷ ys) zero x e within = omega arith
total_set (y ∷ ys) (suc d) x e within = let h = total_set ys d x e (omega arith) in omega (arith, h)

-- a turn among all
record Stays (locks locks' : List ℕ) (old new : List Seat) (d : ℕ) : Type 0 where
  same : new ≡ old
  words : locks' ≡ locks
  still : (e : Seat) → d < length old → is_still locks (get_or old d e) ≡ true

one_turn : (locks locks' : List ℕ) (old new : List Seat) (d : ℕ) → TakesTurn locks locks' old new d → (total_left new < total_left old) ⊎ Stays locks locks' old new d
one_turn locks locks' old new d h = elim h [
  | inl p ↦ inr (record { same = p.1; words = p.2; still = λ e within. absurd (omega (arith, p.0, within)) })
  | inr q ↦ by_lighter q.0 q.1 q.2 q.3
] where
  by_lighter : (x : Seat) → d < length old → new ≡ set old d x → Lightens locks locks' (get_or old d x) x → (total_left new < total_left old) ⊎ Stays locks locks' old new d
  by_lighter x within is l = elim l [
    | inl less ↦ inl (let sum = total_set old d x x within in let now = ap total_left is in omega (arith, less, sum, now))
    | inr s ↦ inr (record {
      same = is ∙ ap (set old d) s.1 ∙ set-get_or old d x;
      words = s.2;
      still = λ e w. ap (is_still locks) (get_or_default old d e x within) ∙ s.0;
    })
  ]

still_more : (locks : List ℕ) (xs : List Seat) (x : Seat) → all_still locks xs ≡ true → is_still locks x ≡ true → all_still locks (xs ++ x ∷ []) ≡ true
still_more locks [] x all one = ap (λ b. b && true) one
still_more locks (y ∷ ys) x all one = both (is_still locks y) (all_still locks ys) (all_still locks (ys ++ x ∷ [])) all (λ h. still_more locks ys x h one) where
  both : (a b c : Bool) → (a && b) ≡ true → (b ≡ true → c ≡ true) → (a && c) ≡ true
  both true b c h go = go h
  both false b c h go = h

-- so far: a turn was taken, or nothing has changed and the first threads are still
abbrev pub SoFar : List ℕ → List ℕ → List Seat → List Seat → ℕ → Type 0
SoFar locks locks' old now i = (total_left now < total_left old) ⊎ ((all_still locks (take i old) ≡ true) × (now ≡ old) × (locks' ≡ locks))

pub so_far_none : (locks : List ℕ) (old : List Seat) → SoFar locks locks old old 0
so_far_none locks old = inr (refl, refl, refl)

so_far_by : (first locks locks' : List ℕ) (old now new : List Seat) (i : ℕ) (e : Seat) → i < length old → SoFar first locks old now i → TakesTurn locks locks' now new i → SoFar first locks' old new (i + 1)
so_far_by first locks locks' old now new i e within h turn = elim h [
  | inl less ↦ elim (one_turn locks locks' now new i turn) [
    | inl lesser ↦ inl (omega (arith, less, lesser))
    | inr s ↦ inl (let same = ap total_left s.same in omega (arith, less, same))
  ]
  | inr p ↦ elim (one_turn locks locks' now new i turn) [
    | inl lesser ↦ inl (let same = ap total_left p.1 in omega (arith, lesser, same))
    | inr s ↦ inr (
      ap (all_still first) (take_more old i e within) ∙ still_more first (take i old) (get_or old i e) p.0
          (subst (λ ws. is_still ws (get_or old i e) ≡ true) p.2
          (subst (λ xs. (i < length xs) → is_still locks (get_or xs i e) ≡ true) p.1 (s.still e) within)),
      s.same ∙ p.1,
      s.words ∙ p.2,
    )
  ]
]

some_item : {A : Type 0} (xs : List A) → 0 < length xs → A
some_item [] some = absurd (omega (arith, some))
some_item (x ∷ xs) some = x

pub so_far_more : (first locks locks' : List ℕ) (old now new : List Seat) (i : ℕ) → i < length old → SoFar first locks old now i → TakesTurn locks locks' now new i → SoFar first locks' old new (i + 1)
so_far_more first locks locks' old now new i within h turn = so_far_by first locks locks' old now new i (some_item old (omega (arith, within))) within h turn

pub so_far_all : (locks locks' : List ℕ) (old new : List Seat) (i : ℕ) → length old ≤ i → (all_still locks old ≡ true → all_seats_settled old ≡ true) → SoFar locks locks' old new i → TakesRound old new
so_far_all locks locks' old new i all settle h = elim h [
  | inl less ↦ inl less
  | inr p ↦ inr (settle (ap (all_still locks) (sym (take_all i old all)) ∙ p.0), p.1)
]

pub length_turn : (locks locks' : List ℕ) (old new : List Seat) (d : ℕ) → TakesTurn locks locks' old new d → length new ≡ length old
length_turn locks locks' old new d h = elim h [
  | inl p ↦ ap length p.1
  | inr q ↦ ap length q.2 ∙ length-set old d q.0
]

-- Settled threads

settled_same : (x : Seat) (t : Thread) → SeatIs x t → has_settled t ≡ is_settled x
settled_same x t is = by_end x.ended refl where
  by_end : (b : Bool) → x.ended ≡ b → has_settled t ≡ is_settled x
  by_end true ended = ap (λ l. has_no_step l && owes_nothing t.owed) (none_to_come x t is ended) ∙ nothing_same x.owed x.worker t.owed is.owed ∙ sym (ap (λ b. b && is_nothing x.owed) ended)
  by_end false going = ap (λ l. has_no_step l && owes_nothing t.owed) (going_on x t is going).2 ∙ sym (ap (λ b. b && is_nothing x.owed) going)

all_same : (i : ℕ) (xs : List Seat) (ts : List Thread) → AreSeats i xs ts → all_settled ts ≡ all_seats_settled xs
all_same i [] [] are = refl
all_same i [] (t ∷ ts) are = absurd are
all_same i (x ∷ xs) [] are = absurd are
all_same i (x ∷ xs) (t ∷ ts) are = ap (λ b. b && all_settled ts) (settled_same x t are.0) ∙ ap (λ b. is_settled x && b) (all_same (i + 1) xs ts are.2)

pub round_moves : (n : Numbers) (count : ℕ) (seats new : List Seat) (core after : Shape) (locks locks' : List ℕ) (b : Bool)
    → ((s : Weave) → RunsOn n seats core locks s → RunsOn n new after locks' (turns_to n count s))
    → b ≡ all_seats_settled new → Moves (turns_to n count) (ends_rounds n count) (RunsOn n seats core locks) (RunsOn n new after locks') b
round_moves n count seats new core after locks locks' b turned is = record {
  runs = turned;
  last_is = λ u runs. all_same 0 new (turns_to n count u).threads (turned u runs).runs.threads ∙ sym is;
}

pub round_lightens : (old new : List Seat) → TakesRound old new → all_seats_settled new ≡ false → total_left new < total_left old
round_lightens old new h going = elim h [
  | inl less ↦ less
  | inr p ↦ absurd (let e : true ≡ false = sym (ap all_seats_settled p.1 ∙ p.0) ∙ going in cc)
]
