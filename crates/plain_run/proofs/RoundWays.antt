-- How a thread comes through rounds.
use Rattle.std.proofs.Common.{◌≡◌, ℕ, zero, suc, ◌+◌, ◌-◌, ◌≤◌, ◌<◌, [], Some, None, refl, arith}
use Rattle.jm_base.specs.declared.types.End.TheVariants.{ValueLimit as PastValueLimit}
use Rattle.jm_base.specs.Run.{over}
use Rattle.jm_base.specs.Outside.{Account, Goes}
use Rattle.jm_meaning.specs.declared.signal.Signal.{Signal}
use Rattle.jm_meaning.specs.declared.signal.Signal.TheVariants.{Normal, Stop}
use Rattle.jm_meaning.specs.State.{State, Part, normal, on_normal, on_came, and_then, taking_round, with_round, fine, past_limit}
use Rattle.jm_meaning.specs.Beginning.{max_rounds}
use Rattle.jm_meaning.specs.Rounds.{Turns, where_begun, rounds}
use Rattle.jm_meaning.proofs.PartLaws.{round_at, next-round}
use Rattle.plain_run.specs.declared.progress.Progress.{Progress}
use Rattle.plain_run.specs.Plays.{state_in, Plays, IsUnderWay}
use Rattle.plain_run.proofs.Ways.{OnWay, way-start, way-as, way-over, way-then, way-stop, way-tried, way-past, rounds-same}
use Rattle.plain_run.proofs.UnderWay.{on-way, on-way-in}

-- the thread stands before the round of this index, if there is one
pub record Rounding {X : Type 0} (a : Account) (p0 : Progress) (turns : Turns X) (body : ℕ → Part) (i : ℕ) (p : Progress) (b : Account) : Type 0 where
  pub way : OnWay a p0 (rounds max_rounds turns body 0) (rounds (max_rounds - i) turns body i) p b
  pub count : i + p.rounds ≤ max_rounds

pub rounds-start : {X : Type 0} (a : Account) (p : Progress) (turns : Turns X) (body : ℕ → Part) → p.rounds ≤ max_rounds → Rounding a p turns body 0 p a
rounds-start a p turns body few = record { way = way-start a p (rounds max_rounds turns body 0); count = omega arith }

-- a round that is taken before one part and another
pub split : (n : ℕ) (s : State) (f g : Part) → taking_round n s (λ s. and_then (f s) g) ≡ and_then (taking_round n s f) g
split zero s f g = refl
split (suc n) s f g = refl

-- after the children of a round
abbrev pub rest_of_rounds : {X : Type 0} → Turns X → (ℕ → Part) → ℕ → Part
rest_of_rounds turns body i = rounds (max_rounds - (i + 1)) turns body (i + 1)

-- out of memory before what decides on a round has come, and while it comes
module _ {X : Type 0} {a b : Account} {p0 p : Progress} (turns : Turns X) (body : ℕ → Part) (i : ℕ) (at : Rounding a p0 turns body i p b) where
  pub cut-between : IsUnderWay a (rounds max_rounds turns body 0 (state_in p0)) b
  cut-between = on-way at.way

  pub cut-deciding : {c : Account} → IsUnderWay b (turns.begins i p.user) c → IsUnderWay a (rounds max_rounds turns body 0 (state_in p0)) c
  cut-deciding deciding =
      on-way-in (turns.begins i p.user) (on_came (state_in p).own (where_begun (round_at max_rounds turns body i))) at.way (next-round max_rounds turns body i (state_in p) at.count) deciding

module _ {X : Type 0} (a b c : Account) (p0 p q : Progress) (turns : Turns X) (body : ℕ → Part) (i : ℕ) (at : Rounding a p0 turns body i p b) (same : q ≡ record p { user = q.user }) where
  -- no round begins
  pub no-round : Goes b (turns.begins i p.user) [] (over (fine None q.user)) c → Plays a p0 (rounds max_rounds turns body 0) Normal q c
  no-round goes =
      way-over Normal (way-tried q (turns.begins i) (where_begun (round_at max_rounds turns body i)) None at.way
      (next-round max_rounds turns body i (state_in p) at.count) goes same) refl

  -- what decides on it is past a limit
  pub round-past : Goes b (turns.begins i p.user) [] (over (past_limit q.user)) c → Plays a p0 (rounds max_rounds turns body 0) (Stop PastValueLimit) q c
  round-past goes =
      way-past q (turns.begins i) (where_begun (round_at max_rounds turns body i)) at.way (next-round max_rounds turns body i (state_in p) at.count) goes same

  module _ (x : X) (begun : Goes b (turns.begins i p.user) [] (over (fine (Some x) q.user)) c) where
    decided : OnWay a p0 (rounds max_rounds turns body 0) (round_at max_rounds turns body i x) q c
    decided =
        way-as (round_at max_rounds turns body i x) (way-tried q (turns.begins i) (where_begun (round_at max_rounds turns body i)) (Some x) at.way
        (next-round max_rounds turns body i (state_in p) at.count) begun same) refl

    opening : round_at max_rounds turns body i x (state_in q) ≡ and_then (with_round (state_in q) (turns.opens x i)) (λ s. and_then (body i s) (rest_of_rounds turns body i))
    opening = split q.rounds (state_in q) (turns.opens x i) (λ s. and_then (body i s) (rest_of_rounds turns body i))

    -- out of memory before the round is opened, and while it is
    pub cut-before : IsUnderWay a (rounds max_rounds turns body 0 (state_in p0)) c
    cut-before = on-way decided

    pub cut-opening : (d : Account) → IsUnderWay c (with_round (state_in q) (turns.opens x i)) d → IsUnderWay a (rounds max_rounds turns body 0 (state_in p0)) d
    cut-opening d at = on-way-in (with_round (state_in q) (turns.opens x i)) (on_normal (λ s. and_then (body i s) (rest_of_rounds turns body i))) decided opening at

    -- a round that could not be opened
    pub not-opened : (d : Account) (r : Progress) (signal : Signal) → Plays c q (λ s. with_round s (turns.opens x i)) signal r d → (signal ≡ Normal → ⊥) → Plays a p0 (rounds max_rounds turns body 0) signal r d
    not-opened d r signal plays other = way-stop (λ s. with_round s (turns.opens x i)) (λ s. and_then (body i s) (rest_of_rounds turns body i)) decided opening plays other

    in_round : {d : Account} {r : Progress} {opened : Signal} → Plays c q (λ s. with_round s (turns.opens x i)) opened r d → opened ≡ Normal
        → OnWay a p0 (rounds max_rounds turns body 0) (λ s. and_then (body i s) (rest_of_rounds turns body i)) r d
    in_round opens fine_so_far = way-then (λ s. with_round s (turns.opens x i)) (λ s. and_then (body i s) (rest_of_rounds turns body i)) decided opening opens fine_so_far

    -- out of memory in a round
    pub cut-round : (d e : Account) (r : Progress) (opened : Signal) → Plays c q (λ s. with_round s (turns.opens x i)) opened r d → opened ≡ Normal → IsUnderWay d (body i (state_in r)) e
        → IsUnderWay a (rounds max_rounds turns body 0 (state_in p0)) e
    cut-round d e r opened opens fine_so_far at = on-way-in (body i (state_in r)) (on_normal (rest_of_rounds turns body i)) (in_round opens fine_so_far) refl at

    module _ (d e : Account) (r t : Progress) (opened signal : Signal) (opens : Plays c q (λ s. with_round s (turns.opens x i)) opened r d) (fine_so_far : opened ≡ Normal)
        (runs : Plays d r (body i) signal t e) where
      -- a round that ended all
      pub last-round : (signal ≡ Normal → ⊥) → Plays a p0 (rounds max_rounds turns body 0) signal t e
      last-round other = way-stop (body i) (rest_of_rounds turns body i) (in_round opens fine_so_far) refl runs other

      -- a round, and then the next
      pub round-done : r.rounds < q.rounds → signal ≡ Normal → Rounding a p0 turns body (i + 1) t e
      round-done taken normal = record {
        way = way-then (body i) (rest_of_rounds turns body i) (in_round opens fine_so_far) refl runs normal;
        count = omega (arith, at.count, rounds-same p q same, runs.fewer, taken);
      }
