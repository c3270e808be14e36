-- How an outside over streams goes on with each call.
use Rattle.std.proofs.Common.{◌≡◌, ℕ, ◌+◌, ◌-◌, ◌^◌, ◌<◌, inl, inr, min, List, [], ◌∷◌, Bool, Option, None, Result, IfOk, OnErr, refl, ap, subst, ◌∙◌, arith}
use Rattle.edge_io.specs.Memory.{one_more}
use Rattle.jm_base.specs.FaultCounts.{Rose}
use Rattle.jm_base.specs.declared.errors.NoMemory.{NoMemory}
use Rattle.jm_base.specs.declared.types.Request.{Request}
use Rattle.jm_base.specs.declared.types.Outcome.{Outcome}
use Rattle.jm_base.specs.declared.types.Outcome.TheVariants.{Reply, Null, Fault, Broken}
use Rattle.jm_base.specs.declared.types.Heard.TheVariants.{Reading, Paused, Asked}
use Rattle.jm_base.specs.Run.{over, reading, wait, outcome_of}
use Rattle.jm_base.specs.Outside.{Account, Goes, here, reads, waits, asks, fault_count}
use Rattle.http_sampler.specs.Streams.{Standing, told_more, IsFresh}
use Rattle.http_sampler.specs.Exchanges.{IsOutcome, IsGivenUp, untouched, all_sent, is_head}
use Rattle.http_sampler.specs.Outsides.{both_faults, IsAnswered, by_stream, GivesUp}
use Rattle.http_sampler.proofs.Outcomes.{if_ok, on_err}

abbrev at : Option (ℕ × ℕ) → ℕ → Account
at origin faults = record { origin = origin; value = None; told = None; faults = faults }

pub goes_reading : (origin : Option (ℕ × ℕ)) (n t : ℕ) → Goes (at origin n) reading [] (over t) (at origin n)
goes_reading origin n t = record { heard = Reading t ∷ []; hears = record { origin = refl; told = refl; value = refl; faults = refl }; path = reads here }

pub goes_pause : (origin : Option (ℕ × ℕ)) (n ms : ℕ) → Goes {A = Unit {0}} (at origin n) (wait ms (over tt)) [] (over tt) (at origin n)
goes_pause origin n ms = record { heard = Paused ms ∷ []; hears = record { origin = refl; told = refl; value = refl; faults = refl }; path = waits here }

pub goes_asking : (origin : Option (ℕ × ℕ)) (m n s : ℕ) (q : Request) (a : Outcome) → n ≡ fault_count m a → Goes (at origin m) (outcome_of s q) [] (over a) (at origin n)
goes_asking origin m n s q a counted = record { heard = Asked s q a ∷ []; hears = record { origin = refl; told = refl; value = refl; faults = counted }; path = asks here }

fault_by_script : (s d : ℕ) → both_faults (min (s + 1) (2 ^ 64 - 1)) d ≡ min (both_faults s d + 1) (2 ^ 64 - 1)
fault_by_script s d = omega arith

fault_by_dialer : (s d : ℕ) → both_faults s (min (d + 1) (2 ^ 64 - 1)) ≡ min (both_faults s d + 1) (2 ^ 64 - 1)
fault_by_dialer s d = omega arith

-- a fault that the script counts is one of both together
pub both_by_script : (s s' d : ℕ) (a : Outcome) → s' ≡ fault_count s a → both_faults s' d ≡ fault_count (both_faults s d) a
both_by_script s s' d (Reply reply) counted = ap (λ n. both_faults n d) counted
both_by_script s s' d Null counted = ap (λ n. both_faults n d) counted
both_by_script s s' d Fault counted = ap (λ n. both_faults n d) counted ∙ fault_by_script s d
both_by_script s s' d (Broken wire) counted = ap (λ n. both_faults n d) counted

-- a fault that the dialer counts is one of both together
pub both_by_dialer : (s d d' : ℕ) (a : Outcome) → d' ≡ fault_count d a → both_faults s d' ≡ fault_count (both_faults s d) a
both_by_dialer s d d' (Reply reply) counted = ap (both_faults s) counted
both_by_dialer s d d' Null counted = ap (both_faults s) counted
both_by_dialer s d d' Fault counted = ap (both_faults s) counted ∙ fault_by_dialer s d
both_by_dialer s d d' (Broken wire) counted = ap (both_faults s) counted

above_none : (old new : ℕ) → old ≡ 0 → Rose old new → 0 < new
above_none old new none (inl more) = omega (arith, none, more)
above_none old new none (inr end) = omega (arith, end)

-- what a dialer counts of a stream that had no fault before it came to this outcome
pub counted_outcome : (f f' f'' : ℕ) (old new : Standing) (request : List ℕ) (h : Bool) (a : Outcome) → f' ≡ f → old.faults ≡ 0 → IsOutcome old new request h a
    → (new.faults ≡ 0 → f'' ≡ f') → (0 < new.faults → f'' ≡ one_more f') → f'' ≡ fault_count f a
counted_outcome f f' f'' old new request h (Reply reply) dialed none out kept counted = kept (out.2 ∙ none) ∙ dialed
counted_outcome f f' f'' old new request h (Broken wire) dialed none out kept counted = kept (out.2 ∙ none) ∙ dialed
counted_outcome f f' f'' old new request h Fault dialed none out kept counted =
    counted (above_none old.faults new.faults none out.0) ∙ ap one_more dialed
counted_outcome f f' f'' old new request h Null dialed none out kept counted = absurd out

-- where memory ran out it counts nothing
pub counted_given_up : (f f' f'' : ℕ) (old new : Standing) (request : List ℕ) → f' ≡ f → old.faults ≡ 0 → IsGivenUp old new request → (new.faults ≡ 0 → f'' ≡ f') → f'' ≡ f
counted_given_up f f' f'' old new request dialed none (untouched moved same) kept = kept (same ∙ none) ∙ dialed
counted_given_up f f' f'' old new request dialed none (all_sent moved same) kept = kept (same ∙ none) ∙ dialed

-- a stream that was dialed, came to an outcome and was hung up
pub answered_by : (spent spent' spent'' : Option (List Standing)) (old new : Standing) (request : List ℕ) (h : Bool) (result : Result Outcome NoMemory)
    → IsFresh old → spent' ≡ spent → spent'' ≡ told_more spent' new → h ≡ is_head request → IfOk result (λ o. IsOutcome old new request h o)
    → IfOk result (IsAnswered spent spent'' request)
answered_by spent spent' spent'' old new request h result fresh dialed hung is ok =
    if_ok result (λ o. IsOutcome old new request h o) (IsAnswered spent spent'' request)
    (λ o out. by_stream old new fresh (subst (λ x. IsOutcome old new request x o) is out) (hung ∙ ap (λ s. told_more s new) dialed)) ok

-- and one at which memory ran out
pub given_up_by : (spent spent' spent'' : Option (List Standing)) (old new : Standing) (request : List ℕ) (result : Result Outcome NoMemory)
    → IsFresh old → spent' ≡ spent → spent'' ≡ told_more spent' new → OnErr result (IsGivenUp old new request) → OnErr result (GivesUp spent spent'' request)
given_up_by spent spent' spent'' old new request result fresh dialed hung err =
    on_err result (IsGivenUp old new request) (GivesUp spent spent'' request)
    (λ given_up. record { before = old; after = new; fresh = fresh; given_up = given_up; hung_up = hung ∙ ap (λ s. told_more s new) dialed }) err
