-- How an outside over streams stands, and what it has asked.
use Rattle.std.specs.Prelude.{◌≡◌, ℕ, ◌+◌, ◌-◌, ◌^◌, min, List, [], Option, None}
use Rattle.jm_base.specs.Run.{outcome_of, over}
use Rattle.jm_base.specs.Outside.{Account, Goes}
use Rattle.jm_base.specs.declared.types.Request.{Request}
use Rattle.jm_base.specs.declared.types.Request.TheVariants.{Script, Http}
use Rattle.jm_base.specs.declared.types.Outcome.{Outcome}
use Rattle.jm_base.specs.declared.types.Outcome.TheVariants.{Fault}
use Rattle.http_sampler.specs.Streams.{Standing, told_more, IsFresh}
use Rattle.http_sampler.specs.Exchanges.{IsOutcome, IsGivenUp, is_head}

-- an outside over streams: which world opened it for which number, the script that it asks, its dialer and its clock
pub record Parts (Dialing Clocking : Type 0) : Type 0 where
  pub origin : Option (ℕ × ℕ)
  pub script : Account
  pub dialer : Dialing
  pub clock : Clocking

-- two counts of faults together, which stand still at the end of 64 bits
abbrev pub both_faults : ℕ → ℕ → ℕ
both_faults a b = min (a + b) (2 ^ 64 - 1)

-- its account: it has no value and tells nothing, and its faults are the script's and the dialer's
abbrev pub silent_account : Option (ℕ × ℕ) → ℕ → ℕ → Account
silent_account origin script dialer = record { origin = origin; value = None; told = None; faults = both_faults script dialer }

-- what was dialed after a request: the host and the port of an HTTP request, once
abbrev pub dialed_after : Request → Option (List (List ℕ × ℕ)) → Option (List (List ℕ × ℕ))
dialed_after (Script text) dialed = dialed
dialed_after (Http host port bytes) dialed = told_more dialed (host, port)

-- what became of these bytes at a dialer: the dial failed, or a stream that was dialed for them came to the outcome and was hung up
pub data IsAnswered (spent spent' : Option (List Standing)) (bytes : List ℕ) (outcome : Outcome) : Type 0 where
  not_dialed : outcome ≡ Fault → spent' ≡ spent → IsAnswered spent spent' bytes outcome
  by_stream : (before after : Standing) → IsFresh before → IsOutcome before after bytes (is_head bytes) outcome → spent' ≡ told_more spent after
      → IsAnswered spent spent' bytes outcome

-- out of memory: a stream that was dialed for these bytes was hung up
pub record GivesUp (spent spent' : Option (List Standing)) (bytes : List ℕ) : Type 0 where
  pub before : Standing
  pub after : Standing
  pub fresh : IsFresh before
  pub given_up : IsGivenUp before after bytes
  pub hung_up : spent' ≡ told_more spent after

-- what the streams say of the outcome of a request: those of a script are not asked
abbrev pub AnswersTo : Request → Option (List Standing) → Option (List Standing) → Outcome → Type 0
AnswersTo (Script text) spent spent' outcome = spent' ≡ spent
AnswersTo (Http host port bytes) spent spent' outcome = IsAnswered spent spent' bytes outcome

-- what the streams say of a request at which memory ran out
abbrev pub GivesUpOn : Request → Option (List Standing) → Option (List Standing) → Type 0
GivesUpOn (Script text) spent spent' = spent' ≡ spent
GivesUpOn (Http host port bytes) spent spent' = GivesUp spent spent' bytes

-- what the script was asked: the request of a sampler that is of a script, and nothing else
abbrev pub AsksScript : ℕ → Request → Account → Account → Outcome → Type 0
AsksScript sampler (Script text) script script' outcome = Goes script (outcome_of sampler (Script text)) [] (over outcome) script'
AsksScript sampler (Http host port bytes) script script' outcome = script' ≡ script
