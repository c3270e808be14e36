-- What came of one request over a stream.
use Rattle.std.specs.Prelude.{◌≡◌, ℕ, ◌<◌, Bool, nat_eq, List, [], length, take, Option, codes}
use Rattle.std.specs.List.{starts_with}
use Rattle.std.specs.Io.KnownBytes.{Appends, Consumes, IsAtEnd}
use Rattle.jm_base.specs.FaultCounts.{Rose}
use Rattle.jm_base.specs.declared.types.Reply as types
use Rattle.jm_base.specs.declared.types.Wire.{Wire}
use Rattle.jm_base.specs.declared.types.Outcome.{Outcome}
use Rattle.jm_base.specs.declared.types.Outcome.TheVariants.{Reply, Null, Fault, Broken}
use Rattle.http_text.specs.declared.error.WireError.TheVariants as error
use Rattle.http_text.specs.ResponseGrammar.{Answer, Whole, Refused, Open, Response, ended}
use Rattle.http_text.specs.ResponseReading.{Reading, Read, IsDone, IsOver}
use Rattle.http_sampler.specs.Streams.{Standing}
use Rattle.http_sampler.specs.declared.asking.Received.{Received}
use Rattle.http_sampler.specs.declared.asking.Received.TheVariants.{Settled, Ended, Failed}

-- these bytes were sent, and those were received
pub record Moves (old new : Standing) (bytes got : List ℕ) : Type 0 where
  pub went : Appends old.sent new.sent bytes
  pub gave : Appends old.given new.given got
  pub came : Consumes old.left new.left got

-- the bytes received are neither a response nor refused
abbrev pub IsOpen : Bool → List ℕ → Type 0
IsOpen head_only got = (at_end : Option types.Reply) × Response head_only got (Open at_end)

-- the bytes received come to this answer: as they are, or since the stream is at its end
pub data ComesTo (head_only : Bool) (got : List ℕ) (left : Option (List ℕ)) : Answer → Type 0 where
  settled : {answer : Answer} → Response head_only got answer → ComesTo head_only got left answer
  at_end : {answer : Answer} → IsAtEnd left → Response head_only got answer → ComesTo head_only got left (ended answer)

-- a request that failed: a proper prefix of it went out and nothing was received, or all of it went out and what was received is open
pub data Fails (old new : Standing) (request : List ℕ) (head_only : Bool) : Type 0 where
  in_sending : {n : ℕ} → n < length request → Moves old new (take n request) [] → Fails old new request head_only
  in_receiving : {got : List ℕ} → Moves old new request got → IsOpen head_only got → Fails old new request head_only

-- what the outcome says: all of the request went out and no call failed, and the bytes received come to it; or a call failed
abbrev pub IsOutcome : Standing → Standing → List ℕ → Bool → Outcome → Type 0
IsOutcome old new request head_only (Reply reply) =
    (got : List ℕ) × Moves old new request got × (new.faults ≡ old.faults) × ((rest : List ℕ) × ComesTo head_only got new.left (Whole reply rest))
IsOutcome old new request head_only (Broken wire) =
    (got : List ℕ) × Moves old new request got × (new.faults ≡ old.faults) × ComesTo head_only got new.left (Refused wire)
IsOutcome old new request head_only Fault = Rose old.faults new.faults × Fails old new request head_only
IsOutcome old new request head_only Null = ⊥

-- out of memory: nothing was done, or all of the request went out; no call failed
pub data IsGivenUp (old new : Standing) (request : List ℕ) : Type 0 where
  untouched : Moves old new [] [] → new.faults ≡ old.faults → IsGivenUp old new request
  all_sent : {got : List ℕ} → Moves old new request got → new.faults ≡ old.faults → IsGivenUp old new request

-- the response to this request has no body: it is one of `HEAD`
abbrev pub is_head : List ℕ → Bool
is_head request = starts_with nat_eq request (codes "HEAD ")

-- the reader has the answer that these bytes settle
pub data Settles (head_only : Bool) (got : List ℕ) (r : Reading) : Type 0 where
  by_reply : {rest : List ℕ} → Response head_only got (Whole r.reply rest) → IsDone r → Settles head_only got r
  by_refusal : {wire : Wire} → Response head_only got (Refused wire) → IsOver r (error.Wire wire) → Settles head_only got r

-- bytes were received, and no call failed
pub record Takes (old new : Standing) : Type 0 where
  pub got : List ℕ
  pub moved : Moves old new [] got
  pub kept : new.faults ≡ old.faults

-- how the receiving ended: with an answer, at the stream's end before one, or at a call that failed before one
abbrev pub Receives : Standing → Standing → Bool → Reading → Received → Type 0
Receives old new head_only r Settled =
    (got : List ℕ) × Moves old new [] got × (new.faults ≡ old.faults) × Settles head_only got r
Receives old new head_only r Ended =
    (got : List ℕ) × Moves old new [] got × (new.faults ≡ old.faults) × IsAtEnd new.left × Read r got × (r.head_only ≡ head_only)
Receives old new head_only r Failed =
    (got : List ℕ) × Moves old new [] got × Rose old.faults new.faults × IsOpen head_only got

-- what a reader that has read these bytes answers where the input ends there
abbrev pub EndsAs : Bool → List ℕ → Outcome → Type 0
EndsAs head_only got (Reply reply) = (answer : Answer) × Response head_only got answer × (ended answer ≡ Whole reply [])
EndsAs head_only got (Broken wire) = (answer : Answer) × Response head_only got answer × (ended answer ≡ Refused wire)
EndsAs head_only got Fault = ⊥
EndsAs head_only got Null = ⊥
