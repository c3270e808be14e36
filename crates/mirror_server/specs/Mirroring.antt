-- What came of a request over a stream.
use Rattle.std.specs.Prelude.{◌≡◌, ℕ, ◌<◌, List, [], ◌++◌, length, codes, decimal}
use Rattle.std.specs.Io.KnownBytes.{Appends, Consumes, IsAtEnd, Keeps}
use Rattle.edge_io.specs.Edges.{AppendsProperPrefix}
use Rattle.jm_base.specs.FaultCounts.{Rose}
use Rattle.http_sampler.specs.Streams.{Standing}
use Rattle.mirror_server.specs.declared.error.MirrorError.{MirrorError}
use Rattle.mirror_server.specs.declared.error.MirrorError.TheVariants.{BadHead, TooLong, EndEarly, StreamFault, NoMemory}
use Rattle.mirror_server.specs.RequestGrammar.{Answer, Whole, Refused, Open, Asks}

-- the answer to a request: a head, and the bytes of the request
abbrev pub answer_text : List ℕ → List ℕ
answer_text request =
    codes "HTTP/1.1 200 OK\r\nContent-Length: " ++ decimal (length request) ++ codes "\r\nConnection: close\r\n\r\n" ++ request

-- these bytes were received
pub record Receives (old new : Standing) (got : List ℕ) : Type 0 where
  pub gave : Appends old.given new.given got
  pub came : Consumes old.left new.left got

-- the bytes without the last piece of them were neither a request nor refused
pub record ReadsNoFurther (got : List ℕ) : Type 0 where
  pub before : List ℕ
  pub last : List ℕ
  pub joined : got ≡ before ++ last
  pub unsettled : Asks before Open

-- the bytes received come to this, and no piece was received after one that settled it
pub record Comes (old new : Standing) (answer : Answer) : Type 0 where
  pub got : List ℕ
  pub received : Receives old new got
  pub no_further : ReadsNoFurther got
  pub comes : Asks got answer

-- Bytes were received, and no piece after one that settled what they come to.
pub record ReceivesOn (old new : Standing) : Type 0 where
  pub got : List ℕ
  pub received : Receives old new got
  pub no_further : ReadsNoFurther got

-- the bytes received come to this request
abbrev pub Requests : Standing → Standing → List ℕ → Type 0
Requests old new request = (rest : List ℕ) × Comes old new (Whole request rest)

-- a request of this many bytes was received, and its answer was sent
abbrev pub Mirrors : Standing → Standing → ℕ → Type 0
Mirrors old new n = (request : List ℕ) × Requests old new request × (n ≡ length request) × Appends old.sent new.sent (answer_text request)

-- a call failed: before there was a request or a refusal, or in sending the answer to the request, of which a proper prefix is out
pub data Fails (old new : Standing) : Type 0 where
  in_receiving : Comes old new Open → Keeps old.sent new.sent → Fails old new
  in_sending : {request : List ℕ} → Requests old new request → AppendsProperPrefix old.sent new.sent (answer_text request) → Fails old new

-- one more piece was received
pub record TakesPiece (old new : Standing) (before got : List ℕ) : Type 0 where
  pub piece : List ℕ
  pub some : 0 < length piece
  pub joined : got ≡ before ++ piece
  pub received : Receives old new piece

-- why no piece was received, or out of memory none was added to the others
abbrev pub StopsPiece : Standing → Standing → MirrorError → Type 0
StopsPiece old new BadHead = ⊥
StopsPiece old new TooLong = ⊥
StopsPiece old new EndEarly = Receives old new [] × IsAtEnd new.left × (new.faults ≡ old.faults)
StopsPiece old new StreamFault = Receives old new [] × Rose old.faults new.faults
StopsPiece old new NoMemory = (piece : List ℕ) × Receives old new piece × (new.faults ≡ old.faults)

-- why no request was received
abbrev pub Stops : Standing → Standing → MirrorError → Type 0
Stops old new BadHead = Comes old new (Refused BadHead) × (new.faults ≡ old.faults)
Stops old new TooLong = Comes old new (Refused TooLong) × (new.faults ≡ old.faults)
Stops old new EndEarly = Comes old new Open × IsAtEnd new.left × (new.faults ≡ old.faults)
Stops old new StreamFault = Comes old new Open × Rose old.faults new.faults
Stops old new NoMemory = ReceivesOn old new × (new.faults ≡ old.faults)
