-- How far a response was read.
use Rattle.std.specs.Prelude.{◌≡◌, ℕ, ◌+◌, ◌-◌, ◌<◌, ◌≤◌, ◌==◌, ◌||◌, nat_lt, min, if◌then◌else◌, Bool, List, [], ◌∷◌, ◌++◌, length, take, drop, Option, Some, None, Result, Ok, Err, ⊤}
use Rattle.httparse.specs.Grammar.{HasNoChunkLine, MayBecomeChunkLine}
use Rattle.jm_base.specs.declared.types.Reply.{Reply}
use Rattle.jm_base.specs.declared.types.Wire.{Wire}
use Rattle.jm_base.specs.declared.types.Wire.TheVariants.{EndEarly, TooLong}
use Rattle.http_lines.specs.declared.scan.Scan.{Scan}
use Rattle.http_text.specs.declared.fields.Framing.{Framing}
use Rattle.http_text.specs.declared.state.State.{State}
use Rattle.http_text.specs.declared.state.Growth.{Growth}
use Rattle.http_text.specs.declared.state.Growth.TheVariants as growth
use Rattle.http_text.specs.declared.state.Phase.{Phase}
use Rattle.http_text.specs.declared.state.Phase.TheVariants as phase
use Rattle.http_text.specs.declared.answers.Fed.{Fed}
use Rattle.http_text.specs.declared.answers.Fed.TheVariants as fed
use Rattle.http_text.specs.declared.error.WireError.{WireError}
use Rattle.http_text.specs.declared.error.WireError.TheVariants as error
use Rattle.http_lines.specs.SectionEnds.{section_end, scanned, before_head, before_trailer, EndsPast}
use Rattle.http_text.specs.SizeLines.{before_size, Shows}
use Rattle.http_text.specs.ResponseGrammar.{Answer, Whole, Refused, Open, Heads, Sized, Rest, SizeLine, Chunk, ChunkEnd, Trailer, End, Place, Gives, Response, ended, part_limit, body_limit}

-- how a reader stands: whether no body comes, where it is, the bytes of the part that is being read, and the reply so far
pub record Reading : Type 0 where
  pub head_only : Bool
  pub phase : Phase
  pub part : List ℕ
  pub reply : Reply

-- what more bytes come to
abbrev pub Continues : Reading → List ℕ → Answer → Type 0
Continues r more answer = from r.phase where
  from : Phase → Type 0
  from (phase.Head passed scan) = Gives r.head_only (Heads passed) (r.part ++ more) answer
  from (phase.Sized left) = Gives r.head_only (Sized r.reply left) more answer
  from phase.Rest = Gives r.head_only (Rest r.reply) more answer
  from (phase.SizeLine scan) = Gives r.head_only (SizeLine r.reply) (r.part ++ more) answer
  from (phase.Chunk left) = Gives r.head_only (Chunk r.reply left) more answer
  from phase.ChunkReturn = Gives r.head_only (ChunkEnd r.reply) more answer
  from phase.ChunkFeed = Gives r.head_only (ChunkEnd r.reply) (13 ∷ more) answer
  from (phase.Trailer scan) = Gives r.head_only (Trailer r.reply) (r.part ++ more) answer
  from phase.Done = answer ≡ Whole r.reply more
  from (phase.Refused wire) = answer ≡ Refused wire
  from phase.OutOfMemory = ⊥

-- the part is not whole, and no room is passed
abbrev pub Stands : Reading → Type 0
Stands r = at r.phase where
  at : Phase → Type 0
  at (phase.Head passed scan) = (scan ≡ scanned before_head r.part) × (section_end before_head r.part ≡ None) × (passed + length r.part < part_limit) × (r.reply.body ≡ [])
  at (phase.Sized left) = (0 < left) × (length r.reply.body ≤ body_limit)
  at phase.Rest = length r.reply.body ≤ body_limit
  at (phase.SizeLine scan) = (length r.part < part_limit) × HasNoChunkLine r.part × MayBecomeChunkLine r.part × (length r.reply.body ≤ body_limit) × Shows scan r.part
  at (phase.Chunk left) = (0 < left) × (length r.reply.body ≤ body_limit)
  at phase.ChunkReturn = length r.reply.body ≤ body_limit
  at phase.ChunkFeed = length r.reply.body ≤ body_limit
  at (phase.Trailer scan) = (scan ≡ scanned before_trailer r.part) × (section_end before_trailer r.part ≡ None) × (length r.part < part_limit)
  at phase.Done = ⊤
  at (phase.Refused wire) = ⊤
  at phase.OutOfMemory = ⊤

-- these bytes lead here: whatever follows, it comes to what they and it come to as a response
pub record Read (r : Reading) (bytes : List ℕ) : Type 0 where
  pub leads : (more : List ℕ) (answer : Answer) → Continues r more answer → Response r.head_only (bytes ++ more) answer
  pub stands : Stands r

-- from one standing these bytes lead to the other
pub record Advances (old : Reading) (bytes : List ℕ) (new : Reading) : Type 0 where
  pub same : new.head_only ≡ old.head_only
  pub leads : (more : List ℕ) (answer : Answer) → Continues new more answer → Continues old (bytes ++ more) answer
  pub stands : Stands new

-- from a place in the grammar these bytes lead to the standing
pub record Leads (head_only : Bool) (place : Place) (bytes : List ℕ) (new : Reading) : Type 0 where
  pub leads : (more : List ℕ) (answer : Answer) → Continues new more answer → Gives head_only place (bytes ++ more) answer
  pub stands : Stands new

-- what a reader's fields stand for
abbrev pub reading_of : State → Reading
reading_of s = record {
  head_only = s.head_only;
  phase = s.phase;
  part = s.part.items;
  reply = record { code = s.code; message = s.message; headers = s.headers; body = s.body.items };
}

-- more bytes may change the answer
abbrev pub IsReading : Phase → Type 0
IsReading (phase.Head passed scan) = ⊤
IsReading (phase.Sized left) = ⊤
IsReading phase.Rest = ⊤
IsReading (phase.SizeLine scan) = ⊤
IsReading (phase.Chunk left) = ⊤
IsReading phase.ChunkReturn = ⊤
IsReading phase.ChunkFeed = ⊤
IsReading (phase.Trailer scan) = ⊤
IsReading phase.Done = ⊥
IsReading (phase.Refused wire) = ⊥
IsReading phase.OutOfMemory = ⊥

-- what a piece adds to a part that ends with an empty line
abbrev pub Grows : List ℕ → List ℕ → List ℕ → Scan → ℕ → Growth → Type 0
Grows old new piece scan room (growth.Whole used) = (section_end scan piece ≡ Some used) × (used ≤ room) × (0 < used) × (used ≤ length piece) × (new ≡ old ++ take used piece)
Grows old new piece scan room (growth.Open next) = (section_end scan piece ≡ None) × (length piece < room) × (next ≡ scanned scan piece) × (new ≡ old ++ piece)
Grows old new piece scan room growth.Long = (room ≤ length piece) × EndsPast room (section_end scan piece)

-- what a piece adds to a body of which this many bytes are left
abbrev pub GrowsBody : List ℕ → List ℕ → List ℕ → ℕ → Option ℕ → Type 0
GrowsBody old new piece left None = (body_limit - length old < length piece) × (body_limit - length old < left)
GrowsBody old new piece left (Some count) = (count ≡ min (length piece) left) × (count ≤ body_limit - length old) × (new ≡ old ++ take count piece)

-- the phase before a body of this length, or of none that is known
abbrev pub phase_for : Option ℕ → Phase
phase_for None = phase.Rest
phase_for (Some n) = if n == 0 then phase.Done else phase.Sized n

-- the phase after a head that is not passed over
abbrev pub first_phase : Bool → ℕ → Framing → Phase
first_phase head_only code framing =
    if head_only || ((code == 204) || (code == 304)) then phase.Done
    else if framing.chunked then phase.SizeLine before_size
    else phase_for framing.size

-- the phase after a head that is passed over, all heads so far having this many bytes
abbrev pub next_head : ℕ → Phase
next_head passed = if nat_lt passed part_limit then phase.Head passed before_head else phase.Refused TooLong

-- the response is whole
abbrev pub IsDone : Reading → Type 0
IsDone r = r.phase ≡ phase.Done

-- the reader has refused with this error, or was out of memory
abbrev pub IsOver : Reading → WireError → Type 0
IsOver r (error.Wire wire) = r.phase ≡ phase.Refused wire
IsOver r error.NoMemory = r.phase ≡ phase.OutOfMemory

-- the answer to a piece that comes after these bytes
abbrev pub HasAnswered : Reading → List ℕ → List ℕ → Result Fed WireError → Type 0
HasAnswered new bytes piece (Ok fed.More) =
    (at_end : Option Reply) × Response new.head_only (bytes ++ piece) (Open at_end) × Read new (bytes ++ piece)
HasAnswered new bytes piece (Ok (fed.Done used)) =
    (used ≤ length piece) × Response new.head_only (bytes ++ piece) (Whole new.reply (drop used piece)) × Read new (bytes ++ take used piece) × IsDone new
HasAnswered new bytes piece (Err (error.Wire wire)) = Response new.head_only (bytes ++ piece) (Refused wire) × Read new (bytes ++ piece)
HasAnswered new bytes piece (Err error.NoMemory) = ⊤

-- the answer at the end of the input
abbrev pub HasFinished : Bool → List ℕ → Result Reply WireError → Type 0
HasFinished head_only bytes (Ok reply) = (answer : Answer) × Response head_only bytes answer × (ended answer ≡ Whole reply [])
HasFinished head_only bytes (Err (error.Wire wire)) = (answer : Answer) × Response head_only bytes answer × (ended answer ≡ Refused wire)
HasFinished head_only bytes (Err error.NoMemory) = ⊤

-- the answer of a reader that has taken this many bytes of a piece
abbrev pub answer_of : Phase → ℕ → Result Fed WireError
answer_of (phase.Head passed scan) used = Ok fed.More
answer_of (phase.Sized left) used = Ok fed.More
answer_of phase.Rest used = Ok fed.More
answer_of (phase.SizeLine scan) used = Ok fed.More
answer_of (phase.Chunk left) used = Ok fed.More
answer_of phase.ChunkReturn used = Ok fed.More
answer_of phase.ChunkFeed used = Ok fed.More
answer_of (phase.Trailer scan) used = Ok fed.More
answer_of phase.Done used = Ok (fed.Done used)
answer_of (phase.Refused wire) used = Err (error.Wire wire)
answer_of phase.OutOfMemory used = Err error.NoMemory

-- the answer at the end of the input
abbrev pub finish_of : Phase → Reply → Result Reply WireError
finish_of (phase.Head passed scan) reply = Err (error.Wire EndEarly)
finish_of (phase.Sized left) reply = Err (error.Wire EndEarly)
finish_of phase.Rest reply = Ok reply
finish_of (phase.SizeLine scan) reply = Err (error.Wire EndEarly)
finish_of (phase.Chunk left) reply = Err (error.Wire EndEarly)
finish_of phase.ChunkReturn reply = Err (error.Wire EndEarly)
finish_of phase.ChunkFeed reply = Err (error.Wire EndEarly)
finish_of (phase.Trailer scan) reply = Err (error.Wire EndEarly)
finish_of phase.Done reply = Ok reply
finish_of (phase.Refused wire) reply = Err (error.Wire wire)
finish_of phase.OutOfMemory reply = Err error.NoMemory
