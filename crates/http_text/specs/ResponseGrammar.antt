-- The grammar of a response, after RFC 9112: what the bytes from a place on come to.
use Rattle.std.specs.Prelude.{◌≡◌, ℕ, ◌+◌, ◌-◌, ◌<◌, ◌≤◌, ◌==◌, Bool, true, false, nat_lt, nat_le, List, [], ◌∷◌, ◌++◌, length, take, drop, Option, Some, None, if◌then◌else◌}
use Rattle.httparse.specs.Grammar.{ChunkLine, ReadsChunkLine, print_chunk_line, chunk_size, HasNoChunkLine, NeverHasChunkLine, MayBecomeChunkLine}
use Rattle.jm_base.specs.declared.types.Reply.{Reply}
use Rattle.jm_base.specs.declared.types.Wire.{Wire}
use Rattle.jm_base.specs.declared.types.Wire.TheVariants.{BadHead, BadChunk, TooLong, EndEarly}
use Rattle.http_text.specs.declared.fields.Framing.{Framing}
use Rattle.http_lines.specs.SectionEnds.{section_end, before_head, before_trailer, EndsPast}
use Rattle.http_text.specs.ResponseHeads.{IsSection, Says, IsBadHead, is_interim, is_bodiless}

-- what bytes come to
pub data Answer : Type 0 where
  -- a response, and the bytes after it
  Whole : Reply → List ℕ → Answer
  -- a refusal, whatever follows
  Refused : Wire → Answer
  -- neither yet, and what it is where the input ends here: a body up to the end of input is whole, all else is not
  Open : Option Reply → Answer

-- a place in a response. A reply has the body so far.
pub data Place : Type 0 where
  -- before a head, after this many bytes of heads that are passed over
  Heads : ℕ → Place
  -- before the last bytes of a body, this many
  Sized : Reply → ℕ → Place
  -- in a body up to the end of input
  Rest : Reply → Place
  -- before a chunk's size line
  SizeLine : Reply → Place
  -- before the last bytes of a chunk, this many
  Chunk : Reply → ℕ → Place
  -- after the bytes of a chunk
  ChunkEnd : Reply → Place
  -- before a trailer part
  Trailer : Reply → Place
  -- after the response
  End : Reply → Place

-- the most bytes of all heads together, of a trailer part, and of a chunk's size line
abbrev pub part_limit : ℕ
part_limit = 65536

-- the most bytes of a body
abbrev pub body_limit : ℕ
body_limit = 1048576

-- the body goes on with these bytes
abbrev pub with_body : Reply → List ℕ → Reply
with_body reply bytes = record reply { body = reply.body ++ bytes }

-- how many more bytes the body may have
abbrev pub room : Reply → ℕ
room reply = body_limit - length reply.body

-- the place before a body of this length, or of none that is known
abbrev pub place_for : Reply → Option ℕ → Place
place_for reply None = Rest reply
place_for reply (Some n) = Sized reply n

-- the place after a head that is not passed over
abbrev pub place_after_head : Bool → Reply → Framing → Place
place_after_head head_only reply framing =
    if is_bodiless head_only reply then End reply
    else if framing.chunked then SizeLine reply
    else place_for reply framing.size

-- the place after a chunk's size line
abbrev pub place_after_size : Reply → ℕ → Place
place_after_size reply size = if size == 0 then Trailer reply else Chunk reply size

-- what bytes from a place on come to
pub data Gives (head_only : Bool) : Place → List ℕ → Answer → Type 0 where
  -- a head that is not whole yet, and one that is too long
  open_head : {passed : ℕ} {bytes : List ℕ} → section_end before_head bytes ≡ None → passed + length bytes < part_limit
      → Gives head_only (Heads passed) bytes (Open None)
  long_head : {passed : ℕ} {bytes : List ℕ} → part_limit ≤ passed + length bytes → EndsPast (part_limit - passed) (section_end before_head bytes)
      → Gives head_only (Heads passed) bytes (Refused TooLong)
  -- a whole head: bad, passed over, or that of the response
  bad_head : {passed n : ℕ} {bytes : List ℕ} → section_end before_head bytes ≡ Some n → passed + n ≤ part_limit → IsBadHead (take n bytes)
      → Gives head_only (Heads passed) bytes (Refused BadHead)
  passed_over : {passed n : ℕ} {bytes : List ℕ} {reply : Reply} {framing : Framing} {answer : Answer}
      → section_end before_head bytes ≡ Some n → passed + n ≤ part_limit → Says (take n bytes) reply framing → is_interim reply ≡ true
      → Gives head_only (Heads (passed + n)) (drop n bytes) answer → Gives head_only (Heads passed) bytes answer
  final : {passed n : ℕ} {bytes : List ℕ} {reply : Reply} {framing : Framing} {answer : Answer}
      → section_end before_head bytes ≡ Some n → passed + n ≤ part_limit → Says (take n bytes) reply framing → is_interim reply ≡ false
      → Gives head_only (place_after_head head_only reply framing) (drop n bytes) answer → Gives head_only (Heads passed) bytes answer
  -- a body of a known length
  open_body : {reply : Reply} {left : ℕ} {bytes : List ℕ} → length bytes < left → length bytes ≤ room reply
      → Gives head_only (Sized reply left) bytes (Open None)
  long_body : {reply : Reply} {left : ℕ} {bytes : List ℕ} → room reply < left → room reply < length bytes
      → Gives head_only (Sized reply left) bytes (Refused TooLong)
  whole_body : {reply : Reply} {left : ℕ} {bytes : List ℕ} → left ≤ room reply → left ≤ length bytes
      → Gives head_only (Sized reply left) bytes (Whole (with_body reply (take left bytes)) (drop left bytes))
  -- a body up to the end of input
  open_rest : {reply : Reply} {bytes : List ℕ} → length bytes ≤ room reply → Gives head_only (Rest reply) bytes (Open (Some (with_body reply bytes)))
  long_rest : {reply : Reply} {bytes : List ℕ} → room reply < length bytes → Gives head_only (Rest reply) bytes (Refused TooLong)
  -- a chunk's size line
  open_line : {reply : Reply} {bytes : List ℕ} → length bytes < part_limit → HasNoChunkLine bytes → MayBecomeChunkLine bytes
      → Gives head_only (SizeLine reply) bytes (Open None)
  bad_line : {reply : Reply} {n : ℕ} {bytes : List ℕ} → n < part_limit → NeverHasChunkLine (take n bytes)
      → Gives head_only (SizeLine reply) bytes (Refused BadChunk)
  long_line : {reply : Reply} {bytes : List ℕ} → part_limit ≤ length bytes → MayBecomeChunkLine (take (part_limit - 1) bytes)
      → HasNoChunkLine (take part_limit bytes) → Gives head_only (SizeLine reply) bytes (Refused TooLong)
  line : {reply : Reply} {bytes rest : List ℕ} {l : ChunkLine} {answer : Answer} → ReadsChunkLine bytes l rest → length (print_chunk_line l) ≤ part_limit
      → Gives head_only (place_after_size reply (chunk_size l)) rest answer → Gives head_only (SizeLine reply) bytes answer
  -- a chunk's bytes
  open_chunk : {reply : Reply} {left : ℕ} {bytes : List ℕ} → length bytes < left → length bytes ≤ room reply
      → Gives head_only (Chunk reply left) bytes (Open None)
  long_chunk : {reply : Reply} {left : ℕ} {bytes : List ℕ} → room reply < left → room reply < length bytes
      → Gives head_only (Chunk reply left) bytes (Refused TooLong)
  chunk : {reply : Reply} {left : ℕ} {bytes : List ℕ} {answer : Answer} → left ≤ room reply → left ≤ length bytes
      → Gives head_only (ChunkEnd (with_body reply (take left bytes))) (drop left bytes) answer → Gives head_only (Chunk reply left) bytes answer
  -- CR LF after a chunk
  no_end : {reply : Reply} → Gives head_only (ChunkEnd reply) [] (Open None)
  half_end : {reply : Reply} → Gives head_only (ChunkEnd reply) (13 ∷ []) (Open None)
  bad_end : {reply : Reply} {b : ℕ} {bytes : List ℕ} → ¬ (b ≡ 13) → Gives head_only (ChunkEnd reply) (b ∷ bytes) (Refused BadChunk)
  bad_feed : {reply : Reply} {b : ℕ} {bytes : List ℕ} → ¬ (b ≡ 10) → Gives head_only (ChunkEnd reply) (13 ∷ b ∷ bytes) (Refused BadChunk)
  chunk_end : {reply : Reply} {bytes : List ℕ} {answer : Answer} → Gives head_only (SizeLine reply) bytes answer
      → Gives head_only (ChunkEnd reply) (13 ∷ 10 ∷ bytes) answer
  -- a trailer part, which is dropped
  open_trailer : {reply : Reply} {bytes : List ℕ} → section_end before_trailer bytes ≡ None → length bytes < part_limit
      → Gives head_only (Trailer reply) bytes (Open None)
  long_trailer : {reply : Reply} {bytes : List ℕ} → part_limit ≤ length bytes → EndsPast part_limit (section_end before_trailer bytes)
      → Gives head_only (Trailer reply) bytes (Refused TooLong)
  bad_trailer : {reply : Reply} {n : ℕ} {bytes : List ℕ} → section_end before_trailer bytes ≡ Some n → n ≤ part_limit → ¬ (IsSection (take n bytes))
      → Gives head_only (Trailer reply) bytes (Refused BadChunk)
  trailer : {reply : Reply} {n : ℕ} {bytes : List ℕ} {answer : Answer} → section_end before_trailer bytes ≡ Some n → n ≤ part_limit → IsSection (take n bytes)
      → Gives head_only (End reply) (drop n bytes) answer → Gives head_only (Trailer reply) bytes answer
  -- the response is whole
  whole : {reply : Reply} {bytes : List ℕ} → Gives head_only (End reply) bytes (Whole reply bytes)

-- what bytes come to as a response
abbrev pub Response : Bool → List ℕ → Answer → Type 0
Response head_only bytes answer = Gives head_only (Heads 0) bytes answer

-- the same where the input has ended
abbrev pub ended : Answer → Answer
ended (Whole reply rest) = Whole reply rest
ended (Refused wire) = Refused wire
ended (Open None) = Refused EndEarly
ended (Open (Some reply)) = Whole reply []
