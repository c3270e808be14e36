-- The grammar of a request that is mirrored, after RFC 9112: what bytes come to.
use Rattle.std.specs.Prelude.{◌≡◌, ℕ, ◌+◌, ◌<◌, ◌≤◌, Bool, true, false, List, [], length, map, take, drop, Option, Some, None, unwrap_or, codes}
use Rattle.std.specs.List.{list_any}
use Rattle.httparse.specs.Grammar.{ReadsRequest, RequestHead}
use Rattle.httparse.specs.Spans.{name_and_value}
use Rattle.http_lines.specs.SectionEnds.{section_end, before_head, EndsPast}
use Rattle.http_lines.specs.HeaderFields.{is_named, length_after}
use Rattle.mirror_server.specs.declared.error.MirrorError.{MirrorError}
use Rattle.mirror_server.specs.declared.error.MirrorError.TheVariants.{BadHead, TooLong}

-- what bytes come to
pub data Answer : Type 0 where
  -- a request, and the bytes after it
  Whole : List ℕ → List ℕ → Answer
  -- a refusal, whatever follows
  Refused : MirrorError → Answer
  -- neither yet
  Open : Answer

-- the most bytes of a head
abbrev pub head_limit : ℕ
head_limit = 65536

-- the most bytes of a request
abbrev pub request_limit : ℕ
request_limit = 1048576

-- the bytes are the head of a request to their last byte, with at most 128 header fields
abbrev pub IsHead : List ℕ → RequestHead → Type 0
IsHead text h = ReadsRequest text h [] × (length h.fields ≤ 128)

-- one of the fields gives the body a coding
abbrev pub has_coding : List (List ℕ × List ℕ) → Bool
has_coding fields = list_any (is_named (codes "transfer-encoding")) fields

-- a whole head's text, and what it says of the body: how many bytes it has, none where no field says so, and whether it has a coding
pub record Says (text : List ℕ) (size : ℕ) (coded : Bool) : Type 0 where
  pub head : RequestHead
  pub is_head : IsHead text head
  pub known : Option ℕ
  pub known_is : length_after None (map name_and_value head.fields) ≡ Some known
  pub size_is : size ≡ unwrap_or known 0
  pub coded_is : coded ≡ has_coding (map name_and_value head.fields)

-- no head, or one with bad lengths
abbrev pub IsBadHead : List ℕ → Type 0
IsBadHead text = (size : ℕ) (coded : Bool) → ¬ (Says text size coded)

-- what bytes come to as a request
pub data Asks : List ℕ → Answer → Type 0 where
  -- a head that is not whole yet, and one that is too long
  open_head : {bytes : List ℕ} → section_end before_head bytes ≡ None → length bytes < head_limit → Asks bytes Open
  long_head : {bytes : List ℕ} → head_limit ≤ length bytes → EndsPast head_limit (section_end before_head bytes) → Asks bytes (Refused TooLong)
  -- a whole head that is bad
  bad_head : {n : ℕ} {bytes : List ℕ} → section_end before_head bytes ≡ Some n → n ≤ head_limit → IsBadHead (take n bytes)
      → Asks bytes (Refused BadHead)
  -- one of a request that is too long, and else one of a body with a coding
  long_request : {n size : ℕ} {coded : Bool} {bytes : List ℕ} → section_end before_head bytes ≡ Some n → n ≤ head_limit → Says (take n bytes) size coded
      → request_limit < n + size → Asks bytes (Refused TooLong)
  coded_body : {n size : ℕ} {bytes : List ℕ} → section_end before_head bytes ≡ Some n → n ≤ head_limit → Says (take n bytes) size true
      → n + size ≤ request_limit → Asks bytes (Refused BadHead)
  -- a body that is not whole yet, and a whole request
  open_body : {n size : ℕ} {bytes : List ℕ} → section_end before_head bytes ≡ Some n → n ≤ head_limit → Says (take n bytes) size false
      → n + size ≤ request_limit → length bytes < n + size → Asks bytes Open
  whole : {n size : ℕ} {bytes : List ℕ} → section_end before_head bytes ≡ Some n → n ≤ head_limit → Says (take n bytes) size false
      → n + size ≤ request_limit → n + size ≤ length bytes → Asks bytes (Whole (take (n + size) bytes) (drop (n + size) bytes))
