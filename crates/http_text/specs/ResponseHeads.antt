-- What a whole head says of its response (RFC 9112, sections 4 to 6).
use Rattle.std.specs.Prelude.{◌≡◌, ◌≤◌, ℕ, ◌-◌, ◌==◌, Bool, true, false, ◌&&◌, ◌||◌, nat_lt, nat_le, List, [], ◌∷◌, length, map, take, slice_index, Option, Some, None, if◌then◌else◌, codes}
use Rattle.std.specs.Option.{option_and_then, option_map}
use Rattle.std.specs.Str.{str_eq_ignore_ascii_case}
use Rattle.httparse.specs.Grammar.{ReadsResponse, ResponseHead, status_code, reason_phrase, ReadsSection, Field, LineEnd}
use Rattle.httparse.specs.Spans.{name_and_value}
use Rattle.jm_base.specs.declared.types.Reply.{Reply}
use Rattle.http_text.specs.declared.fields.Framing.{Framing}
use Rattle.http_lines.specs.declared.scan.Line.{Line}
use Rattle.http_lines.specs.declared.scan.Line.TheVariants.{Fresh}
use Rattle.http_lines.specs.SectionEnds.{next_line, is_filled}
use Rattle.http_lines.specs.HeaderFields.{is_named, length_after}

-- the bytes are the head to their last byte, with at most 128 header fields
abbrev pub IsHead : List ℕ → ResponseHead → Type 0
IsHead text h = ReadsResponse text h [] × (length h.fields ≤ 128)

-- the bytes are a header section to their last byte, with at most 128 fields
abbrev pub IsSection : List ℕ → Type 0
IsSection text = (fields : List Field) × (last : LineEnd) × ReadsSection text fields last [] × (length fields ≤ 128)

-- what one more field says of chunks: each coding must be `chunked`
abbrev pub next_coding : List ℕ × List ℕ → Bool → Option Bool
next_coding field chunked =
    if is_named (codes "transfer-encoding") field
    then (if str_eq_ignore_ascii_case field.1 (codes "chunked") then Some true else None)
    else Some chunked

-- whether the fields say that the body comes in chunks, one after the other
abbrev pub chunked_after : Bool → List (List ℕ × List ℕ) → Option Bool
chunked_after chunked [] = Some chunked
chunked_after chunked (field ∷ fields) = option_and_then (λ c. chunked_after c fields) (next_coding field chunked)

-- how fields frame a body: by chunks, and by a length
abbrev pub framing_in : List (List ℕ × List ℕ) → Option Framing
framing_in fields =
    option_and_then (λ chunked. option_map (λ size. record { chunked = chunked; size = size }) (length_after None fields)) (chunked_after false fields)

-- how the fields of a head frame its body, where they are right
abbrev pub framing_of : ResponseHead → Option Framing
framing_of h = framing_in (map name_and_value h.fields)

-- the bytes after the first line that is not empty
abbrev pub after_first_line : Line → List ℕ → List ℕ
after_first_line line [] = []
after_first_line line (b ∷ bs) =
    if b == 10 then (if is_filled line then bs else after_first_line Fresh bs) else after_first_line (next_line line b) bs

-- how many bytes the empty line at the end has: LF, or CR LF
abbrev pub last_line : List ℕ → ℕ
last_line bytes = if nat_le 2 (length bytes) && (slice_index bytes (length bytes - 2) == 13) then 2 else 1

-- without the empty line at the end
abbrev pub without_last : List ℕ → List ℕ
without_last bytes = take (length bytes - last_line bytes) bytes

-- the reply of a head, before its body
abbrev pub bare_reply : List ℕ → ResponseHead → Reply
bare_reply text h = record {
  code = status_code h;
  message = reason_phrase h.reason;
  headers = without_last (after_first_line Fresh text);
  body = [];
}

-- a whole head's text, and what it says
pub record Says (text : List ℕ) (reply : Reply) (framing : Framing) : Type 0 where
  pub head : ResponseHead
  pub is_head : IsHead text head
  pub code : 100 ≤ status_code head
  pub reply_is : reply ≡ bare_reply text head
  pub framing_is : framing_of head ≡ Some framing

-- no head, or one with a code below 100 or with bad framing fields
abbrev pub IsBadHead : List ℕ → Type 0
IsBadHead text = (reply : Reply) (framing : Framing) → ¬ (Says text reply framing)

-- a head that is passed over: a code of 100 to 199 (RFC 9110, section 15.2)
abbrev pub is_interim : Reply → Bool
is_interim reply = nat_lt reply.code 200

-- there is no body (RFC 9112, section 6.3)
abbrev pub is_bodiless : Bool → Reply → Bool
is_bodiless head_only reply = head_only || ((reply.code == 204) || (reply.code == 304))
