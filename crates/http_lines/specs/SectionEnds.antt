-- Lines, and where a head or a trailer part ends.
-- A line ends with LF. It is empty where it holds nothing or one CR.
use Rattle.std.specs.Prelude.{◌<◌, ℕ, ◌+◌, ◌==◌, Bool, true, false, ◌&&◌, ◌||◌, not, List, [], ◌∷◌, Option, Some, None, IfSome, if◌then◌else◌}
use Rattle.std.specs.Option.{option_map}
use Rattle.http_lines.specs.declared.scan.Line.{Line}
use Rattle.http_lines.specs.declared.scan.Line.TheVariants.{Fresh, Return, Filled}
use Rattle.http_lines.specs.declared.scan.Scan.{Scan}

-- what has come of a line after one more byte that does not end it
abbrev pub next_line : Line → ℕ → Line
next_line Fresh byte = if byte == 13 then Return else Filled
next_line Return byte = Filled
next_line Filled byte = Filled

abbrev pub is_filled : Line → Bool
is_filled Fresh = false
is_filled Return = false
is_filled Filled = true

-- how lines stand after one more byte
abbrev pub next_scan : Scan → ℕ → Scan
next_scan s byte =
    if byte == 10 then record { line = Fresh; begun = s.begun || is_filled s.line }
    else record { line = next_line s.line byte; begun = s.begun }

-- this byte ends the empty line that is the last
abbrev pub is_last : Scan → ℕ → Bool
is_last s byte = (byte == 10) && (not (is_filled s.line) && s.begun)

-- how many bytes there are up to the end of the first empty line that may be the last
abbrev pub section_end : Scan → List ℕ → Option ℕ
section_end s [] = None
section_end s (b ∷ bs) = if is_last s b then Some 1 else option_map (λ n. n + 1) (section_end (next_scan s b) bs)

-- how lines stand after these bytes
abbrev pub scanned : Scan → List ℕ → Scan
scanned s [] = s
scanned s (b ∷ bs) = scanned (next_scan s b) bs

-- before a head: an empty line ends it only after a line that is not empty
abbrev pub before_head : Scan
before_head = record { line = Fresh; begun = false }

-- before a trailer part: the first empty line ends it
abbrev pub before_trailer : Scan
before_trailer = record { line = Fresh; begun = true }

-- a section does not end within this many bytes
abbrev pub EndsPast : ℕ → Option ℕ → Type 0
EndsPast most end = IfSome end (λ n. most < n)
