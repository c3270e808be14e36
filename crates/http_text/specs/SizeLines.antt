-- Chunk size lines that are not whole (RFC 9112, section 7.1), as far as a scan of their bytes sees what they are.
use Rattle.std.specs.Prelude.{◌≡◌, ◌≤◌, ◌<◌, ℕ, ◌+◌, ◌==◌, Bool, true, false, ◌&&◌, nat_lt, List, ◌∷◌, [], ◌++◌, length, if◌then◌else◌, ⊤}
use Rattle.std.specs.Char.{is_ascii_hexdigit}
use Rattle.httparse.specs.Grammar.{AllPass, is_ows, is_extension_byte}
use Rattle.http_text.specs.declared.sizes.SizeScan.{SizeScan}
use Rattle.http_text.specs.declared.sizes.SizeScan.TheVariants as scan

-- further bytes can make it whole, and it is not whole
abbrev pub is_known : SizeScan → Bool
is_known (scan.Digits count) = true
is_known scan.Blanks = true
is_known scan.Extension = true
is_known scan.Other = false

-- a size has at most sixteen digits
abbrev pub is_size_digit : ℕ → ℕ → Bool
is_size_digit count byte = is_ascii_hexdigit byte && nat_lt count 16

-- blanks and the beginning of an extension come after digits
abbrev pub after_digits : ℕ → SizeScan
after_digits byte = if is_ows byte then scan.Blanks else if byte == 59 then scan.Extension else scan.Other

-- before its first byte
abbrev pub before_size : SizeScan
before_size = scan.Digits 0

-- with one more byte
abbrev pub next_size : SizeScan → ℕ → SizeScan
next_size (scan.Digits count) byte =
    if is_size_digit count byte then scan.Digits (count + 1) else if nat_lt 0 count then after_digits byte else scan.Other
next_size scan.Blanks byte = after_digits byte
next_size scan.Extension byte = if is_extension_byte byte then scan.Extension else scan.Other
next_size scan.Other byte = scan.Other

-- with further bytes
abbrev pub scanned_size : SizeScan → List ℕ → SizeScan
scanned_size s [] = s
scanned_size s (b ∷ bs) = scanned_size (next_size s b) bs

-- the digits of a size
abbrev pub IsSize : List ℕ → Type 0
IsSize digits = (0 < length digits) × (length digits ≤ 16) × AllPass is_ascii_hexdigit digits

-- the bytes are what the scan says
abbrev pub Shows : SizeScan → List ℕ → Type 0
Shows (scan.Digits count) part = (length part ≡ count) × (count ≤ 16) × AllPass is_ascii_hexdigit part
Shows scan.Blanks part = (digits : List ℕ) × (blanks : List ℕ) × IsSize digits × AllPass is_ows blanks × (part ≡ digits ++ blanks)
Shows scan.Extension part =
    (digits : List ℕ) × (blanks : List ℕ) × (text : List ℕ) × IsSize digits × AllPass is_ows blanks × AllPass is_extension_byte text
    × (part ≡ digits ++ blanks ++ 59 ∷ text)
Shows scan.Other part = ⊤
