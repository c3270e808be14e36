-- Chunk size lines that are not whole: what a scan of their bytes shows.
use Rattle.std.proofs.Common.{◌≡◌, ℕ, ◌+◌, ◌<◌, ◌≤◌, ◌==◌, ◌&&◌, nat_lt, Bool, true, false, List, [], ◌∷◌, ◌++◌, length, Option, Some, None, refl, sym, ap, subst, ◌∙◌, arith, cond, append_assoc, length-append}
use Rattle.std.proofs.lemmas.List.{append-nil}
use Rattle.std.proofs.lemmas.List.Elements.{All-nil, All-append, All-push}
use Rattle.std.proofs.lemmas.Bool.Decides.{nat_tests}
use Rattle.std.specs.Char.{is_ascii_hexdigit}
use Rattle.std.specs.Prelude.{IsTrue}
use Rattle.httparse.specs.Grammar.{AllPass, is_ows, is_extension_byte, ChunkLine, ReadsChunkLine, HasNoChunkLine, MayBecomeChunkLine, print_chunk_line}
use Rattle.httparse.proofs.ChunkLemmas.{chunk_line_unique}
use Rattle.http_text.specs.declared.sizes.SizeScan.{SizeScan}
use Rattle.http_text.specs.declared.sizes.SizeScan.TheVariants as scan
use Rattle.http_text.specs.SizeLines.{Shows, IsSize, is_known, is_size_digit, next_size, after_digits, before_size, scanned_size}
use Rattle.http_text.proofs.ChunkLaws.{reads-more}

-- two tests that hold together
pub both-true : (x y : Bool) → x && y ≡ true → (x ≡ true) × (y ≡ true)
both-true true true e = (refl, refl)
both-true true false e = (refl, e)
both-true false y e = absurd (let k : false ≡ true = e in cc)

passes-nil : (test : ℕ → Bool) → AllPass test []
passes-nil test = All-nil (λ b. IsTrue (test b))

passes-more : (test : ℕ → Bool) (bytes : List ℕ) (b : ℕ) → AllPass test bytes → test b ≡ true → AllPass test (bytes ++ b ∷ [])
passes-more test bytes b all is = All-push (λ b. IsTrue (test b)) bytes b all is

-- one more byte after digits and blanks
after-shows : (digits blanks : List ℕ) (b : ℕ) → IsSize digits → AllPass is_ows blanks → (t u : Bool) → is_ows b ≡ t → b == 59 ≡ u
    → Shows (cond t scan.Blanks (cond u scan.Extension scan.Other)) ((digits ++ blanks) ++ b ∷ [])
after-shows digits blanks b size all true u is _ = (digits, blanks ++ b ∷ [], size, passes-more is_ows blanks b all is, append_assoc digits blanks (b ∷ []))
after-shows digits blanks b size all false true _ is =
    let semicolon : b ≡ 59 = grind (arith, nat_tests, is) in
    (digits, blanks, [], size, all, passes-nil is_extension_byte, ap (λ x. (digits ++ blanks) ++ x ∷ []) semicolon)
after-shows digits blanks b size all false false _ _ = tt

digits-show : (count : ℕ) (part : List ℕ) (b : ℕ) → Shows (scan.Digits count) part → (t u : Bool) → is_size_digit count b ≡ t → nat_lt 0 count ≡ u
    → Shows (cond t (scan.Digits (count + 1)) (cond u (after_digits b) scan.Other)) (part ++ b ∷ [])
digits-show count part b shows true u is _ =
    let size : length part ≡ count = shows.0 in
    let both : (is_ascii_hexdigit b ≡ true) × (nat_lt count 16 ≡ true) = both-true (is_ascii_hexdigit b) (nat_lt count 16) is in
    let fits : count < 16 = grind (arith, nat_tests, both.1) in
    (omega (arith, length-append part (b ∷ []), size), omega (arith, fits), passes-more is_ascii_hexdigit part b shows.2 both.0)
digits-show count part b shows false true _ is =
    let size : length part ≡ count = shows.0 in
    let some : 0 < count = grind (arith, nat_tests, is) in
    subst (λ x. Shows (after_digits b) (x ++ b ∷ [])) (append-nil part)
    (after-shows part [] b (omega (arith, size, some), omega (arith, size, shows.1), shows.2) (passes-nil is_ows) (is_ows b) (b == 59) refl refl)
digits-show count part b shows false false _ _ = tt

extension-shows : (part : List ℕ) (b : ℕ) → Shows scan.Extension part → (t : Bool) → is_extension_byte b ≡ t → Shows (cond t scan.Extension scan.Other) (part ++ b ∷ [])
extension-shows part b (digits, blanks, text, size, all, each, is) true good = (
  digits,
  blanks,
  text ++ b ∷ [],
  size,
  all,
  passes-more is_extension_byte text b each good,
  ap (λ x. x ++ b ∷ []) is ∙ append_assoc (digits ++ blanks) (59 ∷ text) (b ∷ []),
)
extension-shows part b shows false _ = tt

next-shows : (s : SizeScan) (part : List ℕ) (b : ℕ) → Shows s part → Shows (next_size s b) (part ++ b ∷ [])
next-shows (scan.Digits count) part b shows = digits-show count part b shows (is_size_digit count b) (nat_lt 0 count) refl refl
next-shows scan.Blanks part b (digits, blanks, size, all, is) =
    subst (λ x. Shows (after_digits b) (x ++ b ∷ [])) (sym is) (after-shows digits blanks b size all (is_ows b) (b == 59) refl refl)
next-shows scan.Extension part b shows = extension-shows part b shows (is_extension_byte b) refl
next-shows scan.Other part b shows = tt

-- further bytes
pub scanned-shows : (s : SizeScan) (part bytes : List ℕ) → Shows s part → Shows (scanned_size s bytes) (part ++ bytes)
scanned-shows s part [] shows = subst (Shows s) (sym (append-nil part)) shows
scanned-shows s part (b ∷ bytes) shows =
    subst (Shows (scanned_size (next_size s b) bytes)) (append_assoc part (b ∷ []) bytes)
    (scanned-shows (next_size s b) (part ++ b ∷ []) bytes (next-shows s part b shows))

-- the same of a part that goes on with a piece
pub further-shows : (s t : SizeScan) (part part' piece : List ℕ) → Shows s part → part' ≡ part ++ piece → t ≡ scanned_size s piece → Shows t part'
further-shows s t part part' piece shows is scanned =
    subst (Shows t) (sym is) (subst (λ u. Shows u (part ++ piece)) (sym scanned) (scanned-shows s part piece shows))

-- bytes that further ones make a whole line
abbrev Becomes : List ℕ → Type 0
Becomes part = (more : List ℕ) × (l : ChunkLine) × ReadsChunkLine (part ++ more) l [] × (0 < length more)

abbrev line_end : List ℕ
line_end = 13 ∷ 10 ∷ []

abbrev line_of : List ℕ → List ℕ → Option (List ℕ) → ChunkLine
line_of digits blanks extension = record { digits = digits; pad = blanks; extension = extension }

nothing-becomes : Becomes []
unfolding print_chunk_line
nothing-becomes = (
  48 ∷ line_end,
  line_of (48 ∷ []) [] None,
  (record { digits = (omega arith, omega arith, passes-more is_ascii_hexdigit [] 48 (passes-nil is_ascii_hexdigit) refl); pad = passes-nil is_ows; extension = tt }, refl),
  omega arith,
)

digits-become : (part : List ℕ) → length part ≤ 16 → AllPass is_ascii_hexdigit part → Becomes part
unfolding print_chunk_line
digits-become [] most all = nothing-becomes
digits-become (b ∷ bs) most all = (
  line_end,
  line_of (b ∷ bs) [] None,
  (
    record { digits = (omega arith, most, all); pad = passes-nil is_ows; extension = tt },
    ap (λ x. x ++ line_end) (sym (append-nil (b ∷ bs)) ∙ sym (append-nil ((b ∷ bs) ++ [])))
        ∙ sym (append-nil ((((b ∷ bs) ++ []) ++ []) ++ line_end)),
  ),
  omega arith,
)

blanks-become : (digits blanks : List ℕ) → IsSize digits → AllPass is_ows blanks → Becomes (digits ++ blanks)
unfolding print_chunk_line
blanks-become digits blanks size all = (
  line_end,
  line_of digits blanks None,
  (
    record { digits = size; pad = all; extension = tt },
    ap (λ x. x ++ line_end) (sym (append-nil (digits ++ blanks))) ∙ sym (append-nil (((digits ++ blanks) ++ []) ++ line_end)),
  ),
  omega arith,
)

extension-becomes : (digits blanks text : List ℕ) → IsSize digits → AllPass is_ows blanks → AllPass is_extension_byte text → Becomes (digits ++ blanks ++ 59 ∷ text)
unfolding print_chunk_line
extension-becomes digits blanks text size all each = (
  line_end,
  line_of digits blanks (Some text),
  (
    record { digits = size; pad = all; extension = each },
    sym (append-nil (((digits ++ blanks) ++ 59 ∷ text) ++ line_end)),
  ),
  omega arith,
)

becomes : (s : SizeScan) (part : List ℕ) → is_known s ≡ true → Shows s part → Becomes part
becomes (scan.Digits count) part _ shows = digits-become part (let size : length part ≡ count = shows.0 in omega (arith, size, shows.1)) shows.2
becomes scan.Blanks part _ (digits, blanks, size, all, is) = subst Becomes (sym is) (blanks-become digits blanks size all)
becomes scan.Extension part _ (digits, blanks, text, size, all, each, is) = subst Becomes (sym is) (extension-becomes digits blanks text size all each)
becomes scan.Other part known _ = absurd (let k : false ≡ true = known in cc)

-- before its last bytes a line is not there
not-yet : (part more : List ℕ) (l : ChunkLine) → ReadsChunkLine (part ++ more) l [] → 0 < length more → HasNoChunkLine part
not-yet part more l reads some = λ k rest sooner.
    let e : rest ++ more ≡ [] = (chunk_line_unique (part ++ more) k l (rest ++ more) [] (reads-more part more k rest sooner) reads).1 in
    omega (arith, ap length e, length-append rest more, some)

-- a line whose scan says that it is open
pub known-open : (s : SizeScan) (part : List ℕ) → is_known s ≡ true → Shows s part → HasNoChunkLine part × MayBecomeChunkLine part
known-open s part known shows =
    let whole = becomes s part known shows in
    (not-yet part whole.0 whole.1 whole.2 whole.3, (whole.0, whole.1, whole.2))

-- nothing of it yet
pub shows-none : Shows before_size []
shows-none = (refl, omega arith, passes-nil is_ascii_hexdigit)
