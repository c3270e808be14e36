-- Chunk lines, and bytes after them.
use Rattle.std.proofs.Common.{◌≡◌, ℕ, ◌+◌, ◌-◌, ◌<◌, ◌≤◌, List, [], ◌∷◌, ◌++◌, length, take, drop, refl, sym, ap, ◌∙◌, arith, append_assoc, length-append, None}
use Rattle.std.proofs.lemmas.List.{take-append-drop}
use Rattle.std.proofs.lemmas.List.Elements.{All-cons, All-nil}
use Rattle.std.specs.Char.{is_ascii_hexdigit}
use Rattle.std.specs.Prelude.{IsTrue}
use Rattle.httparse.specs.Grammar.{is_ows, ChunkLine, ReadsChunkLine, HasNoChunkLine, NeverHasChunkLine, MayBecomeChunkLine, print_chunk_line, print_extension, print_end, crlf}

pub reads-more : (a b : List ℕ) (l : ChunkLine) (rest : List ℕ) → ReadsChunkLine a l rest → ReadsChunkLine (a ++ b) l (rest ++ b)
reads-more a b l rest reads = (reads.0, ap (λ x. x ++ b) reads.1 ∙ append_assoc (print_chunk_line l) rest b)

-- a prefix that has a line, of bytes that have none, is not there
pub no-line-in : (bytes : List ℕ) (k : ℕ) (l : ChunkLine) (rest : List ℕ) → ReadsChunkLine (take k bytes) l rest → HasNoChunkLine bytes → ⊥
no-line-in bytes k l rest reads none =
    let whole = reads-more (take k bytes) (drop k bytes) l rest reads in
    none l (rest ++ drop k bytes) (whole.0, sym (take-append-drop k bytes) ∙ whole.1)

-- no line yet
pub no-line : HasNoChunkLine []
unfolding print_chunk_line
no-line l rest reads =
    let e = ap length reads.1 in
    omega (
      arith,
      e,
      reads.0.digits.0,
      length-append (l.digits ++ l.pad ++ print_extension l.extension ++ print_end crlf) rest,
      length-append (l.digits ++ l.pad ++ print_extension l.extension) (print_end crlf),
      length-append (l.digits ++ l.pad) (print_extension l.extension),
      length-append l.digits l.pad,
    )

abbrev zero-line : ChunkLine
zero-line = record { digits = 48 ∷ []; pad = []; extension = None }

pub may-line : MayBecomeChunkLine []
unfolding print_chunk_line
may-line = (48 ∷ 13 ∷ 10 ∷ [], zero-line, (record { digits = (omega arith, omega arith, All-cons (λ b. IsTrue (is_ascii_hexdigit b)) 48 [] refl (All-nil (λ b. IsTrue (is_ascii_hexdigit b)))); pad = All-nil (λ b. IsTrue (is_ows b)); extension = tt }, refl))
