-- How far bytes go that were received in pieces.
use Rattle.std.proofs.Common.{◌≡◌, ℕ, ◌+◌, ◌-◌, ◌<◌, ◌≤◌, false, List, length, take, drop, Option, Some, None, sym, ap, subst, ◌∙◌, arith}
use Rattle.std.specs.Option.{option_map}
use Rattle.std.proofs.lemmas.List.{length-take-le, take-append-drop, take-append-le}
use Rattle.edge_io.proofs.EdgeLaws.{rest_is}
use Rattle.http_lines.specs.declared.scan.Scan.{Scan}
use Rattle.http_lines.specs.SectionEnds.{section_end, scanned, before_head, EndsPast}
use Rattle.http_lines.proofs.EndLaws.{end-append, end-stable, end-within, scanned-append}
use Rattle.mirror_server.specs.declared.error.MirrorError.TheVariants.{TooLong}
use Rattle.mirror_server.specs.declared.look.Progress.{Progress}
use Rattle.mirror_server.specs.declared.look.Progress.TheVariants as progress
use Rattle.mirror_server.specs.RequestGrammar as grammar
use Rattle.mirror_server.specs.RequestGrammar.{Asks, Whole, Refused, Open, Says, IsBadHead, head_limit, request_limit}
use Rattle.mirror_server.specs.RequestReading.{Begins, Stands}

-- the end of a head that was not whole before a place
pub end-later : (scan : Scan) (bytes : List ℕ) (before : ℕ) (o : Option ℕ) → before ≤ length bytes → Stands (progress.Head scan) (take before bytes)
    → section_end scan (take (length bytes - before) (drop before bytes)) ≡ o → section_end before_head bytes ≡ option_map (λ n. before + n) o
end-later scan bytes before o within stands is =
    ap (section_end before_head) (sym (take-append-drop before bytes))
    ∙ end-append before_head (take before bytes) (drop before bytes) stands.1
    ∙ ap (λ s. option_map (λ n. length (take before bytes) + n) (section_end s (drop before bytes))) (sym stands.0)
    ∙ ap (λ k. option_map (λ n. k + n) (section_end scan (drop before bytes))) (length-take-le before bytes within)
    ∙ ap (λ r. option_map (λ n. before + n) (section_end scan r)) (sym (rest_is bytes before))
    ∙ ap (option_map (λ n. before + n)) is

pub scanned-later : (scan next : Scan) (bytes : List ℕ) (before : ℕ) → Stands (progress.Head scan) (take before bytes)
    → next ≡ scanned scan (take (length bytes - before) (drop before bytes)) → next ≡ scanned before_head bytes
scanned-later scan next bytes before stands is =
    is ∙ ap (scanned scan) (rest_is bytes before)
    ∙ ap (λ s. scanned s (drop before bytes)) stands.0
    ∙ sym (scanned-append before_head (take before bytes) (drop before bytes))
    ∙ ap (scanned before_head) (take-append-drop before bytes)

-- the head stays whole
pub begins-later : (bytes : List ℕ) (before total : ℕ) → Begins (take before bytes) total → Begins bytes total
begins-later bytes before total b =
    let within = (end-within before_head (take before bytes) b.head b.ends).1 in
    let same : take b.head (take before bytes) ≡ take b.head bytes =
    sym (take-append-le b.head (take before bytes) (drop before bytes) within) ∙ ap (take b.head) (take-append-drop before bytes) in
    record {
      head = b.head;
      size = b.size;
      ends = subst (λ x. section_end before_head x ≡ Some b.head) (take-append-drop before bytes)
          (end-stable before_head (take before bytes) (drop before bytes) b.head b.ends);
      fits = b.fits;
      says = subst (λ x. Says x b.size false) same b.says;
      total_is = b.total_is;
      short = b.short;
    }

-- a head that ends too late
pub long-at : (bytes : List ℕ) (head : ℕ) → section_end before_head bytes ≡ Some head → head ≤ length bytes → head_limit < head → Asks bytes (Refused TooLong)
long-at bytes head ends within late = grammar.long_head (omega (arith, within, late)) (subst (EndsPast head_limit) (sym ends) late)

-- bytes of which this much is known are neither a request nor refused
pub stands-open : (p : Progress) (bytes : List ℕ) → Stands p bytes → Asks bytes Open
stands-open (progress.Head scan) bytes s = grammar.open_head s.1 s.2
stands-open (progress.Body total) bytes s =
    let b = s.0 in
    let few : length bytes < total = s.1 in
    grammar.open_body b.ends b.fits b.says (omega (arith, b.total_is, b.short)) (omega (arith, b.total_is, few))

pub stands-short : (p : Progress) (bytes : List ℕ) → Stands p bytes → length bytes < request_limit
stands-short (progress.Head scan) bytes s = let few : length bytes < 65536 = s.2 in omega (arith, few)
stands-short (progress.Body total) bytes s = let few : length bytes < total = s.1 in omega (arith, s.0.short, few)

-- bytes that have a whole request
pub begins-whole : (bytes : List ℕ) (total : ℕ) → Begins bytes total → total ≤ length bytes → Asks bytes (Whole (take total bytes) (drop total bytes))
begins-whole bytes total b all =
    subst (λ n. Asks bytes (Whole (take n bytes) (drop n bytes))) (sym b.total_is)
    (grammar.whole b.ends b.fits b.says (omega (arith, b.total_is, b.short)) (omega (arith, b.total_is, all)))

-- a head that did not end in time
pub long-open : (bytes : List ℕ) → section_end before_head bytes ≡ None → head_limit ≤ length bytes → Asks bytes (Refused TooLong)
long-open bytes none many = grammar.long_head many (subst (EndsPast head_limit) (sym none) tt)
