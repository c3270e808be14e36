-- How a reader moves on in a body.
use Rattle.std.proofs.Common.{◌≡◌, ℕ, ◌+◌, ◌-◌, ◌<◌, ◌≤◌, ◌==◌, ◌≢◌, nat_lt, Bool, true, false, List, [], ◌∷◌, ◌++◌, length, take, drop, get_or, Option, Some, None, refl, sym, ap, subst, ◌∙◌, arith, cond, append_assoc, length-append, add-one}
use Rattle.std.proofs.lemmas.List.{append-nil, length-take-le, take_all, take-append-drop, take-append-le, take_at}
use Rattle.std.proofs.lemmas.Bool.Decides.{nat_tests}
use Rattle.std.proofs.Math.Seq.{take-append-add, drop-append-add, take-append_seam, drop-append_seam}
use Rattle.httparse.specs.Grammar.{ChunkLine, ReadsChunkLine, HasNoChunkLine, NeverHasChunkLine, MayBecomeChunkLine, print_chunk_line, chunk_size}
use Rattle.httparse.specs.Spans.{IsChunkLineAt}
use Rattle.jm_base.specs.declared.types.Reply.{Reply}
use Rattle.jm_base.specs.declared.types.Wire.{Wire}
use Rattle.jm_base.specs.declared.types.Wire.TheVariants.{BadHead, BadChunk, TooLong, EndEarly}
use Rattle.http_lines.specs.declared.scan.Scan.{Scan}
use Rattle.http_text.specs.declared.state.Phase.{Phase}
use Rattle.http_text.specs.declared.state.Phase.TheVariants as phase
use Rattle.http_lines.specs.SectionEnds.{section_end, scanned, before_trailer, EndsPast}
use Rattle.http_text.specs.ResponseHeads.{IsSection}
use Rattle.http_text.specs.ResponseGrammar as grammar
use Rattle.http_text.specs.ResponseGrammar.{Answer, Whole, Refused, Open, Place, Sized, Rest, SizeLine, Chunk, ChunkEnd, Trailer, End, Gives, part_limit, body_limit, with_body, room, place_after_size}
use Rattle.http_text.specs.ResponseReading.{Reading, Continues, Stands, Advances}
use Rattle.http_lines.proofs.EndLaws.{end-stable, scanned-append}
use Rattle.http_text.proofs.ChunkLaws.{reads-more, no-line-in, no-line, may-line}
use Rattle.http_text.specs.declared.sizes.SizeScan.{SizeScan}
use Rattle.http_text.specs.SizeLines.{before_size, scanned_size, is_known}
use Rattle.http_text.proofs.SizeLaws.{shows-none, further-shows, known-open}
use Rattle.http_text.proofs.Moves.{reading, part-ends, part-open, part-long}

-- a body goes on
joins : (reply : Reply) (a b : List ℕ) → with_body (with_body reply a) b ≡ with_body reply (a ++ b)
joins reply a b = ap (λ x. record reply { body = x }) (append_assoc reply.body a b)

joins-take : (reply new : Reply) (left rest : ℕ) (piece more : List ℕ) → new ≡ with_body reply piece → left ≡ length piece + rest
    → with_body new (take rest more) ≡ with_body reply (take left (piece ++ more))
joins-take reply new left rest piece more is e =
    ap (λ r. with_body r (take rest more)) is ∙ joins reply piece (take rest more)
    ∙ ap (with_body reply) (sym (take-append-add piece more rest)) ∙ ap (λ n. with_body reply (take n (piece ++ more))) (sym e)

rest-drop : (left rest : ℕ) (piece more : List ℕ) → left ≡ length piece + rest → drop rest more ≡ drop left (piece ++ more)
rest-drop left rest piece more e = sym (drop-append-add piece more rest) ∙ ap (λ n. drop n (piece ++ more)) (sym e)

room-left : (reply new : Reply) (piece : List ℕ) → new ≡ with_body reply piece → room new ≡ room reply - length piece
room-left reply new piece is = let e : length new.body ≡ length reply.body + length piece = ap (λ r. length r.body) is ∙ length-append reply.body piece in omega (arith, e)

sized-from : (h : Bool) (new : Reply) (rest : ℕ) (more : List ℕ) (answer : Answer) → Gives h (Sized new rest) more answer
    → (reply : Reply) (left : ℕ) (piece : List ℕ) → new ≡ with_body reply piece → left ≡ length piece + rest → length piece ≤ room reply
    → Gives h (Sized reply left) (piece ++ more) answer
sized-from h new rest more _ (grammar.open_body p q) reply left piece is e w =
    let r : room new ≡ room reply - length piece = room-left reply new piece is in
    grammar.open_body (omega (arith, length-append piece more, p, e)) (omega (arith, length-append piece more, q, r, w))
sized-from h new rest more _ (grammar.long_body p q) reply left piece is e w =
    let r : room new ≡ room reply - length piece = room-left reply new piece is in
    grammar.long_body (omega (arith, p, e, r, w)) (omega (arith, length-append piece more, q, r, w))
sized-from h new rest more _ (grammar.whole_body p q) reply left piece is e w =
    let r : room new ≡ room reply - length piece = room-left reply new piece is in
    let here : Gives h (Sized reply left) (piece ++ more) (Whole (with_body reply (take left (piece ++ more))) (drop left (piece ++ more)))
    = grammar.whole_body (omega (arith, p, e, r, w)) (omega (arith, length-append piece more, q, e)) in
    subst (Gives h (Sized reply left) (piece ++ more)) (ap (λ x. Whole x (drop left (piece ++ more))) (sym (joins-take reply new left rest piece more is e)) ∙ ap (Whole (with_body new (take rest more))) (sym (rest-drop left rest piece more e))) here

chunk-from : (h : Bool) (new : Reply) (rest : ℕ) (more : List ℕ) (answer : Answer) → Gives h (Chunk new rest) more answer
    → (reply : Reply) (left : ℕ) (piece : List ℕ) → new ≡ with_body reply piece → left ≡ length piece + rest → length piece ≤ room reply
    → Gives h (Chunk reply left) (piece ++ more) answer
chunk-from h new rest more _ (grammar.open_chunk p q) reply left piece is e w =
    let r : room new ≡ room reply - length piece = room-left reply new piece is in
    grammar.open_chunk (omega (arith, length-append piece more, p, e)) (omega (arith, length-append piece more, q, r, w))
chunk-from h new rest more _ (grammar.long_chunk p q) reply left piece is e w =
    let r : room new ≡ room reply - length piece = room-left reply new piece is in
    grammar.long_chunk (omega (arith, p, e, r, w)) (omega (arith, length-append piece more, q, r, w))
chunk-from h new rest more answer (grammar.chunk p q k) reply left piece is e w =
    let r : room new ≡ room reply - length piece = room-left reply new piece is in
    grammar.chunk (omega (arith, p, e, r, w)) (omega (arith, length-append piece more, q, e))
    (subst (λ x. Gives h (ChunkEnd x) (drop left (piece ++ more)) answer) (joins-take reply new left rest piece more is e)
    (subst (λ x. Gives h (ChunkEnd (with_body new (take rest more))) x answer) (rest-drop left rest piece more e) k))

rest-from : (h : Bool) (new : Reply) (more : List ℕ) (answer : Answer) → Gives h (Rest new) more answer
    → (reply : Reply) (piece : List ℕ) → new ≡ with_body reply piece → length piece ≤ room reply → Gives h (Rest reply) (piece ++ more) answer
rest-from h new more _ (grammar.open_rest p) reply piece is w =
    let r : room new ≡ room reply - length piece = room-left reply new piece is in
    subst (Gives h (Rest reply) (piece ++ more)) (ap (λ x. Open (Some x)) (sym (ap (λ x. with_body x more) is ∙ joins reply piece more)))
    (grammar.open_rest (omega (arith, length-append piece more, p, r, w)))
rest-from h new more _ (grammar.long_rest p) reply piece is w =
    let r : room new ≡ room reply - length piece = room-left reply new piece is in
    grammar.long_rest (omega (arith, length-append piece more, p, r, w))

body-fits : (reply new : Reply) (piece : List ℕ) → new ≡ with_body reply piece → length reply.body ≤ body_limit → length piece ≤ room reply → length new.body ≤ body_limit
body-fits reply new piece is le w = let e : length new.body ≡ length reply.body + length piece = ap (λ r. length r.body) is ∙ length-append reply.body piece in omega (arith, e, le, w)

-- a body of a known length
pub sized-more : (h : Bool) (left rest : ℕ) (part part' piece : List ℕ) (reply new : Reply) → Stands (reading h (phase.Sized left) part reply) → left ≡ length piece + rest → 0 < rest
    → length piece ≤ room reply → new ≡ with_body reply piece
    → Advances (reading h (phase.Sized left) part reply) piece (reading h (phase.Sized rest) part' new)
sized-more h left rest part part' piece reply new stands e some w is = record {
  same = refl;
  leads = λ more answer k. sized-from h new rest more answer k reply left piece is e w;
  stands = (some, body-fits reply new piece is stands.1 w);
}

pub sized-done : (h : Bool) (left : ℕ) (part part' piece : List ℕ) (reply new : Reply) → Stands (reading h (phase.Sized left) part reply) → left ≡ length piece
    → length piece ≤ room reply → new ≡ with_body reply piece
    → Advances (reading h (phase.Sized left) part reply) piece (reading h phase.Done part' new)
sized-done h left part part' piece reply new stands e w is = record {
  same = refl;
  leads = λ more answer k.
      let here : Gives h (Sized reply left) (piece ++ more) (Whole (with_body reply (take left (piece ++ more))) (drop left (piece ++ more)))
      = grammar.whole_body (omega (arith, e, w)) (omega (arith, length-append piece more, e)) in
      let prefix : take left (piece ++ more) ≡ piece = ap (λ n. take n (piece ++ more)) e ∙ take-append_seam piece more in
      let suffix : drop left (piece ++ more) ≡ more = ap (λ n. drop n (piece ++ more)) e ∙ drop-append_seam piece more in
      subst (Gives h (Sized reply left) (piece ++ more)) (ap (λ x. Whole (with_body reply x) (drop left (piece ++ more))) prefix ∙ ap (Whole (with_body reply piece)) suffix ∙ ap (λ r. Whole r more) (sym is) ∙ sym k) here;
  stands = tt;
}

pub sized-long : (h : Bool) (left : ℕ) (part part' piece : List ℕ) (reply new : Reply) → room reply < length piece → room reply < left
    → Advances (reading h (phase.Sized left) part reply) piece (reading h (phase.Refused TooLong) part' new)
sized-long h left part part' piece reply new p q = record {
  same = refl;
  leads = λ more answer k. subst (Gives h (Sized reply left) (piece ++ more)) (sym k) (grammar.long_body q (omega (arith, length-append piece more, p)));
  stands = tt;
}

-- a body up to the end of input
pub rest-more : (h : Bool) (part part' piece : List ℕ) (reply new : Reply) → Stands (reading h phase.Rest part reply) → length piece ≤ room reply → new ≡ with_body reply piece
    → Advances (reading h phase.Rest part reply) piece (reading h phase.Rest part' new)
rest-more h part part' piece reply new stands w is = record {
  same = refl;
  leads = λ more answer k. rest-from h new more answer k reply piece is w;
  stands = body-fits reply new piece is stands w;
}

pub rest-long : (h : Bool) (part part' piece : List ℕ) (reply new : Reply) → room reply < length piece
    → Advances (reading h phase.Rest part reply) piece (reading h (phase.Refused TooLong) part' new)
rest-long h part part' piece reply new p = record {
  same = refl;
  leads = λ more answer k. subst (Gives h (Rest reply) (piece ++ more)) (sym k) (grammar.long_rest (omega (arith, length-append piece more, p)));
  stands = tt;
}

-- a chunk's bytes
pub chunk-more : (h : Bool) (left rest : ℕ) (part part' piece : List ℕ) (reply new : Reply) → Stands (reading h (phase.Chunk left) part reply) → left ≡ length piece + rest → 0 < rest
    → length piece ≤ room reply → new ≡ with_body reply piece
    → Advances (reading h (phase.Chunk left) part reply) piece (reading h (phase.Chunk rest) part' new)
chunk-more h left rest part part' piece reply new stands e some w is = record {
  same = refl;
  leads = λ more answer k. chunk-from h new rest more answer k reply left piece is e w;
  stands = (some, body-fits reply new piece is stands.1 w);
}

pub chunk-done : (h : Bool) (left : ℕ) (part part' piece : List ℕ) (reply new : Reply) → Stands (reading h (phase.Chunk left) part reply) → left ≡ length piece
    → length piece ≤ room reply → new ≡ with_body reply piece
    → Advances (reading h (phase.Chunk left) part reply) piece (reading h phase.ChunkReturn part' new)
chunk-done h left part part' piece reply new stands e w is = record {
  same = refl;
  leads = λ more answer k.
      let prefix : take left (piece ++ more) ≡ piece = ap (λ n. take n (piece ++ more)) e ∙ take-append_seam piece more in
      let suffix : drop left (piece ++ more) ≡ more = ap (λ n. drop n (piece ++ more)) e ∙ drop-append_seam piece more in
      grammar.chunk (omega (arith, e, w)) (omega (arith, length-append piece more, e))
      (subst (λ x. Gives h (ChunkEnd x) (drop left (piece ++ more)) answer) (is ∙ ap (with_body reply) (sym prefix))
      (subst (λ x. Gives h (ChunkEnd new) x answer) (sym suffix) k));
  stands = body-fits reply new piece is stands.1 w;
}

pub chunk-long : (h : Bool) (left : ℕ) (part part' piece : List ℕ) (reply new : Reply) → room reply < length piece → room reply < left
    → Advances (reading h (phase.Chunk left) part reply) piece (reading h (phase.Refused TooLong) part' new)
chunk-long h left part part' piece reply new p q = record {
  same = refl;
  leads = λ more answer k. subst (Gives h (Chunk reply left) (piece ++ more)) (sym k) (grammar.long_chunk q (omega (arith, length-append piece more, p)));
  stands = tt;
}

-- CR LF after a chunk
one-byte : (piece : List ℕ) → 0 < length piece → take 1 piece ≡ get_or piece 0 0 ∷ []
one-byte [] h = absurd (omega (arith, h))
one-byte (b ∷ bs) h = refl

pub return-good : (h : Bool) (part part' piece : List ℕ) (reply : Reply) → Stands (reading h phase.ChunkReturn part reply) → 0 < length piece → get_or piece 0 0 ≡ 13
    → Advances (reading h phase.ChunkReturn part reply) (take 1 piece) (reading h phase.ChunkFeed part' reply)
return-good h part part' piece reply stands some is = record {
  same = refl;
  leads = λ more answer k. subst (λ x. Gives h (ChunkEnd reply) (x ++ more) answer) (sym (one-byte piece some ∙ ap (λ b. b ∷ []) is)) k;
  stands = stands;
}

pub return-bad : (h : Bool) (part part' piece : List ℕ) (reply : Reply) → 0 < length piece → ¬ (get_or piece 0 0 ≡ 13)
    → Advances (reading h phase.ChunkReturn part reply) (take 1 piece) (reading h (phase.Refused BadChunk) part' reply)
return-bad h part part' piece reply some no_return = record {
  same = refl;
  leads = λ more answer k. subst (λ x. Gives h (ChunkEnd reply) (x ++ more) answer) (sym (one-byte piece some)) (subst (Gives h (ChunkEnd reply) (get_or piece 0 0 ∷ more)) (sym k) (grammar.bad_end no_return));
  stands = tt;
}

pub feed-good : (h : Bool) (part part' piece : List ℕ) (reply : Reply) → Stands (reading h phase.ChunkFeed part reply) → 0 < length piece → get_or piece 0 0 ≡ 10 → part' ≡ []
    → Advances (reading h phase.ChunkFeed part reply) (take 1 piece) (reading h (phase.SizeLine before_size) part' reply)
feed-good h part part' piece reply stands some is empty = record {
  same = refl;
  leads = λ more answer k. subst (λ x. Gives h (ChunkEnd reply) (13 ∷ (x ++ more)) answer) (sym (one-byte piece some ∙ ap (λ b. b ∷ []) is))
      (grammar.chunk_end (subst (λ p. Gives h (SizeLine reply) (p ++ more) answer) empty k));
  stands = subst (λ p. Stands (reading h (phase.SizeLine before_size) p reply)) (sym empty) (omega arith, no-line, may-line, stands, shows-none);
}

pub feed-bad : (h : Bool) (part part' piece : List ℕ) (reply : Reply) → 0 < length piece → ¬ (get_or piece 0 0 ≡ 10)
    → Advances (reading h phase.ChunkFeed part reply) (take 1 piece) (reading h (phase.Refused BadChunk) part' reply)
feed-bad h part part' piece reply some no_feed = record {
  same = refl;
  leads = λ more answer k. subst (λ x. Gives h (ChunkEnd reply) (13 ∷ (x ++ more)) answer) (sym (one-byte piece some)) (subst (Gives h (ChunkEnd reply) (13 ∷ get_or piece 0 0 ∷ more)) (sym k) (grammar.bad_feed no_feed));
  stands = tt;
}

-- a size line
pub line-open : (h : Bool) (s t : SizeScan) (part part' piece : List ℕ) (reply : Reply) → Stands (reading h (phase.SizeLine s) part reply) → part' ≡ part ++ piece
    → length part' < part_limit → HasNoChunkLine part' → MayBecomeChunkLine part' → t ≡ scanned_size s piece
    → Advances (reading h (phase.SizeLine s) part reply) piece (reading h (phase.SizeLine t) part' reply)
line-open h s t part part' piece reply stands is short none may scanned = record {
  same = refl;
  leads = λ more answer k. subst (λ x. Gives h (SizeLine reply) x answer) (ap (λ p. p ++ more) is ∙ append_assoc part piece more) k;
  stands = (short, none, may, stands.3, further-shows s t part part' piece stands.4 is scanned);
}

-- a size line whose scan says that it is open
pub line-known : (h : Bool) (s t : SizeScan) (part part' piece : List ℕ) (reply : Reply) → Stands (reading h (phase.SizeLine s) part reply) → part' ≡ part ++ piece
    → length part' < part_limit → t ≡ scanned_size s piece → is_known t ≡ true
    → Advances (reading h (phase.SizeLine s) part reply) piece (reading h (phase.SizeLine t) part' reply)
line-known h s t part part' piece reply stands is short scanned known =
    let open_line = known-open t part' known (further-shows s t part part' piece stands.4 is scanned) in
    line-open h s t part part' piece reply stands is short open_line.0 open_line.1 scanned

-- a text that goes on
text-whole : (part piece more : List ℕ) (count : ℕ) (text : List ℕ) → text ≡ part ++ take count piece
    → part ++ (piece ++ more) ≡ text ++ (drop count piece ++ more)
text-whole part piece more count text is =
    ap (λ x. part ++ (x ++ more)) (sym (take-append-drop count piece)) ∙ ap (λ x. part ++ x) (append_assoc (take count piece) (drop count piece) more)
    ∙ sym (append_assoc part (take count piece) (drop count piece ++ more)) ∙ ap (λ x. x ++ (drop count piece ++ more)) (sym is)

text-prefix : (part piece more : List ℕ) (count n : ℕ) (text : List ℕ) → text ≡ part ++ take count piece → n ≤ length text
    → take n (part ++ (piece ++ more)) ≡ take n text
text-prefix part piece more count n text is w =
    ap (take n) (text-whole part piece more count text is) ∙ take-append-le n text (drop count piece ++ more) w

pub line-bad : (h : Bool) (s : SizeScan) (part part' piece : List ℕ) (count : ℕ) (reply : Reply) (text : List ℕ) → text ≡ part ++ take count piece → length text < part_limit
    → NeverHasChunkLine text
    → Advances (reading h (phase.SizeLine s) part reply) piece (reading h (phase.Refused BadChunk) part' reply)
line-bad h s part part' piece count reply text is short never = record {
  same = refl;
  leads = λ more answer k. subst (Gives h (SizeLine reply) (part ++ (piece ++ more))) (sym k)
      (grammar.bad_line short (subst NeverHasChunkLine (sym (text-prefix part piece more count (length text) text is (omega arith) ∙ take_all (length text) text (omega arith))) never));
  stands = tt;
}

-- a size line that fills its room and is not whole
pub line-long : (h : Bool) (s : SizeScan) (part part' piece : List ℕ) (count : ℕ) (reply : Reply) (text : List ℕ) (wire : Wire) → text ≡ part ++ take count piece → length text ≡ part_limit
    → HasNoChunkLine text → (wire ≡ BadChunk → NeverHasChunkLine (take (length text - 1) text)) → (wire ≢ BadChunk → wire ≡ TooLong)
    → (wire ≡ TooLong → HasNoChunkLine text → MayBecomeChunkLine (take (length text - 1) text))
    → Advances (reading h (phase.SizeLine s) part reply) piece (reading h (phase.Refused wire) part' reply)
line-long h s part part' piece count reply text wire is full none bad other may = record {
  same = refl;
  leads = λ more answer k. subst (Gives h (SizeLine reply) (part ++ (piece ++ more))) (sym k) (rule wire refl more);
  stands = tt;
} where
  prefix : (more : List ℕ) (n : ℕ) → n ≤ length text → take n text ≡ take n (part ++ (piece ++ more))
  prefix more n w = sym (text-prefix part piece more count n text is w)

  last : length text - 1 ≡ 65535
  last = omega (arith, full)

  long : (more : List ℕ) → wire ≡ TooLong → Gives h (SizeLine reply) (part ++ (piece ++ more)) (Refused wire)
  long more e = subst (λ w. Gives h (SizeLine reply) (part ++ (piece ++ more)) (Refused w)) (sym e)
      (grammar.long_line (omega (arith, full, ap length (text-whole part piece more count text is), length-append text (drop count piece ++ more)))
      (subst MayBecomeChunkLine (ap (λ n. take n text) last ∙ prefix more 65535 (omega (arith, full))) (may e none))
      (subst HasNoChunkLine (sym (take_all 65536 text (omega (arith, full))) ∙ prefix more 65536 (omega (arith, full))) none))

  rule : (w : Wire) → wire ≡ w → (more : List ℕ) → Gives h (SizeLine reply) (part ++ (piece ++ more)) (Refused wire)
  rule BadHead e more = long more (other (λ f. let g : BadHead ≡ BadChunk = sym e ∙ f in cc))
  rule BadChunk e more = subst (λ w. Gives h (SizeLine reply) (part ++ (piece ++ more)) (Refused w)) (sym e)
      (grammar.bad_line {n = 65535} (omega arith) (subst NeverHasChunkLine (ap (λ n. take n text) last ∙ prefix more 65535 (omega (arith, full))) (bad e)))
  rule TooLong e more = long more e
  rule EndEarly e more = long more (other (λ f. let g : EndEarly ≡ BadChunk = sym e ∙ f in cc))

-- a whole size line
print-is : (text : List ℕ) (len size : ℕ) (l : ChunkLine) → IsChunkLineAt text len size l → print_chunk_line l ≡ take len text
print-is text len size l at = sym (ap (take len) at.reads.1 ∙ take_at (print_chunk_line l) (drop len text) len (sym at.len_is))

pub line-past : (part rest : List ℕ) (len size : ℕ) (l : ChunkLine) → HasNoChunkLine part → IsChunkLineAt (part ++ rest) len size l → length part < len
line-past part rest len size l none at = go (nat_lt (length part) len) refl where
  go : (b : Bool) → nat_lt (length part) len ≡ b → length part < len
  go true is = grind (arith, nat_tests, is)
  go false is =
      let le : len ≤ length part = grind (arith, nat_tests, is) in
      let print : print_chunk_line l ≡ take len part = print-is (part ++ rest) len size l at ∙ take-append-le len part rest le in
      absurd (none l (drop len part) (at.reads.0, sym (ap (λ x. x ++ drop len part) print ∙ take-append-drop len part)))

pub line-within : (text : List ℕ) (len size : ℕ) (l : ChunkLine) → IsChunkLineAt text len size l → len ≤ length text
line-within text len size l at = let e = ap length at.reads.1 in omega (arith, e, at.len_is, length-append (print_chunk_line l) (drop len text))

size-leads : (h : Bool) (size : ℕ) (reply : Reply) (more : List ℕ) (answer : Answer) (b : Bool)
    → Continues (reading h (cond b (phase.Trailer before_trailer) (phase.Chunk size)) [] reply) more answer
    → Gives h (cond b (Trailer reply) (Chunk reply size)) more answer
size-leads h size reply more answer true k = k
size-leads h size reply more answer false k = k

size-stands : (h : Bool) (size : ℕ) (reply : Reply) (b : Bool) → size == 0 ≡ b → length reply.body ≤ body_limit
    → Stands (reading h (cond b (phase.Trailer before_trailer) (phase.Chunk size)) [] reply)
size-stands h size reply true is le = (refl, refl, omega arith)
size-stands h size reply false is le = ((let ne : 0 < size = grind (arith, nat_tests, is) in ne), le)

pub line-whole : (h : Bool) (s : SizeScan) (part part' piece text : List ℕ) (count len used size : ℕ) (reply : Reply) (l : ChunkLine) → Stands (reading h (phase.SizeLine s) part reply)
    → text ≡ part ++ take count piece → count ≤ length piece → length text ≤ part_limit → IsChunkLineAt text len size l → len ≡ length part + used → part' ≡ []
    → Advances (reading h (phase.SizeLine s) part reply) (take used piece) (reading h (cond (size == 0) (phase.Trailer before_trailer) (phase.Chunk size)) part' reply)
line-whole h s part part' piece text count len used size reply l stands is w fits at e empty = record {
  same = refl;
  leads = λ more answer k.
      grammar.line {l = l} (at.reads.0, sym (append_assoc part (take used piece) more) ∙ ap (λ x. x ++ more) (sym print)) (omega (arith, at.len_is, line-within text len size l at, fits))
      (subst (λ n. Gives h (place_after_size reply n) more answer) at.size_is
      (size-leads h size reply more answer (size == 0) (subst (λ p. Continues (reading h (cond (size == 0) (phase.Trailer before_trailer) (phase.Chunk size)) p reply) more answer) empty k)));
  stands = subst (λ p. Stands (reading h (cond (size == 0) (phase.Trailer before_trailer) (phase.Chunk size)) p reply)) (sym empty) (size-stands h size reply (size == 0) refl stands.3);
} where
  used-fits : used ≤ length (take count piece)
  used-fits = omega (arith, e, line-within text len size l at, ap length is, length-append part (take count piece))

  print : print_chunk_line l ≡ part ++ take used piece
  print =
      print-is text len size l at ∙ ap (take len) is ∙ ap (λ n. take n (part ++ take count piece)) e ∙ take-append-add part (take count piece) used
      ∙ ap (λ x. part ++ x) (sym (take-append-le used (take count piece) (drop count piece) used-fits) ∙ ap (take used) (take-append-drop count piece))

-- a trailer part
pub trailer-open : (h : Bool) (s t : Scan) (part piece : List ℕ) (reply : Reply) → Stands (reading h (phase.Trailer s) part reply)
    → section_end s piece ≡ None → length piece < part_limit - length part → t ≡ scanned s piece
    → Advances (reading h (phase.Trailer s) part reply) piece (reading h (phase.Trailer t) (part ++ piece) reply)
trailer-open h s t part piece reply stands none fits is = record {
  same = refl;
  leads = λ more answer k. subst (λ bytes. Gives h (Trailer reply) bytes answer) (append_assoc part piece more) k;
  stands = (
    is ∙ ap (λ u. scanned u piece) stands.0 ∙ sym (scanned-append before_trailer part piece),
    part-open before_trailer s part piece stands.0 stands.1 none,
    (let le : length part < 65536 = stands.2 in omega (arith, length-append part piece, fits, le)),
  );
}

pub trailer-long : (h : Bool) (s : Scan) (part piece left : List ℕ) (reply : Reply) → Stands (reading h (phase.Trailer s) part reply)
    → part_limit - length part ≤ length piece → EndsPast (part_limit - length part) (section_end s piece)
    → Advances (reading h (phase.Trailer s) part reply) piece (reading h (phase.Refused TooLong) left reply)
trailer-long h s part piece left reply stands long past = record {
  same = refl;
  leads = λ more answer k.
      let le : length part < 65536 = stands.2 in
      let w = part-long part_limit before_trailer s part piece more stands.0 stands.1 (omega (arith, le)) long past in
      subst (Gives h (Trailer reply) (part ++ (piece ++ more))) (sym k) (grammar.long_trailer w.0 w.1);
  stands = tt;
}

pub trailer-good : (h : Bool) (s : Scan) (part part' piece : List ℕ) (used : ℕ) (reply : Reply) → Stands (reading h (phase.Trailer s) part reply)
    → section_end s piece ≡ Some used → used ≤ part_limit - length part → used ≤ length piece → IsSection (part ++ take used piece)
    → Advances (reading h (phase.Trailer s) part reply) (take used piece) (reading h phase.Done part' reply)
trailer-good h s part part' piece used reply stands ends fits w good = record {
  same = refl;
  leads = λ more answer k.
      subst (λ bytes. Gives h (Trailer reply) bytes answer) (append_assoc part (take used piece) more)
      (grammar.trailer (end-stable before_trailer (part ++ take used piece) more (length (part ++ take used piece)) whole) short (subst IsSection (sym (take-append_seam (part ++ take used piece) more)) good)
      (subst (λ rest. Gives h (End reply) rest answer) (sym (drop-append_seam (part ++ take used piece) more)) (subst (Gives h (End reply) more) (sym k) grammar.whole)));
  stands = tt;
} where
  whole : section_end before_trailer (part ++ take used piece) ≡ Some (length (part ++ take used piece))
  whole = part-ends before_trailer s part piece used stands.0 stands.1 ends

  short : length (part ++ take used piece) ≤ part_limit
  short = let le : length part < 65536 = stands.2 in omega (arith, length-append part (take used piece), length-take-le used piece w, fits, le)

pub trailer-bad : (h : Bool) (s : Scan) (part part' piece : List ℕ) (used : ℕ) (reply : Reply) → Stands (reading h (phase.Trailer s) part reply)
    → section_end s piece ≡ Some used → used ≤ part_limit - length part → used ≤ length piece → ¬ (IsSection (part ++ take used piece))
    → Advances (reading h (phase.Trailer s) part reply) (take used piece) (reading h (phase.Refused BadChunk) part' reply)
trailer-bad h s part part' piece used reply stands ends fits w bad = record {
  same = refl;
  leads = λ more answer k.
      subst (λ bytes. Gives h (Trailer reply) bytes answer) (append_assoc part (take used piece) more)
      (subst (Gives h (Trailer reply) ((part ++ take used piece) ++ more)) (sym k)
      (grammar.bad_trailer (end-stable before_trailer (part ++ take used piece) more (length (part ++ take used piece)) whole) short
      (λ good. bad (subst IsSection (take-append_seam (part ++ take used piece) more) good))));
  stands = tt;
} where
  whole : section_end before_trailer (part ++ take used piece) ≡ Some (length (part ++ take used piece))
  whole = part-ends before_trailer s part piece used stands.0 stands.1 ends

  short : length (part ++ take used piece) ≤ part_limit
  short = let le : length part < 65536 = stands.2 in omega (arith, length-append part (take used piece), length-take-le used piece w, fits, le)

-- what never has a line has none
pub never-none : (text : List ℕ) → NeverHasChunkLine text → HasNoChunkLine text
never-none text never l rest reads = never [] l rest (reads.0, append-nil text ∙ reads.1)
