-- How a reader moves on with a piece.
use Rattle.std.proofs.Common.{◌≡◌, ℕ, ◌+◌, ◌-◌, ◌<◌, ◌≤◌, ◌==◌, ◌||◌, ◌⊎◌, inl, inr, nat_lt, nat_le, Bool, true, false, List, [], ◌∷◌, ◌++◌, length, take, drop, Option, Some, None, IfSome, refl, sym, ap, subst, ◌∙◌, arith, cond, min, append_assoc, length-append}
use Rattle.std.specs.Option.{option_map}
use Rattle.std.proofs.lemmas.List.{append-nil, length-take-le, take_at, take-append-drop, take_all, drop_all, take-append-le, length-drop}
use Rattle.std.proofs.lemmas.Bool.Decides.{nat_tests}
use Rattle.std.proofs.Math.Seq.{drop-append_seam}
use Rattle.httparse.specs.Grammar.{ChunkLine, ReadsChunkLine, HasNoChunkLine, NeverHasChunkLine, MayBecomeChunkLine, print_chunk_line, chunk_size}
use Rattle.jm_base.specs.declared.types.Reply.{Reply}
use Rattle.jm_base.specs.declared.types.Wire.{Wire}
use Rattle.jm_base.specs.declared.types.Wire.TheVariants.{BadHead, BadChunk, TooLong, EndEarly}
use Rattle.http_lines.specs.declared.scan.Scan.{Scan}
use Rattle.http_text.specs.declared.fields.Framing.{Framing}
use Rattle.http_text.specs.declared.state.Phase.{Phase}
use Rattle.http_text.specs.declared.state.Phase.TheVariants as phase
use Rattle.http_lines.specs.SectionEnds.{section_end, scanned, before_head, before_trailer, EndsPast}
use Rattle.http_text.specs.ResponseHeads.{Says, IsBadHead, IsSection, is_interim, is_bodiless}
use Rattle.http_text.specs.ResponseGrammar as grammar
use Rattle.http_text.specs.ResponseGrammar.{Answer, Whole, Refused, Open, Place, Heads, Sized, Rest, SizeLine, Chunk, ChunkEnd, Trailer, End, Gives, Response, part_limit, body_limit, with_body, room, place_for, place_after_head, place_after_size}
use Rattle.http_text.specs.ResponseReading.{Reading, Continues, Stands, Advances, Leads, first_phase, phase_for, next_head}
use Rattle.http_lines.proofs.EndLaws.{chosen, end-append, end-stable, end-within, end-take, scanned-append}
use Rattle.http_text.specs.SizeLines.{before_size}
use Rattle.http_text.proofs.ChunkLaws.{reads-more, no-line-in, no-line, may-line}
use Rattle.http_text.proofs.SizeLaws.{shows-none}

abbrev pub reading : Bool → Phase → List ℕ → Reply → Reading
reading h p part reply = record { head_only = h; phase = p; part = part; reply = reply }

-- a part goes on with a piece that has its end
pub part-ends : (s t : Scan) (part piece : List ℕ) (used : ℕ) → t ≡ scanned s part → section_end s part ≡ None → section_end t piece ≡ Some used
    → section_end s (part ++ take used piece) ≡ Some (length (part ++ take used piece))
part-ends s t part piece used scan fresh ends =
    let within = end-within t piece used ends in
    let le : used ≤ length piece = within.1 in
    end-append s part (take used piece) fresh
    ∙ ap (λ u. option_map (λ n. length part + n) (section_end u (take used piece))) (sym scan)
    ∙ ap (option_map (λ n. length part + n)) (end-take t piece used ends)
    ∙ ap Some (sym (length-append part (take used piece) ∙ ap (λ n. length part + n) (length-take-le used piece le)))

-- a part goes on with a piece that has no end
pub part-open : (s t : Scan) (part piece : List ℕ) → t ≡ scanned s part → section_end s part ≡ None → section_end t piece ≡ None
    → section_end s (part ++ piece) ≡ None
part-open s t part piece scan fresh none =
    end-append s part piece fresh
    ∙ ap (λ u. option_map (λ n. length part + n) (section_end u piece)) (sym scan)
    ∙ ap (option_map (λ n. length part + n)) none

past-map : (k most : ℕ) (o : Option ℕ) → EndsPast (most - k) o → k ≤ most → EndsPast most (option_map (λ n. k + n) o)
past-map k most None h le = tt
past-map k most (Some n) h le = omega (arith, h)

past-more : (k most : ℕ) (t : Scan) (piece more : List ℕ) → most ≤ length piece → EndsPast most (section_end t piece) → EndsPast most (section_end t (piece ++ more))
past-more k most t piece more long past = go (section_end t piece) refl where
  after : (o : Option ℕ) → EndsPast 0 o → EndsPast most (option_map (λ n. length piece + n) o)
  after None h = tt
  after (Some n) h = omega (arith, h)

  positive : (u : Scan) (o : Option ℕ) → section_end u more ≡ o → EndsPast 0 o
  positive u None h = tt
  positive u (Some n) h = (end-within u more n h).0

  go : (o : Option ℕ) → section_end t piece ≡ o → EndsPast most (section_end t (piece ++ more))
  go None is = subst (EndsPast most) (sym (end-append t piece more is)) (after (section_end (scanned t piece) more) (positive (scanned t piece) (section_end (scanned t piece) more) refl))
  go (Some n) is = subst (EndsPast most) (sym (end-stable t piece more n is)) (subst (EndsPast most) is past)

-- a part that has no room for the piece
pub part-long : (most : ℕ) (s t : Scan) (part piece more : List ℕ) → t ≡ scanned s part → section_end s part ≡ None → length part ≤ most → most - length part ≤ length piece
    → EndsPast (most - length part) (section_end t piece)
    → (most ≤ length (part ++ (piece ++ more))) × EndsPast most (section_end s (part ++ (piece ++ more)))
part-long most s t part piece more scan fresh le long past = (
  omega (arith, length-append part (piece ++ more), length-append piece more, le, long),
  subst (EndsPast most) (sym (end-append s part (piece ++ more) fresh ∙ ap (λ u. option_map (λ n. length part + n) (section_end u (piece ++ more))) (sym scan)))
      (past-map (length part) most (section_end t (piece ++ more)) (past-more 0 (most - length part) t piece more long past) le),
)

-- the same reading
pub same-reading : (h : Bool) (p : Phase) (part : List ℕ) (reply : Reply) (r : Reading) → r.head_only ≡ h → r.phase ≡ p → r.part ≡ part → r.reply ≡ reply → reading h p part reply ≡ r
same-reading h p part reply r a b c d = rw (← a, ← b, ← c, ← d) refl

-- a move between readings whose parts are known
pub move-at : (old new : Reading) (bytes piece : List ℕ) (p q : Phase) (part : List ℕ) (reply : Reply) → old.phase ≡ p → new.head_only ≡ old.head_only → new.phase ≡ q → new.part ≡ part
    → new.reply ≡ reply → bytes ≡ piece
    → (Stands (reading old.head_only p old.part old.reply) → Advances (reading old.head_only p old.part old.reply) piece (reading old.head_only q part reply))
    → Stands old → Advances old bytes new
move-at old new bytes piece p q part reply a b c d e f move stands =
    let o : reading old.head_only p old.part old.reply ≡ old = same-reading old.head_only p old.part old.reply old refl a refl refl in
    let n : reading old.head_only q part reply ≡ new = same-reading old.head_only q part reply new b c d e in
    subst (λ r. Advances r bytes new) o (subst (λ r. Advances (reading old.head_only p old.part old.reply) bytes r) n
    (subst (λ x. Advances (reading old.head_only p old.part old.reply) x (reading old.head_only q part reply)) (sym f) (move (subst Stands (sym o) stands))))

pub stands-at : (r : Reading) (p : Phase) → r.phase ≡ p → Stands r → Stands (reading r.head_only p r.part r.reply)
stands-at r p is stands = subst Stands (sym (same-reading r.head_only p r.part r.reply r refl is refl refl)) stands

pub from-at : (old new : Reading) (bytes : List ℕ) (p : Phase) → old.phase ≡ p
    → (Stands (reading old.head_only p old.part old.reply) → Advances (reading old.head_only p old.part old.reply) bytes new)
    → Stands old → Advances old bytes new
from-at old new bytes p a move stands =
    let o : reading old.head_only p old.part old.reply ≡ old = same-reading old.head_only p old.part old.reply old refl a refl refl in
    subst (λ r. Advances r bytes new) o (move (subst Stands (sym o) stands))

-- heads
pub head-open : (h : Bool) (passed : ℕ) (s t : Scan) (part piece : List ℕ) (reply : Reply) → Stands (reading h (phase.Head passed s) part reply)
    → section_end s piece ≡ None → length piece < part_limit - (passed + length part) → t ≡ scanned s piece
    → Advances (reading h (phase.Head passed s) part reply) piece (reading h (phase.Head passed t) (part ++ piece) reply)
head-open h passed s t part piece reply stands none fits is = record {
  same = refl;
  leads = λ more answer k. subst (λ bytes. Gives h (Heads passed) bytes answer) (append_assoc part piece more) k;
  stands = (
    is ∙ ap (λ u. scanned u piece) stands.0 ∙ sym (scanned-append before_head part piece),
    part-open before_head s part piece stands.0 stands.1 none,
    (let le : passed + length part < 65536 = stands.2 in omega (arith, length-append part piece, fits, le)),
    stands.3,
  );
}

pub head-long : (h : Bool) (passed : ℕ) (s : Scan) (part piece left : List ℕ) (reply : Reply) → Stands (reading h (phase.Head passed s) part reply)
    → part_limit - (passed + length part) ≤ length piece → EndsPast (part_limit - (passed + length part)) (section_end s piece)
    → Advances (reading h (phase.Head passed s) part reply) piece (reading h (phase.Refused TooLong) left reply)
head-long h passed s part piece left reply stands long past = record {
  same = refl;
  leads = λ more answer k.
      let le : passed + length part < 65536 = stands.2 in
      let e : (part_limit - passed) - length part ≡ part_limit - (passed + length part) = omega arith in
      let w = part-long (part_limit - passed) s' s part piece more stands.0 stands.1 (omega (arith, le)) (subst (λ n. n ≤ length piece) (sym e) long) (subst (λ n. EndsPast n (section_end s piece)) (sym e) past) in
      subst (Gives h (Heads passed) (part ++ (piece ++ more))) (sym k) (grammar.long_head (let f : part_limit - passed ≤ length (part ++ (piece ++ more)) = w.0 in omega (arith, f, le)) w.1);
  stands = tt;
} where
  s' : Scan
  s' = before_head

-- a whole head
pub bad-head : (h : Bool) (passed : ℕ) (text : List ℕ) (reply : Reply) → section_end before_head text ≡ Some (length text) → passed + length text ≤ part_limit → IsBadHead text
    → Leads h (Heads passed) text (reading h (phase.Refused BadHead) [] reply)
bad-head h passed text reply ends fits bad = record {
  leads = λ more answer k. subst (Gives h (Heads passed) (text ++ more)) (sym k)
      (grammar.bad_head (end-stable before_head text more (length text) ends) fits (subst IsBadHead (sym (take_at text more (length text) refl)) bad));
  stands = tt;
}

-- no byte is left for a head
no-room : (h : Bool) (passed : ℕ) (more : List ℕ) → part_limit ≤ passed → Gives h (Heads passed) more (Refused TooLong)
no-room h passed more full =
    grammar.long_head (omega (arith, full)) (subst (λ n. EndsPast n (section_end before_head more)) (let e : 0 ≡ part_limit - passed = omega (arith, full) in e)
    (positive before_head more (section_end before_head more) refl)) where
      positive : (u : Scan) (bytes : List ℕ) (o : Option ℕ) → section_end u bytes ≡ o → EndsPast 0 o
      positive u bytes None k = tt
      positive u bytes (Some n) k = (end-within u bytes n k).0

pub passed-head : (h : Bool) (passed : ℕ) (text : List ℕ) (said reply : Reply) (framing : Framing) → section_end before_head text ≡ Some (length text) → passed + length text ≤ part_limit
    → Says text said framing → said.code < 200 → reply.body ≡ []
    → Leads h (Heads passed) text (reading h (next_head (passed + length text)) [] reply)
passed-head h passed text said reply framing ends fits says low empty = record {
  leads = λ more answer k.
      grammar.passed_over (end-stable before_head text more (length text) ends) fits (subst (λ t. Says t said framing) (sym (take_at text more (length text) refl)) says) (grind (arith, nat_tests, low))
      (subst (λ rest. Gives h (Heads (passed + length text)) rest answer) (sym (drop-append_seam text more)) (go (nat_lt (passed + length text) part_limit) refl more answer k));
  stands = stand (nat_lt (passed + length text) part_limit) refl;
} where
  phase_at : Bool → Phase
  phase_at b = cond b (phase.Head (passed + length text) before_head) (phase.Refused TooLong)

  go : (b : Bool) → nat_lt (passed + length text) part_limit ≡ b → (more : List ℕ) (answer : Answer)
      → Continues (reading h (next_head (passed + length text)) [] reply) more answer → Gives h (Heads (passed + length text)) more answer
  go true is more answer k = subst (λ c. Continues (reading h (cond c (phase.Head (passed + length text) before_head) (phase.Refused TooLong)) [] reply) more answer) is k
  go false is more answer k =
      let e = subst (λ c. Continues (reading h (cond c (phase.Head (passed + length text) before_head) (phase.Refused TooLong)) [] reply) more answer) is k in
      subst (Gives h (Heads (passed + length text)) more) (sym e) (no-room h (passed + length text) more (grind (arith, nat_tests, is)))

  stand : (b : Bool) → nat_lt (passed + length text) part_limit ≡ b → Stands (reading h (next_head (passed + length text)) [] reply)
  stand true is = subst (λ c. Stands (reading h (cond c (phase.Head (passed + length text) before_head) (phase.Refused TooLong)) [] reply)) (sym is) (refl, refl, (let lt : passed + length text < part_limit = grind (arith, nat_tests, is) in omega (arith, lt)), empty)
  stand false is = subst (λ c. Stands (reading h (cond c (phase.Head (passed + length text) before_head) (phase.Refused TooLong)) [] reply)) (sym is) tt

-- the body's first place
sized-leads : (h : Bool) (n : ℕ) (reply : Reply) (more : List ℕ) (answer : Answer) (b : Bool) → n == 0 ≡ b
    → Continues (reading h (cond b phase.Done (phase.Sized n)) [] reply) more answer → Gives h (Sized reply n) more answer
sized-leads h n reply more answer true is k =
    let e : n ≡ 0 = grind (arith, nat_tests, is) in
    let whole : Gives h (Sized reply 0) more (Whole (with_body reply []) more) = grammar.whole_body (omega arith) (omega arith) in
    subst (λ m. Gives h (Sized reply m) more answer) (sym e)
    (subst (Gives h (Sized reply 0) more) (ap (λ b. Whole (record reply { body = b }) more) (append-nil reply.body) ∙ sym k) whole)
sized-leads h n reply more answer false is k = k

first-leads : (h : Bool) (reply : Reply) (more : List ℕ) (answer : Answer) (b c : Bool) (o : Option ℕ)
    → Continues (reading h (cond b phase.Done (cond c (phase.SizeLine before_size) (phase_for o))) [] reply) more answer
    → Gives h (cond b (End reply) (cond c (SizeLine reply) (place_for reply o))) more answer
first-leads h reply more answer true c o k = subst (Gives h (End reply) more) (sym k) grammar.whole
first-leads h reply more answer false true o k = k
first-leads h reply more answer false false None k = k
first-leads h reply more answer false false (Some n) k = sized-leads h n reply more answer (n == 0) refl k

first-stands : (h : Bool) (reply : Reply) (b c : Bool) (o : Option ℕ) → reply.body ≡ [] → Stands (reading h (cond b phase.Done (cond c (phase.SizeLine before_size) (phase_for o))) [] reply)
first-stands h reply true c o empty = tt
first-stands h reply false true o empty = (omega arith, no-line, may-line, (let e = ap length empty in omega (arith, e)), shows-none)
first-stands h reply false false None empty = let e = ap length empty in omega (arith, e)
first-stands h reply false false (Some n) empty = go (n == 0) refl where
  go : (b : Bool) → n == 0 ≡ b → Stands (reading h (cond b phase.Done (phase.Sized n)) [] reply)
  go true is = tt
  go false is = ((let ne : 0 < n = grind (arith, nat_tests, is) in ne), (let e = ap length empty in omega (arith, e)))

pub final-head : (h : Bool) (passed : ℕ) (text : List ℕ) (reply : Reply) (framing : Framing) → section_end before_head text ≡ Some (length text) → passed + length text ≤ part_limit
    → Says text reply framing → 200 ≤ reply.code
    → Leads h (Heads passed) text (reading h (first_phase h reply.code framing) [] reply)
final-head h passed text reply framing ends fits says high = record {
  leads = λ more answer k.
      grammar.final (end-stable before_head text more (length text) ends) fits (subst (λ t. Says t reply framing) (sym (take_at text more (length text) refl)) says) (grind (arith, nat_tests, high))
      (subst (λ rest. Gives h (place_after_head h reply framing) rest answer) (sym (drop-append_seam text more))
      (first-leads h reply more answer (is_bodiless h reply) framing.chunked framing.size k));
  stands = first-stands h reply (is_bodiless h reply) framing.chunked framing.size (ap (λ r. r.body) says.reply_is);
}

-- a body of a known length
body-joins : (reply : Reply) (a b : List ℕ) → with_body (with_body reply a) b ≡ with_body reply (a ++ b)
body-joins reply a b = ap (λ x. record reply { body = x }) (append_assoc reply.body a b)

-- a head that ends with the piece
pub head-ends : (h : Bool) (passed : ℕ) (s : Scan) (part piece : List ℕ) (used : ℕ) (reply : Reply) (new : Reading) → Stands (reading h (phase.Head passed s) part reply)
    → section_end s piece ≡ Some used → used ≤ part_limit - (passed + length part) → new.head_only ≡ h
    → (section_end before_head (part ++ take used piece) ≡ Some (length (part ++ take used piece)) → passed + length (part ++ take used piece) ≤ part_limit → reply.body ≡ []
    → Leads h (Heads passed) (part ++ take used piece) new)
    → Advances (reading h (phase.Head passed s) part reply) (take used piece) new
head-ends h passed s part piece used reply new stands ends fits same lead =
    let le : used ≤ length piece = (end-within s piece used ends).1 in
    let room : passed + length part < 65536 = stands.2 in
    let leads = lead (part-ends before_head s part piece used stands.0 stands.1 ends) (omega (arith, length-append part (take used piece), length-take-le used piece le, fits, room)) stands.3 in
    record {
      same = same;
      leads = λ more answer k. subst (λ bytes. Gives h (Heads passed) bytes answer) (append_assoc part (take used piece) more) (leads.leads more answer k);
      stands = leads.stands;
    }
