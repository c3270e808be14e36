-- The grammar gives each text one answer.
use Rattle.std.proofs.Common.{◌≡◌, ℕ, ◌+◌, ◌-◌, ◌<◌, ◌≤◌, Bool, true, false, List, [], ◌∷◌, ◌++◌, length, take, drop, Option, Some, None, refl, sym, ap, subst, ◌∙◌, arith, append_assoc, length-append}
use Rattle.std.proofs.lemmas.List.{length-take-le, take-append-drop, take-append-le}
use Rattle.std.proofs.Math.Seq.{take-append-add}
use Rattle.httparse.proofs.GrammarLemmas.{response_unique}
use Rattle.httparse.proofs.ChunkLemmas.{chunk_line_unique}
use Rattle.httparse.specs.Grammar.{ChunkLine, ReadsChunkLine, HasNoChunkLine, NeverHasChunkLine, MayBecomeChunkLine, print_chunk_line, chunk_size}
use Rattle.jm_base.specs.declared.types.Reply.{Reply}
use Rattle.http_text.specs.declared.fields.Framing.{Framing}
use Rattle.http_text.specs.ResponseHeads.{Says, IsBadHead, IsSection, is_interim, bare_reply, framing_of}
use Rattle.http_lines.specs.SectionEnds.{EndsPast}
use Rattle.http_text.specs.ResponseGrammar as grammar
use Rattle.http_text.specs.ResponseGrammar.{Answer, Place, Heads, ChunkEnd, SizeLine, End, Gives, part_limit, with_body, place_after_head, place_after_size}

none-some : (o : Option ℕ) (n : ℕ) → o ≡ None → o ≡ Some n → ⊥
none-some o n a b = cc

same-end : (o : Option ℕ) (n m : ℕ) → o ≡ Some n → o ≡ Some m → n ≡ m
same-end o n m a b = cc

past-within : (passed n : ℕ) (o : Option ℕ) → EndsPast (part_limit - passed) o → o ≡ Some n → passed + n ≤ part_limit → ⊥
past-within passed n o e s w = let lt : part_limit - passed < n = subst (EndsPast (part_limit - passed)) s e in omega (arith, lt, w)

past-within-all : (n : ℕ) (o : Option ℕ) → EndsPast part_limit o → o ≡ Some n → n ≤ part_limit → ⊥
past-within-all n o e s w = let lt : part_limit < n = subst (EndsPast part_limit) s e in omega (arith, lt, w)

says-reply : (text : List ℕ) (r q : Reply) (f g : Framing) → Says text r f → Says text q g → r ≡ q
says-reply text r q f g x y =
    let same = response_unique text x.head y.head [] [] x.is_head.0 y.is_head.0 in
    x.reply_is ∙ ap (bare_reply text) same.0 ∙ sym y.reply_is

says-framing : (text : List ℕ) (r q : Reply) (f g : Framing) → Says text r f → Says text q g → f ≡ g
says-framing text r q f g x y =
    let same = response_unique text x.head y.head [] [] x.is_head.0 y.is_head.0 in
    let e : Some f ≡ Some g = sym x.framing_is ∙ ap framing_of same.0 ∙ y.framing_is in cc

bad-says : (bytes : List ℕ) (o : Option ℕ) (n m : ℕ) (r : Reply) (f : Framing) → o ≡ Some n → o ≡ Some m → IsBadHead (take n bytes) → Says (take m bytes) r f → ⊥
bad-says bytes o n m r f s t x y = x r f (subst (λ k. Says (take k bytes) r f) (sym (same-end o n m s t)) y)

interim-final : (bytes : List ℕ) (o : Option ℕ) (n m : ℕ) (r q : Reply) (f g : Framing) → o ≡ Some n → o ≡ Some m → Says (take n bytes) r f → Says (take m bytes) q g
    → is_interim r ≡ true → is_interim q ≡ false → ⊥
interim-final bytes o n m r q f g s t x y i j =
    let e = says-reply (take n bytes) r q f g x (subst (λ k. Says (take k bytes) q g) (sym (same-end o n m s t)) y) in
    let k : true ≡ false = sym i ∙ ap is_interim e ∙ j in cc

passed-same : (h : Bool) (passed : ℕ) (bytes : List ℕ) (o : Option ℕ) (n m : ℕ) (b : Answer) → o ≡ Some n → o ≡ Some m
    → Gives h (Heads (passed + m)) (drop m bytes) b → Gives h (Heads (passed + n)) (drop n bytes) b
passed-same h passed bytes o n m b s t k = subst (λ x. Gives h (Heads (passed + x)) (drop x bytes) b) (sym (same-end o n m s t)) k

final-same : (h : Bool) (bytes : List ℕ) (o : Option ℕ) (n m : ℕ) (r q : Reply) (f g : Framing) (b : Answer) → o ≡ Some n → o ≡ Some m
    → Says (take n bytes) r f → Says (take m bytes) q g
    → Gives h (place_after_head h q g) (drop m bytes) b → Gives h (place_after_head h r f) (drop n bytes) b
final-same h bytes o n m r q f g b s t x y k =
    let e = same-end o n m s t in
    let y' = subst (λ k. Says (take k bytes) q g) (sym e) y in
    subst (λ z. Gives h (place_after_head h z f) (drop n bytes) b) (sym (says-reply (take n bytes) r q f g x y'))
    (subst (λ z. Gives h (place_after_head h q z) (drop n bytes) b) (sym (says-framing (take n bytes) r q f g x y'))
    (subst (λ z. Gives h (place_after_head h q g) (drop z bytes) b) (sym e) k))

may-never : (prefix suffix : List ℕ) → MayBecomeChunkLine (prefix ++ suffix) → NeverHasChunkLine prefix → ⊥
may-never prefix suffix may never = never (suffix ++ may.0) may.1 [] (may.2.0, sym (append_assoc prefix suffix may.0) ∙ may.2.1)

open-bad : (bytes : List ℕ) (n : ℕ) → MayBecomeChunkLine bytes → NeverHasChunkLine (take n bytes) → ⊥
open-bad bytes n may never = may-never (take n bytes) (drop n bytes) (subst MayBecomeChunkLine (sym (take-append-drop n bytes)) may) never

long-bad : (bytes : List ℕ) (n : ℕ) → part_limit ≤ length bytes → n < part_limit → MayBecomeChunkLine (take (part_limit - 1) bytes) → NeverHasChunkLine (take n bytes) → ⊥
long-bad bytes n g w may never =
    let long : length (take 65535 bytes) ≡ 65535 = length-take-le 65535 bytes (omega (arith, g)) in
    let prefix : take n bytes ≡ take n (take 65535 bytes) = ap (take n) (sym (take-append-drop 65535 bytes)) ∙ take-append-le n (take 65535 bytes) (drop 65535 bytes) (omega (arith, long, w)) in
    open-bad (take 65535 bytes) n may (subst NeverHasChunkLine prefix never)

bad-line : (bytes rest : List ℕ) (n : ℕ) (l : ChunkLine) → NeverHasChunkLine (take n bytes) → ReadsChunkLine bytes l rest → ⊥
bad-line bytes rest n l never reads = never (drop n bytes) l rest (reads.0, take-append-drop n bytes ∙ reads.1)

long-line : (bytes rest : List ℕ) (l : ChunkLine) → HasNoChunkLine (take part_limit bytes) → ReadsChunkLine bytes l rest → length (print_chunk_line l) ≤ part_limit → ⊥
long-line bytes rest l none reads w =
    let d : ℕ = part_limit - length (print_chunk_line l) in
    let e : part_limit ≡ length (print_chunk_line l) + d = omega (arith, w) in
    none l (take d rest) (reads.0, ap (take part_limit) reads.1 ∙ ap (λ k. take k (print_chunk_line l ++ rest)) e ∙ take-append-add (print_chunk_line l) rest d)

line-same : (h : Bool) (reply : Reply) (bytes rest rest' : List ℕ) (l k : ChunkLine) (b : Answer) → ReadsChunkLine bytes l rest → ReadsChunkLine bytes k rest'
    → Gives h (place_after_size reply (chunk_size k)) rest' b → Gives h (place_after_size reply (chunk_size l)) rest b
line-same h reply bytes rest rest' l k b x y g =
    let same = chunk_line_unique bytes l k rest rest' x y in
    subst (λ z. Gives h (place_after_size reply (chunk_size z)) rest b) (sym same.0) (subst (λ z. Gives h (place_after_size reply (chunk_size k)) z b) (sym same.1) g)

trailer-clash : (bytes : List ℕ) (o : Option ℕ) (n m : ℕ) → o ≡ Some n → o ≡ Some m → ¬ (IsSection (take n bytes)) → IsSection (take m bytes) → ⊥
trailer-clash bytes o n m s t x y = x (subst (λ k. IsSection (take k bytes)) (sym (same-end o n m s t)) y)

pub one : (h : Bool) (p : Place) (bytes : List ℕ) (a b : Answer) → Gives h p bytes a → Gives h p bytes b → a ≡ b
one h _ bytes a b (grammar.open_head {passed = passed} n1 l1) (grammar.open_head n2 l2) = refl
one h _ bytes a b (grammar.open_head {passed = passed} n1 l1) (grammar.long_head g2 e2) = absurd (omega (arith, l1, g2))
one h _ bytes a b (grammar.open_head {passed = passed} n1 l1) (grammar.bad_head {n = m2} s2 w2 x2) = absurd (none-some _ _ n1 s2)
one h _ bytes a b (grammar.open_head {passed = passed} n1 l1) (grammar.passed_over {n = m2} {reply = r2} {framing = f2} s2 w2 y2 i2 k2) = absurd (none-some _ _ n1 s2)
one h _ bytes a b (grammar.open_head {passed = passed} n1 l1) (grammar.final {n = m2} {reply = r2} {framing = f2} s2 w2 y2 i2 k2) = absurd (none-some _ _ n1 s2)
one h _ bytes a b (grammar.long_head {passed = passed} g1 e1) (grammar.open_head n2 l2) = absurd (omega (arith, l2, g1))
one h _ bytes a b (grammar.long_head {passed = passed} g1 e1) (grammar.long_head g2 e2) = refl
one h _ bytes a b (grammar.long_head {passed = passed} g1 e1) (grammar.bad_head {n = m2} s2 w2 x2) = absurd (past-within passed _ _ e1 s2 w2)
one h _ bytes a b (grammar.long_head {passed = passed} g1 e1) (grammar.passed_over {n = m2} {reply = r2} {framing = f2} s2 w2 y2 i2 k2) = absurd (past-within passed _ _ e1 s2 w2)
one h _ bytes a b (grammar.long_head {passed = passed} g1 e1) (grammar.final {n = m2} {reply = r2} {framing = f2} s2 w2 y2 i2 k2) = absurd (past-within passed _ _ e1 s2 w2)
one h _ bytes a b (grammar.bad_head {passed = passed} {n = m1} s1 w1 x1) (grammar.open_head n2 l2) = absurd (none-some _ _ n2 s1)
one h _ bytes a b (grammar.bad_head {passed = passed} {n = m1} s1 w1 x1) (grammar.long_head g2 e2) = absurd (past-within passed _ _ e2 s1 w1)
one h _ bytes a b (grammar.bad_head {passed = passed} {n = m1} s1 w1 x1) (grammar.bad_head {n = m2} s2 w2 x2) = refl
one h _ bytes a b (grammar.bad_head {passed = passed} {n = m1} s1 w1 x1) (grammar.passed_over {n = m2} {reply = r2} {framing = f2} s2 w2 y2 i2 k2) = absurd (bad-says bytes _ _ _ _ _ s1 s2 x1 y2)
one h _ bytes a b (grammar.bad_head {passed = passed} {n = m1} s1 w1 x1) (grammar.final {n = m2} {reply = r2} {framing = f2} s2 w2 y2 i2 k2) = absurd (bad-says bytes _ _ _ _ _ s1 s2 x1 y2)
one h _ bytes a b (grammar.passed_over {passed = passed} {n = m1} {reply = r1} {framing = f1} s1 w1 y1 i1 k1) (grammar.open_head n2 l2) = absurd (none-some _ _ n2 s1)
one h _ bytes a b (grammar.passed_over {passed = passed} {n = m1} {reply = r1} {framing = f1} s1 w1 y1 i1 k1) (grammar.long_head g2 e2) = absurd (past-within passed _ _ e2 s1 w1)
one h _ bytes a b (grammar.passed_over {passed = passed} {n = m1} {reply = r1} {framing = f1} s1 w1 y1 i1 k1) (grammar.bad_head {n = m2} s2 w2 x2) = absurd (bad-says bytes _ _ _ _ _ s2 s1 x2 y1)
one h _ bytes a b (grammar.passed_over {passed = passed} {n = m1} {reply = r1} {framing = f1} s1 w1 y1 i1 k1) (grammar.passed_over {n = m2} {reply = r2} {framing = f2} s2 w2 y2 i2 k2) = one h _ _ a b k1 (passed-same h passed bytes _ m1 m2 b s1 s2 k2)
one h _ bytes a b (grammar.passed_over {passed = passed} {n = m1} {reply = r1} {framing = f1} s1 w1 y1 i1 k1) (grammar.final {n = m2} {reply = r2} {framing = f2} s2 w2 y2 i2 k2) = absurd (interim-final bytes _ _ _ _ _ _ _ s1 s2 y1 y2 i1 i2)
one h _ bytes a b (grammar.final {passed = passed} {n = m1} {reply = r1} {framing = f1} s1 w1 y1 i1 k1) (grammar.open_head n2 l2) = absurd (none-some _ _ n2 s1)
one h _ bytes a b (grammar.final {passed = passed} {n = m1} {reply = r1} {framing = f1} s1 w1 y1 i1 k1) (grammar.long_head g2 e2) = absurd (past-within passed _ _ e2 s1 w1)
one h _ bytes a b (grammar.final {passed = passed} {n = m1} {reply = r1} {framing = f1} s1 w1 y1 i1 k1) (grammar.bad_head {n = m2} s2 w2 x2) = absurd (bad-says bytes _ _ _ _ _ s2 s1 x2 y1)
one h _ bytes a b (grammar.final {passed = passed} {n = m1} {reply = r1} {framing = f1} s1 w1 y1 i1 k1) (grammar.passed_over {n = m2} {reply = r2} {framing = f2} s2 w2 y2 i2 k2) = absurd (interim-final bytes _ _ _ _ _ _ _ s2 s1 y2 y1 i2 i1)
one h _ bytes a b (grammar.final {passed = passed} {n = m1} {reply = r1} {framing = f1} s1 w1 y1 i1 k1) (grammar.final {n = m2} {reply = r2} {framing = f2} s2 w2 y2 i2 k2) = one h _ _ a b k1 (final-same h bytes _ m1 m2 r1 r2 f1 f2 b s1 s2 y1 y2 k2)
one h _ bytes a b (grammar.open_body p1 q1) (grammar.open_body p2 q2) = refl
one h _ bytes a b (grammar.open_body p1 q1) (grammar.long_body p2 q2) = absurd (omega (arith, p1, q1, p2, q2))
one h _ bytes a b (grammar.open_body p1 q1) (grammar.whole_body p2 q2) = absurd (omega (arith, p1, q1, p2, q2))
one h _ bytes a b (grammar.long_body p1 q1) (grammar.open_body p2 q2) = absurd (omega (arith, p1, q1, p2, q2))
one h _ bytes a b (grammar.long_body p1 q1) (grammar.long_body p2 q2) = refl
one h _ bytes a b (grammar.long_body p1 q1) (grammar.whole_body p2 q2) = absurd (omega (arith, p1, q1, p2, q2))
one h _ bytes a b (grammar.whole_body p1 q1) (grammar.open_body p2 q2) = absurd (omega (arith, p1, q1, p2, q2))
one h _ bytes a b (grammar.whole_body p1 q1) (grammar.long_body p2 q2) = absurd (omega (arith, p1, q1, p2, q2))
one h _ bytes a b (grammar.whole_body p1 q1) (grammar.whole_body p2 q2) = refl
one h _ bytes a b (grammar.open_chunk p1 q1) (grammar.open_chunk p2 q2) = refl
one h _ bytes a b (grammar.open_chunk p1 q1) (grammar.long_chunk p2 q2) = absurd (omega (arith, p1, q1, p2, q2))
one h _ bytes a b (grammar.open_chunk p1 q1) (grammar.chunk p2 q2 k2) = absurd (omega (arith, p1, q1, p2, q2))
one h _ bytes a b (grammar.long_chunk p1 q1) (grammar.open_chunk p2 q2) = absurd (omega (arith, p1, q1, p2, q2))
one h _ bytes a b (grammar.long_chunk p1 q1) (grammar.long_chunk p2 q2) = refl
one h _ bytes a b (grammar.long_chunk p1 q1) (grammar.chunk p2 q2 k2) = absurd (omega (arith, p1, q1, p2, q2))
one h _ bytes a b (grammar.chunk p1 q1 k1) (grammar.open_chunk p2 q2) = absurd (omega (arith, p1, q1, p2, q2))
one h _ bytes a b (grammar.chunk p1 q1 k1) (grammar.long_chunk p2 q2) = absurd (omega (arith, p1, q1, p2, q2))
one h _ bytes a b (grammar.chunk p1 q1 k1) (grammar.chunk p2 q2 k2) = one h _ _ a b k1 k2
one h _ bytes a b (grammar.open_rest p1) (grammar.open_rest p2) = refl
one h _ bytes a b (grammar.open_rest p1) (grammar.long_rest p2) = absurd (omega (arith, p1, p2))
one h _ bytes a b (grammar.long_rest p1) (grammar.open_rest p2) = absurd (omega (arith, p1, p2))
one h _ bytes a b (grammar.long_rest p1) (grammar.long_rest p2) = refl
one h _ bytes a b (grammar.open_line l1 n1 m1) (grammar.open_line l2 n2 m2) = refl
one h _ bytes a b (grammar.open_line l1 n1 m1) (grammar.bad_line {n = c2} l2 v2) = absurd (open-bad bytes _ m1 v2)
one h _ bytes a b (grammar.open_line l1 n1 m1) (grammar.long_line g2 m2 n2) = absurd (omega (arith, l1, g2))
one h _ bytes a b (grammar.open_line l1 n1 m1) (grammar.line {rest = t2} {l = u2} d2 w2 k2) = absurd (n1 _ _ d2)
one h _ bytes a b (grammar.bad_line {n = c1} l1 v1) (grammar.open_line l2 n2 m2) = absurd (open-bad bytes _ m2 v1)
one h _ bytes a b (grammar.bad_line {n = c1} l1 v1) (grammar.bad_line {n = c2} l2 v2) = refl
one h _ bytes a b (grammar.bad_line {n = c1} l1 v1) (grammar.long_line g2 m2 n2) = absurd (long-bad bytes _ g2 l1 m2 v1)
one h _ bytes a b (grammar.bad_line {n = c1} l1 v1) (grammar.line {rest = t2} {l = u2} d2 w2 k2) = absurd (bad-line bytes _ _ _ v1 d2)
one h _ bytes a b (grammar.long_line g1 m1 n1) (grammar.open_line l2 n2 m2) = absurd (omega (arith, l2, g1))
one h _ bytes a b (grammar.long_line g1 m1 n1) (grammar.bad_line {n = c2} l2 v2) = absurd (long-bad bytes _ g1 l2 m1 v2)
one h _ bytes a b (grammar.long_line g1 m1 n1) (grammar.long_line g2 m2 n2) = refl
one h _ bytes a b (grammar.long_line g1 m1 n1) (grammar.line {rest = t2} {l = u2} d2 w2 k2) = absurd (long-line bytes _ _ n1 d2 w2)
one h _ bytes a b (grammar.line {rest = t1} {l = u1} d1 w1 k1) (grammar.open_line l2 n2 m2) = absurd (n2 _ _ d1)
one h _ bytes a b (grammar.line {rest = t1} {l = u1} d1 w1 k1) (grammar.bad_line {n = c2} l2 v2) = absurd (bad-line bytes _ _ _ v2 d1)
one h _ bytes a b (grammar.line {rest = t1} {l = u1} d1 w1 k1) (grammar.long_line g2 m2 n2) = absurd (long-line bytes _ _ n2 d1 w1)
one h _ bytes a b (grammar.line {rest = t1} {l = u1} d1 w1 k1) (grammar.line {rest = t2} {l = u2} d2 w2 k2) = one h _ _ a b k1 (line-same h _ bytes t1 t2 u1 u2 b d1 d2 k2)
one h _ bytes a b (grammar.open_trailer n1 l1) (grammar.open_trailer n2 l2) = refl
one h _ bytes a b (grammar.open_trailer n1 l1) (grammar.long_trailer g2 e2) = absurd (omega (arith, l1, g2))
one h _ bytes a b (grammar.open_trailer n1 l1) (grammar.bad_trailer {n = m2} s2 w2 x2) = absurd (none-some _ _ n1 s2)
one h _ bytes a b (grammar.open_trailer n1 l1) (grammar.trailer {reply = r2} {n = m2} s2 w2 y2 k2) = absurd (none-some _ _ n1 s2)
one h _ bytes a b (grammar.long_trailer g1 e1) (grammar.open_trailer n2 l2) = absurd (omega (arith, l2, g1))
one h _ bytes a b (grammar.long_trailer g1 e1) (grammar.long_trailer g2 e2) = refl
one h _ bytes a b (grammar.long_trailer g1 e1) (grammar.bad_trailer {n = m2} s2 w2 x2) = absurd (past-within-all _ _ e1 s2 w2)
one h _ bytes a b (grammar.long_trailer g1 e1) (grammar.trailer {reply = r2} {n = m2} s2 w2 y2 k2) = absurd (past-within-all _ _ e1 s2 w2)
one h _ bytes a b (grammar.bad_trailer {n = m1} s1 w1 x1) (grammar.open_trailer n2 l2) = absurd (none-some _ _ n2 s1)
one h _ bytes a b (grammar.bad_trailer {n = m1} s1 w1 x1) (grammar.long_trailer g2 e2) = absurd (past-within-all _ _ e2 s1 w1)
one h _ bytes a b (grammar.bad_trailer {n = m1} s1 w1 x1) (grammar.bad_trailer {n = m2} s2 w2 x2) = refl
one h _ bytes a b (grammar.bad_trailer {n = m1} s1 w1 x1) (grammar.trailer {reply = r2} {n = m2} s2 w2 y2 k2) = absurd (trailer-clash bytes _ _ _ s1 s2 x1 y2)
one h _ bytes a b (grammar.trailer {reply = r1} {n = m1} s1 w1 y1 k1) (grammar.open_trailer n2 l2) = absurd (none-some _ _ n2 s1)
one h _ bytes a b (grammar.trailer {reply = r1} {n = m1} s1 w1 y1 k1) (grammar.long_trailer g2 e2) = absurd (past-within-all _ _ e2 s1 w1)
one h _ bytes a b (grammar.trailer {reply = r1} {n = m1} s1 w1 y1 k1) (grammar.bad_trailer {n = m2} s2 w2 x2) = absurd (trailer-clash bytes _ _ _ s2 s1 x2 y1)
one h _ bytes a b (grammar.trailer {reply = r1} {n = m1} s1 w1 y1 k1) (grammar.trailer {reply = r2} {n = m2} s2 w2 y2 k2) = one h _ _ a b k1 (subst (λ z. Gives h (End r1) (drop z bytes) b) (sym (same-end _ m1 m2 s1 s2)) k2)
one h _ _ a b grammar.no_end grammar.no_end = refl
one h _ _ a b grammar.half_end grammar.half_end = refl
one h _ _ a b grammar.half_end (grammar.bad_end x2) = absurd (x2 refl)
one h _ _ a b (grammar.bad_end x1) grammar.half_end = absurd (x1 refl)
one h _ _ a b (grammar.bad_end x1) (grammar.bad_end x2) = refl
one h _ _ a b (grammar.bad_end x1) (grammar.bad_feed x2) = absurd (x1 refl)
one h _ _ a b (grammar.bad_end x1) (grammar.chunk_end k2) = absurd (x1 refl)
one h _ _ a b (grammar.bad_feed x1) (grammar.bad_end x2) = absurd (x2 refl)
one h _ _ a b (grammar.bad_feed x1) (grammar.bad_feed x2) = refl
one h _ _ a b (grammar.bad_feed x1) (grammar.chunk_end k2) = absurd (x1 refl)
one h _ _ a b (grammar.chunk_end k1) (grammar.bad_end x2) = absurd (x2 refl)
one h _ _ a b (grammar.chunk_end k1) (grammar.bad_feed x2) = absurd (x2 refl)
one h _ _ a b (grammar.chunk_end k1) (grammar.chunk_end k2) = one h _ _ a b k1 k2
one h _ _ a b grammar.whole grammar.whole = refl
