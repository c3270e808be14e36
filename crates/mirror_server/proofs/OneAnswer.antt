-- As a request, bytes come to one answer at most.
use Rattle.std.proofs.Common.{◌≡◌, ℕ, ◌+◌, ◌<◌, ◌≤◌, Bool, true, false, List, take, drop, Option, Some, None, refl, sym, ap, subst, arith}
use Rattle.http_lines.specs.SectionEnds.{section_end, before_head, EndsPast}
use Rattle.mirror_server.specs.RequestGrammar as grammar
use Rattle.mirror_server.specs.RequestGrammar.{Answer, Whole, Asks, Says, IsBadHead, head_limit, request_limit}
use Rattle.mirror_server.proofs.HeadLaws.{says-size, says-coded}

none-some : (o : Option ℕ) (n : ℕ) → o ≡ None → o ≡ Some n → ⊥
none-some o n a b = cc

same-end : (o : Option ℕ) (n m : ℕ) → o ≡ Some n → o ≡ Some m → n ≡ m
same-end o n m a b = cc

past-within : (n : ℕ) (o : Option ℕ) → EndsPast head_limit o → o ≡ Some n → n ≤ head_limit → ⊥
past-within n o e s w = let lt : head_limit < n = subst (EndsPast head_limit) s e in omega (arith, lt, w)

bad-says : (bytes : List ℕ) (o : Option ℕ) (n m size : ℕ) (coded : Bool) → o ≡ Some n → o ≡ Some m → IsBadHead (take n bytes) → Says (take m bytes) size coded → ⊥
bad-says bytes o n m size coded s t x y = x size coded (subst (λ k. Says (take k bytes) size coded) (sym (same-end o n m s t)) y)

-- heads of one text end at one place, give one length and say one thing of a coding
says-at : (bytes : List ℕ) (o : Option ℕ) (n m k : ℕ) (coded : Bool) → o ≡ Some n → o ≡ Some m → Says (take m bytes) k coded → Says (take n bytes) k coded
says-at bytes o n m k coded s t y = subst (λ i. Says (take i bytes) k coded) (sym (same-end o n m s t)) y

same-total : (bytes : List ℕ) (o : Option ℕ) (n m j k : ℕ) (a b : Bool) → o ≡ Some n → o ≡ Some m → Says (take n bytes) j a → Says (take m bytes) k b → n + j ≡ m + k
same-total bytes o n m j k a b s t x y =
    let size = says-size (take n bytes) j k a b x (says-at bytes o n m k b s t y) in
    let end = same-end o n m s t in
    omega (arith, size, end)

same-coded : (bytes : List ℕ) (o : Option ℕ) (n m j k : ℕ) (a b : Bool) → o ≡ Some n → o ≡ Some m → Says (take n bytes) j a → Says (take m bytes) k b → a ≡ b
same-coded bytes o n m j k a b s t x y = says-coded (take n bytes) j k a b x (says-at bytes o n m k b s t y)

coded-plain : (bytes : List ℕ) (o : Option ℕ) (n m j k : ℕ) → o ≡ Some n → o ≡ Some m → Says (take n bytes) j true → Says (take m bytes) k false → ⊥
coded-plain bytes o n m j k s t x y = let e : true ≡ false = same-coded bytes o n m j k true false s t x y in cc

pub one : (bytes : List ℕ) (a b : Answer) → Asks bytes a → Asks bytes b → a ≡ b
one bytes _ _ (grammar.open_head n1 l1) (grammar.open_head n2 l2) = refl
one bytes _ _ (grammar.open_head n1 l1) (grammar.long_head g2 p2) = absurd (omega (arith, l1, g2))
one bytes _ _ (grammar.open_head n1 l1) (grammar.bad_head {n = m2} s2 w2 x2) = absurd (none-some _ _ n1 s2)
one bytes _ _ (grammar.open_head n1 l1) (grammar.long_request {n = m2} {size = z2} {coded = c2} s2 w2 y2 g2) = absurd (none-some _ _ n1 s2)
one bytes _ _ (grammar.open_head n1 l1) (grammar.coded_body {n = m2} {size = z2} s2 w2 y2 g2) = absurd (none-some _ _ n1 s2)
one bytes _ _ (grammar.open_head n1 l1) (grammar.open_body {n = m2} {size = z2} s2 w2 y2 g2 l2) = absurd (none-some _ _ n1 s2)
one bytes _ _ (grammar.open_head n1 l1) (grammar.whole {n = m2} {size = z2} s2 w2 y2 g2 a2) = absurd (none-some _ _ n1 s2)
one bytes _ _ (grammar.long_head g1 p1) (grammar.open_head n2 l2) = absurd (omega (arith, l2, g1))
one bytes _ _ (grammar.long_head g1 p1) (grammar.long_head g2 p2) = refl
one bytes _ _ (grammar.long_head g1 p1) (grammar.bad_head {n = m2} s2 w2 x2) = absurd (past-within _ _ p1 s2 w2)
one bytes _ _ (grammar.long_head g1 p1) (grammar.long_request {n = m2} {size = z2} {coded = c2} s2 w2 y2 g2) = absurd (past-within _ _ p1 s2 w2)
one bytes _ _ (grammar.long_head g1 p1) (grammar.coded_body {n = m2} {size = z2} s2 w2 y2 g2) = absurd (past-within _ _ p1 s2 w2)
one bytes _ _ (grammar.long_head g1 p1) (grammar.open_body {n = m2} {size = z2} s2 w2 y2 g2 l2) = absurd (past-within _ _ p1 s2 w2)
one bytes _ _ (grammar.long_head g1 p1) (grammar.whole {n = m2} {size = z2} s2 w2 y2 g2 a2) = absurd (past-within _ _ p1 s2 w2)
one bytes _ _ (grammar.bad_head {n = m1} s1 w1 x1) (grammar.open_head n2 l2) = absurd (none-some _ _ n2 s1)
one bytes _ _ (grammar.bad_head {n = m1} s1 w1 x1) (grammar.long_head g2 p2) = absurd (past-within _ _ p2 s1 w1)
one bytes _ _ (grammar.bad_head {n = m1} s1 w1 x1) (grammar.bad_head {n = m2} s2 w2 x2) = refl
one bytes _ _ (grammar.bad_head {n = m1} s1 w1 x1) (grammar.long_request {n = m2} {size = z2} {coded = c2} s2 w2 y2 g2) = absurd (bad-says bytes _ _ _ _ _ s1 s2 x1 y2)
one bytes _ _ (grammar.bad_head {n = m1} s1 w1 x1) (grammar.coded_body {n = m2} {size = z2} s2 w2 y2 g2) = refl
one bytes _ _ (grammar.bad_head {n = m1} s1 w1 x1) (grammar.open_body {n = m2} {size = z2} s2 w2 y2 g2 l2) = absurd (bad-says bytes _ _ _ _ _ s1 s2 x1 y2)
one bytes _ _ (grammar.bad_head {n = m1} s1 w1 x1) (grammar.whole {n = m2} {size = z2} s2 w2 y2 g2 a2) = absurd (bad-says bytes _ _ _ _ _ s1 s2 x1 y2)
one bytes _ _ (grammar.long_request {n = m1} {size = z1} {coded = c1} s1 w1 y1 g1) (grammar.open_head n2 l2) = absurd (none-some _ _ n2 s1)
one bytes _ _ (grammar.long_request {n = m1} {size = z1} {coded = c1} s1 w1 y1 g1) (grammar.long_head g2 p2) = absurd (past-within _ _ p2 s1 w1)
one bytes _ _ (grammar.long_request {n = m1} {size = z1} {coded = c1} s1 w1 y1 g1) (grammar.bad_head {n = m2} s2 w2 x2) = absurd (bad-says bytes _ _ _ _ _ s2 s1 x2 y1)
one bytes _ _ (grammar.long_request {n = m1} {size = z1} {coded = c1} s1 w1 y1 g1) (grammar.long_request {n = m2} {size = z2} {coded = c2} s2 w2 y2 g2) = refl
one bytes _ _ (grammar.long_request {n = m1} {size = z1} {coded = c1} s1 w1 y1 g1) (grammar.coded_body {n = m2} {size = z2} s2 w2 y2 g2) = absurd (omega (arith, same-total bytes (section_end before_head bytes) m1 m2 z1 z2 c1 true s1 s2 y1 y2, g1, g2))
one bytes _ _ (grammar.long_request {n = m1} {size = z1} {coded = c1} s1 w1 y1 g1) (grammar.open_body {n = m2} {size = z2} s2 w2 y2 g2 l2) = absurd (omega (arith, same-total bytes (section_end before_head bytes) m1 m2 z1 z2 c1 false s1 s2 y1 y2, g1, g2))
one bytes _ _ (grammar.long_request {n = m1} {size = z1} {coded = c1} s1 w1 y1 g1) (grammar.whole {n = m2} {size = z2} s2 w2 y2 g2 a2) = absurd (omega (arith, same-total bytes (section_end before_head bytes) m1 m2 z1 z2 c1 false s1 s2 y1 y2, g1, g2))
one bytes _ _ (grammar.coded_body {n = m1} {size = z1} s1 w1 y1 g1) (grammar.open_head n2 l2) = absurd (none-some _ _ n2 s1)
one bytes _ _ (grammar.coded_body {n = m1} {size = z1} s1 w1 y1 g1) (grammar.long_head g2 p2) = absurd (past-within _ _ p2 s1 w1)
one bytes _ _ (grammar.coded_body {n = m1} {size = z1} s1 w1 y1 g1) (grammar.bad_head {n = m2} s2 w2 x2) = refl
one bytes _ _ (grammar.coded_body {n = m1} {size = z1} s1 w1 y1 g1) (grammar.long_request {n = m2} {size = z2} {coded = c2} s2 w2 y2 g2) = absurd (omega (arith, same-total bytes (section_end before_head bytes) m1 m2 z1 z2 true c2 s1 s2 y1 y2, g1, g2))
one bytes _ _ (grammar.coded_body {n = m1} {size = z1} s1 w1 y1 g1) (grammar.coded_body {n = m2} {size = z2} s2 w2 y2 g2) = refl
one bytes _ _ (grammar.coded_body {n = m1} {size = z1} s1 w1 y1 g1) (grammar.open_body {n = m2} {size = z2} s2 w2 y2 g2 l2) = absurd (coded-plain bytes _ _ _ _ _ s1 s2 y1 y2)
one bytes _ _ (grammar.coded_body {n = m1} {size = z1} s1 w1 y1 g1) (grammar.whole {n = m2} {size = z2} s2 w2 y2 g2 a2) = absurd (coded-plain bytes _ _ _ _ _ s1 s2 y1 y2)
one bytes _ _ (grammar.open_body {n = m1} {size = z1} s1 w1 y1 g1 l1) (grammar.open_head n2 l2) = absurd (none-some _ _ n2 s1)
one bytes _ _ (grammar.open_body {n = m1} {size = z1} s1 w1 y1 g1 l1) (grammar.long_head g2 p2) = absurd (past-within _ _ p2 s1 w1)
one bytes _ _ (grammar.open_body {n = m1} {size = z1} s1 w1 y1 g1 l1) (grammar.bad_head {n = m2} s2 w2 x2) = absurd (bad-says bytes _ _ _ _ _ s2 s1 x2 y1)
one bytes _ _ (grammar.open_body {n = m1} {size = z1} s1 w1 y1 g1 l1) (grammar.long_request {n = m2} {size = z2} {coded = c2} s2 w2 y2 g2) = absurd (omega (arith, same-total bytes (section_end before_head bytes) m1 m2 z1 z2 false c2 s1 s2 y1 y2, g1, g2))
one bytes _ _ (grammar.open_body {n = m1} {size = z1} s1 w1 y1 g1 l1) (grammar.coded_body {n = m2} {size = z2} s2 w2 y2 g2) = absurd (coded-plain bytes _ _ _ _ _ s2 s1 y2 y1)
one bytes _ _ (grammar.open_body {n = m1} {size = z1} s1 w1 y1 g1 l1) (grammar.open_body {n = m2} {size = z2} s2 w2 y2 g2 l2) = refl
one bytes _ _ (grammar.open_body {n = m1} {size = z1} s1 w1 y1 g1 l1) (grammar.whole {n = m2} {size = z2} s2 w2 y2 g2 a2) = absurd (omega (arith, same-total bytes (section_end before_head bytes) m1 m2 z1 z2 false false s1 s2 y1 y2, l1, a2))
one bytes _ _ (grammar.whole {n = m1} {size = z1} s1 w1 y1 g1 a1) (grammar.open_head n2 l2) = absurd (none-some _ _ n2 s1)
one bytes _ _ (grammar.whole {n = m1} {size = z1} s1 w1 y1 g1 a1) (grammar.long_head g2 p2) = absurd (past-within _ _ p2 s1 w1)
one bytes _ _ (grammar.whole {n = m1} {size = z1} s1 w1 y1 g1 a1) (grammar.bad_head {n = m2} s2 w2 x2) = absurd (bad-says bytes _ _ _ _ _ s2 s1 x2 y1)
one bytes _ _ (grammar.whole {n = m1} {size = z1} s1 w1 y1 g1 a1) (grammar.long_request {n = m2} {size = z2} {coded = c2} s2 w2 y2 g2) = absurd (omega (arith, same-total bytes (section_end before_head bytes) m1 m2 z1 z2 false c2 s1 s2 y1 y2, g1, g2))
one bytes _ _ (grammar.whole {n = m1} {size = z1} s1 w1 y1 g1 a1) (grammar.coded_body {n = m2} {size = z2} s2 w2 y2 g2) = absurd (coded-plain bytes _ _ _ _ _ s2 s1 y2 y1)
one bytes _ _ (grammar.whole {n = m1} {size = z1} s1 w1 y1 g1 a1) (grammar.open_body {n = m2} {size = z2} s2 w2 y2 g2 l2) = absurd (omega (arith, same-total bytes (section_end before_head bytes) m1 m2 z1 z2 false false s1 s2 y1 y2, l2, a1))
one bytes _ _ (grammar.whole {n = m1} {size = z1} s1 w1 y1 g1 a1) (grammar.whole {n = m2} {size = z2} s2 w2 y2 g2 a2) = ap (λ n. Whole (take n bytes) (drop n bytes)) (same-total bytes (section_end before_head bytes) m1 m2 z1 z2 false false s1 s2 y1 y2)
