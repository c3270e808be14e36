-- Reading and writing in pieces.
use Rattle.std.proofs.Common.{◌≡◌, ℕ, ◌+◌, ◌-◌, ◌<◌, ◌≤◌, List, [], ◌++◌, length, take, drop, Option, Some, None, arith, refl, sym, ap, ◌∙◌, append_assoc, length-append, subst}
use Rattle.std.proofs.lemmas.List.{take_all, length-drop, length-take-le, append-nil, take-append-drop, take_at, drop-drop}
use Rattle.std.proofs.Math.Seq.{take-add, drop-append_seam}
use Rattle.std.specs.Io.KnownBytes.{Appends, Consumes, IsAtEnd, Keeps}
use Rattle.edge_io.specs.Edges.{TookAll, TookCount}

pub Keeps-trans : (a b c : Option (List ℕ)) → Keeps a b → Keeps b c → Keeps a c
Keeps-trans None b c h k = tt
Keeps-trans (Some xs) None c h k = absurd h
Keeps-trans (Some xs) (Some ys) None h k = absurd k
Keeps-trans (Some xs) (Some ys) (Some zs) h k = k ∙ h

pub Keeps-Consumes : (a b c : Option (List ℕ)) (bs : List ℕ) → Keeps a b → Consumes b c bs → Consumes a c bs
Keeps-Consumes None b c bs h k = tt
Keeps-Consumes (Some xs) None c bs h k = absurd h
Keeps-Consumes (Some xs) (Some ys) None bs h k = absurd k
Keeps-Consumes (Some xs) (Some ys) (Some zs) bs h k = sym h ∙ k

pub Keeps-Appends : (a b c : Option (List ℕ)) (bs : List ℕ) → Keeps a b → Appends b c bs → Appends a c bs
Keeps-Appends None b c bs h k = tt
Keeps-Appends (Some xs) None c bs h k = absurd h
Keeps-Appends (Some xs) (Some ys) None bs h k = absurd k
Keeps-Appends (Some xs) (Some ys) (Some zs) bs h k = k ∙ ap (λ l. l ++ bs) h

pub Appends-Keeps : (a b c : Option (List ℕ)) (bs : List ℕ) → Appends a b bs → Keeps b c → Appends a c bs
Appends-Keeps None b c bs h k = tt
Appends-Keeps (Some xs) None c bs h k = absurd h
Appends-Keeps (Some xs) (Some ys) None bs h k = absurd k
Appends-Keeps (Some xs) (Some ys) (Some zs) bs h k = k ∙ h

pub Consumes-Keeps : (a b c : Option (List ℕ)) (bs : List ℕ) → Consumes a b bs → Keeps b c → Consumes a c bs
Consumes-Keeps None b c bs h k = tt
Consumes-Keeps (Some xs) None c bs h k = absurd h
Consumes-Keeps (Some xs) (Some ys) None bs h k = absurd k
Consumes-Keeps (Some xs) (Some ys) (Some zs) bs h k = h ∙ ap (λ l. bs ++ l) (sym k)

pub Keeps-refl : (a : Option (List ℕ)) → Keeps a a
Keeps-refl None = tt
Keeps-refl (Some xs) = refl

-- nothing went out
pub Keeps-from_Appends : (a b : Option (List ℕ)) → Appends a b [] → Keeps a b
Keeps-from_Appends None b h = tt
Keeps-from_Appends (Some xs) None h = h
Keeps-from_Appends (Some xs) (Some ys) h = h ∙ append-nil xs

pub Appends-nil : (a : Option (List ℕ)) → Appends a a []
Appends-nil None = tt
Appends-nil (Some xs) = sym (append-nil xs)

pub Appends-append : (a b c : Option (List ℕ)) (xs ys : List ℕ) → Appends a b xs → Appends b c ys → Appends a c (xs ++ ys)
Appends-append None b c xs ys h k = tt
Appends-append (Some w) None c xs ys h k = absurd h
Appends-append (Some w) (Some v) None xs ys h k = absurd k
Appends-append (Some w) (Some v) (Some u) xs ys h k = k ∙ ap (λ l. l ++ ys) h ∙ append_assoc w xs ys

pub Consumes-append : (a b c : Option (List ℕ)) (xs ys : List ℕ) → Consumes a b xs → Consumes b c ys → Consumes a c (xs ++ ys)
Consumes-append None b c xs ys h k = tt
Consumes-append (Some w) None c xs ys h k = absurd h
Consumes-append (Some w) (Some v) None xs ys h k = absurd k
Consumes-append (Some w) (Some v) (Some u) xs ys h k = h ∙ ap (λ l. xs ++ l) k ∙ sym (append_assoc xs ys u)

pub TookAll-from_Consumes : (a b : Option (List ℕ)) (bs : List ℕ) → Consumes a b bs → IsAtEnd b → TookAll a b bs
TookAll-from_Consumes None b bs h k = tt
TookAll-from_Consumes (Some xs) None bs h k = absurd h
TookAll-from_Consumes (Some xs) (Some ys) bs h k = (h ∙ ap (λ l. bs ++ l) k ∙ append-nil bs, ap Some k)

pub TookCount-from_Consumes : (a b : Option (List ℕ)) (bs : List ℕ) → Consumes a b bs → TookCount a b (length bs)
TookCount-from_Consumes None b bs h = tt
TookCount-from_Consumes (Some xs) None bs h = absurd h
TookCount-from_Consumes (Some xs) (Some ys) bs h =
    (omega (arith, ap length h, length-append bs ys), ap Some (sym (drop-append_seam bs ys) ∙ ap (λ l. drop (length bs) l) (sym h)))

-- the slice from a place on
pub rest_is : (xs : List ℕ) (at : ℕ) → take (length xs - at) (drop at xs) ≡ drop at xs
rest_is xs at = take_all (length xs - at) (drop at xs) (omega (arith, length-drop at xs))

pub rest_within : (xs : List ℕ) (at n : ℕ) → at < length xs → n ≤ length (take (length xs - at) (drop at xs)) → at + n ≤ length xs
rest_within xs at n h k = let k' : n ≤ length (drop at xs) = rw (rest_is xs at) at k in omega (arith, length-drop at xs)

-- what was written up to a place, and then n bytes from there
pub written_on : (a b c : Option (List ℕ)) (xs : List ℕ) (at n : ℕ) → Appends a b (take at xs) → Appends b c (take n (take (length xs - at) (drop at xs))) → Appends a c (take (at + n) xs)
written_on a b c xs at n h k =
    let k' : Appends b c (take n (drop at xs)) = rw (rest_is xs at) at k in
    rw (take-add at n xs) (Appends-append a b c (take at xs) (take n (drop at xs)) h k')

-- what was taken before, and then n bytes of a buffer
pub TookCount-more : (a b c : Option (List ℕ)) (xs into : List ℕ) (n m : ℕ) → Consumes a b xs → Consumes b c (take n into) → n ≤ length into → length xs + n ≡ m → TookCount a c m
TookCount-more a b c xs into n m h k w e =
    let taken = TookCount-from_Consumes a c (xs ++ take n into) (Consumes-append a b c xs (take n into) h k) in
    let count : length (xs ++ take n into) ≡ m = length-append xs (take n into) ∙ ap (λ l. length xs + l) (length-take-le n into w) ∙ e in
    subst (λ l. TookCount a c l) count taken

-- n bytes from a place on go to the start of a buffer
pub read_front : (items into left piece : List ℕ) (at n : ℕ) → left ≡ drop at items → piece ≡ take ((at + n) - at) (drop at items) → n ≤ length items - at → left ≡ take n (piece ++ drop n into) ++ drop (at + n) items
read_front items into left piece at n is copied w =
    let count : (at + n) - at ≡ n = omega arith in
    let within : n ≤ length (drop at items) = omega (arith, length-drop at items) in
    let piece_is : piece ≡ take n (drop at items) = copied ∙ ap (λ k. take k (drop at items)) count in
    let long : length piece ≡ n = ap length piece_is ∙ length-take-le n (drop at items) within in
    let prefix : take n (piece ++ drop n into) ≡ take n (drop at items) = take_at piece (drop n into) n long ∙ piece_is in
    is ∙ sym (take-append-drop n (drop at items)) ∙ ap (λ l. take n (drop at items) ++ l) (drop-drop n at items) ∙ ap (λ l. l ++ drop (at + n) items) (sym prefix)
