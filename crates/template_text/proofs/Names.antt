-- The reference that the scanner finds at a place begins there, and it finds the one that begins there.
use Rattle.std.proofs.Common.{◌≡◌, ◌≢◌, ℕ, zero, suc, ◌≤◌, List, [], ◌∷◌, ◌++◌, ◌==◌, ◌&&◌, not, if◌then◌else◌, refl, sym, ◌∙◌, ap, subst, Bool, true, false, Option, Some, None, option_and_then, length, take, drop, arith, append_assoc}
use Rattle.std.specs.List.{list_all}
use Rattle.std.specs.Prelude.{nat_le}
use Rattle.std.proofs.lemmas.Bool.{eqb-true, ne_eqb, true≢false, leb-true, le-leb}
use Rattle.std.proofs.lemmas.List.{take-append-drop}
use Rattle.std.proofs.Math.Seq.{drop-append_seam, take-append_seam}
use Rattle.template_text.specs.Pieces.{Reference, variable, call, no_more, text, reference, Arguments, no_arguments, argument, nesting, nesting_of_arguments}
use Rattle.template_text.specs.TemplateGrammar.{is_name_byte, is_letter_or_digit, IsName, begins_with, opens, open_after, plain_text_of_arguments, IsReference, AreArguments}
use Rattle.template_text.specs.Scan.{inside, table, first_at, first_of, name_length, is_empty, call_name, normal, shallow, call_of, named}
use Rattle.template_text.proofs.Before.{reference_before, arguments_before}
use Rattle.template_text.proofs.Tokens.{and_first, inside_ends}
use Rattle.template_text.proofs.Standing.{not_empty}
use Rattle.template_text.proofs.Inside.{StartsWith, Sound, AllSound, Complete, AllComplete, Reads, none_some, some_same, inside_sound, inside_complete, tail_same}

pub table_drop : (k : ℕ) (s : List ℕ) → drop k (table s) ≡ table (drop k s)
unfolding table
table_drop zero s = refl
table_drop (suc k) [] = refl
table_drop (suc k) (c ∷ s) = table_drop k s

sound_drop : (k : ℕ) (s : List ℕ) → AllSound s → AllSound (drop k s)
sound_drop zero s h = h
sound_drop (suc k) [] h = tt
sound_drop (suc k) (c ∷ s) h = sound_drop k s h.1

complete_drop : (k : ℕ) (s : List ℕ) → AllComplete s → AllComplete (drop k s)
complete_drop zero s h = h
complete_drop (suc k) [] h = tt
complete_drop (suc k) (c ∷ s) h = complete_drop k s h.1

name_go : (c : ℕ) (s : List ℕ) (b : Bool) → is_name_byte c ≡ b → list_all is_name_byte (take (name_length s) s) ≡ true
    → list_all is_name_byte (take (if b then suc (name_length s) else 0) (c ∷ s)) ≡ true
name_go c s true e h = ap (λ b. b && list_all is_name_byte (take (name_length s) s)) e ∙ h
name_go c s false e h = refl

name_bytes : (s : List ℕ) → list_all is_name_byte (take (name_length s) s) ≡ true
name_bytes [] = refl
name_bytes (c ∷ s) = name_go c s (is_name_byte c) refl (name_bytes s)

name_length-append : (n u : List ℕ) (x : ℕ) → list_all is_name_byte n ≡ true → is_name_byte x ≡ false → name_length (n ++ x ∷ u) ≡ length n
name_length-append [] u x h e = ap (λ b. if b then suc (name_length u) else 0) e
name_length-append (c ∷ n) u x h e =
    let p : (is_name_byte c ≡ true) × (list_all is_name_byte n ≡ true) = and_first (is_name_byte c) (list_all is_name_byte n) h in
    ap (λ b. if b then suc (name_length (n ++ x ∷ u)) else 0) p.0 ∙ ap suc (name_length-append n u x p.1 e)

letter_not : (c d : ℕ) → is_letter_or_digit c ≡ true → is_letter_or_digit d ≡ false → (c == d) ≡ false
letter_not c d h k = ne_eqb c d (λ e. true≢false (sym h ∙ (ap is_letter_or_digit e ∙ k)))

letter_is_name : (c : ℕ) → is_letter_or_digit c ≡ true → is_name_byte c ≡ true
unfolding is_name_byte is_letter_or_digit
letter_is_name c h = rw (letter_not c 36 h refl, letter_not c 123 h refl, letter_not c 125 h refl, letter_not c 40 h refl, letter_not c 41 h refl, letter_not c 44 h refl, letter_not c 92 h refl)

letters_are_name : (n : List ℕ) → list_all is_letter_or_digit n ≡ true → list_all is_name_byte n ≡ true
letters_are_name [] h = refl
letters_are_name (c ∷ n) h =
    let p : (is_letter_or_digit c ≡ true) × (list_all is_letter_or_digit n ≡ true) = and_first (is_letter_or_digit c) (list_all is_letter_or_digit n) h in
    ap (λ b. b && list_all is_name_byte n) (letter_is_name c p.0) ∙ letters_are_name n p.1

pub normal_right : (a : Arguments) → normal a ≢ argument no_more no_arguments
normal_right no_arguments e = cc
normal_right (argument no_more no_arguments) e = cc
normal_right (argument no_more (argument ps more)) e = cc
normal_right (argument (text t ps) more) e = cc
normal_right (argument (reference r ps) more) e = cc

normal_before : (a : Arguments) (k : List ℕ) → arguments_before (normal a) k ≡ arguments_before a k
normal_before no_arguments k = refl
normal_before (argument no_more no_arguments) k = refl
normal_before (argument no_more (argument ps more)) k = refl
normal_before (argument (text t ps) more) k = refl
normal_before (argument (reference r ps) more) k = refl

normal_are : (a : Arguments) → AreArguments a → AreArguments (normal a)
normal_are no_arguments h = h
normal_are (argument no_more no_arguments) h = tt
normal_are (argument no_more (argument ps more)) h = h
normal_are (argument (text t ps) more) h = h
normal_are (argument (reference r ps) more) h = h

normal_plain : (a : Arguments) → plain_text_of_arguments (normal a) ≡ plain_text_of_arguments a
normal_plain no_arguments = refl
normal_plain (argument no_more no_arguments) = refl
normal_plain (argument no_more (argument ps more)) = refl
normal_plain (argument (text t ps) more) = refl
normal_plain (argument (reference r ps) more) = refl

pub normal_same : (a : Arguments) → a ≢ argument no_more no_arguments → normal a ≡ a
normal_same no_arguments h = refl
normal_same (argument no_more no_arguments) h = absurd (h refl)
normal_same (argument no_more (argument ps more)) h = refl
normal_same (argument (text t ps) more) h = refl
normal_same (argument (reference r ps) more) h = refl

record CallName (n m : List ℕ) : Type 0 where
  is : n ≡ 95 ∷ 95 ∷ m
  right : IsName is_letter_or_digit m

empty_none : (m : List ℕ) → not (is_empty m) ≡ true → m ≢ []
empty_none [] h e = true≢false (sym h)
empty_none (c ∷ m) h e = not_empty c m e

some_not_empty : (m : List ℕ) → m ≢ [] → not (is_empty m) ≡ true
some_not_empty [] h = absurd (h refl)
some_not_empty (c ∷ m) h = refl

call_name_go : (a b : ℕ) (n m : List ℕ) (x : Bool) → (a == 95 && (b == 95 && (not (is_empty n) && list_all is_letter_or_digit n))) ≡ x → (if x then Some n else None) ≡ Some m → CallName (a ∷ b ∷ n) m
call_name_go a b n m false e f = absurd (none_some m f)
call_name_go a b n m true e f =
    let p : ((a == 95) ≡ true) × ((b == 95 && (not (is_empty n) && list_all is_letter_or_digit n)) ≡ true) = and_first (a == 95) (b == 95 && (not (is_empty n) && list_all is_letter_or_digit n)) e in
    let q : ((b == 95) ≡ true) × ((not (is_empty n) && list_all is_letter_or_digit n) ≡ true) = and_first (b == 95) (not (is_empty n) && list_all is_letter_or_digit n) p.1 in
    let r : (not (is_empty n) ≡ true) × (list_all is_letter_or_digit n ≡ true) = and_first (not (is_empty n)) (list_all is_letter_or_digit n) q.1 in
    let same : n ≡ m = some_same f in
    subst (λ w. CallName (a ∷ b ∷ n) w) same (record {
      is = ap (λ w. w ∷ b ∷ n) (eqb-true a 95 p.0) ∙ ap (λ w. 95 ∷ w ∷ n) (eqb-true b 95 q.0);
      right = record { some = empty_none n r.0; bytes = r.1 };
    })

call_name_is : (n m : List ℕ) → call_name n ≡ Some m → CallName n m
call_name_is [] m e = absurd (none_some m e)
call_name_is (a ∷ []) m e = absurd (none_some m e)
call_name_is (a ∷ b ∷ n) m e = call_name_go a b n m (a == 95 && (b == 95 && (not (is_empty n) && list_all is_letter_or_digit n))) refl e

shallow_go : (f r : Reference) (b : Bool) → nat_le (nesting f) 16 ≡ b → (if b then Some f else None) ≡ Some r → (f ≡ r) × (nesting f ≤ 16)
shallow_go f r true e h = (some_same h, leb-true (nesting f) 16 e)
shallow_go f r false e h = absurd (none_some r h)

shallow_is : (f r : Reference) → shallow f ≡ Some r → (f ≡ r) × (nesting f ≤ 16)
shallow_is f r e = shallow_go f r (nat_le (nesting f) 16) refl e

then_some : {A B : Type 0} (f : A → Option B) (o : Option A) (y : B) → option_and_then f o ≡ Some y → (x : A) × ((o ≡ Some x) × (f x ≡ Some y))
then_some f None y e = absurd (none_some y e)
then_some f (Some x) y e = (x, (refl, e))

-- what a name and the text after it begin
record Named (n s : List ℕ) (r : Reference) : Type 0 where
  right : IsReference r
  shallow : nesting r ≤ 16
  rest : List ℕ
  spelled : 36 ∷ 123 ∷ (n ++ s) ≡ reference_before r rest

call_right : (m s : List ℕ) (a : Arguments) → IsName is_letter_or_digit m → Reads s 0 a → IsReference (call m (normal a))
call_right m s no_arguments n h = absurd h
call_right m s (argument ps more) n h =
    (n, normal_right (argument ps more), normal_are (argument ps more) h.right, ap (open_after 0) (normal_plain (argument ps more)) ∙ h.closed)

call_spelled : (n m s : List ℕ) (a : Arguments) → CallName n m → Reads s 0 a → (rest : List ℕ) × (36 ∷ 123 ∷ (n ++ 40 ∷ s) ≡ reference_before (call m (normal a)) rest)
call_spelled n m s no_arguments c h = absurd h
call_spelled n m s (argument ps more) c h = (
  h.rest,
  ap (λ w. 36 ∷ 123 ∷ (w ++ 40 ∷ s)) c.is
      ∙ ap (λ w. 36 ∷ 123 ∷ 95 ∷ 95 ∷ (m ++ 40 ∷ w)) (h.spelled ∙ sym (normal_before (argument ps more) (41 ∷ 125 ∷ h.rest))),
)

named_call : (n s : List ℕ) (r : Reference) → AllSound s → call_of n (inside s (table s) 0 0) ≡ Some r → Named n (40 ∷ s) r
named_call n s r sound e =
    let p : (m : List ℕ) × ((call_name n ≡ Some m) × (option_and_then (λ a. shallow (call m (normal a))) (inside s (table s) 0 0) ≡ Some r)) =
    then_some (λ m. option_and_then (λ a. shallow (call m (normal a))) (inside s (table s) 0 0)) (call_name n) r e in
    let q : (a : Arguments) × ((inside s (table s) 0 0 ≡ Some a) × (shallow (call p.0 (normal a)) ≡ Some r)) =
    then_some (λ a. shallow (call p.0 (normal a))) (inside s (table s) 0 0) r p.1.1 in
    let name : CallName n p.0 = call_name_is n p.0 p.1.0 in
    let reads : Reads s 0 q.0 = inside_sound s sound 0 0 q.0 q.1.0 in
    let is : (call p.0 (normal q.0) ≡ r) × (nesting (call p.0 (normal q.0)) ≤ 16) = shallow_is (call p.0 (normal q.0)) r q.1.1 in
    let spelled : (rest : List ℕ) × (36 ∷ 123 ∷ (n ++ 40 ∷ s) ≡ reference_before (call p.0 (normal q.0)) rest) = call_spelled n p.0 s q.0 name reads in
    subst (Named n (40 ∷ s)) is.0 (record { right = call_right p.0 s q.0 name.right reads; shallow = is.1; rest = spelled.0; spelled = spelled.1 })

named_variable : (n s : List ℕ) (r : Reference) → list_all is_name_byte n ≡ true → (if is_empty n then None else Some (variable n)) ≡ Some r → Named n (125 ∷ s) r
named_variable [] s r h e = absurd (none_some r e)
named_variable (c ∷ n) s r h e = subst (Named (c ∷ n) (125 ∷ s)) (some_same e)
    (record { right = record { some = not_empty c n; bytes = h }; shallow = omega arith; rest = s; spelled = refl })

named_go : (n : List ℕ) (c : ℕ) (s : List ℕ) (r : Reference) (a b : Bool) → (c == 125) ≡ a → (c == 40) ≡ b → list_all is_name_byte n ≡ true → AllSound s
    → (if a then (if is_empty n then None else Some (variable n)) else if b then call_of n (inside s (table s) 0 0) else None) ≡ Some r → Named n (c ∷ s) r
named_go n c s r true b i j h sound e = subst (λ w. Named n (w ∷ s) r) (sym (eqb-true c 125 i)) (named_variable n s r h e)
named_go n c s r false true i j h sound e = subst (λ w. Named n (w ∷ s) r) (sym (eqb-true c 40 j)) (named_call n s r sound e)
named_go n c s r false false i j h sound e = absurd (none_some r e)

named_sound : (n s : List ℕ) (r : Reference) → list_all is_name_byte n ≡ true → AllSound s → named n s (table s) ≡ Some r → Named n s r
unfolding table
named_sound n [] r h sound e = absurd (none_some r e)
named_sound n (c ∷ s) r h sound e = named_go n c s r (c == 125) (c == 40) refl refl h sound.1 e

brace_follows : (s : List ℕ) → begins_with 123 s ≡ true → s ≡ 123 ∷ drop 1 s
brace_follows [] e = absurd (true≢false (sym e))
brace_follows (d ∷ s) e = ap (λ w. w ∷ s) (eqb-true d 123 e)

first_go : (c : ℕ) (s : List ℕ) (r : Reference) (a : Bool) → opens (c ∷ s) ≡ a → AllSound s
    → (if a then named (take (name_length (drop 1 s)) (drop 1 s)) (drop (name_length (drop 1 s)) (drop 1 s)) (drop (name_length (drop 1 s)) (drop 1 (table s))) else None) ≡ Some r
    → StartsWith (c ∷ s) r
first_go c s r false o sound e = absurd (none_some r e)
first_go c s r true o sound e =
    let inner : List ℕ = drop 1 s in
    let n : ℕ = name_length inner in
    let p : ((c == 36) ≡ true) × (begins_with 123 s ≡ true) = and_first (c == 36) (begins_with 123 s) o in
    let places : drop n (drop 1 (table s)) ≡ table (drop n inner) = ap (drop n) (table_drop 1 s) ∙ table_drop n inner in
    let f : named (take n inner) (drop n inner) (table (drop n inner)) ≡ Some r = ap (named (take n inner) (drop n inner)) (sym places) ∙ e in
    let h : Named (take n inner) (drop n inner) r = named_sound (take n inner) (drop n inner) r (name_bytes inner) (sound_drop n inner (sound_drop 1 s sound)) f in
    record {
      right = h.right;
      shallow = h.shallow;
      rest = h.rest;
      spelled = ap (λ w. w ∷ s) (eqb-true c 36 p.0) ∙ (ap (λ w. 36 ∷ w) (brace_follows s p.1) ∙ (ap (λ w. 36 ∷ 123 ∷ w) (sym (take-append-drop n inner)) ∙ h.spelled));
    }

pub first_sound : (c : ℕ) (s : List ℕ) → AllSound s → Sound (c ∷ s)
unfolding first_of
first_sound c s sound r e = first_go c s r (opens (c ∷ s)) refl sound e

pub all_sound : (s : List ℕ) → AllSound s
all_sound [] = tt
all_sound (c ∷ s) = (first_sound c s (all_sound s), all_sound s)

-- a name of name bytes, and the byte that ends it
first_named : (n u : List ℕ) (x : ℕ) → list_all is_name_byte n ≡ true → is_name_byte x ≡ false
    → first_at (36 ∷ 123 ∷ (n ++ x ∷ u)) ≡ named n (x ∷ u) (table (x ∷ u))
unfolding first_of
first_named n u x h e =
    let inner : List ℕ = n ++ x ∷ u in
    let long : name_length inner ≡ length n = name_length-append n u x h e in
    let prefix : take (name_length inner) inner ≡ n = ap (λ k. take k inner) long ∙ take-append_seam n (x ∷ u) in
    let back : drop (name_length inner) inner ≡ x ∷ u = ap (λ k. drop k inner) long ∙ drop-append_seam n (x ∷ u) in
    let places : drop (name_length inner) (drop 1 (table (123 ∷ inner))) ≡ table (x ∷ u) =
    ap (drop (name_length inner)) (table_drop 1 (123 ∷ inner)) ∙ (table_drop (name_length inner) inner ∙ ap table back) in
    ap (λ w. named w (drop (name_length inner) inner) (drop (name_length inner) (drop 1 (table (123 ∷ inner))))) prefix
    ∙ (ap (λ w. named n w (drop (name_length inner) (drop 1 (table (123 ∷ inner))))) back ∙ ap (named n (x ∷ u)) places)

complete_variable : (n u : List ℕ) → IsName is_name_byte n → first_at (36 ∷ 123 ∷ (n ++ 125 ∷ u)) ≡ Some (variable n)
unfolding is_name_byte
complete_variable [] u h = absurd (h.some refl)
complete_variable (c ∷ n) u h = first_named (c ∷ n) u 125 h.bytes refl

call_name_of : (m : List ℕ) → IsName is_letter_or_digit m → call_name (95 ∷ 95 ∷ m) ≡ Some m
call_name_of m h = ap (λ b. if b && list_all is_letter_or_digit m then Some m else None) (some_not_empty m h.some) ∙ ap (λ b. if b then Some m else None) h.bytes

call_taken : (m v : List ℕ) (a args : Arguments) → IsName is_letter_or_digit m → inside v (table v) 0 0 ≡ Some a → normal a ≡ args → nesting (call m args) ≤ 16
    → call_of (95 ∷ 95 ∷ m) (inside v (table v) 0 0) ≡ Some (call m args)
call_taken m v a args h e f low =
    ap (λ o. option_and_then (λ n. option_and_then (λ b. shallow (call n (normal b))) (inside v (table v) 0 0)) o) (call_name_of m h)
    ∙ (ap (λ o. option_and_then (λ b. shallow (call m (normal b))) o) e
    ∙ (ap (λ w. shallow (call m w)) f ∙ ap (λ b. if b then Some (call m args) else None) (le-leb (nesting (call m args)) 16 low)))

complete_call : (m v : List ℕ) (a args : Arguments) → IsName is_letter_or_digit m → inside v (table v) 0 0 ≡ Some a → normal a ≡ args → nesting (call m args) ≤ 16
    → first_at (36 ∷ 123 ∷ 95 ∷ 95 ∷ (m ++ 40 ∷ v)) ≡ Some (call m args)
unfolding is_name_byte table
complete_call m v a args h e f low =
    first_named (95 ∷ 95 ∷ m) v 40 (letters_are_name m h.bytes) refl ∙ call_taken m v a args h e f low

complete_reference : (c : ℕ) (s : List ℕ) → AllComplete s → (r : Reference) (rest : List ℕ) → c ∷ s ≡ reference_before r rest → IsReference r → nesting r ≤ 16 → first_at (c ∷ s) ≡ Some r
complete_reference c s all (variable n) rest e right low = ap first_at e ∙ complete_variable n rest right
complete_reference c s all (call m no_arguments) rest e right low =
    ap first_at e ∙ complete_call m (41 ∷ 125 ∷ rest) (argument no_more no_arguments) no_arguments right.0 (inside_ends rest) refl low
complete_reference c s all (call m (argument ps more)) rest e right low =
    let v : List ℕ = arguments_before (argument ps more) (41 ∷ 125 ∷ rest) in
    let k : ℕ = length (m ++ 40 ∷ []) in
    let tail : s ≡ 123 ∷ 95 ∷ 95 ∷ (m ++ 40 ∷ v) = tail_same c 36 s (123 ∷ 95 ∷ 95 ∷ (m ++ 40 ∷ v)) e in
    let after : drop (suc (suc (suc k))) s ≡ v =
    ap (drop (suc (suc (suc k)))) tail ∙ (ap (drop k) (sym (append_assoc m (40 ∷ []) v)) ∙ drop-append_seam (m ++ 40 ∷ []) v) in
    let low_inside : nesting_of_arguments (argument ps more) ≤ 16 = omega (arith, low) in
    ap first_at e ∙ complete_call m v (argument ps more) (argument ps more) right.0
    (inside_complete v (subst AllComplete after (complete_drop (suc (suc (suc k))) s all)) 0 0 ps more
    (record { right = right.2; closed = right.3; rest = rest; spelled = refl }) low_inside)
    (normal_same (argument ps more) right.1) low

pub first_complete : (c : ℕ) (s : List ℕ) → AllComplete s → Complete (c ∷ s)
first_complete c s all r h = complete_reference c s all r h.rest h.spelled h.right h.shallow

pub all_complete : (s : List ℕ) → AllComplete s
all_complete [] = tt
all_complete (c ∷ s) = (first_complete c s (all_complete s), all_complete s)
