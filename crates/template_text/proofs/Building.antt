-- What the builders are given is what stands in the text.
use Rattle.std.proofs.Common.{◌≡◌, ℕ, zero, suc, ◌+◌, ◌-◌, ◌<◌, ◌≤◌, List, [], ◌∷◌, ◌++◌, refl, sym, ◌∙◌, ap, Bool, true, false, Option, Some, None, option_map, IsSome, is_some, Result, Ok, Err, IfOk, length, take, drop, get_or, arith, length-append, length-drop, append_assoc}
use Rattle.std.proofs.lemmas.List.{drop-drop}
use Rattle.std.proofs.lemmas.Bool.{true≢false}
use Rattle.std.proofs.Math.Seq.{take-append_seam, drop-append_seam}
use Rattle.template_text.specs.declared.scan.Token.{Token}
use Rattle.template_text.specs.declared.scan.Token.TheVariants.{Open, Close, Separator, Comma, Start, Byte}
use Rattle.template_text.specs.declared.scan.Step.{Step}
use Rattle.template_text.specs.declared.scan.Step.TheVariants.{Ends, Fails, Goes}
use Rattle.template_text.specs.declared.scan.Found.{Found}
use Rattle.template_text.specs.declared.scan.Found.TheVariants.{Variable, Call}
use Rattle.template_text.specs.declared.builders.ArgumentsBuilder.{ArgumentsBuilder}
use Rattle.template_text.specs.declared.builders.TemplateBuilder.{TemplateBuilder}
use Rattle.template_text.specs.Pieces.{Reference, variable, call, Pieces, no_more, reference, Arguments, no_arguments, argument, reference_spelling, nesting, nesting_of_arguments}
use Rattle.template_text.specs.TemplateGrammar.{begins_with, opens, IsReference}
use Rattle.template_text.specs.Scan.{token_of, step_of, follow, put, join, with_byte, inside, table, first_at, arguments_at, normal, shape, pieces_from, reading, found_length, AreFound}
use Rattle.template_text.specs.Builders.{joined, joined_arguments}
use Rattle.template_text.proofs.Before.{arguments_before}
use Rattle.template_text.proofs.Tokens.{TokenIs, token_is, inside_step, inside_ends}
use Rattle.template_text.proofs.Standing.{Stands}
use Rattle.template_text.proofs.Inside.{StartsWith, none_some, map_some, reference_some, drop_less, inside_sound, inside_complete}
use Rattle.template_text.proofs.Names.{all_sound, all_complete, normal_same}
use Rattle.template_text.proofs.Readings.{pieces_byte, pieces_reference}
use Rattle.template_text.proofs.Table.{found_here, found_drop, found_length-same, shape_length, reference_within}
use Rattle.template_text.proofs.Extents.{first_none, arguments_move, arguments_end, arguments_fail}

map_both : {A B C : Type 0} (f : B → C) (g : A → B) (h : A → C) (x : Option A) → ((a : A) → f (g a) ≡ h a) → option_map f (option_map g x) ≡ option_map h x
map_both f g h None e = refl
map_both f g h (Some a) e = ap Some (e a)

map_same : {A : Type 0} (f : A → A) (x : Option A) → ((a : A) → f a ≡ a) → x ≡ option_map f x
map_same f None e = refl
map_same f (Some a) e = ap Some (sym (e a))

pub build_start : (s : List ℕ) (b : ArgumentsBuilder) → ((args : Arguments) → joined_arguments b args ≡ args) → arguments_at s 0 ≡ option_map (joined_arguments b) (arguments_at (drop 0 s) 0)
build_start s b h = map_same (joined_arguments b) (arguments_at s 0) h

-- one round of the loop over the tokens of arguments
pub build_token : (s rest : List ℕ) (old new : ArgumentsBuilder) (at u n m : ℕ) (x : Option Arguments) → rest ≡ drop at s → x ≡ option_map (joined_arguments old) (arguments_at (drop at s) u)
    → 0 < length rest → Goes n m ≡ step_of (token_of rest) (first_at rest) (begins_with 125 (drop 1 rest)) u → 0 < n
    → ((args : Arguments) → joined_arguments new args ≡ joined_arguments old (put (token_of rest) (first_at rest) args))
    → x ≡ option_map (joined_arguments new) (arguments_at (drop (at + n) s) m)
build_token s rest old new at u n m x e f h g l p =
    f ∙ (ap (λ w. option_map (joined_arguments old) (arguments_at w u)) (sym e)
    ∙ (ap (option_map (joined_arguments old)) (arguments_move rest u n m h g l)
    ∙ (map_both (joined_arguments old) (put (token_of rest) (first_at rest)) (joined_arguments new) (arguments_at (drop n rest) m) (λ a. sym (p a))
    ∙ ap (λ w. option_map (joined_arguments new) (arguments_at w m)) (ap (drop n) e ∙ drop-drop n at s))))

start_is : (t : Token) (c : ℕ) (s : List ℕ) → TokenIs t c s → opens (c ∷ s) ≡ true → t ≡ Start
start_is Open c s is o = absurd (true≢false (sym o ∙ ap (λ w. opens (w ∷ s)) is))
start_is Close c s is o = absurd (true≢false (sym o ∙ ap (λ w. opens (w ∷ s)) is))
start_is Separator c s is o = absurd (true≢false (sym o ∙ ap (λ w. opens (w ∷ s)) is))
start_is Comma c s is o = absurd (true≢false (sym o ∙ ap (λ w. opens (w ∷ s)) is.0))
start_is Start c s is o = refl
start_is (Byte d) c s is o = absurd (true≢false (sym o ∙ is.1.not_start))

opens_there : (c : ℕ) (s : List ℕ) (r : Reference) (b : Bool) → opens (c ∷ s) ≡ b → first_at (c ∷ s) ≡ Some r → opens (c ∷ s) ≡ true
opens_there c s r true e f = e
opens_there c s r false e f = absurd (none_some r (sym (first_none c s e) ∙ f))

pub token_start : (s : List ℕ) (r : Reference) → first_at s ≡ Some r → token_of s ≡ Start
token_start [] r e = absurd (none_some r e)
token_start (c ∷ s) r e = start_is (token_of (c ∷ s)) c s (token_is c s) (opens_there c s r (opens (c ∷ s)) refl e)

-- what a reference adds to a builder is what its token stands for
pub put_reference : (s : List ℕ) (r : Reference) (args : Arguments) → first_at s ≡ Some r → join (Some r) args ≡ put (token_of s) (first_at s) args
put_reference s r args e = ap (λ q. join q args) (sym e) ∙ ap (λ t. put t (first_at s) args) (sym (token_start s r e))

pub put_token : (s : List ℕ) (t : Token) (args : Arguments) → t ≡ token_of s → first_at s ≡ None → put t None args ≡ put (token_of s) (first_at s) args
put_token s t args e f = ap (λ q. put t q args) (sym f) ∙ ap (λ w. put w (first_at s) args) e

-- a variable found in the text
pub record VariableThere (s : List ℕ) (l : ℕ) : Type 0 where
  pub name : List ℕ
  pub first : first_at s ≡ Some (variable name)
  pub long : l ≡ length name + 3
  pub within : l ≤ length s
  pub there : take (l - 3) (drop 2 s) ≡ name

pub record CallThere (s : List ℕ) (k : ℕ) : Type 0 where
  pub name : List ℕ
  pub args : Arguments
  pub first : first_at s ≡ Some (call name args)
  pub long : k ≡ length name
  pub within : k + 5 ≤ length s
  pub there : take k (drop 4 s) ≡ name
  pub some : IsSome (arguments_at (drop (k + 5) s) 0)
  pub same : option_map normal (arguments_at (drop (k + 5) s) 0) ≡ Some args

not_variable : (n m : List ℕ) (args : Arguments) (l : ℕ) → shape (call m args) ≡ Variable l → ⊥
not_variable n m args l e = cc

not_call : (n : List ℕ) (k l d : ℕ) → shape (variable n) ≡ Call k l d → ⊥
not_call n k l d e = cc

variable_long : (n : List ℕ) (l : ℕ) → shape (variable n) ≡ Variable l → l ≡ length n + 3
variable_long n l e = cc

call_long : (m : List ℕ) (args : Arguments) (k l d : ℕ) → shape (call m args) ≡ Call k l d → k ≡ length m
call_long m args k l d e = cc

starts : (s : List ℕ) (r : Reference) → first_at s ≡ Some r → StartsWith s r
starts [] r e = absurd (none_some r e)
starts (c ∷ s) r e = (all_sound (c ∷ s)).0 r e

variable_go : (s : List ℕ) (l : ℕ) (r : Reference) → first_at s ≡ Some r → shape r ≡ Variable l → VariableThere s l
variable_go s l (call m args) e f = absurd (not_variable [] m args l f)
variable_go s l (variable n) e f =
    let h : StartsWith s (variable n) = starts s (variable n) e in
    let long : l ≡ length n + 3 = variable_long n l f in
    let k : l - 3 ≡ length n = omega arith in
    record {
      name = n;
      first = e;
      long = long;
      within = omega (arith, ap length h.spelled, length-append n (125 ∷ h.rest));
      there = ap (λ m. take m (drop 2 s)) k ∙ (ap (λ w. take (length n) (drop 2 w)) h.spelled ∙ take-append_seam n (125 ∷ h.rest));
    }

pub variable_there : (s : List ℕ) (l : ℕ) → option_map shape (first_at s) ≡ Some (Variable l) → VariableThere s l
variable_there s l e =
    let p : (r : Reference) × ((first_at s ≡ Some r) × (shape r ≡ Variable l)) = map_some shape (first_at s) (Variable l) e in
    variable_go s l p.0 p.1.0 p.1.1

-- the arguments of a call are read after its `(`
arguments_there : (v rest : List ℕ) (m : List ℕ) (args : Arguments) → IsReference (call m args) → nesting (call m args) ≤ 16 → v ≡ arguments_before args (41 ∷ 125 ∷ rest)
    → IsSome (arguments_at v 0) × (option_map normal (arguments_at v 0) ≡ Some args)
arguments_there v rest m no_arguments right low e =
    let h : arguments_at v 0 ≡ Some (argument no_more no_arguments) = ap (λ w. arguments_at w 0) e ∙ inside_ends rest in
    (ap is_some h, ap (option_map normal) h)
arguments_there v rest m (argument ps more) right low e =
    let shallow : nesting_of_arguments (argument ps more) ≤ 16 = omega (arith, low) in
    let h : arguments_at v 0 ≡ Some (argument ps more) =
    inside_complete v (all_complete v) 0 0 ps more (record { right = right.2; closed = right.3; rest = rest; spelled = e }) shallow in
    (ap is_some h, ap (option_map normal) h ∙ ap Some (normal_same (argument ps more) right.1))

call_go : (s : List ℕ) (k l d : ℕ) (r : Reference) → first_at s ≡ Some r → shape r ≡ Call k l d → CallThere s k
call_go s k l d (variable n) e f = absurd (not_call n k l d f)
call_go s k l d (call m args) e f =
    let h : StartsWith s (call m args) = starts s (call m args) e in
    let v : List ℕ = arguments_before args (41 ∷ 125 ∷ h.rest) in
    let long : k ≡ length m = call_long m args k l d f in
    let count : k + 5 ≡ 4 + length (m ++ 40 ∷ []) = omega (arith, long, length-append m (40 ∷ [])) in
    let after : drop (k + 5) s ≡ v =
    ap (λ n. drop n s) count ∙ (ap (drop (4 + length (m ++ 40 ∷ []))) h.spelled ∙ (sym (drop-drop (length (m ++ 40 ∷ [])) 4 (36 ∷ 123 ∷ 95 ∷ 95 ∷ (m ++ 40 ∷ v)))
    ∙ (ap (drop (length (m ++ 40 ∷ []))) (sym (append_assoc m (40 ∷ []) v)) ∙ drop-append_seam (m ++ 40 ∷ []) v))) in
    let there : IsSome (arguments_at (drop (k + 5) s) 0) × (option_map normal (arguments_at (drop (k + 5) s) 0) ≡ Some args) =
    arguments_there (drop (k + 5) s) h.rest m args h.right h.shallow after in
    record {
      name = m;
      args = args;
      first = e;
      long = long;
      within = omega (arith, ap length h.spelled, length-append m (40 ∷ v));
      there = ap (λ n. take n (drop 4 s)) long ∙ (ap (λ w. take (length m) (drop 4 w)) h.spelled ∙ take-append_seam m (40 ∷ v));
      some = there.0;
      same = there.1;
    }

pub call_there : (s : List ℕ) (k l d : ℕ) → option_map shape (first_at s) ≡ Some (Call k l d) → CallThere s k
call_there s k l d e =
    let p : (r : Reference) × ((first_at s ≡ Some r) × (shape r ≡ Call k l d)) = map_some shape (first_at s) (Call k l d) e in
    call_go s k l d p.0 p.1.0 p.1.1

-- the top of the text
pieces_after : (k : ℕ) (s : List ℕ) → pieces_from s (table s) k ≡ reading (drop k s)
unfolding pieces_from table
pieces_after zero s = refl
pieces_after (suc k) [] = refl
pieces_after (suc k) (c ∷ s) = pieces_after k s

get_first : (at : ℕ) (s : List ℕ) → at < length s → drop at s ≡ get_or s at 0 ∷ drop (at + 1) s
get_first zero [] h = absurd (omega arith)
get_first (suc at) [] h = absurd (omega arith)
get_first zero (c ∷ s) h = let e : 1 ≡ zero + 1 = omega arith in ap (λ n. c ∷ drop n (c ∷ s)) e
get_first (suc at) (c ∷ s) h = let e : suc (at + 1) ≡ suc at + 1 = omega arith in get_first at s (omega arith) ∙ ap (λ n. get_or s at 0 ∷ drop n (c ∷ s)) e

pub reading_byte : (s : List ℕ) (at : ℕ) (old new : TemplateBuilder) (x : Pieces) → at < length s → first_at (drop at s) ≡ None → x ≡ joined old (reading (drop at s))
    → ((more : Pieces) → joined new more ≡ joined old (with_byte (get_or s at 0) more)) → x ≡ joined new (reading (drop (at + 1) s))
reading_byte s at old new x h none e p =
    let here : drop at s ≡ get_or s at 0 ∷ drop (at + 1) s = get_first at s h in
    e ∙ (ap (λ w. joined old (reading w)) here
    ∙ (ap (joined old) (pieces_byte (get_or s at 0) (drop (at + 1) s) (ap first_at (sym here) ∙ none)) ∙ sym (p (reading (drop (at + 1) s)))))

reading_more : (u : List ℕ) (r : Reference) → first_at u ≡ Some r → reading u ≡ reference r (reading (drop (length (reference_spelling r)) u))
reading_more [] r e = absurd (none_some r e)
reading_more (c ∷ u) r e =
    pieces_reference c u r e ∙ ap (reference r) (pieces_after (length (reference_spelling r) - 1) u ∙ ap reading (drop_less (length (reference_spelling r)) c u (reference_some r)))

pub reading_reference : (s : List ℕ) (at n : ℕ) (old new : TemplateBuilder) (r : Reference) (x : Pieces) → first_at (drop at s) ≡ Some r → n ≡ length (reference_spelling r) → x ≡ joined old (reading (drop at s))
    → ((more : Pieces) → joined new more ≡ joined old (reference r more)) → x ≡ joined new (reading (drop (at + n) s))
reading_reference s at n old new r x some long e p =
    e ∙ (ap (joined old) (reading_more (drop at s) r some)
    ∙ (ap (λ w. joined old (reference r (reading w))) (ap (λ k. drop k (drop at s)) (sym long) ∙ drop-drop n at s) ∙ sym (p (reading (drop (at + n) s)))))

pub some_inside : (s : List ℕ) (o : ℕ) → IsSome (arguments_at s o) → 0 < length s
unfolding inside
some_inside [] o h = absurd (true≢false (sym h))
some_inside (c ∷ s) o h = omega arith

some_map : {A B : Type 0} (f : A → B) (x : Option A) → is_some (option_map f x) ≡ is_some x
some_map f None = refl
some_map f (Some a) = refl

-- where arguments are read, what is left of them is read
pub some_left : (s rest : List ℕ) (at u : ℕ) (b : ArgumentsBuilder) → rest ≡ drop at s → IsSome (arguments_at s 0) → arguments_at s 0 ≡ option_map (joined_arguments b) (arguments_at (drop at s) u) → IsSome (arguments_at rest u)
some_left s rest at u b e h f = ap (λ w. is_some (arguments_at w u)) e ∙ (sym (some_map (joined_arguments b) (arguments_at (drop at s) u)) ∙ (ap is_some (sym f) ∙ h))

pub build_end : (s rest : List ℕ) (at u : ℕ) (b : ArgumentsBuilder) → rest ≡ drop at s → arguments_at s 0 ≡ option_map (joined_arguments b) (arguments_at (drop at s) u) → 0 < length rest
    → Ends ≡ step_of (token_of rest) (first_at rest) (begins_with 125 (drop 1 rest)) u → arguments_at s 0 ≡ Some (joined_arguments b (argument no_more no_arguments))
build_end s rest at u b e f h g =
    f ∙ (ap (λ w. option_map (joined_arguments b) (arguments_at w u)) (sym e) ∙ ap (option_map (joined_arguments b)) (arguments_end rest u h g))

pub build_fail : (rest : List ℕ) (u : ℕ) → 0 < length rest → IsSome (arguments_at rest u) → Fails ≡ step_of (token_of rest) (first_at rest) (begins_with 125 (drop 1 rest)) u → ⊥
build_fail rest u h some g = true≢false (sym some ∙ ap is_some (arguments_fail rest u h g))

pub if_ok : {T E : Type 0} (P Q : T → Type 0) (r : Result T E) → ((x : T) → P x → Q x) → IfOk r P → IfOk r Q
if_ok P Q (Ok x) f h = f x h
if_ok P Q (Err e) f h = h

-- the loop over the tokens ends where the arguments end
pub build_finished : (s rest : List ℕ) (at u : ℕ) (b : ArgumentsBuilder) (step : Step) → rest ≡ drop at s → IsSome (arguments_at s 0) → arguments_at s 0 ≡ option_map (joined_arguments b) (arguments_at (drop at s) u)
    → step ≡ step_of (token_of rest) (first_at rest) (begins_with 125 (drop 1 rest)) u → ((n m : ℕ) → step ≡ Goes n m → ⊥) → arguments_at s 0 ≡ Some (joined_arguments b (argument no_more no_arguments))
build_finished s rest at u b Ends e some f g not =
    build_end s rest at u b e f (some_inside rest u (some_left s rest at u b e some f)) g
build_finished s rest at u b Fails e some f g not =
    let left : IsSome (arguments_at rest u) = some_left s rest at u b e some f in absurd (build_fail rest u (some_inside rest u left) left g)
build_finished s rest at u b (Goes n m) e some f g not = absurd (not n m refl)

close_go : (s : List ℕ) (q : Option Reference) (b : Bool) → is_some (follow Close q (step_of Close q b 0) (λ k m. inside s (table s) k m)) ≡ true
    → option_map normal (follow Close q (step_of Close q b 0) (λ k m. inside s (table s) k m)) ≡ Some no_arguments
close_go s q true h = refl
close_go s q false h = absurd (true≢false (sym h))

-- `()` has no arguments
pub close_normal : (s : List ℕ) → Close ≡ token_of s → IsSome (arguments_at s 0) → option_map normal (arguments_at s 0) ≡ Some no_arguments
close_normal [] e h = cc
close_normal (c ∷ s) e h =
    let b : Bool = begins_with 125 s in
    let q : Option Reference = first_at (c ∷ s) in
    let same : arguments_at (c ∷ s) 0 ≡ follow Close q (step_of Close q b 0) (λ k m. inside s (table s) k m) =
    inside_step c s 0 ∙ ap (λ t. follow t q (step_of t q b 0) (λ k m. inside s (table s) k m)) (sym e) in
    ap (option_map normal) same ∙ close_go s q b (sym (ap is_some same) ∙ h)

ends_close : (s : List ℕ) (a : Arguments) → arguments_at s 0 ≡ Some a → a ≡ argument no_more no_arguments → Close ≡ token_of s
ends_close s a e f =
    let h : Stands s 0 no_more no_arguments = inside_sound s (all_sound s) 0 0 (argument no_more no_arguments) (e ∙ ap Some f) in
    ap token_of (sym h.spelled)

pub other_normal : (s : List ℕ) (a : Arguments) → (Close ≡ token_of s → ⊥) → arguments_at s 0 ≡ Some a → option_map normal (arguments_at s 0) ≡ Some a
other_normal s a h e = ap (option_map normal) e ∙ ap Some (normal_same a (λ f. h (ends_close s a e f)))

pub reading_nothing : (s : List ℕ) → length s ≤ 0 → reading s ≡ no_more
unfolding pieces_from
reading_nothing [] h = refl
reading_nothing (c ∷ s) h = absurd (omega arith)

-- a place of the text, and what is found there
pub record PlaceThere (s rest : List ℕ) (places : List (Option Found)) (at : ℕ) : Type 0 where
  pub found : AreFound rest places
  pub some : 0 < length rest
  pub first : 0 < length places
  pub here : (x : Option Found) → x ≡ get_or places 0 None → option_map shape (first_at rest) ≡ x

pub place_there : (s rest : List ℕ) (found places : List (Option Found)) (at : ℕ) → AreFound s found → at < length s → rest ≡ drop at s → places ≡ drop at found → PlaceThere s rest places at
place_there s rest found places at e h r p =
    let all : AreFound rest places = rw (r, p) (found_drop at s found e) in
    let some : 0 < length rest = omega (arith, ap length r, length-drop at s) in
    record {
      found = all;
      some = some;
      first = omega (arith, found_length-same rest places all);
      here = λ x g. found_here rest places x all some (sym g);
    }

-- a reference at a place of the text
pub record ReferenceThere (s : List ℕ) (at : ℕ) (first : Found) : Type 0 where
  pub r : Reference
  pub there : first_at (drop at s) ≡ Some r
  pub long : found_length first ≡ length (reference_spelling r)
  pub within : at + found_length first ≤ length s
  pub some : 0 < found_length first

pub reference_there : (s rest : List ℕ) (at : ℕ) (first : Found) → at < length s → rest ≡ drop at s → option_map shape (first_at rest) ≡ Some first → ReferenceThere s at first
reference_there s rest at first h r e =
    let p : (f : Reference) × ((first_at rest ≡ Some f) × (shape f ≡ first)) = map_some shape (first_at rest) first e in
    let there : first_at (drop at s) ≡ Some p.0 = ap first_at (sym r) ∙ p.1.0 in
    let long : found_length first ≡ length (reference_spelling p.0) = ap found_length (sym p.1.1) ∙ shape_length p.0 in
    record {
      r = p.0;
      there = there;
      long = long;
      within = omega (arith, long, reference_within (drop at s) p.0 there, length-drop at s);
      some = omega (arith, long, reference_some p.0);
    }

pub reading_end : (s : List ℕ) (at : ℕ) → length s ≤ at → reading (drop at s) ≡ no_more
reading_end s at h = reading_nothing (drop at s) (omega (arith, length-drop at s))
