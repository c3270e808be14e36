-- How a move through arguments changes how far they reach and how deep they nest.
use Rattle.std.proofs.Common.{◌≡◌, ◌≢◌, ℕ, zero, suc, ◌+◌, ◌-◌, ◌<◌, ◌≤◌, List, [], ◌∷◌, ◌++◌, ◌==◌, if◌then◌else◌, refl, sym, ◌∙◌, ap, subst, Bool, true, false, Option, Some, None, option_map, length, drop, max, arith, length-append, length-drop}
use Rattle.std.proofs.lemmas.Bool.{ne_eqb}
use Rattle.std.proofs.lemmas.List.{drop-drop}
use Rattle.template_text.specs.declared.scan.Token.{Token}
use Rattle.template_text.specs.declared.scan.Token.TheVariants.{Open, Close, Separator, Comma, Start, Byte}
use Rattle.template_text.specs.declared.scan.Step.TheVariants.{Ends, Fails, Goes}
use Rattle.template_text.specs.declared.scan.Extent.{Extent}
use Rattle.template_text.specs.Pieces.{Reference, variable, call, Pieces, no_more, text, reference, Arguments, no_arguments, argument, escaped, reference_spelling, arguments_spelling, argument_spelling, further_spelling, nesting, nesting_of_arguments}
use Rattle.template_text.specs.TemplateGrammar.{opens, begins_with}
use Rattle.template_text.specs.Scan.{token_of, step_of, follow, put, add, with_byte, inside, table, first_at, arguments_at, shape, extent_of, extent_after, first_of, found_depth, found_nesting}
use Rattle.template_text.proofs.Tokens.{TokenIs, token_is, inside_step}
use Rattle.template_text.proofs.Standing.{nesting-with_byte}
use Rattle.template_text.proofs.Inside.{none_some, Reads, inside_sound, drop_less}
use Rattle.template_text.proofs.Names.{all_sound}

-- after k bytes of the text the arguments are those at the place k bytes on
pub inside_drop : (k : ℕ) (s : List ℕ) (o : ℕ) → inside s (table s) k o ≡ arguments_at (drop k s) o
unfolding inside table
inside_drop zero s o = refl
inside_drop (suc k) [] o = refl
inside_drop (suc k) (c ∷ s) o = inside_drop k s o

-- one move: the arguments at a place are those after the move, with what the token stands for before them
pub arguments_move : (s : List ℕ) (o n m : ℕ) → 0 < length s → Goes n m ≡ step_of (token_of s) (first_at s) (begins_with 125 (drop 1 s)) o → 0 < n
    → arguments_at s o ≡ option_map (put (token_of s) (first_at s)) (arguments_at (drop n s) m)
arguments_move [] o n m h e l = absurd (omega arith)
arguments_move (c ∷ s) o n m h e l =
    inside_step c s o ∙ (ap (λ w. follow (token_of (c ∷ s)) (first_at (c ∷ s)) w (λ k p. inside s (table s) k p)) (sym e)
    ∙ ap (option_map (put (token_of (c ∷ s)) (first_at (c ∷ s)))) (inside_drop (n - 1) s m ∙ ap (λ w. arguments_at w m) (drop_less n c s l)))

pub arguments_end : (s : List ℕ) (o : ℕ) → 0 < length s → Ends ≡ step_of (token_of s) (first_at s) (begins_with 125 (drop 1 s)) o
    → arguments_at s o ≡ Some (argument no_more no_arguments)
arguments_end [] o h e = absurd (omega arith)
arguments_end (c ∷ s) o h e = inside_step c s o ∙ ap (λ w. follow (token_of (c ∷ s)) (first_at (c ∷ s)) w (λ k p. inside s (table s) k p)) (sym e)

pub arguments_fail : (s : List ℕ) (o : ℕ) → 0 < length s → Fails ≡ step_of (token_of s) (first_at s) (begins_with 125 (drop 1 s)) o → arguments_at s o ≡ None
arguments_fail [] o h e = absurd (omega arith)
arguments_fail (c ∷ s) o h e = inside_step c s o ∙ ap (λ w. follow (token_of (c ∷ s)) (first_at (c ∷ s)) w (λ k p. inside s (table s) k p)) (sym e)

not_goes_ends : (n m : ℕ) → Goes n m ≡ Ends → ⊥
not_goes_ends n m e = cc

not_goes_fails : (n m : ℕ) → Goes n m ≡ Fails → ⊥
not_goes_fails n m e = cc

abbrev extent : ℕ → ℕ → Extent
extent a d = record { length = a; depth = d }

same_extent : {a b d e : ℕ} → a ≡ b → d ≡ e → extent a d ≡ extent b e
same_extent p q = cc

-- what is found says how deep the reference nests that begins there
abbrev pub depth_at : List ℕ → ℕ
depth_at s = found_nesting (option_map shape (first_at s))

shape_depth : (r : Reference) → found_depth (shape r) ≡ nesting r
shape_depth (variable n) = refl
shape_depth (call n args) = refl

escaped_one : (b : Bool) (c : ℕ) (t x : List ℕ) → (if b then 92 ∷ 44 ∷ t else c ∷ t) ++ x ≡ (if b then 92 ∷ 44 ∷ [] else c ∷ []) ++ (t ++ x)
escaped_one true c t x = refl
escaped_one false c t x = refl

spelled-with_byte : (c : ℕ) (ps : Pieces) → argument_spelling (with_byte c ps) ≡ escaped (c ∷ []) ++ argument_spelling ps
spelled-with_byte c no_more = refl
spelled-with_byte c (text t m) = escaped_one (c == 44) c (escaped t) (argument_spelling m)
spelled-with_byte c (reference r m) = refl

length-add : (c : ℕ) (ps : Pieces) (more : Arguments) → length (arguments_spelling (add c (argument ps more))) ≡ length (escaped (c ∷ [])) + length (arguments_spelling (argument ps more))
length-add c ps more =
    omega (
      arith,
      length-append (argument_spelling (with_byte c ps)) (further_spelling more),
      ap length (spelled-with_byte c ps),
      length-append (escaped (c ∷ [])) (argument_spelling ps),
      length-append (argument_spelling ps) (further_spelling more),
    )

nesting-add : (c : ℕ) (ps : Pieces) (more : Arguments) → nesting_of_arguments (add c (argument ps more)) ≡ nesting_of_arguments (argument ps more)
nesting-add c ps more = ap (λ n. max n (nesting_of_arguments more)) (nesting-with_byte c ps)

pub first_none : (c : ℕ) (s : List ℕ) → opens (c ∷ s) ≡ false → first_at (c ∷ s) ≡ None
unfolding first_of
first_none c s e = rw e refl

goes_length : (n m k o : ℕ) → Goes n m ≡ Goes k o → n ≡ k
goes_length n m k o e = cc

abbrev Moves : Token → Option Reference → ℕ → Pieces → Arguments → Type 0
Moves t q n ps more =
    (length (arguments_spelling (put t q (argument ps more))) ≡ n + length (arguments_spelling (argument ps more)))
    × (nesting_of_arguments (put t q (argument ps more)) ≡ max (found_nesting (option_map shape q)) (nesting_of_arguments (argument ps more)))

moves_byte : (c n k : ℕ) (ps : Pieces) (more : Arguments) → n ≡ length (escaped (c ∷ [])) →
    (length (arguments_spelling (add c (argument ps more))) ≡ n + length (arguments_spelling (argument ps more)))
    × (nesting_of_arguments (add c (argument ps more)) ≡ max 0 (nesting_of_arguments (argument ps more)))
moves_byte c n k ps more e = (omega (arith, length-add c ps more), omega (arith, nesting-add c ps more))

plain_length : (c : ℕ) → c ≢ 44 → length (escaped (c ∷ [])) ≡ 1
plain_length c h = rw (ne_eqb c 44 h) refl

moves_close : (q : Option Reference) (b : Bool) (o n m : ℕ) (ps : Pieces) (more : Arguments) → q ≡ None → Goes n m ≡ step_of Close q b o → Moves Close q n ps more
moves_close None true zero n m ps more f e = absurd (not_goes_ends n m e)
moves_close None false zero n m ps more f e = absurd (not_goes_fails n m e)
moves_close None b (suc o) n m ps more f e = moves_byte 41 n 0 ps more (goes_length n m 1 o e)
moves_close (Some r) b o n m ps more f e = absurd (none_some r (sym f))

moves : (t : Token) (c : ℕ) (s : List ℕ) (q : Option Reference) (b : Bool) (o n m : ℕ) (ps : Pieces) (more : Arguments)
    → TokenIs t c s → (opens (c ∷ s) ≡ false → q ≡ None) → Goes n m ≡ step_of t q b o → Moves t q n ps more
moves Open c s q b o n m ps more is none e = subst (λ w. Moves Open w n ps more) (sym (none (ap (λ w. opens (w ∷ s)) is))) (moves_byte 40 n 0 ps more (goes_length n m 1 (suc o) e))
moves Close c s q b o n m ps more is none e = moves_close q b o n m ps more (none (ap (λ w. opens (w ∷ s)) is)) e
moves Separator c s q b o n m ps more is none e =
    subst (λ w. Moves Separator w n ps more) (sym (none (ap (λ w. opens (w ∷ s)) is)))
    (omega (arith, goes_length n m 1 o e), omega arith)
moves Comma c s q b o n m ps more is none e = subst (λ w. Moves Comma w n ps more) (sym (none (ap (λ w. opens (w ∷ s)) is.0))) (moves_byte 44 n 0 ps more (goes_length n m 2 o e))
moves Start c s None b o n m ps more is none e = absurd (not_goes_fails n m e)
moves Start c s (Some r) b o n m ps more is none e = (
  omega (
    arith,
    goes_length n m (length (reference_spelling r)) o e,
    length-append (reference_spelling r ++ argument_spelling ps) (further_spelling more),
    length-append (reference_spelling r) (argument_spelling ps),
    length-append (argument_spelling ps) (further_spelling more),
  ),
  omega (arith, shape_depth r),
)
moves (Byte d) c s q b o n m ps more is none e =
    subst (λ w. Moves (Byte d) w n ps more) (sym (none is.1.not_start))
    (moves_byte d n 0 ps more (goes_length n m 1 o e ∙ sym (plain_length d (λ f. is.1.not_comma (sym is.0 ∙ f)))))

-- arguments are there where some are read: at least one, which may be empty
not_none : (s : List ℕ) (o : ℕ) → arguments_at s o ≡ Some no_arguments → ⊥
not_none s o e = let h : Reads s o no_arguments = inside_sound s (all_sound s) 0 o no_arguments e in h

extents : (at depth n k : ℕ) (t : Token) (q : Option Reference) (x : Option Arguments) → (x ≡ Some no_arguments → ⊥)
    → ((ps : Pieces) (more : Arguments) → Moves t q n ps more) → k ≡ found_nesting (option_map shape q)
    → option_map (extent_after at depth) (option_map (put t q) x) ≡ option_map (extent_after (at + n) (max depth k)) x
extents at depth n k t q None h f e = refl
extents at depth n k t q (Some no_arguments) h f e = absurd (h refl)
extents at depth n k t q (Some (argument ps more)) h f e =
    let m : Moves t q n ps more = f ps more in
    let long : at + length (arguments_spelling (put t q (argument ps more))) ≡ at + n + length (arguments_spelling (argument ps more)) = omega (arith, m.0) in
    let deep : max depth (nesting_of_arguments (put t q (argument ps more))) ≡ max (max depth k) (nesting_of_arguments (argument ps more)) = omega (arith, m.1) in
    ap Some (same_extent long deep)

pub extent_move : (s : List ℕ) (o n m at depth k : ℕ) → 0 < length s → Goes n m ≡ step_of (token_of s) (first_at s) (begins_with 125 (drop 1 s)) o → 0 < n → k ≡ depth_at s
    → option_map (extent_after at depth) (arguments_at s o) ≡ option_map (extent_after (at + n) (max depth k)) (arguments_at (drop n s) m)
extent_move [] o n m at depth k h e l f = absurd (omega arith)
extent_move (c ∷ s) o n m at depth k h e l f =
    ap (option_map (extent_after at depth)) (arguments_move (c ∷ s) o n m h e l)
    ∙ extents at depth n k (token_of (c ∷ s)) (first_at (c ∷ s)) (arguments_at (drop n (c ∷ s)) m) (not_none (drop n (c ∷ s)) m)
    (λ ps more. moves (token_of (c ∷ s)) c s (first_at (c ∷ s)) (begins_with 125 s) o n m ps more (token_is c s) (first_none c s) e) f

same_some : (x : Option Arguments) → option_map (extent_after 0 0) x ≡ option_map extent_of x
same_some None = refl
same_some (Some args) = ap Some (same_extent (omega arith) (omega arith))

pub extent_start : (s : List ℕ) → option_map extent_of (arguments_at s 0) ≡ option_map (extent_after 0 0) (arguments_at (drop 0 s) 0)
extent_start s = sym (same_some (arguments_at s 0))

pub extent_end : (s : List ℕ) (o at depth : ℕ) → 0 < length s → Ends ≡ step_of (token_of s) (first_at s) (begins_with 125 (drop 1 s)) o
    → option_map (extent_after at depth) (arguments_at s o) ≡ Some (record { length = at; depth = depth })
extent_end s o at depth h e = ap (option_map (extent_after at depth)) (arguments_end s o h e) ∙ ap Some (same_extent (omega arith) (omega arith))

pub extent_fail : (s : List ℕ) (o at depth : ℕ) → 0 < length s → Fails ≡ step_of (token_of s) (first_at s) (begins_with 125 (drop 1 s)) o
    → option_map (extent_after at depth) (arguments_at s o) ≡ None
extent_fail s o at depth h e = ap (option_map (extent_after at depth)) (arguments_fail s o h e)

pub arguments_nowhere : (s : List ℕ) (o : ℕ) → length s ≤ 0 → arguments_at s o ≡ None
unfolding inside
arguments_nowhere [] o h = refl
arguments_nowhere (c ∷ s) o h = absurd (omega arith)

pub left_some : (k : ℕ) (s : List ℕ) → k < length s → 0 < length (drop k s)
left_some k s h = omega (arith, length-drop k s)

-- one round of the loop
pub loop_extent : (s rest : List ℕ) (at o n m depth k : ℕ) (x : Option Extent) → rest ≡ drop at s → x ≡ option_map (extent_after at depth) (arguments_at (drop at s) o) → 0 < length rest
    → Goes n m ≡ step_of (token_of rest) (first_at rest) (begins_with 125 (drop 1 rest)) o → 0 < n → k ≡ depth_at rest
    → x ≡ option_map (extent_after (at + n) (max depth k)) (arguments_at (drop (at + n) s) m)
loop_extent s rest at o n m depth k x e f h g l d =
    f ∙ (ap (λ w. option_map (extent_after at depth) (arguments_at w o)) (sym e)
    ∙ (extent_move rest o n m at depth k h g l d
    ∙ ap (λ w. option_map (extent_after (at + n) (max depth k)) (arguments_at w m)) (ap (drop n) e ∙ drop-drop n at s)))

pub loop_end : (s rest : List ℕ) (at o depth : ℕ) (x : Option Extent) → rest ≡ drop at s → x ≡ option_map (extent_after at depth) (arguments_at (drop at s) o) → 0 < length rest
    → Ends ≡ step_of (token_of rest) (first_at rest) (begins_with 125 (drop 1 rest)) o → Some (record { length = at; depth = depth }) ≡ x
loop_end s rest at o depth x e f h g = sym (f ∙ (ap (λ w. option_map (extent_after at depth) (arguments_at w o)) (sym e) ∙ extent_end rest o at depth h g))

pub loop_fail : (s rest : List ℕ) (at o depth : ℕ) (x : Option Extent) → rest ≡ drop at s → x ≡ option_map (extent_after at depth) (arguments_at (drop at s) o) → 0 < length rest
    → Fails ≡ step_of (token_of rest) (first_at rest) (begins_with 125 (drop 1 rest)) o → None ≡ x
loop_fail s rest at o depth x e f h g = sym (f ∙ (ap (λ w. option_map (extent_after at depth) (arguments_at w o)) (sym e) ∙ extent_fail rest o at depth h g))
