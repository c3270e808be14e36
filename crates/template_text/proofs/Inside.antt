-- What the scanner takes for the arguments at a place stands there, and it takes what stands there.
use Rattle.std.proofs.Common.{◌≡◌, ◌≢◌, ℕ, zero, suc, ◌-◌, ◌<◌, ◌≤◌, List, [], ◌∷◌, ◌++◌, ◌==◌, if◌then◌else◌, refl, sym, ◌∙◌, ap, subst, Bool, true, false, Option, Some, None, option_map, length, drop, max, arith}
use Rattle.std.proofs.lemmas.Bool.{eqb-true, eqb-false, ne_eqb, true≢false}
use Rattle.std.proofs.Math.Seq.{drop-append_seam}
use Rattle.template_text.specs.declared.scan.Token.{Token}
use Rattle.template_text.specs.declared.scan.Token.TheVariants.{Open, Close, Separator, Comma, Start, Byte}
use Rattle.template_text.specs.Pieces.{Reference, variable, call, Pieces, no_more, text, reference, Arguments, no_arguments, argument, reference_spelling, nesting, nesting_of_pieces, nesting_of_arguments}
use Rattle.template_text.specs.TemplateGrammar.{begins_with, open_after, plain_text_of_arguments, IsReference, AreArguments}
use Rattle.template_text.specs.Scan.{token_of, step_of, follow, add, join, inside, table, first_at}
use Rattle.template_text.proofs.Before.{escaped_before, reference_before, arguments_before, further_before, argument_before, reference-before}
use Rattle.template_text.proofs.Tokens.{TokenIs, token_is, inside_step, inside_ends, inside_open, inside_close, inside_separator, inside_comma, inside_byte, inside_reference}
use Rattle.template_text.proofs.Standing.{Stands, MayPrecede, Peeled, peel, not_empty, stands-with_byte, nesting-with_byte}

-- the reference begins the text
pub record StartsWith (s : List ℕ) (r : Reference) : Type 0 where
  pub right : IsReference r
  pub shallow : nesting r ≤ 16
  pub rest : List ℕ
  pub spelled : s ≡ reference_before r rest

abbrev pub Sound : List ℕ → Type 0
Sound s = (r : Reference) → first_at s ≡ Some r → StartsWith s r

abbrev pub AllSound : List ℕ → Type 0
AllSound [] = Unit {0}
AllSound (c ∷ s) = Sound (c ∷ s) × AllSound s

abbrev pub Complete : List ℕ → Type 0
Complete s = (r : Reference) → StartsWith s r → first_at s ≡ Some r

abbrev pub AllComplete : List ℕ → Type 0
AllComplete [] = Unit {0}
AllComplete (c ∷ s) = Complete (c ∷ s) × AllComplete s

abbrev pub Reads : List ℕ → ℕ → Arguments → Type 0
Reads u o no_arguments = ⊥
Reads u o (argument ps more) = Stands u o ps more

pub none_some : {A : Type 0} (y : A) → None ≡ Some y → ⊥
none_some y e = cc

pub some_same : {A : Type 0} {x y : A} → Some x ≡ Some y → x ≡ y
some_same e = cc

pub true_false : {A : Type 0} → true ≡ false → A
true_false e = absurd (true≢false e)

pub map_some : {A B : Type 0} (f : A → B) (x : Option A) (y : B) → option_map f x ≡ Some y → (z : A) × ((x ≡ Some z) × (f z ≡ y))
map_some f None y e = absurd (none_some y e)
map_some f (Some x) y e = (x, (refl, cc))

pub reference_some : (r : Reference) → 0 < length (reference_spelling r)
reference_some (variable n) = omega arith
reference_some (call n args) = omega arith

pub drop_less : (n c : ℕ) (s : List ℕ) → 0 < n → drop (n - 1) s ≡ drop n (c ∷ s)
drop_less zero c s h = absurd (omega arith)
drop_less (suc n) c s h = let e : suc n - 1 ≡ n = omega arith in ap (λ k. drop k s) e

pub starts_drop : (s : List ℕ) (r : Reference) (h : StartsWith s r) → drop (length (reference_spelling r)) s ≡ h.rest
starts_drop s r h = ap (drop (length (reference_spelling r))) (h.spelled ∙ sym (reference-before r h.rest)) ∙ drop-append_seam (reference_spelling r) h.rest

sound_add : (c o p : ℕ) (u v : List ℕ) (z : Arguments) → v ≡ escaped_before (c ∷ []) u → MayPrecede c u
    → ((t : List ℕ) → open_after o (c ∷ t) ≡ open_after p t) → Reads u p z → Reads v o (add c z)
sound_add c o p u v no_arguments e h b s = s
sound_add c o p u v (argument ps more) e h b s = stands-with_byte c o p u v ps more e h b s

sound_separator : (o : ℕ) (u : List ℕ) (z : Arguments) → Reads u o z → Reads (44 ∷ u) o (argument no_more z)
sound_separator o u no_arguments s = absurd s
sound_separator o u (argument qs more) s = record { right = (tt, (λ e. cc), s.right); closed = s.closed; rest = s.rest; spelled = ap (λ w. 44 ∷ w) s.spelled }

sound_join : (o : ℕ) (s : List ℕ) (r : Reference) (z : Arguments) → StartsWith s r → Reads (drop (length (reference_spelling r)) s) o z → Reads s o (join (Some r) z)
sound_join o s r no_arguments h t = t
sound_join o s r (argument ps more) h t = record {
  right = ((h.right, t.right.0), t.right.1, t.right.2);
  closed = t.closed;
  rest = t.rest;
  spelled = h.spelled ∙ ap (reference_before r) (sym (starts_drop s r h) ∙ t.spelled);
}

closes_here : (s : List ℕ) → begins_with 125 s ≡ true → Reads (41 ∷ s) 0 (argument no_more no_arguments)
closes_here [] e = true_false (sym e)
closes_here (d ∷ s) e = record { right = (tt, (λ f. refl), tt); closed = refl; rest = s; spelled = ap (λ w. 41 ∷ w ∷ s) (eqb-true d 125 e) }

abbrev Next : List ℕ → Type 0
Next s = (k o : ℕ) (args : Arguments) → inside s (table s) k o ≡ Some args → Reads (drop k s) o args

sound_close : (s : List ℕ) (o : ℕ) (b : Bool) (q : Option Reference) → begins_with 125 s ≡ b → Next s → (args : Arguments)
    → follow Close q (step_of Close q b o) (λ k m. inside s (table s) k m) ≡ Some args → Reads (41 ∷ s) o args
sound_close s zero true q h next args e = subst (Reads (41 ∷ s) 0) (some_same e) (closes_here s h)
sound_close s zero false q h next args e = absurd (none_some args e)
sound_close s (suc o) b q h next args e =
    let m : (z : Arguments) × ((inside s (table s) 0 o ≡ Some z) × (add 41 z ≡ args)) = map_some (add 41) (inside s (table s) 0 o) args e in
    subst (Reads (41 ∷ s) (suc o)) m.1.1 (sound_add 41 (suc o) o s (41 ∷ s) m.0 refl (record { not_start = refl; not_escape = λ f. absurd (omega arith) }) (λ t. refl) (next 0 o m.0 m.1.0))

comma_follows : (s : List ℕ) → begins_with 44 s ≡ true → s ≡ 44 ∷ drop 1 s
comma_follows [] e = true_false (sym e)
comma_follows (d ∷ s) e = ap (λ w. w ∷ s) (eqb-true d 44 e)

balance_byte : (c o : ℕ) (t : List ℕ) → c ≢ 40 → c ≢ 41 → open_after o (c ∷ t) ≡ open_after o t
balance_byte c o t h k = rw (ne_eqb c 40 h, ne_eqb c 41 k)

escaped_byte : (c : ℕ) (s : List ℕ) → c ≢ 44 → c ∷ s ≡ escaped_before (c ∷ []) s
escaped_byte c s h = rw (ne_eqb c 44 h)

sound_token : (t : Token) (c : ℕ) (s : List ℕ) (o : ℕ) (q : Option Reference) → TokenIs t c s → ((r : Reference) → q ≡ Some r → StartsWith (c ∷ s) r) → Next s → (args : Arguments)
    → follow t q (step_of t q (begins_with 125 s) o) (λ k m. inside s (table s) k m) ≡ Some args → Reads (c ∷ s) o args
sound_token Open c s o q is begun next args e =
    let m : (z : Arguments) × ((inside s (table s) 0 (suc o) ≡ Some z) × (add 40 z ≡ args)) = map_some (add 40) (inside s (table s) 0 (suc o)) args e in
    subst (Reads (c ∷ s) o) m.1.1 (sound_add 40 o (suc o) s (c ∷ s) m.0 (ap (λ w. w ∷ s) is) (record { not_start = refl; not_escape = λ f. absurd (omega arith) }) (λ t. refl) (next 0 (suc o) m.0 m.1.0))
sound_token Close c s o q is begun next args e = subst (λ w. Reads (w ∷ s) o args) (sym is) (sound_close s o (begins_with 125 s) q refl next args e)
sound_token Separator c s o q is begun next args e =
    let m : (z : Arguments) × ((inside s (table s) 0 o ≡ Some z) × (argument no_more z ≡ args)) = map_some (argument no_more) (inside s (table s) 0 o) args e in
    subst (λ w. Reads (w ∷ s) o args) (sym is) (subst (Reads (44 ∷ s) o) m.1.1 (sound_separator o s m.0 (next 0 o m.0 m.1.0)))
sound_token Comma c s o q is begun next args e =
    let m : (z : Arguments) × ((inside s (table s) 1 o ≡ Some z) × (add 44 z ≡ args)) = map_some (add 44) (inside s (table s) 1 o) args e in
    subst (Reads (c ∷ s) o) m.1.1 (sound_add 44 o o (drop 1 s) (c ∷ s) m.0 (ap (λ w. w ∷ s) is.0 ∙ ap (λ w. 92 ∷ w) (comma_follows s is.1)) (record { not_start = refl; not_escape = λ f. absurd (omega arith) }) (λ t. refl) (next 1 o m.0 m.1.0))
sound_token Start c s o None is begun next args e = absurd (none_some args e)
sound_token Start c s o (Some r) is begun next args e =
    let n : ℕ = length (reference_spelling r) in
    let m : (z : Arguments) × ((inside s (table s) (n - 1) o ≡ Some z) × (join (Some r) z ≡ args)) = map_some (join (Some r)) (inside s (table s) (n - 1) o) args e in
    subst (Reads (c ∷ s) o) m.1.1 (sound_join o (c ∷ s) r m.0 (begun r refl) (subst (λ w. Reads w o m.0) (drop_less n c s (reference_some r)) (next (n - 1) o m.0 m.1.0)))
sound_token (Byte d) c s o q is begun next args e =
    let m : (z : Arguments) × ((inside s (table s) 0 o ≡ Some z) × (add d z ≡ args)) = map_some (add d) (inside s (table s) 0 o) args e in
    let there : Reads (c ∷ s) o (add c m.0) = sound_add c o o s (c ∷ s) m.0 (escaped_byte c s is.1.not_comma)
    (record { not_start = is.1.not_start; not_escape = is.1.not_escape }) (λ t. balance_byte c o t is.1.not_open is.1.not_close) (next 0 o m.0 m.1.0) in
    subst (Reads (c ∷ s) o) (ap (λ w. add w m.0) (sym is.0) ∙ m.1.1) there

pub inside_sound : (s : List ℕ) → AllSound s → (k o : ℕ) (args : Arguments) → inside s (table s) k o ≡ Some args → Reads (drop k s) o args
unfolding inside table
inside_sound [] h k o args e = absurd (none_some args e)
inside_sound (c ∷ s) h (suc k) o args e = inside_sound s h.1 k o args e
inside_sound (c ∷ s) h zero o args e =
    sound_token (token_of (c ∷ s)) c s o (first_at (c ∷ s)) (token_is c s) h.0 (inside_sound s h.1) args (sym (inside_step c s o) ∙ e)

-- the arguments that stand after k bytes of s are those that the scanner takes
abbrev Takes : List ℕ → Type 0
Takes s = (k o : ℕ) (ps : Pieces) (more : Arguments) → Stands (drop k s) o ps more → nesting_of_arguments (argument ps more) ≤ 16
    → inside s (table s) k o ≡ Some (argument ps more)

abbrev Taken : List ℕ → ℕ → Arguments → Type 0
Taken v o args = inside v (table v) 0 o ≡ Some args

pub tail_same : (c d : ℕ) (s u : List ℕ) → c ∷ s ≡ d ∷ u → s ≡ u
tail_same c d s u e = cc

takes_tail : (c d : ℕ) (s u : List ℕ) → c ∷ s ≡ d ∷ u → Takes s → Takes u
takes_tail c d s u e t = subst Takes (tail_same c d s u e) t

closed_none : (o : ℕ) (t : List ℕ) → open_after zero (41 ∷ t) ≡ Some 0 → ⊥
closed_none o t e = none_some 0 e

take_close : (o : ℕ) (u : List ℕ) (args : Arguments) → open_after o (41 ∷ plain_text_of_arguments args) ≡ Some 0
    → ((m : ℕ) → open_after m (plain_text_of_arguments args) ≡ Some 0 → Taken u m args) → Taken (41 ∷ u) o (add 41 args)
take_close zero u args e go = absurd (none_some 0 e)
take_close (suc o) u args e go = inside_close u args o (go o e)

take_byte : (d o : ℕ) (u : List ℕ) (args : Arguments) (a b : Bool) → (d == 40) ≡ a → (d == 41) ≡ b → d ≢ 44 → MayPrecede d u → open_after o (d ∷ plain_text_of_arguments args) ≡ Some 0
    → ((m : ℕ) → open_after m (plain_text_of_arguments args) ≡ Some 0 → Taken u m args) → Taken (d ∷ u) o (add d args)
take_byte d o u args true b i j n h e go =
    subst (λ w. Taken (w ∷ u) o (add w args)) (sym (eqb-true d 40 i))
    (inside_open u args o (go (suc o) (subst (λ w. open_after o (w ∷ plain_text_of_arguments args) ≡ Some 0) (eqb-true d 40 i) e)))
take_byte d o u args false true i j n h e go =
    subst (λ w. Taken (w ∷ u) o (add w args)) (sym (eqb-true d 41 j))
    (take_close o u args (subst (λ w. open_after o (w ∷ plain_text_of_arguments args) ≡ Some 0) (eqb-true d 41 j) e) go)
take_byte d o u args false false i j n h e go =
    inside_byte u args d o (record { not_open = eqb-false d 40 i; not_close = eqb-false d 41 j; not_comma = n; not_escape = h.not_escape; not_start = h.not_start })
    (go o (sym (balance_byte d o (plain_text_of_arguments args) (eqb-false d 40 i) (eqb-false d 41 j)) ∙ e))

take_peeled : (c d o : ℕ) (s u : List ℕ) (ps : Pieces) (more : Arguments) (a : Bool) → (d == 44) ≡ a → c ∷ s ≡ (if a then 92 ∷ 44 ∷ u else d ∷ u) → MayPrecede d u
    → AreArguments (argument ps more) → open_after o (d ∷ plain_text_of_arguments (argument ps more)) ≡ Some 0 → (rest : List ℕ) → u ≡ arguments_before (argument ps more) (41 ∷ 125 ∷ rest)
    → nesting_of_arguments (argument ps more) ≤ 16 → Takes s → Taken (c ∷ s) o (add d (argument ps more))
take_peeled c d o s u ps more true i e h right closed rest there shallow takes =
    let is : d ≡ 44 = eqb-true d 44 i in
    let balance : open_after o (plain_text_of_arguments (argument ps more)) ≡ Some 0 = subst (λ w. open_after o (w ∷ plain_text_of_arguments (argument ps more)) ≡ Some 0) is closed in
    subst (λ w. Taken w o (add d (argument ps more))) (sym e) (subst (λ w. Taken (92 ∷ 44 ∷ u) o (add w (argument ps more))) (sym is)
    (inside_comma u (argument ps more) o (takes_tail c 92 s (44 ∷ u) e takes 1 o ps more (record { right = right; closed = balance; rest = rest; spelled = there }) shallow)))
take_peeled c d o s u ps more false i e h right closed rest there shallow takes =
    subst (λ w. Taken w o (add d (argument ps more))) (sym e)
    (take_byte d o u (argument ps more) (d == 40) (d == 41) refl refl (eqb-false d 44 i) h closed
    (λ m f. takes_tail c d s u e takes 0 m ps more (record { right = right; closed = f; rest = rest; spelled = there }) shallow))

before_reference : (r : Reference) (u : List ℕ) → (v : List ℕ) × (reference_before r u ≡ 36 ∷ 123 ∷ v)
before_reference (variable n) u = (n ++ 125 ∷ u, refl)
before_reference (call n args) u = (95 ∷ 95 ∷ (n ++ 40 ∷ arguments_before args (41 ∷ 125 ∷ u)), refl)

take_reference : (c o : ℕ) (s u v : List ℕ) (r : Reference) (ps : Pieces) (more : Arguments) → c ∷ s ≡ reference_before r u → reference_before r u ≡ 36 ∷ 123 ∷ v
    → first_at (c ∷ s) ≡ Some r → Stands u o ps more → nesting_of_arguments (argument ps more) ≤ 16 → Takes s → Taken (c ∷ s) o (join (Some r) (argument ps more))
take_reference c o s u v r ps more e f first stands shallow takes =
    let all : c ∷ s ≡ 36 ∷ 123 ∷ v = e ∙ f in
    let n : ℕ = length (reference_spelling r) in
    let after : drop (n - 1) s ≡ u = drop_less n c s (reference_some r) ∙ (ap (drop n) (e ∙ sym (reference-before r u)) ∙ drop-append_seam (reference_spelling r) u) in
    let here : drop (n - 1) (123 ∷ v) ≡ u = subst (λ w. drop (n - 1) w ≡ u) (tail_same c 36 s (123 ∷ v) all) after in
    subst (λ w. Taken w o (join (Some r) (argument ps more))) (sym all)
    (inside_reference v (argument ps more) r o (subst (λ w. first_at w ≡ Some r) all first)
    (takes_tail c 36 s (123 ∷ v) all takes (n - 1) o ps more (subst (λ w. Stands w o ps more) (sym here) stands) shallow))

take_here : (c o : ℕ) (s : List ℕ) (ps : Pieces) (more : Arguments) → Complete (c ∷ s) → Takes s → Stands (c ∷ s) o ps more → nesting_of_arguments (argument ps more) ≤ 16
    → Taken (c ∷ s) o (argument ps more)
take_here c o s no_more no_arguments complete takes h shallow =
    subst (λ w. Taken w o (argument no_more no_arguments)) (sym h.spelled)
    (subst (λ m. Taken (41 ∷ 125 ∷ h.rest) m (argument no_more no_arguments)) (sym (some_same h.closed)) (inside_ends h.rest))
take_here c o s no_more (argument qs more) complete takes h shallow =
    let u : List ℕ = arguments_before (argument qs more) (41 ∷ 125 ∷ h.rest) in
    subst (λ w. Taken w o (argument no_more (argument qs more))) (sym h.spelled)
    (inside_separator u (argument qs more) o (takes_tail c 44 s u h.spelled takes 0 o qs more (record { right = h.right.2; closed = h.closed; rest = h.rest; spelled = refl }) (omega arith)))
take_here c o s (text [] m) more complete takes h shallow = absurd (h.right.0.0.some refl)
take_here c o s (text (d ∷ t) m) more complete takes h shallow =
    let p : Peeled d o (c ∷ s) (text (d ∷ t) m) more = peel d o t (c ∷ s) m more h in
    let same : nesting_of_pieces p.pieces ≡ nesting_of_pieces (text (d ∷ t) m) = sym (nesting-with_byte d p.pieces) ∙ ap nesting_of_pieces p.back in
    take_peeled c d o s p.after p.pieces more (d == 44) refl p.spelled p.precedes p.right p.closed p.rest p.there
    (subst (λ n. max n (nesting_of_arguments more) ≤ 16) (sym same) shallow) takes
    ∙ ap (λ w. Some (argument w more)) p.back
take_here c o s (reference r m) more complete takes h shallow =
    let u : List ℕ = argument_before m (further_before more (41 ∷ 125 ∷ h.rest)) in
    let b : (v : List ℕ) × (reference_before r u ≡ 36 ∷ 123 ∷ v) = before_reference r u in
    take_reference c o s u b.0 r m more h.spelled b.1
    (complete r (record { right = h.right.0.0; shallow = omega arith; rest = u; spelled = h.spelled }))
    (record { right = (h.right.0.1, h.right.1, h.right.2); closed = h.closed; rest = h.rest; spelled = refl }) (omega arith) takes

pub drop_nothing : (k : ℕ) → drop {A = ℕ} k [] ≡ []
drop_nothing zero = refl
drop_nothing (suc k) = refl

escaped_some : (b : Bool) (d : ℕ) (x : List ℕ) → (if b then 92 ∷ 44 ∷ x else d ∷ x) ≡ [] → ⊥
escaped_some true d x e = not_empty 92 (44 ∷ x) e
escaped_some false d x e = not_empty d x e

end_some : (ps : Pieces) (more : Arguments) (k : List ℕ) → argument_before ps (further_before more (41 ∷ k)) ≡ [] → ⊥
end_some no_more no_arguments k e = not_empty 41 k e
end_some no_more (argument qs more) k e = not_empty 44 (argument_before qs (further_before more (41 ∷ k))) e
end_some (text [] m) more k e = end_some m more k e
end_some (text (d ∷ t) m) more k e = escaped_some (d == 44) d (escaped_before t (argument_before m (further_before more (41 ∷ k)))) e
end_some (reference r m) more k e =
    let b : (v : List ℕ) × (reference_before r (argument_before m (further_before more (41 ∷ k))) ≡ 36 ∷ 123 ∷ v) = before_reference r (argument_before m (further_before more (41 ∷ k))) in
    not_empty 36 (123 ∷ b.0) (sym b.1 ∙ e)

-- nothing stands at the end of the text
stands_nowhere : (o : ℕ) (ps : Pieces) (more : Arguments) (k : ℕ) → Stands (drop k []) o ps more → ⊥
stands_nowhere o ps more k h = end_some ps more (125 ∷ h.rest) (sym h.spelled ∙ drop_nothing k)

pub inside_complete : (s : List ℕ) → AllComplete s → (k o : ℕ) (ps : Pieces) (more : Arguments) → Stands (drop k s) o ps more → nesting_of_arguments (argument ps more) ≤ 16
    → inside s (table s) k o ≡ Some (argument ps more)
unfolding inside table
inside_complete [] a k o ps more h shallow = absurd (stands_nowhere o ps more k h)
inside_complete (c ∷ s) a (suc k) o ps more h shallow = inside_complete s a.1 k o ps more h shallow
inside_complete (c ∷ s) a zero o ps more h shallow = take_here c o s ps more a.0 (inside_complete s a.1) h shallow
