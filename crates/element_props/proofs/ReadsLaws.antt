-- Readings one after another.
use Rattle.std.proofs.lemmas.List.{append-nil, drop_all, take_all, map-append}
use Rattle.std.proofs.Common.{◌≡◌, ℕ, ◌+◌, ◌<◌, ◌≤◌, List, [], ◌∷◌, ◌++◌, Option, Some, None, Result, Ok, Err, refl, sym, ap, ◌∙◌, arith, append_assoc, true, false, Bool, ◌||◌, inl, inr, length, get_or, drop, take, map, Bor, OnOk, ◌⊎◌, add-one, drop-cons, subst, option_and_then}
use Rattle.std.proofs.Math.Seq.{take-suc}
use Rattle.std.specs.Option.{option_map}
use Rattle.jm_base.specs.FaultCounts.{Rose}
use Rattle.plan_json.specs.Place.{Place}
use Rattle.element_props.specs.declared.choices.TestKind.TheVariants as kinds
use Rattle.element_props.specs.declared.error.BuildError.{BuildError}
use Rattle.element_props.specs.declared.error.BuildError.TheVariants as errors
use Rattle.element_props.specs.declared.error.PatternFault.TheVariants.{Reference, Syntax, Size}
use Rattle.element_props.specs.Patterns.{Asked, Asks, reading_of, HasReading}
use Rattle.serde_json.specs.Data.{Data, Members}
use Rattle.serde_json.specs.Find.{as_str, as_array}
use Rattle.element_props.specs.declared.error.What.TheVariants as what
use Rattle.element_props.specs.declared.prop.Prop.{Prop}
use Rattle.element_props.specs.declared.prop.Prop.TheVariants as props
use Rattle.element_props.specs.FormRows.{Form}
use Rattle.element_props.specs.Forms.{is_too_long, value_of, finished, pattern_asked, pattern_checked, around, around_asked, one_asked, each_asked, is_test, whole_of, regexes_checked, tests_checked, tests_given, few_of, is_pattern, is_test_patterns, has_reference, given}
use Rattle.element_props.specs.Reads.{Reads, over, refuse, ask, ◌>>=◌, Path, here, asked, Goes, Ends, refused, unread, too_large, Stops, Next, nothing, asking, RunsOut, Fails, Gives, Answers}

no_more : (t : Option (List (List ℕ))) → t ≡ option_map (λ t. t ++ []) t
no_more None = refl
no_more (Some t) = ap Some (sym (append-nil t))

pub asks_nothing : (a : Asked) → Asks a [] a
asks_nothing a = record { told = no_more a.told; oversize = omega arith }

told_append : (a b c : Option (List (List ℕ))) (xs ys : List (List ℕ)) → b ≡ option_map (λ t. t ++ xs) a → c ≡ option_map (λ t. t ++ ys) b → c ≡ option_map (λ t. t ++ (xs ++ ys)) a
told_append None b c xs ys h k = rw h at k
told_append (Some t) b c xs ys h k = let m = rw h at k in m ∙ ap Some (append_assoc t xs ys)

pub asks_append : {a b c : Asked} {xs ys : List (List ℕ)} → Asks a xs b → Asks b ys c → Asks a (xs ++ ys) c
asks_append {a} {b} {c} {xs} {ys} h k = record { told = told_append a.told b.told c.told xs ys h.told k.told; oversize = omega arith }

pub path_append : {A : Type 0} {r s t : Reads A} {xs ys : List (List ℕ)} → Path r xs s → Path s ys t → Path r (xs ++ ys) t
path_append here q = q
path_append (asked some p) q = asked some (path_append p q)

pub path_bind : {A B : Type 0} {r s : Reads A} {xs : List (List ℕ)} (f : A → Reads B) → Path r xs s → Path (r >>= f) xs (s >>= f)
path_bind f here = here
path_bind f (asked some p) = asked some (path_bind f p)

pub goes_nothing : {A : Type 0} (a : Asked) (r : Reads A) → Goes a r r a
goes_nothing a r = record { texts = []; asks = asks_nothing a; path = here }

pub goes_append : {A : Type 0} {a b c : Asked} {r s t : Reads A} → Goes a r s b → Goes b s t c → Goes a r t c
goes_append g h = record { texts = g.texts ++ h.texts; asks = asks_append g.asks h.asks; path = path_append g.path h.path }

pub goes_bind : {A B : Type 0} {a b : Asked} {r s : Reads A} (f : A → Reads B) → Goes a r s b → Goes a (r >>= f) (s >>= f) b
goes_bind f g = record { texts = g.texts; asks = g.asks; path = path_bind f g.path }

rose_since : {k m n : ℕ} → k ≤ m → Rose m n → Rose k n
rose_since h (inl j) = inl (omega arith)
rose_since h (inr j) = inr j

ends_since : {A : Type 0} {k m n : ℕ} {e : BuildError} {r : Reads A} {last : List (List ℕ)} → k ≤ m → Ends m n e r last → Ends k n e r last
ends_since h refused = refused
ends_since h (unread k) = unread k
ends_since h (too_large k) = too_large (rose_since h k)

stops_after : {A : Type 0} {a b c : Asked} {r s : Reads A} {e : BuildError} → Goes a r s b → Stops b s e c → Stops a r e c
stops_after g h = record {
  texts = g.texts ++ h.texts;
  last = h.last;
  rest = h.rest;
  asks = rw (append_assoc g.texts h.texts h.last) (asks_append g.asks h.asks);
  path = path_append g.path h.path;
  ends = ends_since g.asks.oversize h.ends;
}

ends_bind : {A B : Type 0} {m n : ℕ} {e : BuildError} {r : Reads A} {last : List (List ℕ)} (f : A → Reads B) → Ends m n e r last → Ends m n e (r >>= f) last
ends_bind f refused = refused
ends_bind f (unread h) = unread h
ends_bind f (too_large h) = too_large h

stops_bind : {A B : Type 0} {a b : Asked} {r : Reads A} {e : BuildError} (f : A → Reads B) → Stops a r e b → Stops a (r >>= f) e b
stops_bind f h = record { texts = h.texts; last = h.last; rest = h.rest >>= f; asks = h.asks; path = path_bind f h.path; ends = ends_bind f h.ends }

stops_refuse : {A : Type 0} (a : Asked) (e : BuildError) → Stops {A = A} a (refuse e) e a
stops_refuse a e = record { texts = []; last = []; rest = refuse e; asks = asks_nothing a; path = here; ends = refused }

-- ---- a reading that a call answers with an error

next_bind : {A B : Type 0} {r : Reads A} {last : List (List ℕ)} (f : A → Reads B) → Next r last → Next (r >>= f) last
next_bind f nothing = nothing
next_bind f asking = asking

runs_out : {A : Type 0} (a : Asked) (r : Reads A) → RunsOut a r a
runs_out a r = record { texts = []; last = []; rest = r; asks = asks_nothing a; path = here; next = nothing }

out_after : {A : Type 0} {a b c : Asked} {r s : Reads A} → Goes a r s b → RunsOut b s c → RunsOut a r c
out_after g h = record {
  texts = g.texts ++ h.texts;
  last = h.last;
  rest = h.rest;
  asks = rw (append_assoc g.texts h.texts h.last) (asks_append g.asks h.asks);
  path = path_append g.path h.path;
  next = h.next;
}

out_bind : {A B : Type 0} {a b : Asked} {r : Reads A} (f : A → Reads B) → RunsOut a r b → RunsOut a (r >>= f) b
out_bind f h = record { texts = h.texts; last = h.last; rest = h.rest >>= f; asks = h.asks; path = path_bind f h.path; next = next_bind f h.next }

pub fails_after : {A : Type 0} {a b c : Asked} {r s : Reads A} {e : BuildError} → Goes a r s b → Fails b s e c → Fails a r e c
fails_after g h = record { stops = λ other. stops_after g (h.stops other); memory = λ none. out_after g (h.memory none) }

pub fails_bind : {A B : Type 0} {a b : Asked} {r : Reads A} {e : BuildError} (f : A → Reads B) → Fails a r e b → Fails a (r >>= f) e b
fails_bind f h = record { stops = λ other. stops_bind f (h.stops other); memory = λ none. out_bind f (h.memory none) }

-- of a call that asks for no pattern
pub fails_first : {A : Type 0} (a : Asked) (r : Reads A) (e : BuildError) → ((e ≡ errors.NoMemory → ⊥) → r ≡ refuse e) → Fails a r e a
fails_first a r e h = record { stops = λ other. rw (h other) (stops_refuse a e); memory = λ none. runs_out a r }

pub fails_refuse : {A : Type 0} (a : Asked) (e : BuildError) → Fails {A = A} a (refuse e) e a
fails_refuse a e = fails_first a (refuse e) e (λ other. refl)

pub no_memory : {A : Type 0} (a : Asked) (r : Reads A) (e : BuildError) → e ≡ errors.NoMemory → Fails a r e a
no_memory a r e none = fails_first a r e (λ other. absurd (other none))

pub no_memory_after : {A : Type 0} (a b : Asked) (r s : Reads A) (e : BuildError) → Goes a r s b → e ≡ errors.NoMemory → Fails a r e b
no_memory_after a b r s e g none = fails_after g (no_memory b s e none)

by_stop : {A : Type 0} {a b : Asked} {r : Reads A} {e : BuildError} → (e ≡ errors.NoMemory → ⊥) → Stops a r e b → Fails a r e b
by_stop other s = record { stops = λ _. s; memory = λ none. absurd (other none) }

pub answers_gives : {X A : Type 0} (seen : X → A) (a : Asked) (reading : Reads A) (r : Result X BuildError) → Answers seen reading r → Gives seen a reading r a
answers_gives seen a reading (Ok x) h = rw h (goes_nothing a _)
answers_gives seen a reading (Err e) h = fails_first a reading e h

pub gives_bind : {X A B : Type 0} (seen : X → B) (f : A → Reads B) (a b c : Asked) (r : Reads A) (x : A) (res : Result X BuildError) → Goes a r (over x) b → Gives seen b (f x) res c → Gives seen a (r >>= f) res c
gives_bind seen f a b c r x (Ok y) g h = goes_append (goes_bind f g) h
gives_bind seen f a b c r x (Err e) g h = fails_after (goes_bind f g) h

-- ---- a pattern

pub asked_made : (a b : Asked) (p : Place) (s : List ℕ) → Asks a (s ∷ []) b → HasReading s → Goes a (ask p s (over s)) (over s) b
asked_made a b p s k some = record { texts = s ∷ []; asks = k; path = asked some here }

pub asked_unread : (a b : Asked) (p : Place) (s : List ℕ) → Asks a (s ∷ []) b → reading_of s ≡ None → Fails a (ask p s (over s)) (errors.BadPattern p Syntax) b
asked_unread a b p s k none = by_stop (λ is. cc) (record { texts = []; last = s ∷ []; rest = ask p s (over s); asks = k; path = here; ends = unread none })

pub asked_large : (a b : Asked) (p : Place) (s : List ℕ) → Asks a (s ∷ []) b → Rose a.oversize b.oversize → Fails a (ask p s (over s)) (errors.BadPattern p Size) b
asked_large a b p s k more = by_stop (λ is. cc) (record { texts = []; last = s ∷ []; rest = ask p s (over s); asks = k; path = here; ends = too_large more })

pub asked_cut : (a b : Asked) (p : Place) (s : List ℕ) (e : BuildError) → Asks a [] b ⊎ Asks a (s ∷ []) b → e ≡ errors.NoMemory → Fails a (ask p s (over s)) e b
asked_cut a b p s e (inl k) none = record { stops = λ other. absurd (other none); memory = λ _. record { texts = []; last = []; rest = ask p s (over s); asks = k; path = here; next = nothing } }
asked_cut a b p s e (inr k) none = record { stops = λ other. absurd (other none); memory = λ _. record { texts = []; last = s ∷ []; rest = ask p s (over s); asks = k; path = here; next = asking } }

pub pattern_refers : (a : Asked) (p : Place) (s : List ℕ) → has_reference s ≡ true → Fails a (pattern_asked p s (has_reference s)) (errors.BadPattern p Reference) a
unfolding pattern_asked
pattern_refers a p s h = rw h (fails_refuse a _)

pub pattern_gives : {X : Type 0} (seen : X → List ℕ) (a b : Asked) (p : Place) (s : List ℕ) (r : Result X BuildError) → has_reference s ≡ false → Gives seen a (ask p s (over s)) r b → Gives seen a (pattern_asked p s (has_reference s)) r b
unfolding pattern_asked
pattern_gives seen a b p s r h g = rw h g

pub pattern_kept : (a b : Asked) (p : Place) (s t : List ℕ) (refers : Bool) → Goes a (pattern_asked p s refers) (over t) b → Goes a (pattern_checked p s refers) (over (props.Pattern t)) b
unfolding pattern_checked
pattern_kept a b p s t refers g = goes_bind (λ (t : List ℕ). over (props.Pattern t)) g

pub pattern_fails : (a b : Asked) (p : Place) (s : List ℕ) (refers : Bool) (e : BuildError) → Fails a (pattern_asked p s refers) e b → Fails a (pattern_checked p s refers) e b
unfolding pattern_checked
pattern_fails a b p s refers e g = fails_bind (λ (t : List ℕ). over (props.Pattern t)) g

-- ---- the patterns of a list

pub around_none : (a : Asked) (p : Place) (s : List ℕ) → Goes a (around_asked p false s) (over tt) a
unfolding around_asked
around_none a p s = goes_nothing a _

pub around_made : (a b : Asked) (p : Place) (s t u : List ℕ) → t ≡ around s → Goes a (ask p t (over t)) (over u) b → Goes a (around_asked p true s) (over tt) b
unfolding around_asked
around_made a b p s t u e g = let P : List ℕ → Type 0 = λ v. Goes a (ask p v (over tt)) (over tt) b in subst P e (goes_bind (λ (v : List ℕ). over tt) g)

pub around_fails : (a b : Asked) (p : Place) (s t : List ℕ) (e : BuildError) → t ≡ around s → Fails a (ask p t (over t)) e b → Fails a (around_asked p true s) e b
unfolding around_asked
around_fails a b p s t e same g = let P : List ℕ → Type 0 = λ v. Fails a (ask p v (over tt)) e b in subst P same (fails_bind (λ (v : List ℕ). over tt) g)

pub on_ok : {X E : Type 0} {P : Type 0} (r : Result X E) → P → OnOk r P
on_ok (Ok x) p = p
on_ok (Err e) p = tt

pub one_made : {X : Type 0} (seen : X → Unit {0}) (a b c : Asked) (p : Place) (fully : Bool) (s : List ℕ) (r : Result X BuildError) → (t : List ℕ) → Goes a (pattern_asked p s (has_reference s)) (over t) b
    → Gives seen b (around_asked p fully s) r c → Gives seen a (one_asked p fully s) r c
unfolding one_asked
one_made seen a b c p fully s r t g h = gives_bind seen (λ (u : List ℕ). around_asked p fully s) a b c _ t r g h

pub one_fails : (a b : Asked) (p : Place) (fully : Bool) (s : List ℕ) (e : BuildError) → Fails a (pattern_asked p s (has_reference s)) e b → Fails a (one_asked p fully s) e b
unfolding one_asked
one_fails a b p fully s e g = fails_bind (λ (t : List ℕ). around_asked p fully s) g

strings_step : (ts : List (Bor (List ℕ))) (i : ℕ) (d : Bor (List ℕ)) → i < length ts → map (λ t. t.now) (drop i ts) ≡ (get_or ts i d).now ∷ map (λ t. t.now) (drop (i + 1) ts)
strings_step ts i d h = rw add-one (ap (map (λ (t : Bor (List ℕ)). t.now)) (drop-cons ts i d h))

pub asked_step : (a b c : Asked) (p : Place) (fully : Bool) (r : Reads (Unit {0})) (ts : List (Bor (List ℕ))) (i : ℕ) (d : Bor (List ℕ)) → i < length ts
    → Goes a r (each_asked p fully (map (λ t. t.now) (drop i ts))) b → Goes b (one_asked p fully (get_or ts i d).now) (over tt) c
    → Goes a r (each_asked p fully (map (λ t. t.now) (drop (i + 1) ts))) c
unfolding each_asked
asked_step a b c p fully r ts i d h kept g =
    let P : List (List ℕ) → Type 0 = λ ss. Goes a r (each_asked p fully ss) b in
    goes_append (subst P (strings_step ts i d h) kept) (goes_bind (λ (t : Unit {0}). each_asked p fully (map (λ t. t.now) (drop (i + 1) ts))) g)

pub asked_stops : (a b c : Asked) (p : Place) (fully : Bool) (r : Reads (Unit {0})) (ts : List (Bor (List ℕ))) (i : ℕ) (d : Bor (List ℕ)) (e : BuildError) → i < length ts
    → Goes a r (each_asked p fully (map (λ t. t.now) (drop i ts))) b → Fails b (one_asked p fully (get_or ts i d).now) e c → Fails a r e c
unfolding each_asked
asked_stops a b c p fully r ts i d e h kept g =
    let P : List (List ℕ) → Type 0 = λ ss. Goes a r (each_asked p fully ss) b in
    fails_after (subst P (strings_step ts i d h) kept) (fails_bind (λ (t : Unit {0}). each_asked p fully (map (λ t. t.now) (drop (i + 1) ts))) g)

pub asked_end : (a b : Asked) (p : Place) (fully : Bool) (r : Reads (Unit {0})) (ts : List (Bor (List ℕ))) (i : ℕ) → length ts ≤ i
    → Goes a r (each_asked p fully (map (λ t. t.now) (drop i ts))) b → Goes a r (over tt) b
unfolding each_asked
asked_end a b p fully r ts i h kept =
    let P : List (Bor (List ℕ)) → Type 0 = λ us. Goes a r (each_asked p fully (map (λ t. t.now) us)) b in subst P (drop_all i ts h) kept

pub whole_none : (fully : Bool) → [] ≡ whole_of fully []
whole_none true = refl
whole_none false = refl

strings_more : (ts : List (Bor (List ℕ))) (i : ℕ) (d : Bor (List ℕ)) → i < length ts → map (λ t. t.now) (take (i + 1) ts) ≡ map (λ t. t.now) (take i ts) ++ (get_or ts i d).now ∷ []
strings_more ts i d h = rw add-one (ap (map (λ (t : Bor (List ℕ)). t.now)) (take-suc ts i d h) ∙ map-append (λ (t : Bor (List ℕ)). t.now) (take i ts) (get_or ts i d ∷ []))

strings_all : (ts : List (Bor (List ℕ))) (i : ℕ) → length ts ≤ i → map (λ t. t.now) (take i ts) ≡ map (λ t. t.now) ts
strings_all ts i h = ap (map (λ (t : Bor (List ℕ)). t.now)) (take_all i ts h)

pub own_more : (ts : List (Bor (List ℕ))) (i : ℕ) (d : Bor (List ℕ)) (old new : List (List ℕ)) → i < length ts → old ≡ map (λ t. t.now) (take i ts) → new ≡ old ++ (get_or ts i d).now ∷ [] → new ≡ map (λ t. t.now) (take (i + 1) ts)
own_more ts i d old new h e k = k ∙ ap (λ xs. xs ++ (get_or ts i d).now ∷ []) e ∙ sym (strings_more ts i d h)

whole_step : (fully : Bool) (ss : List (List ℕ)) (s : List ℕ) → whole_of fully (ss ++ s ∷ []) ≡ whole_of fully ss ++ whole_of fully (s ∷ [])
whole_step true ss s = map-append around ss (s ∷ [])
whole_step false ss s = refl

pub around_more : (fully : Bool) (ts : List (Bor (List ℕ))) (i : ℕ) (d : Bor (List ℕ)) (old new : List (List ℕ)) → i < length ts → old ≡ whole_of fully (map (λ t. t.now) (take i ts))
    → new ≡ old ++ whole_of fully ((get_or ts i d).now ∷ []) → new ≡ whole_of fully (map (λ t. t.now) (take (i + 1) ts))
around_more fully ts i d old new h e k =
    k ∙ ap (λ xs. xs ++ whole_of fully ((get_or ts i d).now ∷ [])) e ∙ sym (whole_step fully (map (λ t. t.now) (take i ts)) (get_or ts i d).now) ∙ ap (whole_of fully) (sym (strings_more ts i d h))

regexes_made : (a b : Asked) (p : Place) (fully : Bool) (ss : List (List ℕ)) → Goes a (each_asked p fully ss) (over tt) b → Goes a (regexes_checked p fully ss) (over (props.Patterns ss ss (whole_of fully ss))) b
unfolding regexes_checked
regexes_made a b p fully ss g = goes_bind (λ (t : Unit {0}). over (props.Patterns ss ss (whole_of fully ss))) g

pub regexes_done : (a b : Asked) (p : Place) (fully : Bool) (ts : List (Bor (List ℕ))) (i : ℕ) (texts own whole : List (List ℕ)) → length ts ≤ i
    → texts ≡ map (λ t. t.now) ts → own ≡ map (λ t. t.now) (take i ts) → whole ≡ whole_of fully (map (λ t. t.now) (take i ts))
    → Goes a (each_asked p fully (map (λ t. t.now) ts)) (each_asked p fully (map (λ t. t.now) (drop i ts))) b
    → Goes a (regexes_checked p fully (map (λ t. t.now) ts)) (over (props.Patterns texts own whole)) b
regexes_done a b p fully ts i texts own whole h e f g kept =
    let all = strings_all ts i h in
    rw (e, f ∙ all, g ∙ ap (whole_of fully) all) (regexes_made a b p fully (map (λ t. t.now) ts) (asked_end a b p fully _ ts i h kept))

pub regexes_fail : (a b : Asked) (p : Place) (fully : Bool) (ss : List (List ℕ)) (e : BuildError) → Fails a (each_asked p fully ss) e b → Fails a (regexes_checked p fully ss) e b
unfolding regexes_checked
regexes_fail a b p fully ss e g = fails_bind (λ (t : Unit {0}). over (props.Patterns ss ss (whole_of fully ss))) g

pub tests_regex : {X : Type 0} (seen : X → Prop) (a b : Asked) (p : Place) (regex fully : Bool) (ss : List (List ℕ)) (r : Result X BuildError) → (regex || fully) ≡ true
    → Gives seen a (regexes_checked p fully ss) r b → Gives seen a (tests_checked p regex fully ss) r b
unfolding tests_checked
tests_regex seen a b p regex fully ss r h g = rw h g

pub tests_plain : (a : Asked) (p : Place) (regex fully : Bool) (ss : List (List ℕ)) → (regex || fully) ≡ false → Goes a (tests_checked p regex fully ss) (over (props.Patterns ss [] [])) a
unfolding tests_checked
tests_plain a p regex fully ss h = rw h (goes_nothing a _)

pub no_tests : (place : Place) (ms : Members) (d : Data) (a : Asked) → option_and_then (few_of 64 as_str) (as_array d) ≡ None → Fails a (tests_given place ms d) (errors.BadProp place) a
unfolding tests_given
no_tests place ms d a e = rw e (fails_refuse a _)

pub some_tests : (place : Place) (ms : Members) (d : Data) (a b : Asked) (regex fully : Bool) (ss texts : List (List ℕ)) (r : Result Prop BuildError)
    → regex ≡ is_test kinds.Contains ms → fully ≡ is_test kinds.Matches ms → texts ≡ ss → option_and_then (few_of 64 as_str) (as_array d) ≡ Some ss
    → Gives (λ p. p) a (tests_checked place regex fully texts) r b → Gives (λ p. p) a (tests_given place ms d) r b
unfolding tests_given
some_tests place ms d a b regex fully ss texts r p q t e g = rw e (rw (← p, ← q, ← t) g)

-- ---- a property that is there

module _ (form : Form) (ms : Members) (place : Place) (d : Data) (a : Asked) where
  pub given_long : is_too_long form d ≡ true → Fails a (given form ms place d) (errors.TooMany place what.Text) a
  unfolding given
  given_long h = rw h (fails_refuse a _)

  pub given_no_text : is_too_long form d ≡ false → is_pattern form ≡ true → as_str d ≡ None → Fails a (given form ms place d) (errors.BadProp place) a
  unfolding given
  given_no_text h p e = rw (h, p, e) (fails_refuse a _)

  pub given_pattern : (b : Asked) (s : List ℕ) (r : Result Prop BuildError) → is_too_long form d ≡ false → is_pattern form ≡ true → as_str d ≡ Some s
      → Gives (λ p. p) a (pattern_checked place s (has_reference s)) r b → Gives (λ p. p) a (given form ms place d) r b
  unfolding given
  given_pattern b s r h p e g = rw (h, p, e) g

  pub given_tests : (b : Asked) (r : Result Prop BuildError) → is_too_long form d ≡ false → is_pattern form ≡ false → is_test_patterns form ≡ true
      → Gives (λ p. p) a (tests_given place ms d) r b → Gives (λ p. p) a (given form ms place d) r b
  unfolding given
  given_tests b r h p t g = rw (h, p, t) g

  pub given_none : is_too_long form d ≡ false → is_pattern form ≡ false → is_test_patterns form ≡ false → value_of form ms d ≡ None → Fails a (given form ms place d) (errors.BadProp place) a
  unfolding given
  given_none h p t e = rw (h, p, t, e) (fails_refuse a _)

  pub given_value : (v : Prop) (r : Result Prop BuildError) → is_too_long form d ≡ false → is_pattern form ≡ false → is_test_patterns form ≡ false → value_of form ms d ≡ Some v
      → Answers (λ p. p) (finished place v) r → Gives (λ p. p) a (given form ms place d) r a
  unfolding given
  given_value v r h p t e g = rw (h, p, t, e) (answers_gives (λ p. p) a (finished place v) r g)
