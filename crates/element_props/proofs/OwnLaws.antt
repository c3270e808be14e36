-- A reading refuses nothing by a pattern's size, so such a refusal has its cause in the maker of patterns.
use Rattle.std.proofs.Common.{◌≡◌, ℕ, Bool, true, false, ◌||◌, List, [], ◌∷◌, Option, Some, None, Result, Ok, Err, IfOk, refl, sym, ap, ◌∙◌, IsSome, true≢false, if◌then◌else◌, option_and_then}
use Rattle.jm_base.specs.FaultCounts.{Rose}
use Rattle.serde_json.specs.Data.{Data, Members}
use Rattle.serde_json.specs.Find.{get_member, as_str, as_array}
use Rattle.plan_json.specs.Place.{Place}
use Rattle.element_props.specs.declared.choices.TestKind.TheVariants as kinds
use Rattle.element_props.specs.declared.error.BuildError.{BuildError}
use Rattle.element_props.specs.declared.error.BuildError.TheVariants as errors
use Rattle.element_props.specs.declared.error.PatternFault.TheVariants.{Syntax, Size}
use Rattle.element_props.specs.declared.prop.Prop.{Prop}
use Rattle.element_props.specs.declared.prop.Prop.TheVariants as props
use Rattle.element_props.specs.FormRows.{Form, Row}
use Rattle.element_props.specs.Patterns.{Asked, reading_of}
use Rattle.element_props.specs.Answers.{is_of_maker, IsByPlan, Answered}
use Rattle.element_props.specs.Reads.{Reads, over, refuse, ask, ◌>>=◌, refuse_if, or_refuse, outcome, judged_at, judged, Path, here, asked, Goes, Ends, refused, unread, too_large, Stops, Gives}
use Rattle.element_props.specs.Conditions.{bad_condition}
use Rattle.element_props.specs.Forms.{is_too_long, value_of, finished, bad_pair, pattern_asked, pattern_checked, around_asked, one_asked, each_asked, is_test, regexes_checked, tests_checked, tests_given, few_of, is_pattern, is_test_patterns, has_reference, given}
use Rattle.element_props.specs.Props.{prop_at, property_of, property, properties, unknown, missing, own_properties, no_name}

abbrev pub Own : {A : Type 0} → Reads A → Type 0
Own (over x) = Unit {0}
Own (refuse e) = is_of_maker e ≡ false
Own (ask p t r) = Own r

pub own_bind : {A B : Type 0} (r : Reads A) (f : A → Reads B) → Own r → ((x : A) → Own (f x)) → Own (r >>= f)
own_bind (over x) f h k = k x
own_bind (refuse e) f h k = h
own_bind (ask p t r) f h k = own_bind r f h k

pub own_refuse_if : (b : Bool) (e : BuildError) → is_of_maker e ≡ false → Own (refuse_if b e)
own_refuse_if true e h = h
own_refuse_if false e h = tt

pub own_or_refuse : {A : Type 0} (o : Option A) (e : BuildError) → is_of_maker e ≡ false → Own (or_refuse o e)
own_or_refuse None e h = h
own_or_refuse (Some x) e h = tt

pub own_if : {A : Type 0} (b : Bool) (r s : Reads A) → Own r → Own s → Own (if b then r else s)
own_if true r s h k = h
own_if false r s h k = k

own_asked : (p : Place) (s : List ℕ) (b : Bool) → Own (pattern_asked p s b)
unfolding pattern_asked
own_asked p s true = refl
own_asked p s false = tt

own_checked : (p : Place) (s : List ℕ) (b : Bool) → Own (pattern_checked p s b)
unfolding pattern_checked
own_checked p s b = own_bind (pattern_asked p s b) _ (own_asked p s b) (λ t. tt)

own_around : (p : Place) (b : Bool) (s : List ℕ) → Own (around_asked p b s)
unfolding around_asked
own_around p true s = tt
own_around p false s = tt

own_one : (p : Place) (b : Bool) (s : List ℕ) → Own (one_asked p b s)
unfolding one_asked
own_one p b s = own_bind (pattern_asked p s (has_reference s)) _ (own_asked p s (has_reference s)) (λ t. own_around p b s)

own_each : (p : Place) (b : Bool) (ss : List (List ℕ)) → Own (each_asked p b ss)
unfolding each_asked
own_each p b [] = tt
own_each p b (s ∷ ss) = own_bind (one_asked p b s) _ (own_one p b s) (λ t. own_each p b ss)

own_regexes : (p : Place) (b : Bool) (ss : List (List ℕ)) → Own (regexes_checked p b ss)
unfolding regexes_checked
own_regexes p b ss = own_bind (each_asked p b ss) _ (own_each p b ss) (λ t. tt)

own_tests : (p : Place) (a b : Bool) (ss : List (List ℕ)) → Own (tests_checked p a b ss)
unfolding tests_checked
own_tests p a b ss = own_if (a || b) (regexes_checked p b ss) _ (own_regexes p b ss) tt

own_given_tests : (p : Place) (ms : Members) (d : Data) → Own (tests_given p ms d)
unfolding tests_given
own_given_tests p ms d = own_bind (or_refuse (option_and_then (few_of 64 as_str) (as_array d)) (errors.BadProp p)) _ (own_or_refuse (option_and_then (few_of 64 as_str) (as_array d)) (errors.BadProp p) refl)
    (λ ss. own_tests p (is_test kinds.Contains ms) (is_test kinds.Matches ms) ss)

own_template : (p : Place) (v : Prop) (o : Option ℕ) → Own (elim o as (λ q. Reads Prop) [ None ↦ over v | Some n ↦ refuse (errors.BadCond p n) ])
own_template p v None = tt
own_template p v (Some n) = refl

own_finished : (p : Place) (v : Prop) → Own (finished p v)
own_finished p (props.Template ps) = own_template p (props.Template ps) (bad_condition ps)
own_finished p (props.Pairs ps) = own_template p (props.Pairs ps) (bad_pair ps)
own_finished p v = tt

own_given : (form : Form) (ms : Members) (p : Place) (d : Data) → Own (given form ms p d)
unfolding given
own_given form ms p d =
    own_bind (refuse_if (is_too_long form d) _) _ (own_refuse_if (is_too_long form d) _ refl) (λ u.
    own_if (is_pattern form) _ _
    (own_bind (or_refuse (as_str d) (errors.BadProp p)) _ (own_or_refuse (as_str d) (errors.BadProp p) refl) (λ s. own_checked p s (has_reference s)))
    (own_if (is_test_patterns form) _ _ (own_given_tests p ms d)
    (own_bind (or_refuse (value_of form ms d) (errors.BadProp p)) _ (own_or_refuse (value_of form ms d) (errors.BadProp p) refl) (own_finished p))))

own_property_of : (places : List ℕ) (ms : Members) (row : Row) → Own (property places ms row)
unfolding property
own_property_of places ms row =
    elim (get_member row.name ms) as (λ o. Own (property_of places ms row o)) [ None ↦ tt | Some d ↦ own_given row.form ms (prop_at places row.name) d ]

own_properties_of : (places : List ℕ) (ms : Members) (rows : List Row) → Own (properties places ms rows)
unfolding properties
own_properties_of places ms [] = tt
own_properties_of places ms (row ∷ rows) = own_bind (property places ms row) _ (own_property_of places ms row) (λ p. own_bind (properties places ms rows) _ (own_properties_of places ms rows) (λ ps. tt))

own_no_name : (fault : Place → BuildError) (places : List ℕ) (o : Option (List ℕ)) → ((p : Place) → is_of_maker (fault p) ≡ false) → Own (no_name fault places o)
own_no_name fault places None h = tt
own_no_name fault places (Some name) h = h (prop_at places name)

pub own_all : (places : List ℕ) (ms : Members) (rows : List Row) → Own (own_properties places ms rows)
unfolding own_properties
own_all places ms rows =
    own_bind (no_name errors.BadProp places (unknown rows ms)) _ (own_no_name errors.BadProp places (unknown rows ms) (λ p. refl)) (λ u.
    own_bind (no_name errors.MissingProp places (missing ms rows)) _ (own_no_name errors.MissingProp places (missing ms rows) (λ p. refl)) (λ w. own_properties_of places ms rows))

-- ---- what an answer says

own_path : {A : Type 0} {r s : Reads A} {ts : List (List ℕ)} → Path r ts s → Own r → Own s
own_path here h = h
own_path (asked some q) h = own_path q h

judged_some : {A R : Type 0} (p : Place) (o : Option R) (rest : Result A BuildError) → IsSome o → judged_at p o rest ≡ rest
judged_some p None rest some = cc
judged_some p (Some re) rest some = refl

judged_none : {A R : Type 0} (p : Place) (o : Option R) (rest : Result A BuildError) → o ≡ None → judged_at p o rest ≡ Err (errors.BadPattern p Syntax)
judged_none p o rest none = rw none refl

path_judged : {A : Type 0} {r s : Reads A} {ts : List (List ℕ)} → Path r ts s → judged r ≡ judged s
path_judged here = refl
path_judged (asked {p} {t} {r} some q) = judged_some p (reading_of t) (judged r) some ∙ path_judged q

-- what was read is what the plan says, each pattern judged by the grammar
pub goes_judged : {A : Type 0} {a b : Asked} {r : Reads A} {x : A} → Goes a r (over x) b → judged r ≡ Ok x
goes_judged g = path_judged g.path

ends_judged : {A : Type 0} {m n : ℕ} {e : BuildError} {r : Reads A} {last : List (List ℕ)} → is_of_maker e ≡ false → Ends m n e r last → judged r ≡ Err e
ends_judged h refused = refl
ends_judged h (unread {p} {t} {r} none) = judged_none p (reading_of t) (judged r) none
ends_judged h (too_large k) = absurd (true≢false h)

-- a refusal, but one by a pattern's size, is the first one
pub stops_judged : {A : Type 0} {a b : Asked} {r : Reads A} {e : BuildError} → is_of_maker e ≡ false → Stops a r e b → judged r ≡ Err e
stops_judged h s = path_judged s.path ∙ ends_judged h s.ends

path_outcome : {A : Type 0} {r s : Reads A} {ts : List (List ℕ)} → Path r ts s → outcome r ≡ outcome s
path_outcome here = refl
path_outcome (asked some q) = path_outcome q

-- the same with every pattern taken as good
pub goes_outcome : {A : Type 0} {a b : Asked} {r : Reads A} {x : A} → Goes a r (over x) b → outcome r ≡ Ok x
goes_outcome g = path_outcome g.path

some_judged : {A R : Type 0} (p : Place) (o : Option R) (rest : Result A BuildError) (x : A) → judged_at p o rest ≡ Ok x → rest ≡ Ok x
some_judged p None rest x h = cc
some_judged p (Some re) rest x h = h

-- what is read with each pattern judged is read with every pattern taken as good
pub judged_outcome : {A : Type 0} (r : Reads A) (x : A) → judged r ≡ Ok x → outcome r ≡ Ok x
judged_outcome (over y) x h = h
judged_outcome (refuse e) x h = h
judged_outcome (ask p t r) x h = judged_outcome r x (some_judged p (reading_of t) (judged r) x h)

has_risen : {A : Type 0} {m n : ℕ} {p : Place} {e : BuildError} {r : Reads A} {last : List (List ℕ)} → e ≡ errors.BadPattern p Size → Own r → Ends m n e r last → Rose m n
has_risen same own refused = absurd (true≢false (sym (ap is_of_maker same) ∙ own))
has_risen same own (unread none) = cc
has_risen same own (too_large k) = k

-- and by its size where its count has risen
pub stops_size : {A : Type 0} {a b : Asked} {r : Reads A} (p : Place) → Own r → Stops a r (errors.BadPattern p Size) b → Rose a.oversize b.oversize
stops_size p own s = has_risen refl (own_path s.path own) s.ends

pub gives_judged : {X A : Type 0} (seen : X → A) (a b : Asked) (r : Reads A) (res : Result X BuildError) → Gives seen a r res b → IfOk res (λ x. judged r ≡ Ok (seen x))
gives_judged seen a b r (Ok x) g = goes_judged g
gives_judged seen a b r (Err e) g = tt

pub gives_refused : {X A : Type 0} (seen : X → A) (a b : Asked) (r : Reads A) (res : Result X BuildError) (e : BuildError) → Gives seen a r res b → res ≡ Err e → IsByPlan e → judged r ≡ Err e
gives_refused seen a b r (Ok x) e g is h = cc
gives_refused seen a b r (Err f) e g is h = let same : f ≡ e = cc in stops_judged (ap is_of_maker same ∙ h.0) (g.stops (λ none. h.1 (sym same ∙ none))) ∙ ap Err same

pub gives_size : {X A : Type 0} (seen : X → A) (a b : Asked) (r : Reads A) (res : Result X BuildError) (p : Place) → Own r → Gives seen a r res b → res ≡ Err (errors.BadPattern p Size) → Rose a.oversize b.oversize
gives_size seen a b r (Ok x) p own g is = cc
gives_size seen a b r (Err f) p own g is = let same : f ≡ errors.BadPattern p Size = cc in let s = g.stops (λ none. cc) in has_risen same (own_path s.path own) s.ends

refused_path : {A : Type 0} {e : BuildError} {s : Reads A} {ts : List (List ℕ)} → Path (refuse e) ts s → s ≡ refuse e
refused_path here = refl

refused_ends : {A : Type 0} {m n : ℕ} {e f : BuildError} {last : List (List ℕ)} → Ends {A = A} m n f (refuse e) last → f ≡ e
refused_ends refused = refl

-- a reading that refuses is answered with that refusal
pub gives_refusal : {X A : Type 0} (seen : X → A) (a b : Asked) (r : Reads A) (res : Result X BuildError) (e : BuildError) → Gives seen a r res b → outcome r ≡ Err e → r ≡ refuse e → Answered res e
gives_refusal seen a b r (Ok x) e g o is = λ m. absurd (let k = goes_outcome g in cc)
gives_refusal seen a b r (Err f) e g o is = λ m.
    let s = rw is at (g.stops (λ none. m (ap Err none))) in ap Err (refused_ends (rw (refused_path s.path) at s.ends))

pub unknown_refused : (places : List ℕ) (ms : Members) (rows : List Row) (name : List ℕ) → unknown rows ms ≡ Some name → own_properties places ms rows ≡ refuse (errors.BadProp (prop_at places name))
unfolding own_properties
unknown_refused places ms rows name h = rw h refl

pub missing_refused : (places : List ℕ) (ms : Members) (rows : List Row) (name : List ℕ) → unknown rows ms ≡ None → missing ms rows ≡ Some name → own_properties places ms rows ≡ refuse (errors.MissingProp (prop_at places name))
unfolding own_properties
missing_refused places ms rows name h k = rw (h, k) refl
