-- What a reading gives where every pattern is taken as good.
use Rattle.std.proofs.Common.{◌≡◌, ℕ, Bool, true, false, ◌||◌, List, [], ◌∷◌, Option, Some, None, Ok, option_and_then, refl, sym, ◌∙◌, if◌then◌else◌}
use Rattle.serde_json.specs.Data.{Data, Members}
use Rattle.serde_json.specs.Find.{get_member, as_str, as_array}
use Rattle.plan_json.specs.Place.{Place}
use Rattle.element_props.specs.declared.choices.TestKind.TheVariants as kinds
use Rattle.element_props.specs.declared.error.BuildError.{BuildError}
use Rattle.element_props.specs.declared.error.BuildError.TheVariants as errors
use Rattle.element_props.specs.declared.prop.Prop.{Prop}
use Rattle.element_props.specs.declared.prop.Prop.TheVariants as props
use Rattle.element_props.specs.declared.prop.Pair.{Pair}
use Rattle.element_props.specs.NamedProps.{NamedValue, ◌holds◌}
use Rattle.element_props.specs.Conditions.{bad_condition}
use Rattle.element_props.specs.FormRows.{Row, Form, Presence, pattern, test_patterns}
use Rattle.element_props.specs.Reads.{Reads, over, refuse, ask, ◌>>=◌, refuse_if, or_refuse, outcome}
use Rattle.element_props.specs.Forms.{is_too_long, value_of, finished, cond_checked, pairs_checked, bad_pair, has_reference, pattern_asked, pattern_checked, around_asked, one_asked, each_asked, regexes_checked, tests_checked, tests_given, whole_of, few_of, is_test, is_pattern, is_test_patterns, given}
use Rattle.element_props.specs.Props.{prop_at, absent_value, property_of, property, properties, unknown, missing, no_name, own_properties}

abbrev pub okay : {A : Type 0} → Reads A → Option A
okay (over x) = Some x
okay (refuse e) = None
okay (ask p t r) = okay r

pub okay_from : {A : Type 0} (r : Reads A) (x : A) → outcome r ≡ Ok x → okay r ≡ Some x
okay_from (over y) x h = cc
okay_from (refuse e) x h = cc
okay_from (ask p t r) x h = okay_from r x h

pub okay_to : {A : Type 0} (r : Reads A) (x : A) → okay r ≡ Some x → outcome r ≡ Ok x
okay_to (over y) x h = cc
okay_to (refuse e) x h = cc
okay_to (ask p t r) x h = okay_to r x h

pub okay_bind : {A B : Type 0} (r : Reads A) (f : A → Reads B) (o : Option A) (g : A → Option B) → okay r ≡ o → ((x : A) → okay (f x) ≡ g x) → okay (r >>= f) ≡ option_and_then g o
okay_bind (over x) f o g h k = rw (← h) (k x)
okay_bind (refuse e) f o g h k = rw (← h) refl
okay_bind (ask p t r) f o g h k = okay_bind r f o g h k

or_refuse_okay : {A : Type 0} (o : Option A) (e : BuildError) → okay (or_refuse o e) ≡ o
or_refuse_okay None e = refl
or_refuse_okay (Some x) e = refl

-- ---- a property that is there

abbrev pub no_fault : {A : Type 0} → Option ℕ → A → Option A
no_fault None x = Some x
no_fault (Some n) x = None

abbrev pub checked : Prop → Option Prop
checked (props.Template s) = no_fault (bad_condition s) (props.Template s)
checked (props.Pairs ps) = no_fault (bad_pair ps) (props.Pairs ps)
checked p = Some p

template_okay : (place : Place) (s : _) (o : Option ℕ) → okay (cond_checked place s o) ≡ no_fault o (props.Template s)
template_okay place s None = refl
template_okay place s (Some n) = refl

pairs_okay : (place : Place) (ps : List Pair) (o : Option ℕ) → okay (pairs_checked place ps o) ≡ no_fault o (props.Pairs ps)
pairs_okay place ps None = refl
pairs_okay place ps (Some n) = refl

finished_okay : (place : Place) (p : Prop) → okay (finished place p) ≡ checked p
finished_okay place (props.Template s) = template_okay place s (bad_condition s)
finished_okay place (props.Pairs ps) = pairs_okay place ps (bad_pair ps)
finished_okay place p = refl

abbrev pub pattern_taken : Bool → List ℕ → Option Prop
pattern_taken refers s = if refers then None else Some (props.Pattern s)

pattern_okay : (place : Place) (s : List ℕ) (b : Bool) → okay (pattern_checked place s b) ≡ pattern_taken b s
unfolding pattern_checked pattern_asked
pattern_okay place s true = refl
pattern_okay place s false = refl

abbrev pub any_reference : List (List ℕ) → Bool
any_reference [] = false
any_reference (s ∷ ss) = has_reference s || any_reference ss

abbrev where_none : {A : Type 0} → Bool → A → Option A
where_none b x = if b then None else Some x

one_at : (place : Place) (fully : Bool) (s : List ℕ) (b : Bool) → okay (pattern_asked place s b >>= (λ t. around_asked place fully s)) ≡ where_none b tt
unfolding pattern_asked around_asked
one_at place fully s true = refl
one_at place true s false = refl
one_at place false s false = refl

each_step : (b c : Bool) → option_and_then (λ (t : Unit {0}). where_none c t) (where_none b tt) ≡ where_none (b || c) tt
each_step true c = refl
each_step false c = refl

each_okay : (place : Place) (fully : Bool) (ss : List (List ℕ)) → okay (each_asked place fully ss) ≡ where_none (any_reference ss) tt
unfolding each_asked one_asked
each_okay place fully [] = refl
each_okay place fully (s ∷ ss) =
    okay_bind (one_asked place fully s) (λ t. each_asked place fully ss) (where_none (has_reference s) tt) (λ t. where_none (any_reference ss) t) (one_at place fully s (has_reference s)) (λ t. each_okay place fully ss)
    ∙ each_step (has_reference s) (any_reference ss)

abbrev pub tests_taken : Bool → Bool → List (List ℕ) → Option Prop
tests_taken regex fully ss =
    if regex || fully then (if any_reference ss then None else Some (props.Patterns ss ss (whole_of fully ss))) else Some (props.Patterns ss [] [])

regexes_step : (b : Bool) (p : Prop) → option_and_then (λ (t : Unit {0}). Some p) (where_none b tt) ≡ (if b then None else Some p)
regexes_step true p = refl
regexes_step false p = refl

tests_at : (place : Place) (b fully : Bool) (ss : List (List ℕ)) → okay (if b then regexes_checked place fully ss else over (props.Patterns ss [] []))
    ≡ (if b then (if any_reference ss then None else Some (props.Patterns ss ss (whole_of fully ss))) else Some (props.Patterns ss [] []))
unfolding regexes_checked
tests_at place true fully ss =
    okay_bind (each_asked place fully ss) (λ t. over (props.Patterns ss ss (whole_of fully ss))) (where_none (any_reference ss) tt) (λ t. Some (props.Patterns ss ss (whole_of fully ss))) (each_okay place fully ss) (λ t. refl)
    ∙ regexes_step (any_reference ss) _
tests_at place false fully ss = refl

tests_okay : (place : Place) (regex fully : Bool) (ss : List (List ℕ)) → okay (tests_checked place regex fully ss) ≡ tests_taken regex fully ss
unfolding tests_checked
tests_okay place regex fully ss = tests_at place (regex || fully) fully ss

abbrev pub formed : Form → Members → Data → Option Prop
formed pattern ms d = option_and_then (λ (s : List ℕ). pattern_taken (has_reference s) s) (as_str d)
formed test_patterns ms d = option_and_then (tests_taken (is_test kinds.Contains ms) (is_test kinds.Matches ms)) (option_and_then (few_of 64 as_str) (as_array d))
formed form ms d = option_and_then checked (value_of form ms d)

-- what a value is under a form
abbrev pub taken : Form → Members → Data → Option Prop
taken form ms d = if is_too_long form d then None else formed form ms d

formed_okay : (form : Form) (ms : Members) (place : Place) (d : Data)
    → okay (if is_pattern form
    then or_refuse (as_str d) (errors.BadProp place) >>= (λ s. pattern_checked place s (has_reference s))
    else if is_test_patterns form
    then tests_given place ms d
    else or_refuse (value_of form ms d) (errors.BadProp place) >>= finished place) ≡ formed form ms d
unfolding tests_given
formed_okay pattern ms place d = okay_bind (or_refuse (as_str d) (errors.BadProp place)) _ (as_str d) _ (or_refuse_okay (as_str d) _) (λ s. pattern_okay place s (has_reference s))
formed_okay test_patterns ms place d =
    let o = option_and_then (few_of 64 as_str) (as_array d) in
    okay_bind (or_refuse o (errors.BadProp place)) _ o _ (or_refuse_okay o _) (tests_okay place (is_test kinds.Contains ms) (is_test kinds.Matches ms))
formed_okay form ms place d = okay_bind (or_refuse (value_of form ms d) (errors.BadProp place)) (finished place) (value_of form ms d) checked (or_refuse_okay (value_of form ms d) _) (finished_okay place)

refuse_if_okay : {A : Type 0} (b : Bool) (e : BuildError) (f : Unit {0} → Reads A) (o : Option A) → okay (f tt) ≡ o → okay (refuse_if b e >>= f) ≡ (if b then None else o)
refuse_if_okay true e f o h = refl
refuse_if_okay false e f o h = h

given_okay : (form : Form) (ms : Members) (place : Place) (d : Data) → okay (given form ms place d) ≡ taken form ms d
unfolding given
given_okay form ms place d = refuse_if_okay (is_too_long form d) _ _ (formed form ms d) (formed_okay form ms place d)

-- ---- the properties of an element

abbrev pub value_from : Form → Presence → Members → Option Data → Option Prop
value_from form presence ms None = Some (absent_value form presence)
value_from form presence ms (Some d) = taken form ms d

abbrev pub value_here : Members → Row → Option Prop
value_here ms row = value_from row.form row.presence ms (get_member row.name ms)

abbrev pub values : Members → List Row → Option (List NamedValue)
values ms [] = Some []
values ms (row ∷ rows) = option_and_then (λ p. option_and_then (λ ps. Some ((row.name holds p) ∷ ps)) (values ms rows)) (value_here ms row)

property_okay : (places : List ℕ) (ms : Members) (row : Row) (o : Option Data) → okay (property_of places ms row o) ≡ value_from row.form row.presence ms o
property_okay places ms row None = refl
property_okay places ms row (Some d) = given_okay row.form ms (prop_at places row.name) d

properties_okay : (places : List ℕ) (ms : Members) (rows : List Row) → okay (properties places ms rows) ≡ values ms rows
unfolding properties property
properties_okay places ms [] = refl
properties_okay places ms (row ∷ rows) =
    okay_bind (property places ms row) _ (value_here ms row) (λ p. option_and_then (λ ps. Some ((row.name holds p) ∷ ps)) (values ms rows)) (property_okay places ms row (get_member row.name ms))
    (λ p. okay_bind (properties places ms rows) (λ ps. over ((row.name holds p) ∷ ps)) (values ms rows) (λ ps. Some ((row.name holds p) ∷ ps)) (properties_okay places ms rows) (λ ps. refl))

-- what an element's properties are read as
pub record Taken (ms : Members) (rows : List Row) (ps : List NamedValue) : Type 0 where
  pub known : unknown rows ms ≡ None
  pub there : missing ms rows ≡ None
  pub read : values ms rows ≡ Some ps

own_of : (places : List ℕ) (f g : Place → BuildError) (o p : Option (List ℕ)) (r : Reads (List NamedValue)) (v : Option (List NamedValue)) (ps : List NamedValue) → okay r ≡ v
    → okay (no_name f places o >>= (λ t. no_name g places p >>= (λ u. r))) ≡ Some ps → (o ≡ None) × (p ≡ None) × (v ≡ Some ps)
own_of places f g None None r v ps is h = (refl, refl, sym is ∙ h)
own_of places f g None (Some n) r v ps is h = cc
own_of places f g (Some n) p r v ps is h = cc

pub taken_from : (places : List ℕ) (ms : Members) (rows : List Row) (ps : List NamedValue) → outcome (own_properties places ms rows) ≡ Ok ps → Taken ms rows ps
unfolding own_properties
taken_from places ms rows ps h =
    let parts = own_of places errors.BadProp errors.MissingProp (unknown rows ms) (missing ms rows) (properties places ms rows) (values ms rows) ps (properties_okay places ms rows) (okay_from (own_properties places ms rows) ps h) in
    record { known = parts.0; there = parts.1; read = parts.2 }

pub taken_to : (places : List ℕ) (ms : Members) (rows : List Row) (ps : List NamedValue) → Taken ms rows ps → outcome (own_properties places ms rows) ≡ Ok ps
unfolding own_properties
taken_to places ms rows ps t = rw (t.known, t.there) (okay_to (properties places ms rows) ps (properties_okay places ms rows ∙ t.read))
