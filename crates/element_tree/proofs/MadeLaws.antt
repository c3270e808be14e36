-- Properties that fit the rows of a type make a kind of it, whose properties they are.
use Rattle.std.proofs.Common.{◌≡◌, ℕ, ◌-◌, ◌^◌, Bool, true, false, ◌&&◌, List, [], ◌∷◌, ◌++◌, Option, Some, None, refl, sym, ap, ◌∙◌, subst, append_assoc, append-nil, true≢false, arith, nat_lt, nat_le, map, ℤ, pos, negsuc, codes}
use Rattle.std.proofs.lemmas.Bool.Decides.{nat_tests}
use Rattle.template_text.specs.Pieces.{Pieces}
use Rattle.element_props.specs.declared.prop.Pair.{Pair}
use Rattle.element_props.specs.ChoiceTexts.{on_error_word, on_errors, field_word, fields, method_word, methods, at_end_word, at_ends, share_word, shares, test_word, tests, comparison_word, comparisons}
use Rattle.element_props.proofs.ChoiceLaws.{choice_takes}
use Rattle.element_props.specs.NamedProps.{NamedValue, ◌holds◌}
use Rattle.element_props.specs.FormRows.{template, plain, filled, lock, whole, up_to, flag, choice, pattern, test_patterns, pairs, replies, texts, csv, json_path, largest, Presence, required, optional, text_default, number_default, truth_default, first_choice, no_pairs, Row, ◌is◌otherwise◌}
use Rattle.element_props.specs.declared.prop.Prop.{Prop}
use Rattle.element_props.specs.declared.prop.Prop.TheVariants.{Absent, Template, Text, Number, Truth, Word, Pattern, Pairs, Replies, Texts, Patterns}
use Rattle.jm_base.specs.declared.types.ScriptReply.{ScriptReply}
use Rattle.element_tree.specs.declared.kinds.Kind.{Kind}
use Rattle.element_tree.specs.declared.kinds.Kind.TheVariants as kinds
use Rattle.element_tree.specs.declared.kinds.Assertion.TheVariants.{Response, Duration, Size}
use Rattle.element_tree.specs.declared.kinds.Loops.{Loops}
use Rattle.element_tree.specs.declared.kinds.Loops.TheVariants.{Forever, Times}
use Rattle.element_props.specs.declared.choices.Field.{Field}
use Rattle.element_tree.specs.declared.types.ElementType.{ElementType}
use Rattle.element_tree.specs.declared.types.ElementType.TheVariants as types
use Rattle.element_tree.specs.Types.{type_of}
use Rattle.element_tree.specs.Table.{rows}
use Rattle.element_tree.specs.Kinds.{Tried, template_in, text_in, maybe_in, number_in, signed_in, loops_in, truth_in, pattern_in, pairs_in, texts_in, replies_in, maybe_replies_in, patterns_in, choice_in, kind_of, ◌>>=◌}
use Rattle.element_tree.specs.Values.{maybe, maybe_replies, loops_number, values_of}
use Rattle.element_tree.specs.Fits.{FitsForm, FitsRow, FitsAll, is_optional}
use Rattle.element_tree.proofs.Outcomes.{both}

-- the value of the first property, which has the name of the row, and the others
record Taken (row : Row) (rows : List Row) (ps : List NamedValue) : Type 0 where
  p : Prop
  rest : List NamedValue
  same : ps ≡ (row.name holds p) ∷ rest
  fits : FitsRow row p
  later : FitsAll rows rest

take_one : (row : Row) (rows : List Row) (ps : List NamedValue) → FitsAll (row ∷ rows) ps → Taken row rows ps
take_one row rows [] f = absurd f
take_one row rows (p ∷ ps) f = record { p = p.value; rest = ps; same = ap (λ n. (n holds p.value) ∷ ps) f.0; fits = f.1; later = f.2 }

take_none : (ps : List NamedValue) → FitsAll [] ps → ps ≡ []
take_none [] f = refl
take_none (p ∷ ps) f = absurd f

solid : (row : Row) (p : Prop) → is_optional row.presence ≡ false → FitsRow row p → FitsForm row.form p
solid row Absent h f = absurd (true≢false (sym f ∙ h))
solid row p h f = f

-- ---- one value as the field's type, and the value again

template_takes : (p : Prop) → FitsForm template p → (v : Pieces) × (template_in p ≡ Some v) × (Template v ≡ p)
template_takes (Template s) f = (s, refl, refl)
template_takes p f = absurd f

plain_takes : (p : Prop) → FitsForm plain p → (v : List ℕ) × (text_in p ≡ Some v) × (Text v ≡ p)
plain_takes (Text s) f = (s, refl, refl)
plain_takes p f = absurd f

filled_takes : (p : Prop) → FitsForm filled p → (v : List ℕ) × (text_in p ≡ Some v) × (Text v ≡ p)
filled_takes (Text s) f = (s, refl, refl)
filled_takes p f = absurd f

lock_takes : (p : Prop) → FitsForm lock p → (v : List ℕ) × (text_in p ≡ Some v) × (Text v ≡ p)
lock_takes (Text s) f = (s, refl, refl)
lock_takes p f = absurd f

csv_takes : (names : List ℕ) (p : Prop) → FitsForm (csv names) p → (v : List ℕ) × (text_in p ≡ Some v) × (Text v ≡ p)
csv_takes names (Text s) f = (s, refl, refl)
csv_takes names p f = absurd f

path_takes : (p : Prop) → FitsForm json_path p → (v : List ℕ) × (text_in p ≡ Some v) × (Text v ≡ p)
path_takes (Text s) f = (s, refl, refl)
path_takes p f = absurd f

truth_takes : (p : Prop) → FitsForm flag p → (v : Bool) × (truth_in p ≡ Some v) × (Truth v ≡ p)
truth_takes (Truth s) f = (s, refl, refl)
truth_takes p f = absurd f

pattern_takes : (p : Prop) → FitsForm pattern p → (v : List ℕ) × (pattern_in p ≡ Some v) × (Pattern v ≡ p)
pattern_takes (Pattern s) f = (s, refl, refl)
pattern_takes p f = absurd f

pairs_takes : (p : Prop) → FitsForm pairs p → (v : List Pair) × (pairs_in p ≡ Some v) × (Pairs v ≡ p)
pairs_takes (Pairs s) f = (s, refl, refl)
pairs_takes p f = absurd f

texts_takes : (p : Prop) → FitsForm texts p → (v : List (List ℕ)) × (texts_in p ≡ Some v) × (Texts v ≡ p)
texts_takes (Texts s) f = (s, refl, refl)
texts_takes p f = absurd f

replies_takes : (p : Prop) → FitsForm replies p → (v : List ScriptReply) × (replies_in p ≡ Some v) × (Replies v ≡ p)
replies_takes (Replies s) f = (s, refl, refl)
replies_takes p f = absurd f

patterns_takes : (p : Prop) → FitsForm test_patterns p → (v : Tried) × (patterns_in p ≡ Some v) × (Patterns v.0 v.1 v.2 ≡ p)
patterns_takes (Patterns a b c) f = ((a, b, c), refl, refl)
patterns_takes p f = absurd f

maybe_takes : (name : List ℕ) (p : Prop) → FitsRow (record { name = name; form = plain; presence = optional }) p → (v : Option (List ℕ)) × (maybe_in p ≡ Some v) × (maybe v ≡ p)
maybe_takes name Absent f = (None, refl, refl)
maybe_takes name (Text s) f = (Some s, refl, refl)
maybe_takes name p f = absurd f

maybe_replies_takes : (name : List ℕ) (p : Prop) → FitsRow (record { name = name; form = replies; presence = optional }) p → (v : Option (List ScriptReply)) × (maybe_replies_in p ≡ Some v) × (maybe_replies v ≡ p)
maybe_replies_takes name Absent f = (None, refl, refl)
maybe_replies_takes name (Replies rs) f = (Some rs, refl, refl)
maybe_replies_takes name p f = absurd f

low_enough : (n high bound : ℕ) → nat_le n high ≡ true → nat_lt high bound ≡ true → nat_lt n bound ≡ true
low_enough n high bound h k = grind (arith, nat_tests)

whole_takes : (low high bound : ℕ) (p : Prop) → nat_lt high bound ≡ true → FitsForm (whole (pos low) (pos high)) p → (v : ℕ) × (number_in bound p ≡ Some v) × (Number (pos v) ≡ p)
whole_takes low high bound (Number (pos n)) h f = let e = low_enough n high bound (both (nat_le low n) (nat_le n high) f).1 h in (n, rw e refl, refl)
whole_takes low high bound (Number (negsuc n)) h f = absurd (true≢false (sym f))
whole_takes low high bound p h f = absurd f

up_to_takes : (name : List ℕ) (bound : ℕ) (p : Prop) → nat_lt (2 ^ 63 - 1) bound ≡ true → FitsForm (up_to name) p → (v : ℕ) × (number_in bound p ≡ Some v) × (Number (pos v) ≡ p)
up_to_takes name bound (Number (pos n)) h f = let e = low_enough n (2 ^ 63 - 1) bound (both (nat_le 0 n) (nat_le n (2 ^ 63 - 1)) f).1 h in (n, rw e refl, refl)
up_to_takes name bound (Number (negsuc n)) h f = absurd (true≢false (sym f))
up_to_takes name bound p h f = absurd f

least : (n : ℕ) (b : Bool) → (nat_le n 0 && b) ≡ true → n ≡ 0
least n b h = let c = (both (nat_le n 0) b h).0 in grind (arith, nat_tests)

signed_takes : (high : ℕ) (p : Prop) → nat_lt high (2 ^ 31) ≡ true → FitsForm (whole (negsuc 0) (pos high)) p → (v : ℤ) × (signed_in p ≡ Some v) × (Number v ≡ p)
signed_takes high (Number (pos n)) h f = let e = low_enough n high (2 ^ 31) f h in (pos n, rw e refl, refl)
signed_takes high (Number (negsuc n)) h f = let e = least n _ f in (negsuc n, rw e refl, refl)
signed_takes high p h f = absurd f

loops_takes : (high : ℕ) (p : Prop) → nat_lt high (2 ^ 32) ≡ true → FitsForm (whole (negsuc 0) (pos high)) p → (v : Loops) × (loops_in p ≡ Some v) × (Number (loops_number v) ≡ p)
loops_takes high (Number (pos n)) h f = let e = low_enough n high (2 ^ 32) f h in (Times n, rw e refl, refl)
loops_takes high (Number (negsuc n)) h f = let e = least n _ f in (Forever, refl, ap (λ (m : ℕ). Number (negsuc m)) (sym e))
loops_takes high p h f = absurd f

choice_fits : {C : Type 0} (word : C → List ℕ) (all : List C) (p : Prop) → FitsForm (choice (map word all)) p → (v : C) × (choice_in word all p ≡ Some v) × (Word (word v) ≡ p)
choice_fits word all (Word text) f = let c = choice_takes word text all f in (c.0, c.1, ap Word c.2)
choice_fits word all p f = absurd f

-- ---- one property after another

-- a property: its row, how its value is read and given, and that each value that fits the row is read and given again
record Property (A : Type 0) : Type 0 where
  row : Row
  reads : Prop → Option A
  gives : A → Prop
  takes : (p : Prop) → FitsRow row p → (v : A) × (reads p ≡ Some v) × (gives v ≡ p)

-- the kind of this type that is made of these properties, whose properties they are, after those before them
pub record Made (t : ElementType) (make : List NamedValue → Option Kind) (before ps : List NamedValue) : Type 0 where
  pub kind : Kind
  pub made : make ps ≡ Some kind
  pub values : values_of kind ≡ before ++ ps
  pub of_type : type_of kind ≡ t

-- a kind is made of all properties that fit these rows
record Makes (t : ElementType) (rows : List Row) (make : List NamedValue → Option Kind) (before : List NamedValue) : Type 0 where
  of : (ps : List NamedValue) → FitsAll rows ps → Made t make before ps

-- no row is left
done : {t : ElementType} {make : List NamedValue → Option Kind} {before : List NamedValue} (kind : Kind) → make [] ≡ Some kind → values_of kind ≡ before → type_of kind ≡ t → Makes t [] make before
done {t} {make} {before} kind made values of_type = record {
  of = λ ps f. subst (Made t make before) (sym (take_none ps f)) (record { kind = kind; made = made; values = values ∙ sym (append-nil before); of_type = of_type });
}

-- the next row is that of this property, of whose value the others make the kind
next : {A : Type 0} {t : ElementType} {rows : List Row} {make : List NamedValue → Option Kind} {before : List NamedValue} {later : A → List NamedValue → Option Kind} (a : Property A)
    → ((p : Prop) (ps : List NamedValue) → make ((a.row.name holds p) ∷ ps) ≡ (a.reads p >>= λ x. later x ps))
    → ((x : A) → Makes t rows (later x) (before ++ (a.row.name holds a.gives x) ∷ []))
    → Makes t (a.row ∷ rows) make before
next {A} {t} {rows} {make} {before} {later} a reads others = record {
  of = λ ps f.
      let i = take_one a.row rows ps f in
      let x = a.takes i.p i.fits in
      let m = (others x.0).of i.rest i.later in
      subst (Made t make before) (sym i.same) (record {
        kind = m.kind;
        made = reads i.p i.rest ∙ ap (λ o. o >>= λ x. later x i.rest) x.1 ∙ m.made;
        values = m.values ∙ append_assoc before ((a.row.name holds a.gives x.0) ∷ []) i.rest ∙ ap (λ v. before ++ (a.row.name holds v) ∷ i.rest) x.2;
        of_type = m.of_type;
      });
}

-- ---- properties by their forms

-- one that has always a value
abbrev given : {A : Type 0} (row : Row) (reads : Prop → Option A) (gives : A → Prop) → is_optional row.presence ≡ false → ((p : Prop) → FitsForm row.form p → (v : A) × (reads p ≡ Some v) × (gives v ≡ p)) → Property A
given row reads gives always takes = record { row = row; reads = reads; gives = gives; takes = λ p f. takes p (solid row p always f) }

-- a whole number from 0
abbrev number : (name : List ℕ) (low high bound : ℕ) (presence : Presence) → is_optional presence ≡ false → nat_lt high bound ≡ true → Property ℕ
number name low high bound presence always small = given (name is whole (pos low) (pos high) otherwise presence) (number_in bound) (λ n. Number (pos n)) always (λ p f. whole_takes low high bound p small f)

-- one of the values of a choice
abbrev one_of : {C : Type 0} (name : List ℕ) (word : C → List ℕ) (all : List C) (presence : Presence) → is_optional presence ≡ false → Property C
one_of name word all presence always = given (name is choice (map word all) otherwise presence) (choice_in word all) (λ x. Word (word x)) always (choice_fits word all)

-- the number of a match
abbrev match_number : Property ℤ
match_number = given (codes "match" is whole (negsuc 0) (pos 65536) otherwise number_default (pos 1)) signed_in Number refl (λ p f. signed_takes 65536 p refl f)

abbrev a_template : (name : List ℕ) (presence : Presence) → is_optional presence ≡ false → Property Pieces
a_template name presence always = given (name is template otherwise presence) template_in Template always template_takes

abbrev filled_text : (name : List ℕ) → Property (List ℕ)
filled_text name = given (name is filled otherwise required) text_in Text refl filled_takes

abbrev plain_text : (name : List ℕ) (presence : Presence) → is_optional presence ≡ false → Property (List ℕ)
plain_text name presence always = given (name is plain otherwise presence) text_in Text always plain_takes

abbrev truth : (name : List ℕ) (default : Bool) → Property Bool
truth name default = given (name is flag otherwise truth_default default) truth_in Truth refl truth_takes

abbrev some_pairs : (name : List ℕ) (presence : Presence) → is_optional presence ≡ false → Property (List Pair)
some_pairs name presence always = given (name is pairs otherwise presence) pairs_in Pairs always pairs_takes

abbrev default_text : Property (Option (List ℕ))
default_text = record { row = codes "default" is plain otherwise optional; reads = maybe_in; gives = maybe; takes = maybe_takes (codes "default") }

abbrev reply_field : Property Field
reply_field = one_of (codes "field") field_word fields first_choice refl

-- ---- each type

makes : (version : ℕ) (t : ElementType) → Makes t (rows version t) (kind_of t) []
unfolding kind_of
makes version types.TestPlan =
    next (number (codes "version") 1 1 (2 ^ 8) (number_default (pos 1)) refl refl) (λ p ps. refl) (λ version.
    done (kinds.TestPlan version) refl refl refl)
makes version types.ThreadGroup =
    next (given (codes "loops" is whole (negsuc 0) (pos 2147483647) otherwise number_default (pos 1)) loops_in (λ v. Number (loops_number v)) refl (λ p f. loops_takes 2147483647 p refl f)) (λ p ps. refl) (λ loops.
    next (one_of (codes "onError") on_error_word on_errors first_choice refl) (λ p ps. refl) (λ on_error.
    next (number (codes "rampMs") 0 86400000 (2 ^ 32) (number_default (pos 0)) refl refl) (λ p ps. refl) (λ ramp_ms.
    next (number (codes "threads") 1 64 (2 ^ 16) (number_default (pos 1)) refl refl) (λ p ps. refl) (λ threads.
    done (kinds.ThreadGroup loops on_error ramp_ms threads) refl refl refl))))
makes version types.Simple = done kinds.Simple refl refl refl
makes version types.OnceOnly = done kinds.OnceOnly refl refl refl
makes version types.Interleave = done kinds.Interleave refl refl refl
makes version types.Random = done kinds.Random refl refl refl
makes version types.RandomOrder = done kinds.RandomOrder refl refl refl
makes version types.Transaction = done kinds.Transaction refl refl refl
makes version types.Loop =
    next (a_template (codes "loops") (text_default (codes "1")) refl) (λ p ps. refl) (λ loops.
    done (kinds.Loop loops) refl refl refl)
makes version types.If =
    next (truth (codes "all") false) (λ p ps. refl) (λ all.
    next (a_template (codes "condition") required refl) (λ p ps. refl) (λ condition.
    done (kinds.If all condition) refl refl refl))
makes version types.While =
    next (a_template (codes "condition") (text_default []) refl) (λ p ps. refl) (λ condition.
    done (kinds.While condition) refl refl refl)
makes version types.Switch =
    next (a_template (codes "value") (text_default []) refl) (λ p ps. refl) (λ value.
    done (kinds.Switch value) refl refl refl)
makes version types.ForEach =
    next (number (codes "end") 0 4294967295 (2 ^ 32) (number_default (pos 4294967295)) refl refl) (λ p ps. refl) (λ end.
    next (filled_text (codes "input")) (λ p ps. refl) (λ input.
    next (filled_text (codes "output")) (λ p ps. refl) (λ output.
    next (truth (codes "separator") true) (λ p ps. refl) (λ separator.
    next (number (codes "start") 0 4294967295 (2 ^ 32) (number_default (pos 0)) refl refl) (λ p ps. refl) (λ start.
    done (kinds.ForEach end input output separator start) refl refl refl)))))
makes version types.CriticalSection =
    next (given (codes "lock" is lock otherwise required) text_in Text refl lock_takes) (λ p ps. refl) (λ lock_text.
    done (kinds.CriticalSection lock_text) refl refl refl)
makes version types.Script =
    next (given (codes "replies" is replies otherwise required) replies_in Replies refl replies_takes) (λ p ps. refl) (λ given_replies.
    next (a_template (codes "request") (text_default []) refl) (λ p ps. refl) (λ request.
    done (kinds.Script given_replies request) refl refl refl))
makes version types.Http =
    next (a_template (codes "body") (text_default []) refl) (λ p ps. refl) (λ body.
    next (a_template (codes "host") (text_default []) refl) (λ p ps. refl) (λ host.
    next (one_of (codes "method") method_word methods first_choice refl) (λ p ps. refl) (λ method.
    next (some_pairs (codes "params") no_pairs refl) (λ p ps. refl) (λ params.
    next (a_template (codes "path") (text_default []) refl) (λ p ps. refl) (λ path.
    next (a_template (codes "port") (text_default []) refl) (λ p ps. refl) (λ port.
    next (record { row = codes "replies" is replies otherwise optional; reads = maybe_replies_in; gives = maybe_replies; takes = maybe_replies_takes (codes "replies") }) (λ p ps. refl) (λ own_replies.
    done (kinds.Http body host method params path port own_replies) refl refl refl)))))))
makes version types.UserVariables =
    next (some_pairs (codes "vars") required refl) (λ p ps. refl) (λ vars.
    done (kinds.UserVariables vars) refl refl refl)
makes version types.HttpDefaults =
    next (a_template (codes "host") (text_default []) refl) (λ p ps. refl) (λ host.
    next (a_template (codes "path") (text_default []) refl) (λ p ps. refl) (λ path.
    next (a_template (codes "port") (text_default []) refl) (λ p ps. refl) (λ port.
    done (kinds.HttpDefaults host path port) refl refl refl)))
makes version types.HeaderManager =
    next (some_pairs (codes "headers") required refl) (λ p ps. refl) (λ headers.
    done (kinds.HeaderManager headers) refl refl refl)
makes version types.Counter =
    next (number (codes "increment") 0 (2 ^ 63 - 1) (2 ^ 64) (number_default (pos 0)) refl refl) (λ p ps. refl) (λ increment.
    next (number (codes "maximum") 0 (2 ^ 63 - 1) (2 ^ 64) (number_default largest) refl refl) (λ p ps. refl) (λ maximum.
    next (given (codes "start" is up_to (codes "maximum") otherwise number_default (pos 0)) (number_in (2 ^ 64)) (λ n. Number (pos n)) refl (λ p f. up_to_takes (codes "maximum") (2 ^ 64) p refl f)) (λ p ps. refl) (λ start.
    next (plain_text (codes "var") required refl) (λ p ps. refl) (λ var.
    done (kinds.Counter increment maximum start var) refl refl refl))))
makes version types.DataSet =
    next (one_of (codes "atEnd") at_end_word at_ends first_choice refl) (λ p ps. refl) (λ at_end.
    next (given (codes "names" is texts otherwise required) texts_in Texts refl texts_takes) (λ p ps. refl) (λ names.
    next (one_of (codes "share") share_word shares required refl) (λ p ps. refl) (λ share.
    next (given (codes "text" is csv (codes "names") otherwise required) text_in Text refl (csv_takes (codes "names"))) (λ p ps. refl) (λ text.
    done (kinds.DataSet at_end names share text) refl refl refl))))
makes version types.UserParameters =
    next (some_pairs (codes "vars") required refl) (λ p ps. refl) (λ vars.
    done (kinds.UserParameters vars) refl refl refl)
makes version types.ConstantTimer =
    next (a_template (codes "delay") (text_default (codes "0")) refl) (λ p ps. refl) (λ delay.
    done (kinds.ConstantTimer delay) refl refl refl)
makes version types.UniformTimer =
    next (a_template (codes "offset") (text_default (codes "0")) refl) (λ p ps. refl) (λ offset.
    next (a_template (codes "range") (text_default (codes "0")) refl) (λ p ps. refl) (λ range.
    done (kinds.UniformTimer offset range) refl refl refl))
makes version types.RegexExtractor =
    next default_text (λ p ps. refl) (λ default.
    next reply_field (λ p ps. refl) (λ field.
    next match_number (λ p ps. refl) (λ match_.
    next (given (codes "pattern" is pattern otherwise required) pattern_in Pattern refl pattern_takes) (λ p ps. refl) (λ expression.
    next (filled_text (codes "ref")) (λ p ps. refl) (λ ref_.
    next (plain_text (codes "template") (text_default (codes "$1$")) refl) (λ p ps. refl) (λ shape.
    done (kinds.RegexExtractor (record { default = default; field = field; match_ = match_; pattern = expression; ref_ = ref_; template = shape })) refl refl refl))))))
makes version types.JsonExtractor =
    next default_text (λ p ps. refl) (λ default.
    next match_number (λ p ps. refl) (λ match_.
    next (given (codes "path" is json_path otherwise required) text_in Text refl path_takes) (λ p ps. refl) (λ path.
    next (filled_text (codes "ref")) (λ p ps. refl) (λ ref_.
    done (kinds.JsonExtractor (record { default = default; match_ = match_; path = path; ref_ = ref_ })) refl refl refl))))
makes version types.BoundaryExtractor =
    next default_text (λ p ps. refl) (λ default.
    next reply_field (λ p ps. refl) (λ field.
    next (filled_text (codes "left")) (λ p ps. refl) (λ left.
    next match_number (λ p ps. refl) (λ match_.
    next (filled_text (codes "ref")) (λ p ps. refl) (λ ref_.
    next (filled_text (codes "right")) (λ p ps. refl) (λ right.
    done (kinds.BoundaryExtractor (record { default = default; field = field; left = left; match_ = match_; ref_ = ref_; right = right })) refl refl refl))))))
makes version types.ResponseAssertion =
    next reply_field (λ p ps. refl) (λ field.
    next (truth (codes "ignoreStatus") false) (λ p ps. refl) (λ ignore_status.
    next (truth (codes "not") false) (λ p ps. refl) (λ not.
    next (truth (codes "or") false) (λ p ps. refl) (λ or.
    next (given (codes "patterns" is test_patterns otherwise required) patterns_in (λ v. Patterns v.0 v.1 v.2) refl patterns_takes) (λ p ps. refl) (λ patterns.
    next (one_of (codes "test") test_word tests required refl) (λ p ps. refl) (λ test.
    done (kinds.ResponseAssertion (Response field ignore_status not or patterns.0 patterns.1 test patterns.2)) refl refl refl))))))
makes version types.DurationAssertion =
    next (number (codes "ms") 0 4294967295 (2 ^ 32) required refl refl) (λ p ps. refl) (λ ms.
    done (kinds.DurationAssertion (Duration ms)) refl refl refl)
makes version types.SizeAssertion =
    next (one_of (codes "op") comparison_word comparisons required refl) (λ p ps. refl) (λ op.
    next (number (codes "size") 0 4294967295 (2 ^ 32) required refl refl) (λ p ps. refl) (λ size.
    done (kinds.SizeAssertion (Size op size)) refl refl refl))
makes version types.Listener = done kinds.Listener refl refl refl

pub kind_made : (version : ℕ) (t : ElementType) (ps : List NamedValue) → FitsAll (rows version t) ps → Made t (kind_of t) [] ps
kind_made version t ps f = (makes version t).of ps f
