-- What is written for an element and for those below it.
use Rattle.std.proofs.Common.{◌≡◌, ℕ, zero, suc, ◌-◌, ◌<◌, ◌≤◌, Bool, true, false, ◌||◌, List, [], ◌∷◌, length, take, map, Option, Some, None, Ordering, Less, Equal, Greater, refl, sym, ap, ap₂, ◌∙◌, subst, true≢false, arith, pos, negsuc, slice_get, not, nat_eq, bytes_eq, codes}
use Rattle.std.proofs.lemmas.List.{take_all}
use Rattle.std.specs.List.{AllByRecursion}
use Rattle.std.specs.Ordering.{nat_cmp, match_ordering}
use Rattle.std.specs.Cmp.Lexicographic.{slice_cmp}
use Rattle.std.specs.Str.Lossy.{utf8_lossy}
use Rattle.jm_base.specs.declared.types.ScriptReply.{ScriptReply}
use Rattle.serde_json.specs.Data.{Data, boolean, number, unsigned, Items, item, Members, no_members, member, put}
use Rattle.serde_json.specs.View as json
use Rattle.serde_json.specs.View.{view, items_view}
use Rattle.serde_json.specs.Written.{compact_text, has_float, items_have_float, members_have_float}
use Rattle.serde_json.specs.declared.value.Value.{Value}
use Rattle.plan_json.specs.Shape.{Raw}
use Rattle.element_props.specs.NamedProps.{NamedValue}
use Rattle.element_props.specs.declared.prop.Prop.{Prop}
use Rattle.element_props.specs.declared.prop.Prop.TheVariants.{Absent, Template, Text, Number, Truth, Word, Pattern, Pairs, Replies, Texts, Patterns}
use Rattle.element_props.specs.FormRows.{Row}
use Rattle.element_props.specs.PropertiesWritten.{text_data, with_entry, unless, reply_members, pair_data, reply_data, items_by, value_data, is_default, entry, written}
use Rattle.element_tree.specs.declared.kinds.Element.{Element}
use Rattle.element_tree.specs.Table.{rows, type_name}
use Rattle.element_tree.specs.Types.{type_of}
use Rattle.element_tree.specs.Values.{values_of}
use Rattle.element_tree.specs.Tree.{Tree, Nests}
use Rattle.element_tree.specs.PlanWritten.{data_of, items_of, five_keys, written_props, trees, tree_at, written_tree, plan_data, plan_text}

-- ---- the element of a number

pub never_absent : (depth : ℕ) (es : List Element) (n : ℕ) → Nests depth es n → None ≡ slice_get es n → ⊥
unfolding Nests
never_absent zero es n h none = h
never_absent (suc depth) es n h none = let there = h.1 in cc

pub is_deep : (depth : ℕ) (es : List Element) (n : ℕ) → Nests depth es n → 0 < depth
unfolding Nests
is_deep zero es n h = absurd h
is_deep (suc depth) es n h = omega arith

pub nest_below : (depth : ℕ) (es : List Element) (n : ℕ) (e : Element) → Nests depth es n → Some e ≡ slice_get es n → AllByRecursion (Nests (depth - 1) es) e.children
unfolding Nests
nest_below zero es n e h found = absurd h
nest_below (suc depth) es n e h found =
    let P : Element → Type 0 = λ x. AllByRecursion (Nests (suc depth - 1) es) x.children in
    let Q : ℕ → Type 0 = λ d. AllByRecursion (Nests d es) h.0.children in
    let same : h.0 ≡ e = (let there = h.1 in cc) in
    let less : depth ≡ suc depth - 1 = omega arith in
    subst P same (subst Q less h.2)

pub nests_same : (depth : ℕ) (es fs : List Element) (n : ℕ) → es ≡ fs → Nests depth fs n → Nests depth es n
nests_same depth es fs n e h = let P : List Element → Type 0 = λ xs. Nests depth xs n in subst P (sym e) h

-- ---- what is written of it

items_written : (below : ℕ → Raw) (ns : List ℕ) → json.items_of (map (λ n. data_of (below n)) ns) ≡ items_of (trees below ns)
items_written below [] = refl
items_written below (n ∷ ns) = ap (λ (ds : Items). item (data_of (below n)) ds) (items_written below ns)

pub tree_written : (depth version n : ℕ) (es : List Element) (e : Element) (vs : List Value) (cs : List ℕ) (i : ℕ) → 0 < depth → slice_get es n ≡ Some e → cs ≡ e.children → length cs ≤ i
    → map view vs ≡ map (λ m. data_of (written_tree (depth - 1) (record { version = version; elements = es }) m)) (take i cs)
    → five_keys (type_name (type_of e.kind)) (utf8_lossy e.name) true (written_props version e.kind) (items_view vs) ≡ data_of (written_tree depth (record { version = version; elements = es }) n)
unfolding written_tree
tree_written zero version n es e vs cs i deep found is all kept = absurd (omega arith)
tree_written (suc depth) version n es e vs cs i deep found is all kept =
    let plan : Tree = record { version = version; elements = es } in
    let less : suc depth - 1 ≡ depth = omega arith in
    let seen : map view vs ≡ map (λ m. data_of (written_tree depth plan m)) e.children =
    kept ∙ ap₂ (λ (d : ℕ) (ns : List ℕ). map (λ m. data_of (written_tree d plan m)) ns) less (take_all i cs all ∙ is) in
    rw found (ap (five_keys (type_name (type_of e.kind)) (utf8_lossy e.name) true (written_props version e.kind)) (ap json.items_of seen ∙ items_written (written_tree depth plan) e.children))

-- ---- no number that is written is a float

or_false : (a b : Bool) → (a || b) ≡ false → (a ≡ false) × (b ≡ false)
or_false false b h = (refl, h)
or_false true b h = absurd (true≢false h)

nor : (a b : Bool) → a ≡ false → b ≡ false → (a || b) ≡ false
nor a b h k = rw (h, k) refl

put_exact : (k : List ℕ) (d : Data) (ms : Members) → has_float d ≡ false → members_have_float ms ≡ false → members_have_float (put k d ms) ≡ false
put_exact k d no_members h g = nor (has_float d) false h refl
put_exact k d (member l e ms) h g =
    let p = or_false (has_float e) (members_have_float ms) g in
    at (slice_cmp nat_cmp k l) p.0 p.1 (put_exact k d ms h p.1) where
      at : (o : Ordering) → has_float e ≡ false → members_have_float ms ≡ false → members_have_float (put k d ms) ≡ false
          → members_have_float (match_ordering o (member k d (member l e ms)) (member l d ms) (member l e (put k d ms))) ≡ false
      at Less a b c = nor (has_float d) _ h (nor (has_float e) _ a b)
      at Equal a b c = nor (has_float d) _ h b
      at Greater a b c = nor (has_float e) _ a c

abbrev entry_has_float : Option Data → Bool
entry_has_float None = false
entry_has_float (Some d) = has_float d

with_exact : (name : List ℕ) (o : Option Data) (ms : Members) → entry_has_float o ≡ false → members_have_float ms ≡ false → members_have_float (with_entry name o ms) ≡ false
with_exact name None ms h g = g
with_exact name (Some d) ms h g = put_exact name d ms h g

unless_exact : (b : Bool) (d : Data) → has_float d ≡ false → entry_has_float (unless b d) ≡ false
unless_exact true d h = refl
unless_exact false d h = h

items_exact : {A : Type 0} (f : A → Data) → ((x : A) → has_float (f x) ≡ false) → (xs : List A) → items_have_float (items_by f xs) ≡ false
items_exact f h [] = refl
items_exact f h (x ∷ xs) = nor (has_float (f x)) _ (h x) (items_exact f h xs)

key_exact : (name : List ℕ) (b : Bool) (d : Data) (ms : Members) → has_float d ≡ false → members_have_float ms ≡ false → members_have_float (with_entry name (unless b d) ms) ≡ false
key_exact name b d ms h g = with_exact name (unless b d) ms (unless_exact b d h) g

reply_exact : (r : ScriptReply) → has_float (reply_data r) ≡ false
reply_exact r =
    let nulls = with_entry (codes "null") (unless (not r.null) (boolean true)) no_members in
    let null_ : members_have_float nulls ≡ false = key_exact (codes "null") (not r.null) (boolean true) no_members refl refl in
    let mss = with_entry (codes "ms") (unless (nat_eq r.ms 0) (number (unsigned r.ms))) nulls in
    let ms_ : members_have_float mss ≡ false = key_exact (codes "ms") (nat_eq r.ms 0) (number (unsigned r.ms)) nulls refl null_ in
    let messages = with_entry (codes "message") (unless (bytes_eq r.message (codes "OK")) (text_data r.message)) mss in
    let message_ : members_have_float messages ≡ false = key_exact (codes "message") (bytes_eq r.message (codes "OK")) (text_data r.message) mss refl ms_ in
    let headerss = with_entry (codes "headers") (unless (bytes_eq r.headers []) (text_data r.headers)) messages in
    let headers_ : members_have_float headerss ≡ false = key_exact (codes "headers") (bytes_eq r.headers []) (text_data r.headers) messages refl message_ in
    let faults = with_entry (codes "fault") (unless (not r.fault) (boolean true)) headerss in
    let fault_ : members_have_float faults ≡ false = key_exact (codes "fault") (not r.fault) (boolean true) headerss refl headers_ in
    let echos = with_entry (codes "echo") (unless (not r.echo) (boolean true)) faults in
    let echo_ : members_have_float echos ≡ false = key_exact (codes "echo") (not r.echo) (boolean true) faults refl fault_ in
    let codes_of = with_entry (codes "code") (unless (nat_eq r.code 200) (number (unsigned r.code))) echos in
    let code_ : members_have_float codes_of ≡ false = key_exact (codes "code") (nat_eq r.code 200) (number (unsigned r.code)) echos refl echo_ in
    key_exact (codes "body") (bytes_eq r.body []) (text_data r.body) codes_of refl code_

value_exact : (p : Prop) → has_float (value_data p) ≡ false
value_exact Absent = refl
value_exact (Template ps) = refl
value_exact (Text s) = refl
value_exact (Number (pos n)) = refl
value_exact (Number (negsuc n)) = refl
value_exact (Truth b) = refl
value_exact (Word w) = refl
value_exact (Pattern s) = refl
value_exact (Pairs ps) = items_exact pair_data (λ p. refl) ps
value_exact (Replies rs) = items_exact reply_data reply_exact rs
value_exact (Texts ss) = items_exact text_data (λ s. refl) ss
value_exact (Patterns ss regexes whole) = items_exact text_data (λ s. refl) ss

written_exact : (rs : List Row) (ps : List NamedValue) → members_have_float (written rs ps) ≡ false
written_exact [] ps = refl
written_exact (row ∷ rs) [] = refl
written_exact (row ∷ rs) (p ∷ ps) = with_exact p.name (entry row p.value) (written rs ps) (unless_exact (is_default row.form row.presence p.value) (value_data p.value) (value_exact p.value)) (written_exact rs ps)

trees_exact : (below : ℕ → Raw) → ((n : ℕ) → has_float (data_of (below n)) ≡ false) → (ns : List ℕ) → items_have_float (items_of (trees below ns)) ≡ false
trees_exact below h [] = refl
trees_exact below h (n ∷ ns) = nor (has_float (data_of (below n))) _ (h n) (trees_exact below h ns)

at_exact : (version : ℕ) (below : ℕ → Raw) → ((n : ℕ) → has_float (data_of (below n)) ≡ false) → (o : Option Element) → has_float (data_of (tree_at version below o)) ≡ false
at_exact version below h None = refl
at_exact version below h (Some e) = nor _ _ (trees_exact below h e.children) (nor _ false (written_exact (rows version (type_of e.kind)) (values_of e.kind)) refl)

pub tree_exact : (depth : ℕ) (plan : Tree) (n : ℕ) → has_float (data_of (written_tree depth plan n)) ≡ false
unfolding written_tree
tree_exact zero plan n = refl
tree_exact (suc depth) plan n = at_exact plan.version (written_tree depth plan) (tree_exact depth plan) (slice_get plan.elements n)

-- the text of a value that is the plan's tree is the plan's text
pub plan_written : (plan : Tree) (version : ℕ) (es : List Element) (d : Data) (text : List ℕ) → version ≡ plan.version → es ≡ plan.elements → d ≡ data_of (written_tree 32 (record { version = version; elements = es }) 0)
    → (has_float d ≡ false → text ≡ compact_text d) → text ≡ plan_text plan
unfolding plan_data
plan_written plan version es d text is are seen h =
    let same : d ≡ data_of (written_tree 32 plan 0) = seen ∙ ap₂ (λ (v : ℕ) (xs : List Element). data_of (written_tree 32 (record { version = v; elements = xs }) 0)) is are in
    h (ap has_float same ∙ tree_exact 32 plan 0) ∙ ap compact_text same
