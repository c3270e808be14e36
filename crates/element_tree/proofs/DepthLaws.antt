-- What is written of a plan nests few levels deep, so that its text is read back as the plan's tree.
use Rattle.std.proofs.Common.{◌≡◌, ℕ, zero, suc, ◌+◌, ◌*◌, ◌≤◌, max, Bool, true, false, not, List, [], ◌∷◌, Option, Some, None, Result, Ok, Ordering, Less, Equal, Greater, refl, sym, ap, ◌∙◌, subst, arith, slice_get, nat_eq, bytes_eq, codes, IsUtf8}
use Rattle.std.proofs.lemmas.Str.{is_utf8-from_IsUtf8}
use Rattle.std.specs.Ordering.{nat_cmp, match_ordering}
use Rattle.std.specs.Cmp.Lexicographic.{slice_cmp}
use Rattle.jm_base.specs.declared.types.ScriptReply.{ScriptReply}
use Rattle.serde_json.specs.Data.{Data, boolean, number, unsigned, Items, item, Members, no_members, member, put, depth, items_depth, members_depth}
use Rattle.serde_json.specs.Read.{read}
use Rattle.plan_json.specs.Shape.{Raw, reading_of}
use Rattle.element_props.specs.declared.prop.Pair.{Pair}
use Rattle.element_props.specs.NamedProps.{NamedValue}
use Rattle.element_props.specs.declared.prop.Prop.{Prop}
use Rattle.element_props.specs.declared.prop.Prop.TheVariants.{Absent, Template, Text, Number, Truth, Word, Pattern, Pairs, Replies, Texts, Patterns}
use Rattle.element_props.specs.FormRows.{Row}
use Rattle.element_props.specs.PropertiesWritten.{text_data, with_entry, unless, reply_members, pair_data, reply_data, items_by, value_data, is_default, entry, written}
use Rattle.element_tree.specs.declared.kinds.Element.{Element}
use Rattle.element_tree.specs.Table.{rows}
use Rattle.element_tree.specs.Types.{type_of}
use Rattle.element_tree.specs.Values.{values_of}
use Rattle.element_tree.specs.Tree.{Tree}
use Rattle.element_tree.specs.PlanWritten.{data_of, items_of, trees, tree_at, written_tree, plan_tree}
use Rattle.element_tree.proofs.AgainLaws.{shape_again}

both_within : (a b m : ℕ) → a ≤ m → b ≤ m → max a b ≤ m
both_within a b m h k = omega arith

first_within : (a b m : ℕ) → max a b ≤ m → a ≤ m
first_within a b m h = omega arith

rest_within : (a b m : ℕ) → max a b ≤ m → b ≤ m
rest_within a b m h = omega arith

put_within : (k : List ℕ) (d : Data) (ms : Members) (m : ℕ) → depth d ≤ m → members_depth ms ≤ m → members_depth (put k d ms) ≤ m
put_within k d no_members m h g = both_within (depth d) 0 m h g
put_within k d (member l e ms) m h g =
    let first = first_within (depth e) (members_depth ms) m g in
    let rest = rest_within (depth e) (members_depth ms) m g in
    at (slice_cmp nat_cmp k l) first rest (put_within k d ms m h rest) where
      at : (o : Ordering) → depth e ≤ m → members_depth ms ≤ m → members_depth (put k d ms) ≤ m
          → members_depth (match_ordering o (member k d (member l e ms)) (member l d ms) (member l e (put k d ms))) ≤ m
      at Less a b c = both_within (depth d) _ m h (both_within (depth e) _ m a b)
      at Equal a b c = both_within (depth d) _ m h b
      at Greater a b c = both_within (depth e) _ m a c

entry_within : (name : List ℕ) (b : Bool) (d : Data) (ms : Members) (m : ℕ) → depth d ≤ m → members_depth ms ≤ m → members_depth (with_entry name (unless b d) ms) ≤ m
entry_within name true d ms m h g = g
entry_within name false d ms m h g = put_within name d ms m h g

items_within : {A : Type 0} (f : A → Data) (m : ℕ) → ((x : A) → depth (f x) ≤ m) → (xs : List A) → items_depth (items_by f xs) ≤ m
items_within f m h [] = omega arith
items_within f m h (x ∷ xs) = both_within (depth (f x)) _ m (h x) (items_within f m h xs)

flat_reply : (r : ScriptReply) → members_depth (reply_members r) ≤ 0
flat_reply r =
    let none : members_depth no_members ≤ 0 = omega arith in
    let flat : 0 ≤ 0 = omega arith in
    let nulls = with_entry (codes "null") (unless (not r.null) (boolean true)) no_members in
    let null_ : members_depth nulls ≤ 0 = entry_within (codes "null") (not r.null) (boolean true) no_members 0 flat none in
    let pauses = with_entry (codes "ms") (unless (nat_eq r.ms 0) (number (unsigned r.ms))) nulls in
    let pause_ : members_depth pauses ≤ 0 = entry_within (codes "ms") (nat_eq r.ms 0) (number (unsigned r.ms)) nulls 0 flat null_ in
    let messages = with_entry (codes "message") (unless (bytes_eq r.message (codes "OK")) (text_data r.message)) pauses in
    let message_ : members_depth messages ≤ 0 = entry_within (codes "message") (bytes_eq r.message (codes "OK")) (text_data r.message) pauses 0 flat pause_ in
    let headers = with_entry (codes "headers") (unless (bytes_eq r.headers []) (text_data r.headers)) messages in
    let headers_ : members_depth headers ≤ 0 = entry_within (codes "headers") (bytes_eq r.headers []) (text_data r.headers) messages 0 flat message_ in
    let faults = with_entry (codes "fault") (unless (not r.fault) (boolean true)) headers in
    let fault_ : members_depth faults ≤ 0 = entry_within (codes "fault") (not r.fault) (boolean true) headers 0 flat headers_ in
    let echoes = with_entry (codes "echo") (unless (not r.echo) (boolean true)) faults in
    let echo_ : members_depth echoes ≤ 0 = entry_within (codes "echo") (not r.echo) (boolean true) faults 0 flat fault_ in
    let numbers = with_entry (codes "code") (unless (nat_eq r.code 200) (number (unsigned r.code))) echoes in
    let number_ : members_depth numbers ≤ 0 = entry_within (codes "code") (nat_eq r.code 200) (number (unsigned r.code)) echoes 0 flat echo_ in
    entry_within (codes "body") (bytes_eq r.body []) (text_data r.body) numbers 0 flat number_

flat_pair : (p : Pair) → depth (pair_data p) ≤ 1
flat_pair p = omega arith

under_object : (ms : Members) (m : ℕ) → members_depth ms ≤ m → suc (members_depth ms) ≤ suc m
under_object ms m h = omega arith

under_list : (ds : Items) (m : ℕ) → items_depth ds ≤ m → suc (items_depth ds) ≤ suc m
under_list ds m h = omega arith

value_within : (p : Prop) → depth (value_data p) ≤ 2
value_within Absent = omega arith
value_within (Template ps) = omega arith
value_within (Text s) = omega arith
value_within (Number z) = omega arith
value_within (Truth b) = omega arith
value_within (Word w) = omega arith
value_within (Pattern s) = omega arith
value_within (Pairs ps) = under_list (items_by pair_data ps) 1 (items_within pair_data 1 flat_pair ps)
value_within (Replies rs) = under_list (items_by reply_data rs) 1 (items_within reply_data 1 (λ r. under_object (reply_members r) 0 (flat_reply r)) rs)
value_within (Texts ss) = under_list (items_by text_data ss) 1 (items_within text_data 1 (λ s. omega arith) ss)
value_within (Patterns ss regexes whole) = under_list (items_by text_data ss) 1 (items_within text_data 1 (λ s. omega arith) ss)

written_within : (rs : List Row) (ps : List NamedValue) → members_depth (written rs ps) ≤ 2
written_within [] ps = omega arith
written_within (row ∷ rs) [] = omega arith
written_within (row ∷ rs) (p ∷ ps) = entry_within p.name (is_default row.form row.presence p.value) (value_data p.value) (written rs ps) 2 (value_within p.value) (written_within rs ps)

trees_within : (below : ℕ → Raw) (m : ℕ) → ((n : ℕ) → depth (data_of (below n)) ≤ m) → (ns : List ℕ) → items_depth (items_of (trees below ns)) ≤ m
trees_within below m h [] = omega arith
trees_within below m h (n ∷ ns) = both_within (depth (data_of (below n))) _ m (h n) (trees_within below m h ns)

-- an object of a list, three flat values and an object
keys_within : (children props m : ℕ) → children ≤ m → props ≤ 2 → 2 ≤ m → suc (max (suc children) (max 0 (max 0 (max (suc props) (max 0 0))))) ≤ m + 2
keys_within children props m h k low = omega arith

at_within : (version : ℕ) (below : ℕ → Raw) (m : ℕ) → 2 ≤ m → ((n : ℕ) → depth (data_of (below n)) ≤ m) → (o : Option Element) → depth (data_of (tree_at version below o)) ≤ m + 2
at_within version below m low h None = keys_within 0 0 m (omega arith) (omega arith) low
at_within version below m low h (Some e) =
    keys_within (items_depth (items_of (trees below e.children))) (members_depth (written (rows version (type_of e.kind)) (values_of e.kind))) m (trees_within below m h e.children)
    (written_within (rows version (type_of e.kind)) (values_of e.kind)) low

tree_within : (levels : ℕ) (plan : Tree) (n : ℕ) → depth (data_of (written_tree levels plan n)) ≤ 2 * levels + 2
unfolding written_tree
tree_within zero plan n = omega arith
tree_within (suc levels) plan n =
    let next = at_within plan.version (written_tree levels plan) (2 * levels + 2) (omega arith) (tree_within levels plan) (slice_get plan.elements n) in
    omega (arith, next)

-- a text that is read as the value that is written of a plan is read as the plan's tree
pub plan_read_back : (plan : Tree) (version : ℕ) (es : List Element) (d : Data) (text : List ℕ) → version ≡ plan.version → es ≡ plan.elements → d ≡ data_of (written_tree 32 (record { version = version; elements = es }) 0)
    → IsUtf8 text → (depth d ≤ 127 → read text ≡ Some d) → reading_of text ≡ Ok (plan_tree plan)
unfolding reading_of
plan_read_back plan version es d text is are seen utf8 back =
    let P : ℕ → Type 0 = λ v. d ≡ data_of (written_tree 32 (record { version = v; elements = es }) 0) in
    let Q : List Element → Type 0 = λ xs. d ≡ data_of (written_tree 32 (record { version = plan.version; elements = xs }) 0) in
    let same : d ≡ data_of (plan_tree plan) = subst Q are (subst P is seen) in
    let few : depth d ≤ 127 = (let k = tree_within 32 plan 0 in let e = ap depth same in omega (arith, k, e)) in
    let found : read text ≡ Some (data_of (plan_tree plan)) = back few ∙ ap Some same in
    rw (is_utf8-from_IsUtf8 text utf8, found) (shape_again [] (plan_tree plan))
