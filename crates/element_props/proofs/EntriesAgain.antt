-- Members that are written by their names are found under their names.
use Rattle.std.proofs.Common.{◌≡◌, ℕ, Bool, true, false, not, ◌||◌, ◌&&◌, List, [], ◌∷◌, Option, Some, None, Ordering, Less, Equal, Greater, refl, sym, ap, ◌∙◌, if◌then◌else◌, bytes_eq, true≢false}
use Rattle.std.proofs.lemmas.Slice.Eq.{bytes_eq-Decides}
use Rattle.std.specs.Ordering.{match_ordering, nat_cmp}
use Rattle.std.specs.Cmp.Lexicographic.{slice_cmp}
use Rattle.std.specs.List.{list_any}
use Rattle.serde_json.specs.Data.{Data, Members, no_members, member, put}
use Rattle.serde_json.specs.Find.{get_member}
use Rattle.serde_json.proofs.Views.{get_member-put, get_member-put_other}
use Rattle.element_props.specs.Forms.{has_long, members_have_long}
use Rattle.element_props.specs.Replies.{has_only}
use Rattle.element_props.specs.PropertiesWritten.{with_entry}
use Rattle.element_props.specs.Again.{IsJson, HoldJson}

abbrev pub Named : Type 0
Named = List ℕ × Option Data

abbrev pub entries_of : List Named → Members
entries_of [] = no_members
entries_of (e ∷ es) = with_entry e.0 e.1 (entries_of es)

abbrev pub find : List ℕ → List Named → Option Data
find q [] = None
find q (e ∷ es) = if bytes_eq q e.0 then e.1 else find q es

abbrev pub has_name : List ℕ → List Named → Bool
has_name q [] = false
has_name q (e ∷ es) = bytes_eq q e.0 || has_name q es

abbrev pub names_apart : List Named → Bool
names_apart [] = true
names_apart (e ∷ es) = not (has_name e.0 es) && names_apart es

not_and : (a b : Bool) → (not a && b) ≡ true → (a ≡ false) × (b ≡ true)
not_and false b h = (refl, h)
not_and true b h = absurd (true≢false (sym h))

get_here : (k : List ℕ) (o : Option Data) (ms : Members) → get_member k ms ≡ None → get_member k (with_entry k o ms) ≡ o
get_here k None ms h = h
get_here k (Some d) ms h = get_member-put k d ms

get_other : (q k : List ℕ) (o : Option Data) (ms : Members) → bytes_eq q k ≡ false → get_member q (with_entry k o ms) ≡ get_member q ms
get_other q k None ms h = refl
get_other q k (Some d) ms h = get_member-put_other q k d ms (λ e. true≢false (sym ((bytes_eq-Decides q k).1 e) ∙ h))

find_none : (q : List ℕ) (es : List Named) → has_name q es ≡ false → find q es ≡ None
find_none q [] h = refl
find_none q (e ∷ es) h = none_at (bytes_eq q e.0) (has_name q es) e.1 (find q es) h (find_none q es)
  where
    none_at : (a b : Bool) (o p : Option Data) → (a || b) ≡ false → (b ≡ false → p ≡ None) → (if a then o else p) ≡ None
    none_at true b o p h k = absurd (true≢false h)
    none_at false b o p h k = k h

found_at : (b : Bool) (q k : List ℕ) (o rest : Option Data) (ms : Members) → bytes_eq q k ≡ b → get_member q ms ≡ rest → (q ≡ k → rest ≡ None) → get_member q (with_entry k o ms) ≡ (if b then o else rest)
found_at true q k o rest ms is e none =
    let same : q ≡ k = (bytes_eq-Decides q k).0 is in
    let here : get_member k (with_entry k o ms) ≡ o = get_here k o ms (ap (λ n. get_member n ms) (sym same) ∙ e ∙ none same) in
    ap (λ n. get_member n (with_entry k o ms)) same ∙ here
found_at false q k o rest ms is e none = get_other q k o ms is ∙ e

pub found_entry : (q : List ℕ) (es : List Named) → names_apart es ≡ true → get_member q (entries_of es) ≡ find q es
found_entry q [] h = refl
found_entry q (e ∷ es) h =
    let a = not_and (has_name e.0 es) (names_apart es) h in
    found_at (bytes_eq q e.0) q e.0 e.1 (find q es) (entries_of es) refl (found_entry q es a.1) (λ same. find_none q es (ap (λ n. has_name n es) same ∙ a.0))

-- ---- what holds of each member holds with one more

or_both : (a b : Bool) → a ≡ false → b ≡ false → (a || b) ≡ false
or_both false b h k = k
or_both true b h k = h

or_parts : (a b : Bool) → (a || b) ≡ false → (a ≡ false) × (b ≡ false)
or_parts false b h = (refl, h)
or_parts true b h = absurd (true≢false h)

and_both : (a b : Bool) → a ≡ true → b ≡ true → (a && b) ≡ true
and_both true b h k = k
and_both false b h k = h

and_parts : (a b : Bool) → (a && b) ≡ true → (a ≡ true) × (b ≡ true)
and_parts true b h = (refl, h)
and_parts false b h = cc

put_short_at : (o : Ordering) (k l : List ℕ) (d e : Data) (ms : Members) → has_long 65536 d ≡ false → has_long 65536 e ≡ false → members_have_long 65536 ms ≡ false → members_have_long 65536 (put k d ms) ≡ false
    → members_have_long 65536 (match_ordering o (member k d (member l e ms)) (member l d ms) (member l e (put k d ms))) ≡ false
put_short_at Less k l d e ms h i j later = or_both (has_long 65536 d) _ h (or_both (has_long 65536 e) _ i j)
put_short_at Equal k l d e ms h i j later = or_both (has_long 65536 d) _ h j
put_short_at Greater k l d e ms h i j later = or_both (has_long 65536 e) _ i later

put_short : (k : List ℕ) (d : Data) (ms : Members) → has_long 65536 d ≡ false → members_have_long 65536 ms ≡ false → members_have_long 65536 (put k d ms) ≡ false
put_short k d no_members h j = or_both (has_long 65536 d) false h refl
put_short k d (member l e ms) h j =
    let a = or_parts (has_long 65536 e) (members_have_long 65536 ms) j in
    put_short_at (slice_cmp nat_cmp k l) k l d e ms h a.0 a.1 (put_short k d ms h a.1)

-- no text of it is too long, where it is there
abbrev pub is_short_entry : Option Data → Type 0
is_short_entry None = Unit {0}
is_short_entry (Some d) = has_long 65536 d ≡ false

pub with_short : (k : List ℕ) (o : Option Data) (ms : Members) → is_short_entry o → members_have_long 65536 ms ≡ false → members_have_long 65536 (with_entry k o ms) ≡ false
with_short k None ms h j = j
with_short k (Some d) ms h j = put_short k d ms h j

put_only_at : (keys : List (List ℕ)) (o : Ordering) (k l : List ℕ) (d e : Data) (ms : Members) → list_any (bytes_eq k) keys ≡ true → list_any (bytes_eq l) keys ≡ true → has_only keys ms ≡ true → has_only keys (put k d ms) ≡ true
    → has_only keys (match_ordering o (member k d (member l e ms)) (member l d ms) (member l e (put k d ms))) ≡ true
put_only_at keys Less k l d e ms h i j later = and_both (list_any (bytes_eq k) keys) _ h (and_both (list_any (bytes_eq l) keys) _ i j)
put_only_at keys Equal k l d e ms h i j later = and_both (list_any (bytes_eq l) keys) _ i j
put_only_at keys Greater k l d e ms h i j later = and_both (list_any (bytes_eq l) keys) _ i later

put_only : (keys : List (List ℕ)) (k : List ℕ) (d : Data) (ms : Members) → list_any (bytes_eq k) keys ≡ true → has_only keys ms ≡ true → has_only keys (put k d ms) ≡ true
put_only keys k d no_members h j = and_both (list_any (bytes_eq k) keys) true h refl
put_only keys k d (member l e ms) h j =
    let a = and_parts (list_any (bytes_eq l) keys) (has_only keys ms) j in
    put_only_at keys (slice_cmp nat_cmp k l) k l d e ms h a.0 a.1 (put_only keys k d ms h a.1)

pub with_only : (keys : List (List ℕ)) (k : List ℕ) (o : Option Data) (ms : Members) → list_any (bytes_eq k) keys ≡ true → has_only keys ms ≡ true → has_only keys (with_entry k o ms) ≡ true
with_only keys k None ms h j = j
with_only keys k (Some d) ms h j = put_only keys k d ms h j

abbrev pub are_short_entries : List Named → Type 0
are_short_entries [] = Unit {0}
are_short_entries (e ∷ es) = is_short_entry e.1 × are_short_entries es

pub short_entries : (es : List Named) → are_short_entries es → members_have_long 65536 (entries_of es) ≡ false
short_entries [] h = refl
short_entries (e ∷ es) h = with_short e.0 e.1 (entries_of es) h.0 (short_entries es h.1)

abbrev pub are_known : List (List ℕ) → List Named → Bool
are_known keys [] = true
are_known keys (e ∷ es) = list_any (bytes_eq e.0) keys && are_known keys es

pub only_entries : (keys : List (List ℕ)) (es : List Named) → are_known keys es ≡ true → has_only keys (entries_of es) ≡ true
only_entries keys [] h = refl
only_entries keys (e ∷ es) h =
    let a = and_parts (list_any (bytes_eq e.0) keys) (are_known keys es) h in
    with_only keys e.0 e.1 (entries_of es) a.0 (only_entries keys es a.1)

-- ---- a member that is found

-- what is known of a value of a JSON text whose texts are short
pub record IsFit (d : Data) : Type 0 where
  pub json : IsJson d
  pub short : has_long 65536 d ≡ false

got_at : (o : Ordering) (e d : Data) (r : Option Data) → match_ordering o r (Some e) r ≡ Some d → (e ≡ d → IsFit d) → (r ≡ Some d → IsFit d) → IsFit d
got_at Less e d r h here later = later h
got_at Equal e d r h here later = here cc
got_at Greater e d r h here later = later h

pub got_fit : (k : List ℕ) (ms : Members) (d : Data) → HoldJson ms → members_have_long 65536 ms ≡ false → get_member k ms ≡ Some d → IsFit d
got_fit k no_members d j s h = cc
got_fit k (member l e ms) d j s h =
    let a = or_parts (has_long 65536 e) (members_have_long 65536 ms) s in
    got_at (slice_cmp nat_cmp k l) e d (get_member k ms) h (λ same. rw (← same) (record { json = j.0; short = a.0 })) (λ later. got_fit k ms d j.1 a.1 later)

json_at : (o : Ordering) (e d : Data) (r : Option Data) → match_ordering o r (Some e) r ≡ Some d → (e ≡ d → IsJson d) → (r ≡ Some d → IsJson d) → IsJson d
json_at Less e d r h here later = later h
json_at Equal e d r h here later = here cc
json_at Greater e d r h here later = later h

pub got_json : (k : List ℕ) (ms : Members) (d : Data) → HoldJson ms → get_member k ms ≡ Some d → IsJson d
got_json k no_members d j h = cc
got_json k (member l e ms) d j h = json_at (slice_cmp nat_cmp k l) e d (get_member k ms) h (λ same. rw (← same) (j.0)) (λ later. got_json k ms d j.1 later)
