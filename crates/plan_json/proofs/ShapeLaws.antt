-- The shape of a value, level by level.
use Rattle.std.proofs.Common.{◌≡◌, ℕ, zero, suc, ◌+◌, ◌<◌, ◌≤◌, Bool, true, false, ◌&&◌, List, [], ◌∷◌, ◌++◌, length, get_or, drop, map, Option, Some, None, Result, Ok, Err, cond, is_some, is_eq, nat_cmp, Ordering, Less, Equal, Greater, bytes_eq, option_and_then, unwrap_or, true≢false, refl, sym, ap, ◌∙◌, arith, add-one, drop-cons, take, ◌-◌, length-append}
use Rattle.std.specs.List.{list_all}
use Rattle.std.specs.Prelude.{IfOk}
use Rattle.std.proofs.lemmas.List.Folds.{list_all-append}
use Rattle.std.specs.Result.{OnOk}
use Rattle.std.proofs.lemmas.List.{drop_all}
use Rattle.std.proofs.Math.Seq.{take-append_seam}
use Rattle.plan_json.specs.declared.raw.RawElement.{RawElement}
use Rattle.std.proofs.lemmas.Map.Text.{is_eq-slice_cmp}
use Rattle.std.specs.Cmp.Lexicographic.{slice_cmp}
use Rattle.std.specs.Ordering.{match_ordering}
use Rattle.std.specs.Option.{option_map_or}
use Rattle.serde_json.specs.Data.{Data, null, boolean, number, string, array, object, Items, no_items, item, Members, no_members, member, depth, items_depth, members_depth}
use Rattle.serde_json.specs.Find.{get_member, as_array, as_object}
use Rattle.serde_json.specs.View.{view, items_view}
use Rattle.serde_json.specs.declared.value.Value.{Value}
use Rattle.plan_json.specs.Place.{at}
use Rattle.plan_json.specs.Shape.{Raw, Raws, raw_then, ◌>>=◌, children_key, fits, is_element, has_other_key, members_in, children_in, element_of, shape, shape_below, shapes}
use Rattle.plan_json.specs.TreeSeen.{raw_view, has_objects, raws_of, Fails, Gives, IsElement}
use Rattle.plan_json.specs.declared.error.TreeError.{TreeError}
use Rattle.plan_json.specs.declared.error.TreeError.TheVariants as errors

by_test : {A : Type 0} (o : Ordering) (a b : A) → match_ordering o a b a ≡ cond (is_eq o) b a
by_test Less a b = refl
by_test Equal a b = refl
by_test Greater a b = refl

-- the first member of that key
pub get_member-step : (k l : List ℕ) (d : Data) (ms : Members) → get_member k (member l d ms) ≡ cond (bytes_eq k l) (Some d) (get_member k ms)
get_member-step k l d ms = by_test (slice_cmp nat_cmp k l) _ _ ∙ ap (λ b. cond b (Some d) (get_member k ms)) (is_eq-slice_cmp k l)

is_list : Option Data → Bool
is_list o = option_map_or (λ d. is_some (as_array d)) o true

listed : Option Data → Items
listed o = unwrap_or (option_and_then as_array o) no_items

below_here : (here : List ℕ) (b : Bool) (d : Data) (later : Option Data) (rest : Result Raws TreeError) → option_map_or (λ d. is_some (as_array d)) (cond b (Some d) later) true ≡ true
    → (option_map_or (λ d. is_some (as_array d)) later true ≡ true → rest ≡ shapes here 0 (unwrap_or (option_and_then as_array later) no_items))
    → (ds : Items) → (b ≡ true → as_array d ≡ Some ds) → cond b (shapes here 0 ds) rest ≡ shapes here 0 (unwrap_or (option_and_then as_array (cond b (Some d) later)) no_items)
below_here here true d later rest h below ds is = rw (is refl) refl
below_here here false d later rest h below ds is = below h

skipped : (here : List ℕ) (b : Bool) (d : Data) (later : Option Data) (rest : Result Raws TreeError) → as_array d ≡ None → option_map_or (λ d. is_some (as_array d)) (cond b (Some d) later) true ≡ true
    → (option_map_or (λ d. is_some (as_array d)) later true ≡ true → rest ≡ shapes here 0 (unwrap_or (option_and_then as_array later) no_items))
    → rest ≡ shapes here 0 (unwrap_or (option_and_then as_array (cond b (Some d) later)) no_items)
skipped here true d later rest none h below = let no : false ≡ true = rw none at h in absurd (true≢false (sym no))
skipped here false d later rest none h below = below h

-- the children are those of the list at their key
pub below_at : (here : List ℕ) (ms : Members) → fits children_key as_array ms ≡ true → shape_below here ms ≡ shapes here 0 (children_in ms)
unfolding shape
below_at here no_members h = refl
below_at here (member k (array ds) ms) h =
    rw (get_member-step children_key k (array ds) ms) (below_here here (bytes_eq children_key k) (array ds) (get_member children_key ms) (shape_below here ms) (rw (get_member-step children_key k (array ds) ms) at h) (below_at here ms) ds (λ _. refl))
below_at here (member k null ms) h = rw (get_member-step children_key k null ms) (skipped here _ null (get_member children_key ms) _ refl (rw (get_member-step children_key k null ms) at h) (below_at here ms))
below_at here (member k (boolean b) ms) h = rw (get_member-step children_key k (boolean b) ms) (skipped here _ (boolean b) (get_member children_key ms) _ refl (rw (get_member-step children_key k (boolean b) ms) at h) (below_at here ms))
below_at here (member k (number n) ms) h = rw (get_member-step children_key k (number n) ms) (skipped here _ (number n) (get_member children_key ms) _ refl (rw (get_member-step children_key k (number n) ms) at h) (below_at here ms))
below_at here (member k (string s) ms) h = rw (get_member-step children_key k (string s) ms) (skipped here _ (string s) (get_member children_key ms) _ refl (rw (get_member-step children_key k (string s) ms) at h) (below_at here ms))
below_at here (member k (object os) ms) h = rw (get_member-step children_key k (object os) ms) (skipped here _ (object os) (get_member children_key ms) _ refl (rw (get_member-step children_key k (object os) ms) at h) (below_at here ms))

-- ---- the three cases at one value

pub shape_refused : (here : List ℕ) (d : Data) → option_map_or is_element (as_object d) false ≡ false → shape here d ≡ Err (errors.NotElement (at here))
unfolding shape
shape_refused here (object ms) h = rw h refl
shape_refused here null h = refl
shape_refused here (boolean b) h = refl
shape_refused here (number n) h = refl
shape_refused here (string s) h = refl
shape_refused here (array ds) h = refl

pub shape_unknown : (here : List ℕ) (d : Data) → option_map_or is_element (as_object d) false ≡ true → has_other_key (members_in d) ≡ true → shape here d ≡ Err (errors.UnknownKey (at here))
unfolding shape
shape_unknown here (object ms) h k = rw (h, k) refl
shape_unknown here null h k = absurd (true≢false (sym h))
shape_unknown here (boolean b) h k = absurd (true≢false (sym h))
shape_unknown here (number n) h k = absurd (true≢false (sym h))
shape_unknown here (string s) h k = absurd (true≢false (sym h))
shape_unknown here (array ds) h k = absurd (true≢false (sym h))

last_of : (a b : Bool) → (a && b) ≡ true → b ≡ true
last_of true b h = h
last_of false b h = absurd (true≢false (sym h))

pub shape_good : (here : List ℕ) (d : Data) → option_map_or is_element (as_object d) false ≡ true → has_other_key (members_in d) ≡ false
    → shape here d ≡ (shapes here 0 (children_in (members_in d)) >>= (λ cs. Ok (element_of (members_in d) cs)))
unfolding shape
shape_good here (object ms) h k = rw (h, k) (ap (λ r. r >>= (λ cs. Ok (element_of ms cs))) (below_at here ms (last_of _ _ h)))
shape_good here null h k = absurd (true≢false (sym h))
shape_good here (boolean b) h k = absurd (true≢false (sym h))
shape_good here (number n) h k = absurd (true≢false (sym h))
shape_good here (string s) h k = absurd (true≢false (sym h))
shape_good here (array ds) h k = absurd (true≢false (sym h))

-- ---- children nest less deep

depth_found : (b : Bool) (d : Data) (later : Option Data) (n : ℕ) → depth d ≤ n → (items_depth (unwrap_or (option_and_then as_array later) no_items) ≤ n)
    → items_depth (unwrap_or (option_and_then as_array (cond b (Some d) later)) no_items) ≤ n
depth_found false d later n h r = r
depth_found true (array ds) later n h r = omega arith
depth_found true null later n h r = omega arith
depth_found true (boolean b) later n h r = omega arith
depth_found true (number m) later n h r = omega arith
depth_found true (string s) later n h r = omega arith
depth_found true (object os) later n h r = omega arith

pub children_depth : (ms : Members) → items_depth (children_in ms) ≤ members_depth ms
children_depth no_members = omega arith
children_depth (member k d ms) =
    rw (get_member-step children_key k d ms) (depth_found (bytes_eq children_key k) d (get_member children_key ms) _ (omega arith) (let below = children_depth ms in omega arith))

item_depth : (vs : List Value) (i : ℕ) (x : Value) → i < length vs → depth (view (get_or vs i x)) ≤ items_depth (items_view vs)
item_depth [] i x h = absurd (omega arith)
item_depth (v ∷ vs) zero x h = omega arith
item_depth (v ∷ vs) (suc i) x h = let below = item_depth vs i x (omega arith) in omega arith

no_child : (vs : List Value) (i : ℕ) → items_view vs ≡ no_items → i < length vs → ⊥
no_child [] i e h = omega arith
no_child (v ∷ vs) i e h = cc

pub child_depth : (d : Data) (vs : List Value) (i : ℕ) (x : Value) → items_view vs ≡ children_in (members_in d) → i < length vs → depth (view (get_or vs i x)) < depth d
child_depth (object ms) vs i x e h =
    let here = item_depth vs i x h in
    let all = children_depth ms in
    let same = ap items_depth e in
    omega (arith, here, all, same)
child_depth null vs i x e h = absurd (no_child vs i e h)
child_depth (boolean b) vs i x e h = absurd (no_child vs i e h)
child_depth (number n) vs i x e h = absurd (no_child vs i e h)
child_depth (string s) vs i x e h = absurd (no_child vs i e h)
child_depth (array ds) vs i x e h = absurd (no_child vs i e h)

-- ---- one child after another

-- the elements that were read, before those that are left
abbrev pub before_these : List Raw → Result Raws TreeError → Result Raws TreeError
before_these [] r = r
before_these (x ∷ xs) r = before_these xs r >>= (λ rs. Ok (raw_then x rs))

pub before_one : (prefix : List Raw) (here : List ℕ) (n : ℕ) (d : Data) (ds : Items) (x : Raw) → shape (here ++ n ∷ []) d ≡ Ok x
    → before_these prefix (shapes here n (item d ds)) ≡ before_these (prefix ++ x ∷ []) (shapes here (n + 1) ds)
unfolding shape
before_one [] here n d ds x e = rw e refl
before_one (y ∷ prefix) here n d ds x e = ap (λ r. r >>= (λ rs. Ok (raw_then y rs))) (before_one prefix here n d ds x e)

pub before_end : (prefix : List Raw) (here : List ℕ) (n : ℕ) → before_these prefix (shapes here n no_items) ≡ Ok (raws_of prefix)
unfolding shape
before_end [] here n = refl
before_end (y ∷ prefix) here n = rw (before_end prefix here n) refl

before_err : (prefix : List Raw) (r : Result Raws TreeError) (f : TreeError) → r ≡ Err f → before_these prefix r ≡ Err f
before_err [] r f e = e
before_err (y ∷ prefix) r f e = rw (before_err prefix r f e) refl

pub fault_in_list : (prefix : List Raw) (here : List ℕ) (n : ℕ) (d : Data) (ds : Items) (f : TreeError) → shape (here ++ n ∷ []) d ≡ Err f → before_these prefix (shapes here n (item d ds)) ≡ Err f
unfolding shape
fault_in_list prefix here n d ds f e = before_err prefix _ f (rw e refl)

pub fails_along : {A B : Type 0} (e : TreeError) (r : Result A TreeError) (s : Result B TreeError) → Fails e r → ((f : TreeError) → r ≡ Err f → s ≡ Err f) → Fails e s
fails_along errors.NoMemory r s h k = tt
fails_along errors.NotUtf8 r s h k = k _ h
fails_along errors.NotJson r s h k = k _ h
fails_along (errors.NotElement path) r s h k = k _ h
fails_along (errors.UnknownKey path) r s h k = k _ h

-- ---- a loop over the children

items_step : (vs : List Value) (i : ℕ) (v : Value) → i < length vs → v ≡ get_or vs i v → items_view (drop i vs) ≡ item (view v) (items_view (drop (i + 1) vs))
items_step vs i v h is = rw add-one (ap items_view (drop-cons vs i v h) ∙ ap (λ w. item (view w) (items_view (drop (suc i) vs))) (sym is))

module _ (here now : List ℕ) (vs : List Value) (i : ℕ) (v : Value) (prefix : List Raw) (h : i < length vs) (is : v ≡ get_or vs i v) (places : now ≡ here ++ i ∷ [])
    (kept : before_these prefix (shapes here i (items_view (drop i vs))) ≡ shapes here 0 (items_view vs)) where
  pub child_done : (x : Raw) → shape now (view v) ≡ Ok x → before_these (prefix ++ x ∷ []) (shapes here (i + 1) (items_view (drop (i + 1) vs))) ≡ shapes here 0 (items_view vs)
  child_done x e = sym (before_one prefix here i (view v) _ x (ap (λ p. shape p (view v)) (sym places) ∙ e)) ∙ ap (λ ds. before_these prefix (shapes here i ds)) (sym (items_step vs i v h is)) ∙ kept

  pub child_fault : (d : Data) (f : TreeError) → option_map_or is_element (as_object d) false ≡ true → has_other_key (members_in d) ≡ false → items_view vs ≡ children_in (members_in d)
      → shape now (view v) ≡ Err f → shape here d ≡ Err f
  child_fault d f good known all e =
      let below : shapes here 0 (children_in (members_in d)) ≡ Err f =
      ap (shapes here 0) (sym all) ∙ sym kept ∙ ap (λ ds. before_these prefix (shapes here i ds)) (items_step vs i v h is)
      ∙ fault_in_list prefix here i (view v) _ f (ap (λ p. shape p (view v)) (sym places) ∙ e) in
      shape_good here d good known ∙ ap (λ r. r >>= (λ cs. Ok (element_of (members_in d) cs))) below

pub all_done : (here : List ℕ) (vs : List Value) (i : ℕ) (prefix : List Raw) (d : Data) → length vs ≤ i → before_these prefix (shapes here i (items_view (drop i vs))) ≡ shapes here 0 (items_view vs)
    → option_map_or is_element (as_object d) false ≡ true → has_other_key (members_in d) ≡ false → items_view vs ≡ children_in (members_in d)
    → shape here d ≡ Ok (element_of (members_in d) (raws_of prefix))
all_done here vs i prefix d h kept good known all =
    let below : shapes here 0 (children_in (members_in d)) ≡ Ok (raws_of prefix) =
    ap (shapes here 0) (sym all) ∙ sym kept ∙ ap (λ (ws : List Value). before_these prefix (shapes here i (items_view ws))) (drop_all i vs h) ∙ before_end prefix here i in
    shape_good here d good known ∙ ap (λ r. r >>= (λ cs. Ok (element_of (members_in d) cs))) below

pub own_gives : (r : Result RawElement TreeError) (here : List ℕ) (d : Data) (cs : List RawElement) → IsElement r (members_in d) cs → shape here d ≡ Ok (element_of (members_in d) (raws_of (map raw_view cs))) → Gives raw_view r (shape here d)
own_gives (Ok e) here d cs own is = is ∙ ap Ok (sym own)
own_gives (Err e) here d cs own is = rw own tt

pub on_ok_same : {A E P : Type 0} (r : Result A E) → P → OnOk r P
on_ok_same (Ok x) p = p
on_ok_same (Err e) p = tt

sub_last : (n : ℕ) → n + 1 - 1 ≡ n
sub_last n = omega arith

pub popped : (all prefix : List ℕ) (y n : ℕ) → n ≡ length all → all ≡ prefix ++ y ∷ [] → take (n - 1) all ≡ prefix
popped all prefix y n m e = rw (m, e) (rw (length-append prefix (y ∷ []), sub_last (length prefix)) (take-append_seam prefix (y ∷ [])))

-- ---- properties that are kept as objects

pub one_more : (bs : List Bool) (b : Bool) → list_all (λ c. c) bs ≡ true → b ≡ true → list_all (λ c. c) (bs ++ b ∷ []) ≡ true
one_more bs b all last = rw (list_all-append, all, last) refl

pub all_objects : (r : Result RawElement TreeError) (cs : List RawElement) → IfOk r (λ e. has_objects e ≡ list_all (λ b. b) (map has_objects cs))
    → list_all (λ b. b) (map has_objects cs) ≡ true → IfOk r (λ tree. has_objects tree ≡ true)
all_objects (Ok e) cs own all = own ∙ all
all_objects (Err e) cs own all = tt
