-- The shape's refusal is the first fault in tree order, and there is one first fault at most.
use Rattle.std.proofs.Common.{◌≡◌, ℕ, zero, suc, ◌+◌, ◌<◌, ◌≤◌, ◌⊎◌, inl, inr, Bool, true, false, List, [], ◌∷◌, ◌++◌, Option, Some, None, Result, Ok, Err, option_and_then, refl, sym, ap, ◌∙◌, arith, append_assoc}
use Rattle.std.specs.Option.{option_map_or}
use Rattle.std.proofs.lemmas.Bool.{cases_order}
use Rattle.serde_json.specs.Data.{Data, null, boolean, number, string, array, object, Items, no_items, item, depth, items_depth}
use Rattle.serde_json.specs.Find.{as_object, get_item}
use Rattle.plan_json.specs.declared.error.TreeError.{TreeError}
use Rattle.plan_json.specs.declared.error.TreeError.TheVariants as errors
use Rattle.plan_json.specs.Place.{Place, at}
use Rattle.plan_json.specs.Shape.{Raw, Raws, raw_then, ◌>>=◌, is_element, has_other_key, members_in, children_in, element_of, shape, shapes}
use Rattle.plan_json.specs.FirstFault.{Fault, no_element, another_key, own_fault, value_at, IsBefore, IsFirstFault, IsFaultless}
use Rattle.plan_json.proofs.ShapeLaws.{shape_refused, shape_unknown, shape_good, children_depth}

-- the refusal of a fault
abbrev pub refusal_of : Fault → Place → TreeError
refusal_of no_element path = errors.NotElement path
refusal_of another_key path = errors.UnknownKey path

abbrev below : Data → Items
below d = children_in (members_in d)

some_same : {A : Type 0} (a b : A) → Some a ≡ Some b → a ≡ b
some_same a b h = cc

-- ---- one value

-- a value that is refused itself, or whose children decide
data Own (here : List ℕ) (d : Data) : Type 0 where
  refused : (f : Fault) → own_fault d ≡ Some f → shape here d ≡ Err (refusal_of f (at here)) → Own here d
  clean : own_fault d ≡ None → shape here d ≡ (shapes here 0 (below d) >>= (λ cs. Ok (element_of (members_in d) cs))) → Own here d

own : (here : List ℕ) (d : Data) → Own here d
own here d = go (option_map_or is_element (as_object d) false) (has_other_key (members_in d)) refl refl
  where
    go : (right other : Bool) → option_map_or is_element (as_object d) false ≡ right → has_other_key (members_in d) ≡ other → Own here d
    go false other r o = refused no_element (rw r refl) (shape_refused here d r)
    go true true r o = refused another_key (rw (r, o) refl) (shape_unknown here d r o)
    go true false r o = clean (rw (r, o) refl) (shape_good here d r o)

bind_ok : {A B : Type 0} (r : Result A TreeError) (f : A → Result B TreeError) (y : B) → (r >>= f) ≡ Ok y → (x : A) × (r ≡ Ok x)
bind_ok (Ok x) f y e = (x, refl)
bind_ok (Err e') f y e = cc

bind_err : {A B : Type 0} (r : Result A TreeError) (f : A → B) (e : TreeError) → (r >>= (λ x. Ok (f x))) ≡ Err e → r ≡ Err e
bind_err (Ok x) f e h = cc
bind_err (Err e') f e h = cc

bind_second : {A B : Type 0} (r : Result A TreeError) (f : A → Result B TreeError) (x : A) (y : B) → r ≡ Ok x → (r >>= f) ≡ Ok y → f x ≡ Ok y
bind_second (Ok x') f x y e h = ap f (cc) ∙ h
bind_second (Err e') f x y e h = cc

-- ---- a list of values

-- the value has a shape, wherever it stands
abbrev Shaped : Data → Type 0
Shaped d = (here : List ℕ) × (r : Raw) × (shape here d ≡ Ok r)

each_shaped : (ds : Items) (here : List ℕ) (n : ℕ) (rs : Raws) → shapes here n ds ≡ Ok rs → (i : ℕ) (c : Data) → get_item i ds ≡ Some c → Shaped c
unfolding shape
each_shaped no_items here n rs e i c at_i = cc
each_shaped (item d ds) here n rs e zero c at_i =
    let (r, is) = bind_ok (shape (here ++ n ∷ []) d) _ rs e in
    let same : d ≡ c = cc in
    (here ++ n ∷ [], r, ap (shape (here ++ n ∷ [])) (sym same) ∙ is)
each_shaped (item d ds) here n rs e (suc i) c at_i =
    let (r, is) = bind_ok (shape (here ++ n ∷ []) d) _ rs e in
    let rest = bind_second (shape (here ++ n ∷ []) d) _ r rs is e in
    let (rs', are) = bind_ok (shapes here (n + 1) ds) _ rs rest in
    each_shaped ds here (n + 1) rs' are i c at_i

-- the first child that is refused, and those before it
record Refused (here : List ℕ) (n : ℕ) (ds : Items) (e : TreeError) : Type 0 where
  place : ℕ
  child : Data
  there : get_item place ds ≡ Some child
  refused_so : shape (here ++ (n + place) ∷ []) child ≡ Err e
  earlier : (j : ℕ) (c : Data) → j < place → get_item j ds ≡ Some c → Shaped c

refused_later : (here : List ℕ) (n : ℕ) (d : Data) (ds : Items) (e : TreeError) → Shaped d → Refused here (n + 1) ds e → Refused here n (item d ds) e
refused_later here n d ds e shaped r = record {
  place = suc r.place;
  child = r.child;
  there = r.there;
  refused_so = let sum : n + suc r.place ≡ n + 1 + r.place = omega arith in rw sum r.refused_so;
  earlier = before;
}
  where
    before : (j : ℕ) (c : Data) → j < suc r.place → get_item j (item d ds) ≡ Some c → Shaped c
    before zero c less is = let same : d ≡ c = cc in let (p, x, e') = shaped in (p, x, ap (shape p) (sym same) ∙ e')
    before (suc j) c less is = r.earlier j c (omega arith) is

refused_or_later : (here : List ℕ) (n : ℕ) (d : Data) (ds : Items) (e : TreeError) → (shapes here (n + 1) ds ≡ Err e → Refused here (n + 1) ds e)
    → (r : Result Raw TreeError) → shape (here ++ n ∷ []) d ≡ r → (r >>= (λ x. shapes here (n + 1) ds >>= (λ xs. Ok (raw_then x xs)))) ≡ Err e → Refused here n (item d ds) e
refused_or_later here n d ds e later (Ok x) is rest = refused_later here n d ds e (here ++ n ∷ [], x, is) (later (bind_err (shapes here (n + 1) ds) (λ xs. raw_then x xs) e rest))
refused_or_later here n d ds e later (Err f) is rest = record {
  place = 0;
  child = d;
  there = refl;
  refused_so = let sum : n + 0 ≡ n = omega arith in rw sum (is ∙ (cc));
  earlier = λ j c less at_j. absurd (omega arith);
}

first_refused : (ds : Items) (here : List ℕ) (n : ℕ) (e : TreeError) → shapes here n ds ≡ Err e → Refused here n ds e
unfolding shape
first_refused no_items here n e h = cc
first_refused (item d ds) here n e h = refused_or_later here n d ds e (first_refused ds here (n + 1) e) (shape (here ++ n ∷ []) d) refl h

-- ---- a whole value

-- where steps lead on from a child, the child is there
through : (places : List ℕ) (child : Option Data) (v : Data) → option_and_then (value_at places) child ≡ Some v → (c : Data) × (child ≡ Some c) × (value_at places c ≡ Some v)
through places None v h = cc
through places (Some c) v h = (c, refl, h)

own_none : (here : List ℕ) (d : Data) (r : Raw) → shape here d ≡ Ok r → Own here d → own_fault d ≡ None
own_none here d r is (refused f wrong so) = cc
own_none here d r is (clean right so) = right

sound_below : (places : List ℕ) (i : ℕ) (d : Data) → ((c : Data) → Shaped c → (v : Data) → value_at places c ≡ Some v → own_fault v ≡ None)
    → (here : List ℕ) (r : Raw) → shape here d ≡ Ok r → Own here d → (v : Data) → value_at (i ∷ places) d ≡ Some v → own_fault v ≡ None
sound_below places i d deeper here r is (refused f wrong so) v e = cc
sound_below places i d deeper here r is (clean right so) v e =
    let (cs, are) = bind_ok (shapes here 0 (below d)) _ r (sym so ∙ is) in
    let (c, child, rest) = through places (get_item i (below d)) v e in
    deeper c (each_shaped (below d) here 0 cs are i c child) v rest

-- below a value that has a shape nothing has a fault
sound : (places : List ℕ) (d : Data) → Shaped d → (v : Data) → value_at places d ≡ Some v → own_fault v ≡ None
sound [] d (here, r, is) v e = let same : d ≡ v = cc in rw (sym same) (own_none here d r is (own here d))
sound (i ∷ places) d (here, r, is) v e = sound_below places i d (sound places) here r is (own here d) v e

item_deep : (ds : Items) (i : ℕ) (c : Data) → get_item i ds ≡ Some c → depth c ≤ items_depth ds
item_deep no_items i c e = cc
item_deep (item d ds) zero c e = let same : d ≡ c = cc in rw (sym same) (omega arith)
item_deep (item d ds) (suc i) c e = let rest = item_deep ds i c e in omega (arith, rest)

child_deeper : (d : Data) (i : ℕ) (c : Data) → get_item i (below d) ≡ Some c → depth c < depth d
child_deeper (object ms) i c e = let all = children_depth ms in let one = item_deep (children_in ms) i c e in omega (arith, all, one)
child_deeper null i c e = cc
child_deeper (boolean b) i c e = cc
child_deeper (number n) i c e = cc
child_deeper (string s) i c e = cc
child_deeper (array ds) i c e = cc

-- a refusal names the first fault
pub record Found (here : List ℕ) (d : Data) (e : TreeError) : Type 0 where
  pub places : List ℕ
  pub fault : Fault
  pub is_first : IsFirstFault d places fault
  pub refusal : e ≡ refusal_of fault (at (here ++ places))

nothing_before : (q : List ℕ) → IsBefore q [] → ⊥
nothing_before [] h = h
nothing_before (j ∷ js) h = h

append-nil : (xs : List ℕ) → xs ++ [] ≡ xs
append-nil [] = refl
append-nil (x ∷ xs) = ap (λ ys. x ∷ ys) (append-nil xs)

err_same : {A : Type 0} (a b : TreeError) (r : Result A TreeError) → r ≡ Err a → r ≡ Err b → a ≡ b
err_same a b (Ok x) h k = cc
err_same a b (Err e) h k = cc

found_here : (here : List ℕ) (d : Data) (e : TreeError) (f : Fault) → own_fault d ≡ Some f → e ≡ refusal_of f (at here) → Found here d e
found_here here d e f wrong is = record {
  places = [];
  fault = f;
  is_first = record { value = d; there = refl; wrong = wrong; first = λ q v b at_q. absurd (nothing_before q b) };
  refusal = is ∙ ap (λ ps. refusal_of f (at ps)) (sym (append-nil here));
}

none_before : (d : Data) (i : ℕ) (c : Data) (places : List ℕ) (f : Fault) → own_fault d ≡ None → get_item i (below d) ≡ Some c → IsFirstFault c places f
    → ((j : ℕ) (c' : Data) → j < i → get_item j (below d) ≡ Some c' → Shaped c') → (q : List ℕ) (v : Data) → IsBefore q (i ∷ places) → value_at q d ≡ Some v → own_fault v ≡ None
none_before d i c places f right child inner earlier [] v b e = let same : d ≡ v = cc in rw (sym same) right
none_before d i c places f right child inner earlier (j ∷ js) v (inl less) e =
    let (c', there, rest) = through js (get_item j (below d)) v e in
    sound js c' (earlier j c' less there) v rest
none_before d i c places f right child inner earlier (j ∷ js) v (inr (same, b)) e =
    let (c', there, rest) = through js (get_item j (below d)) v e in
    let one : c' ≡ c = some_same c' c (sym there ∙ ap (λ k. get_item k (below d)) same ∙ child) in
    inner.first js v b (ap (value_at js) (sym one) ∙ rest)

found_below : (here : List ℕ) (d : Data) (e : TreeError) → own_fault d ≡ None → (r : Refused here 0 (below d) e) → Found (here ++ (0 + r.place) ∷ []) r.child e → Found here d e
found_below here d e right r inner = record {
  places = r.place ∷ inner.places;
  fault = inner.fault;
  is_first = record {
    value = inner.is_first.value;
    there = ap (option_and_then (value_at inner.places)) r.there ∙ inner.is_first.there;
    wrong = inner.is_first.wrong;
    first = none_before d r.place r.child inner.places inner.fault right r.there inner.is_first r.earlier;
  };
  refusal = inner.refusal ∙ ap (λ ps. refusal_of inner.fault (at ps)) (joined here (0 + r.place) r.place inner.places (omega arith));
}
  where
    joined : (here : List ℕ) (n i : ℕ) (places : List ℕ) → n ≡ i → (here ++ n ∷ []) ++ places ≡ here ++ (i ∷ places)
    joined here n i places same = append_assoc here (n ∷ []) places ∙ ap (λ k. here ++ (k ∷ places)) same

found_by : (here : List ℕ) (d : Data) (e : TreeError) → ((there : List ℕ) (c : Data) → depth c < depth d → shape there c ≡ Err e → Found there c e) → shape here d ≡ Err e → Own here d → Found here d e
found_by here d e deeper h (refused f wrong so) = found_here here d e f wrong (err_same e (refusal_of f (at here)) (shape here d) h so)
found_by here d e deeper h (clean right so) =
    let r = first_refused (below d) here 0 e (bind_err (shapes here 0 (below d)) (element_of (members_in d)) e (sym so ∙ h)) in
    found_below here d e right r (deeper (here ++ (0 + r.place) ∷ []) r.child (child_deeper d r.place r.child r.there) r.refused_so)

found : (n : ℕ) (here : List ℕ) (d : Data) (e : TreeError) → depth d < n → shape here d ≡ Err e → Found here d e
found zero here d e deep h = absurd (omega arith)
found (suc n) here d e deep h = found_by here d e (λ there c less so. found n there c e (omega arith) so) h (own here d)

-- the first fault, where a value is refused
pub first_fault : (d : Data) (e : TreeError) → shape [] d ≡ Err e → Found [] d e
first_fault d e h = found (suc (depth d)) [] d e (omega arith) h

-- no fault, where it has a shape
pub faultless : (d : Data) (r : Raw) → shape [] d ≡ Ok r → IsFaultless d
faultless d r h places v e = sound places d ([], r, h) v e

-- ---- one first fault at most

order : (p q : List ℕ) → IsBefore p q ⊎ ((p ≡ q) ⊎ IsBefore q p)
order [] [] = inr (inl refl)
order [] (j ∷ js) = inl tt
order (i ∷ is) [] = inr (inr tt)
order (i ∷ is) (j ∷ js) = by_heads (cases_order i j) (order is js)
  where
    by_heads : ((i ≡ j) ⊎ ((i < j) ⊎ (j < i))) → (IsBefore is js ⊎ ((is ≡ js) ⊎ IsBefore js is)) → IsBefore (i ∷ is) (j ∷ js) ⊎ (((i ∷ is) ≡ (j ∷ js)) ⊎ IsBefore (j ∷ js) (i ∷ is))
    by_heads (inl same) (inl b) = inl (inr (same, b))
    by_heads (inl same) (inr (inl e)) = inr (inl (cc))
    by_heads (inl same) (inr (inr b)) = inr (inr (inr (sym same, b)))
    by_heads (inr (inl less)) o = inl (inl less)
    by_heads (inr (inr more)) o = inr (inr (inl more))

wrong_and_right : (v w : Data) (f : Fault) → own_fault v ≡ Some f → own_fault v ≡ None → ⊥
wrong_and_right v w f wrong right = cc

pub one_first : (d : Data) (p q : List ℕ) (f g : Fault) → IsFirstFault d p f → IsFirstFault d q g → (p ≡ q) × (f ≡ g)
one_first d p q f g a b = by_order (order p q)
  where
    same_fault : (p q : List ℕ) (v w : Data) (f g : Fault) → p ≡ q → value_at p d ≡ Some v → value_at q d ≡ Some w → own_fault v ≡ Some f → own_fault w ≡ Some g → f ≡ g
    same_fault p q v w f g same at_p at_q wrong_v wrong_w = let one : v ≡ w = some_same v w (sym at_p ∙ ap (λ ps. value_at ps d) same ∙ at_q) in some_same f g (sym wrong_v ∙ ap own_fault one ∙ wrong_w)

    by_order : (IsBefore p q ⊎ ((p ≡ q) ⊎ IsBefore q p)) → (p ≡ q) × (f ≡ g)
    by_order (inl before) = absurd (wrong_and_right a.value a.value f a.wrong (b.first p a.value before a.there))
    by_order (inr (inl same)) = (same, same_fault p q a.value b.value f g same a.there b.there a.wrong b.wrong)
    by_order (inr (inr after)) = absurd (wrong_and_right b.value b.value g b.wrong (a.first q b.value after b.there))
