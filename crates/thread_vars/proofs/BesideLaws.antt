-- A variable whose value stands beside the table of all.
use Rattle.std.proofs.Common.{◌≡◌, ℕ, ◌≤◌, ◌<◌, List, [], ◌∷◌, map, Bool, true, false, cond, length, Some, None, refl, sym, ap, ◌∙◌, subst, arith, ◌⊎◌, ⊎_elim}
use Rattle.std.specs.Prelude.{◌≢◌, if◌then◌else◌, nat_le, ◌&&◌, unwrap_or, IsSome, IfSome, Result, Err, MatchBool}
use Rattle.std.specs.declared.cmp.Ordering.{Ordering}
use Rattle.std.specs.declared.cmp.Ordering.TheVariants.{Less, Equal, Greater}
use Rattle.std.specs.Ordering.{is_eq, match_ordering}
use Rattle.std.specs.Cmp.Lexicographic.{nat_list_cmp_total}
use Rattle.std.specs.List.{AllByRecursion}
use Rattle.std.specs.List.Sorted.{IsStrictlySortedBy}
use Rattle.std.specs.Map.{keys_of}
use Rattle.std.specs.Cmp.{eq_by_cmp_equiv}
use Rattle.std.specs.BTreeMap.{is_at}
use Rattle.std.proofs.lemmas.Cmp.{tied_itself}
use Rattle.std.proofs.lemmas.Map.{lookup-none}
use Rattle.std.proofs.lemmas.Map.Entries.{none_below_head}
use Rattle.std.proofs.lemmas.Map.Keys.{sorted_tail}
use Rattle.thread_vars.specs.declared.error.VarError.{VarError}
use Rattle.thread_vars.specs.declared.error.VarError.TheVariants.{ValueLimit, NoMemory}
use Rattle.thread_vars.specs.Vars.{Variables, by_bytes, value_of, FitsIn, with_var, without_var, bytes_of, bytes_found, is_same, IsInOrder, most_text, most_bytes, put_var, index_name, last_sample_ok, Puts, IsKept}
use Rattle.thread_vars.specs.Beside.{with_beside, IsBeside}
use Rattle.name_map.proofs.NameLaws.{same_from_is, is_same-refl, value_of-with_var, value_of-without_var, with_var-same}
use Rattle.thread_vars.proofs.VarLaws.{bytes_of-with_var, within, room}

symmetric : (a b : List ℕ) → is_same a b ≡ is_same b a
symmetric a b = (eq_by_cmp_equiv nat_list_cmp_total).symm a b

-- ---- what a test has told

pub at_true : (r : Bool) (A B : Type 0) → r ≡ true → MatchBool r A B → A
at_true true A B is m = m
at_true false A B is m = cc

pub at_false : (r : Bool) (A B : Type 0) → r ≡ false → MatchBool r A B → B
at_false true A B is m = cc
at_false false A B is m = m

-- ---- a value that is written over

abbrev over : List ℕ → List ℕ → List ℕ × List ℕ → List ℕ × List ℕ
over name value e = cond (is_same name e.0) (e.0, value) e

over-key : (name value : List ℕ) (e : List ℕ × List ℕ) → (over name value e).0 ≡ e.0
over-key name value e = elim (is_same name e.0) as (λ b. (cond b (e.0, value) e).0 ≡ e.0) [ true ↦ refl | false ↦ refl ]

over-keys : (name value : List ℕ) (vars : Variables) → keys_of (map (over name value) vars) ≡ keys_of vars
over-keys name value [] = refl
over-keys name value (e ∷ es) = ap (λ k. k ∷ keys_of (map (over name value) es)) (over-key name value e) ∙ ap (λ l. e.0 ∷ l) (over-keys name value es)

-- nothing is written where the name is less than all names
over-above : (name value : List ℕ) (es : Variables) → AllByRecursion (λ y. by_bytes name y ≡ Less) (keys_of es) → map (over name value) es ≡ es
over-above name value [] all = refl
over-above name value (e ∷ es) all =
    ap (λ o. cond (is_eq o) (e.0, value) e ∷ map (over name value) es) all.0 ∙ ap (λ l. e ∷ l) (over-above name value es all.1)

-- nor where it is not defined
over-none : (name value : List ℕ) (es : Variables) → value_of name es ≡ None → map (over name value) es ≡ es
over-none name value [] none = refl
over-none name value (e ∷ es) none = step (over-none name value es) (is_same name e.0) refl
  where
    step : (value_of name es ≡ None → map (over name value) es ≡ es) → (b : Bool) → is_same name e.0 ≡ b → map (over name value) (e ∷ es) ≡ e ∷ es
    step more true is = let found : Some e.1 ≡ None = sym (ap (λ b. cond b (Some e.1) (value_of name es)) is) ∙ none in cc
    step more false is =
        let rest : value_of name es ≡ None = sym (ap (λ b. cond b (Some e.1) (value_of name es)) is) ∙ none in
        ap (λ b. cond b (e.0, value) e ∷ map (over name value) es) is ∙ ap (λ l. e ∷ l) (more rest)

written_step : (name value : List ℕ) (e : List ℕ × List ℕ) (es : Variables) → IsInOrder (e ∷ es)
    → (IsSome (value_of name es) → with_var name value es ≡ map (over name value) es) → IsSome (value_of name (e ∷ es))
    → (o : Ordering) → by_bytes name e.0 ≡ o
    → match_ordering o ((name, value) ∷ e ∷ es) ((e.0, value) ∷ es) (e ∷ with_var name value es) ≡ cond (is_eq o) (e.0, value) e ∷ map (over name value) es
unfolding IsStrictlySortedBy
written_step name value e es sorted more found Less is =
    let none : value_of name (e ∷ es) ≡ None = lookup-none (is_at (by_bytes name)) (e ∷ es) (none_below_head nat_list_cmp_total name e es sorted is) in
    let some : IsSome {T = List ℕ} None = subst IsSome none found in
    cc
written_step name value e es sorted more found Equal is =
    let same : e.0 ≡ name = sym (same_from_is name e.0 (ap is_eq is)) in
    ap (λ l. (e.0, value) ∷ l) (sym (over-above name value es (subst (λ n. AllByRecursion (λ y. by_bytes n y ≡ Less) (keys_of es)) same sorted.0)))
written_step name value e es sorted more found Greater is =
    ap (λ l. e ∷ l) (more (subst IsSome (ap (λ o. cond (is_eq o) (Some e.1) (value_of name es)) is) found))

-- a variable that is defined is set by writing over its value
with_var-over : (name value : List ℕ) (vars : Variables) → IsInOrder vars → IsSome (value_of name vars) → with_var name value vars ≡ map (over name value) vars
with_var-over name value [] sorted found = cc
with_var-over name value (e ∷ es) sorted found =
    written_step name value e es sorted (with_var-over name value es (sorted_tail by_bytes e.0 (keys_of es) sorted)) found (by_bytes name e.0) refl
    ∙ ap (λ b. cond b (e.0, value) e ∷ map (over name value) es) refl

-- ---- setting and removing other variables

others_step : (name value other new : List ℕ) (e : List ℕ × List ℕ) (es : Variables) → is_same name other ≡ false
    → with_var other new (map (over name value) es) ≡ map (over name value) (with_var other new es)
    → (o : Ordering) → by_bytes other e.0 ≡ o
    → match_ordering o ((other, new) ∷ over name value e ∷ map (over name value) es) ((e.0, new) ∷ map (over name value) es) (over name value e ∷ with_var other new (map (over name value) es))
    ≡ map (over name value) (match_ordering o ((other, new) ∷ e ∷ es) ((e.0, new) ∷ es) (e ∷ with_var other new es))
others_step name value other new e es apart more Less is = ap (λ b. cond b (other, value) (other, new) ∷ over name value e ∷ map (over name value) es) (sym apart)
others_step name value other new e es apart more Equal is =
    let same : other ≡ e.0 = same_from_is other e.0 (ap is_eq is) in
    let far : is_same name e.0 ≡ false = subst (λ k. is_same name k ≡ false) same apart in
    ap (λ b. cond b (e.0, value) (e.0, new) ∷ map (over name value) es) (sym far)
others_step name value other new e es apart more Greater is = ap (λ l. over name value e ∷ l) more

others : (name value other new : List ℕ) (vars : Variables) → is_same name other ≡ false → with_var other new (map (over name value) vars) ≡ map (over name value) (with_var other new vars)
others name value other new [] apart = ap (λ b. cond b (other, value) (other, new) ∷ []) (sym apart)
others name value other new (e ∷ es) apart =
    ap (λ k. match_ordering (by_bytes other k) ((other, new) ∷ over name value e ∷ map (over name value) es) ((k, new) ∷ map (over name value) es) (over name value e ∷ with_var other new (map (over name value) es))) (over-key name value e)
    ∙ others_step name value other new e es apart (others name value other new es apart) (by_bytes other e.0) refl

removed : (name value other : List ℕ) (vars : Variables) → without_var other (map (over name value) vars) ≡ map (over name value) (without_var other vars)
removed name value other [] = refl
removed name value other (e ∷ es) =
    ap (λ k. cond (is_same other k) (map (over name value) es) (over name value e ∷ without_var other (map (over name value) es))) (over-key name value e)
    ∙ (elim (is_same other e.0) as (λ b. cond b (map (over name value) es) (over name value e ∷ without_var other (map (over name value) es)) ≡ map (over name value) (cond b es (e ∷ without_var other es))) [
      | true ↦ refl
      | false ↦ ap (λ l. over name value e ∷ l) (removed name value other es)
    ])

twice_step : (name first second : List ℕ) (e : List ℕ × List ℕ) (es : Variables) → with_var name second (with_var name first es) ≡ with_var name second es
    → (o : Ordering) → by_bytes name e.0 ≡ o
    → with_var name second (match_ordering o ((name, first) ∷ e ∷ es) ((e.0, first) ∷ es) (e ∷ with_var name first es)) ≡ match_ordering o ((name, second) ∷ e ∷ es) ((e.0, second) ∷ es) (e ∷ with_var name second es)
twice_step name first second e es more Less is =
    ap (λ o. match_ordering o ((name, second) ∷ (name, first) ∷ e ∷ es) ((name, second) ∷ e ∷ es) ((name, first) ∷ with_var name second (e ∷ es))) (tied_itself nat_list_cmp_total name)
twice_step name first second e es more Equal is =
    ap (λ o. match_ordering o ((name, second) ∷ (e.0, first) ∷ es) ((e.0, second) ∷ es) ((e.0, first) ∷ with_var name second es)) is
twice_step name first second e es more Greater is =
    ap (λ o. match_ordering o ((name, second) ∷ e ∷ with_var name first es) ((e.0, second) ∷ with_var name first es) (e ∷ with_var name second (with_var name first es))) is
    ∙ ap (λ l. e ∷ l) more

-- of two values of a name the last one stays
twice : (name first second : List ℕ) (vars : Variables) → with_var name second (with_var name first vars) ≡ with_var name second vars
twice name first second [] = ap (λ o. match_ordering o ((name, second) ∷ (name, first) ∷ []) ((name, second) ∷ []) ((name, first) ∷ (name, second) ∷ [])) (tied_itself nat_list_cmp_total name)
twice name first second (e ∷ es) = twice_step name first second e es (twice name first second es) (by_bytes name e.0) refl

-- ---- what fits

none_too : (b : Bool) (x y : Variables) → (if b then Some x else None) ≡ None → (if b then Some y else None) ≡ None
none_too true x y h = cc
none_too false x y h = refl

some_too : (b : Bool) (x y z w : Variables) → (if b then Some x else None) ≡ Some z → (x ≡ z → y ≡ w) → (if b then Some y else None) ≡ Some w
some_too true x y z w h k = ap Some (k (ap (λ o. unwrap_or o x) h))
some_too false x y z w h k = cc

short_too : (b : Bool) (x y : Variables) (v : List ℕ) → (if nat_le (length v) most_text && b then Some x else None) ≡ Some y → length v ≤ most_text
short_too b x y v h = by (nat_le (length v) most_text) (within (length v) most_text) h
  where
    by : (c : Bool) → MatchBool c (length v ≤ most_text) (most_text < length v) → (if c && b then Some x else None) ≡ Some y → length v ≤ most_text
    by true m k = m
    by false m k = cc

-- a variable that was set has a short value
pub put_short : (name value : List ℕ) (vars new : Variables) → put_var name value vars ≡ Some new → length value ≤ most_text
put_short name value vars new h = short_too (nat_le (bytes_of (with_var name value vars)) most_bytes) (with_var name value vars) new value h

-- a variable that was set is in the table with its value
pub put_is : (name value : List ℕ) (vars new : Variables) → put_var name value vars ≡ Some new → new ≡ with_var name value vars
put_is name value vars new h = made (nat_le (length value) most_text && nat_le (bytes_of (with_var name value vars)) most_bytes) h
  where
    made : (b : Bool) → (if b then Some (with_var name value vars) else None) ≡ Some new → new ≡ with_var name value vars
    made true h = sym (ap (λ o. unwrap_or o new) h)
    made false h = cc

value-apart : (name value : List ℕ) (vars : Variables) (other : List ℕ) → is_same other name ≡ false → value_of other (with_var name value vars) ≡ value_of other vars
value-apart name value vars other apart = value_of-with_var other name value vars ∙ ap (λ b. if b then Some value else value_of other vars) apart

value-at : (name value : List ℕ) (vars : Variables) → value_of name (with_var name value vars) ≡ Some value
value-at name value vars = value_of-with_var name name value vars ∙ ap (λ b. if b then Some value else value_of name vars) (is_same-refl name)

-- a variable that was set has its value
pub put-told : (name value : List ℕ) (vars new : Variables) → put_var name value vars ≡ Some new → value_of name new ≡ Some value
put-told name value vars new h = ap (value_of name) (put_is name value vars new h) ∙ value-at name value vars

-- of the variable beside the table, and of the others
pub value-own : (beside : Bool) (name value : List ℕ) (vars : Variables) (asked : List ℕ) → beside ≡ true → asked ≡ name → value_of asked (with_beside beside name value vars) ≡ Some value
value-own true name value vars asked b same = ap (λ n. value_of n (with_var name value vars)) same ∙ value-at name value vars
value-own false name value vars asked b same = cc

pub value-other : (beside : Bool) (name value : List ℕ) (vars : Variables) (asked : List ℕ) → (beside ≡ true → is_same asked name ≡ false)
    → value_of asked (with_beside beside name value vars) ≡ value_of asked vars
value-other true name value vars asked apart = value-apart name value vars asked (apart refl)
value-other false name value vars asked apart = refl

module _ (name value : List ℕ) (vars : Variables) (kept : IsKept (bytes_of vars) vars) (ahead : Bool) (is : IsBeside ahead name value vars) where
  abbrev seen : Variables
  seen = with_var name value vars

  some : IsSome (value_of name vars)
  some = subst IsSome (sym is.defined) refl

  seen-over : seen ≡ map (over name value) vars
  seen-over = with_var-over name value vars kept.ordered some

  seen-ordered : IsInOrder seen
  seen-ordered = subst (IsStrictlySortedBy by_bytes) (sym (ap keys_of seen-over ∙ over-keys name value vars)) kept.ordered

  seen-bytes : bytes_of seen ≡ bytes_of vars
  seen-bytes = omega (arith, bytes_of-with_var name value vars kept.ordered, ap (bytes_found name) is.defined, is.alike)

  pub beside-kept : IsKept (bytes_of seen) seen
  beside-kept = record { sum = refl; limit = omega (arith, seen-bytes, kept.limit); ordered = seen-ordered }

  bytes-apart : (other new : List ℕ) → is_same other name ≡ false → bytes_of (with_var other new seen) ≡ bytes_of (with_var other new vars)
  bytes-apart other new apart =
      omega (arith, bytes_of-with_var other new seen seen-ordered, bytes_of-with_var other new vars kept.ordered, seen-bytes, ap (bytes_found other) (value-apart name value vars other apart))

  -- the rest is as before when another variable is set
  defined-apart : (other new : List ℕ) (next : Variables) → is_same other name ≡ false → next ≡ with_var other new vars → value_of name next ≡ Some is.before
  defined-apart other new next apart h =
      ap (value_of name) h ∙ value_of-with_var name other new vars ∙ ap (λ b. if b then Some new else value_of name vars) (symmetric name other ∙ apart) ∙ is.defined

  with-apart : (other new : List ℕ) (next : Variables) → is_same other name ≡ false → IsInOrder next → with_var other new vars ≡ next → with_var other new seen ≡ with_var name value next
  with-apart other new next apart ordered h =
      ap (with_var other new) seen-over
      ∙ others name value other new vars (symmetric name other ∙ apart)
      ∙ ap (map (over name value)) h
      ∙ sym (with_var-over name value next ordered (subst IsSome (sym (defined-apart other new next apart (sym h))) refl))

  put_none : (other new : List ℕ) → is_same other name ≡ false → put_var other new vars ≡ None → put_var other new seen ≡ None
  put_none other new apart h =
      ap (λ n. if nat_le (length new) most_text && nat_le n most_bytes then Some (with_var other new seen) else None) (bytes-apart other new apart)
      ∙ none_too (nat_le (length new) most_text && nat_le (bytes_of (with_var other new vars)) most_bytes) (with_var other new vars) (with_var other new seen) h

  put_some : (other new : List ℕ) (next : Variables) → is_same other name ≡ false → IsInOrder next → put_var other new vars ≡ Some next → put_var other new seen ≡ Some (with_var name value next)
  put_some other new next apart ordered h =
      ap (λ n. if nat_le (length new) most_text && nat_le n most_bytes then Some (with_var other new seen) else None) (bytes-apart other new apart)
      ∙ some_too (nat_le (length new) most_text && nat_le (bytes_of (with_var other new vars)) most_bytes) (with_var other new vars) (with_var other new seen) next (with_var name value next) h
      (with-apart other new next apart ordered)

  pub put_own : (new : List ℕ) → put_var name new seen ≡ put_var name new vars
  put_own new = ap (λ w. if nat_le (length new) most_text && nat_le (bytes_of w) most_bytes then Some w else None) (twice name value new vars)

-- ---- whether or not it stands beside

abbrev refusal : VarError → Result (Unit {0}) VarError
refusal error = Err error

-- over a value of as many bytes no call runs out of memory
abbrev pub refuses : List ℕ → VarError → List ℕ → Type 0
refuses new error old = FitsIn (length old) (length new) → refusal error ≢ refusal NoMemory

module _ (name value : List ℕ) (vars : Variables) (kept : IsKept (bytes_of vars) vars) (ahead : Bool) where
  pub all-kept : (beside : Bool) → (beside ≡ true → IsBeside ahead name value vars) → IsKept (bytes_of (with_beside beside name value vars)) (with_beside beside name value vars)
  all-kept true is = beside-kept name value vars kept ahead (is refl)
  all-kept false is = kept

  pub put-other : (beside : Bool) → (beside ≡ true → IsBeside ahead name value vars) → (other new : List ℕ) (next : Variables) → (beside ≡ true → is_same other name ≡ false) → IsInOrder next
      → put_var other new vars ≡ Some next → put_var other new (with_beside beside name value vars) ≡ Some (with_beside beside name value next)
  put-other true is other new next apart ordered h = put_some name value vars kept ahead (is refl) other new next (apart refl) ordered h
  put-other false is other new next apart ordered h = h

  pub stands-other : (beside : Bool) → (beside ≡ true → IsBeside ahead name value vars) → (other new : List ℕ) (next : Variables) → (beside ≡ true → is_same other name ≡ false)
      → put_var other new vars ≡ Some next → beside ≡ true → IsBeside ahead name value next
  stands-other true is other new next apart h = λ b.
      let i = is refl in
      record { before = i.before; defined = defined-apart name value vars kept ahead i other new next (apart refl) (put_is other new vars next h); alike = i.alike; short = i.short; same = i.same }
  stands-other false is other new next apart h = λ b. cc

  pub put-own : (beside : Bool) → (beside ≡ true → IsBeside ahead name value vars) → beside ≡ true → (own new : List ℕ) → own ≡ name → (next : Variables)
      → put_var own new vars ≡ Some next → put_var own new (with_beside beside name value vars) ≡ Some next
  put-own true is b own new same next h =
      ap (λ n. put_var n new (with_var name value vars)) same ∙ put_own name value vars kept ahead (is refl) new ∙ ap (λ n. put_var n new vars) (sym same) ∙ h
  put-own false is b own new same next h = cc

  refused : (beside own : Bool) → (beside ≡ true → IsBeside ahead name value vars) → (other new : List ℕ)
      → MatchBool own ((beside ≡ true) × (other ≡ name)) (beside ≡ true → is_same other name ≡ false)
      → put_var other new vars ≡ None → put_var other new (with_beside beside name value vars) ≡ None
  refused true true is other new m h =
      ap (λ n. put_var n new (with_var name value vars)) m.1 ∙ put_own name value vars kept ahead (is refl) new ∙ ap (λ n. put_var n new vars) (sym m.1) ∙ h
  refused true false is other new m h = put_none name value vars kept ahead (is refl) other new (m refl) h
  refused false own is other new m h = h

  -- a refusal leaves all as it was
  pub refused-puts : (beside own : Bool) → (beside ≡ true → IsBeside ahead name value vars) → (other new : List ℕ)
      → MatchBool own ((beside ≡ true) × (other ≡ name)) (beside ≡ true → is_same other name ≡ false)
      → (next : Variables) (error : VarError) → Puts (put_var other new vars) vars next (Err error)
      → Puts (put_var other new (with_beside beside name value vars)) (with_beside beside name value vars) (with_beside beside name value next) (Err error)
  refused-puts beside own is other new m next ValueLimit h = (refused beside own is other new m h.0, ap (with_beside beside name value) h.1)
  refused-puts beside own is other new m next NoMemory h = ap (with_beside beside name value) h

  -- a variable is taken out
  pub without-other : (beside : Bool) → (beside ≡ true → IsBeside ahead name value vars) → (other : List ℕ) → (beside ≡ true → is_same other name ≡ false) → IsInOrder (without_var other vars)
      → with_beside beside name value (without_var other vars) ≡ without_var other (with_beside beside name value vars)
  without-other true is other apart ordered =
      let i = is refl in
      let defined : value_of name (without_var other vars) ≡ Some i.before =
      value_of-without_var name other vars kept.ordered ∙ ap (λ b. if b then None else value_of name vars) (symmetric name other ∙ apart refl) ∙ i.defined in
      with_var-over name value (without_var other vars) ordered (subst IsSome (sym defined) refl)
      ∙ sym (removed name value other vars) ∙ ap (without_var other) (sym (seen-over name value vars kept ahead i))
  without-other false is other apart ordered = refl

  pub without-stands : (beside : Bool) → (beside ≡ true → IsBeside ahead name value vars) → (other : List ℕ) → (beside ≡ true → is_same other name ≡ false)
      → beside ≡ true → IsBeside ahead name value (without_var other vars)
  without-stands true is other apart = λ b.
      let i = is refl in
      record {
        before = i.before;
        defined = value_of-without_var name other vars kept.ordered ∙ ap (λ b. if b then None else value_of name vars) (symmetric name other ∙ apart refl) ∙ i.defined;
        alike = i.alike;
        short = i.short;
        same = i.same;
      }
  without-stands false is other apart = λ b. cc

  pub without-own : (beside : Bool) → (beside ≡ true → IsBeside ahead name value vars) → beside ≡ true → (own : List ℕ) → own ≡ name
      → without_var own vars ≡ without_var own (with_beside beside name value vars)
  without-own true is b own same =
      let i = is refl in
      let gone : value_of name (without_var own vars) ≡ None =
      value_of-without_var name own vars kept.ordered ∙ ap (λ n. if is_same name n then None else value_of name vars) same ∙ ap (λ b. if b then None else value_of name vars) (is_same-refl name) in
      sym (over-none name value (without_var own vars) gone) ∙ sym (removed name value own vars) ∙ ap (without_var own) (sym (seen-over name value vars kept ahead i))
  without-own false is b own same = cc

  -- ---- what else a refusal says

  pub none-too : (beside own : Bool) → (beside ≡ true → IsBeside ahead name value vars) → (other : List ℕ)
      → MatchBool own ((beside ≡ true) × (other ≡ name)) (beside ≡ true → is_same other name ≡ false)
      → value_of other vars ≡ None → value_of other (with_beside beside name value vars) ≡ None
  none-too beside true is other m none = let i = is m.0 in let some : Some i.before ≡ None = sym i.defined ∙ ap (λ n. value_of n vars) (sym m.1) ∙ none in cc
  none-too beside false is other m none = value-other beside name value vars other m ∙ none

  pub memory-too : (beside own : Bool) → (beside ≡ true → IsBeside ahead name value vars) → (other : List ℕ)
      → MatchBool own ((beside ≡ true) × (other ≡ name)) (beside ≡ true → is_same other name ≡ false)
      → (new : List ℕ) (error : VarError) → IfSome (value_of other vars) (refuses new error) → IfSome (value_of other (with_beside beside name value vars)) (refuses new error)
  memory-too beside true is other m new error h =
      let i = is m.0 in
      let old : refuses new error i.before = subst (λ o. IfSome o (refuses new error)) (ap (λ n. value_of n vars) m.1 ∙ i.defined) h in
      subst (λ o. IfSome o (refuses new error)) (sym (value-own beside name value vars other m.0 m.1)) (λ fits. old (subst (λ n. FitsIn n (length new)) (sym i.alike) fits))
  memory-too beside false is other m new error h = subst (λ o. IfSome o (refuses new error)) (sym (value-other beside name value vars other m)) h

  -- ---- the number that is set again, or anew

  -- nothing is to be written into the table that has the value
  pub settled : (beside : Bool) → (beside ≡ true → IsBeside ahead name value vars) → (beside ≡ false) ⊎ ((beside ≡ true) × (ahead ≡ false)) → vars ≡ with_beside beside name value vars
  settled true is h = ⊎_elim (λ off. cc) (λ (on : (true ≡ true) × (ahead ≡ false)). let i = is refl in sym (with_var-same name value vars kept.ordered (i.defined ∙ ap Some (i.same on.1)))) h
  settled false is h = refl

  -- another number of as many digits
  pub again : (beside : Bool) → (beside ≡ true → IsBeside ahead name value vars) → beside ≡ true → (own new : List ℕ) → name ≡ own → length new ≡ length value
      → put_var own new (with_beside beside name value vars) ≡ Some (with_beside beside name new vars)
  again true is b own new same long =
      let i = is refl in
      let whole : bytes_of (with_var name new vars) ≤ most_bytes = omega (arith, bytes_of-with_var name new vars kept.ordered, ap (bytes_found name) i.defined, i.alike, long, kept.limit) in
      let short : length new ≤ most_text = omega (arith, i.short, long) in
      ap (λ n. put_var n new (with_var name value vars)) (sym same) ∙ put_own name value vars kept ahead i new ∙ room (length new) (bytes_of (with_var name new vars)) (with_var name new vars) short whole
  again false is b own new same long = cc

-- a number that was put into the table stands beside it, too
pub set_beside : (name value : List ℕ) (vars next : Variables) → put_var name value vars ≡ Some next → IsBeside false name value next
set_beside name value vars next h = record {
  before = value;
  defined = put-told name value vars next h;
  alike = refl;
  short = put_short name value vars next h;
  same = λ _. refl;
}

pub set_seen : (name value : List ℕ) (vars next : Variables) → IsKept (bytes_of next) next → put_var name value vars ≡ Some next → put_var name value vars ≡ Some (with_beside true name value next)
set_seen name value vars next kept h =
    h ∙ ap Some (sym (with_var-same name value next kept.ordered (put-told name value vars next h)))

-- no element has an index variable with the name of the last sample's
pub not_index : (name element : List ℕ) → name ≡ index_name element → is_same last_sample_ok name ≡ false
not_index name element is = ap (is_same last_sample_ok) is
