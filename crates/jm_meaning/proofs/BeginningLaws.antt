-- The first variables, one after another.
use Rattle.std.proofs.Common.{◌≡◌, ℕ, ◌+◌, ◌<◌, ◌≤◌, List, [], ◌∷◌, ◌++◌, length, drop, Option, Some, None, refl, sym, ap, ◌∙◌, subst, add-one}
use mathlib.Core.Path.{fun_ext}
use Rattle.std.proofs.Math.ListN.{get_or}
use Rattle.std.proofs.Math.Seq.{drop-cons}
use Rattle.jm_base.specs.declared.types.End.TheVariants.{ValueLimit as PastValueLimit}
use Rattle.jm_base.specs.Run.{Run, over, ◌>>=◌}
use Rattle.jm_base.specs.Outside.{Account, Goes}
use Rattle.jm_base.proofs.RunLaws.{bind-assoc, goes-append, goes-bind}
use Rattle.std.proofs.lemmas.List.{drop_all}
use Rattle.thread_vars.specs.declared.error.VarError.{VarError}
use Rattle.var_functions.specs.declared.state.UserState.{UserState}
use Rattle.thread_vars.specs.Vars.{Variables, put_var}
use Rattle.var_functions.specs.Came.{Refused}
use Rattle.var_functions.proofs.CameLaws.{refused-bind, refused-first}
use Rattle.var_changes.specs.Changes.{Sets, go_on, changed}
use Rattle.trials.specs.Pairs.{with_changed, changing, set_pairs}
use Rattle.element_props.specs.declared.prop.Pair.{Pair}
use Rattle.element_tree.specs.declared.kinds.Element.{Element}
use Rattle.element_tree.specs.declared.kinds.Kind.{Kind}
use Rattle.element_tree.specs.declared.kinds.Kind.TheVariants.{UserVariables}
use Rattle.jm_meaning.specs.State.{State, Own, Ending, Part, state_of, normal, stopped, on_normal, and_then, Tried, Try, fine, past_limit, on_tried, on_came, tried, text, with_vars, put}
use Rattle.jm_meaning.specs.Beginning.{pairs_of, user_variables, set_all}
use Rattle.jm_meaning.proofs.PartLaws.{then-assoc}

-- ---- pairs that are set, as trials and as a part of a thread's run

-- where the trials have come to their end, the part has too
abbrev pub all_set : Unit {0} → Part
all_set u s = over (normal s)

-- a variable is set, and then the pairs after it
put-as : (own : Own) (ps : List Pair) (user : UserState) → ((user : UserState) → set_all ps (state_of user own) ≡ tried (set_pairs ps) (state_of user own) all_set)
    → (made : Option Variables)
    → and_then (with_vars made (state_of user own)) (set_all ps)
    ≡ ((over (with_changed user (go_on (changed []) user.vars made)) >>= on_tried (λ u. set_pairs ps)) >>= on_came own all_set)
put-as own ps user more None = refl
put-as own ps user more (Some vars) = more (record { vars = vars; fns = user.fns })

-- its value has come, or was past a limit
value-as : (own : Own) (p : Pair) (ps : List Pair) → ((user : UserState) → set_all ps (state_of user own) ≡ tried (set_pairs ps) (state_of user own) all_set)
    → (user : UserState) (came : Option (List ℕ))
    → (on_came own (put p.name) (record { came = came; user = user }) >>= on_normal (set_all ps))
    ≡ ((on_tried (λ value. changing (λ vars. Sets p.name value ∷ [])) (record { came = came; user = user }) >>= on_tried (λ u. set_pairs ps)) >>= on_came own all_set)
value-as own p ps more user None = refl
value-as own p ps more user (Some value) = put-as own ps user more (put_var p.name value user.vars)

pub as-trials : (own : Own) (pairs : List Pair) (user : UserState) → set_all pairs (state_of user own) ≡ tried (set_pairs pairs) (state_of user own) all_set
as-trials own [] user = refl
as-trials own (p ∷ ps) user =
    let value : Run (Tried (List ℕ)) = text p.value user in
    let set : List ℕ → Try (Unit {0}) = (λ value. changing (λ vars. Sets p.name value ∷ [])) in
    bind-assoc value (on_came own (put p.name)) (on_normal (set_all ps))
    ∙ ap (λ k. value >>= k) (fun_ext λ t. value-as own p ps (as-trials own ps) t.user t.came)
    ∙ sym (bind-assoc value (λ t. on_tried set t >>= on_tried (λ u. set_pairs ps)) (on_came own all_set))
    ∙ ap (λ r. r >>= on_came own all_set) (sym (bind-assoc value (on_tried set) (on_tried (λ u. set_pairs ps))))

-- pairs were set, or refused
pub pairs-goes : {a b : Account} (own : Own) (pairs : List Pair) (old new : UserState) (u : Unit {0}) → Goes a (set_pairs pairs old) [] (over (fine u new)) b
    → Goes a (set_all pairs (state_of old own)) [] (over (normal (state_of new own))) b
pairs-goes {a} {b} own pairs old new u goes =
    subst (λ r. Goes a r [] (over (normal (state_of new own))) b) (sym (as-trials own pairs old)) (goes-bind (on_came own all_set) goes)

pub pairs-refused : {a b : Account} (own : Own) (pairs : List Pair) (old new : UserState) (error : VarError) → Refused a (set_pairs pairs old) b (over (past_limit new)) error
    → Refused a (set_all pairs (state_of old own)) b (over (stopped PastValueLimit (state_of new own))) error
pairs-refused {a} {b} own pairs old new error refused =
    subst (λ r. Refused a r b (over (stopped PastValueLimit (state_of new own))) error) (sym (as-trials own pairs old)) (refused-bind (on_came own all_set) refused)

-- ---- one element after another

pub all-behind : (xs ys : List Pair) (s : State) → set_all (xs ++ ys) s ≡ and_then (set_all xs s) (set_all ys)
all-behind [] ys s = refl
all-behind (x ∷ xs) ys s =
    ap (λ f. and_then (tried (text x.value) s (put x.name)) f) (fun_ext λ s. all-behind xs ys s)
    ∙ sym (then-assoc (tried (text x.value) s (put x.name)) (set_all xs) (set_all ys))

-- the variables of the next element are set, and then those of the elements after it
pub element-step : (elements : List Element) (i : ℕ) (e : Element) (s : State) → i < length elements → e ≡ get_or elements i e
    → set_all (user_variables (drop i elements)) s ≡ and_then (set_all (pairs_of e.kind) s) (set_all (user_variables (drop (i + 1) elements)))
element-step elements i e s within is =
    ap (λ l. set_all (user_variables l) s) (prefix ∙ ap (λ q. q ∷ drop (i + 1) elements) (sym is))
    ∙ all-behind (pairs_of e.kind) (user_variables (drop (i + 1) elements)) s where
      prefix : drop i elements ≡ get_or elements i e ∷ drop (i + 1) elements
      prefix = rw (add-one i) (drop-cons elements i e within)

-- an element of another kind has none
pub none-of : (k : Kind) → ((vars : List Pair) → k ≡ UserVariables vars → ⊥) → pairs_of k ≡ []
none-of (UserVariables vars) other = absurd (other vars refl)
none-of k other = refl

-- ---- over an outside

-- a part has come, and goes on before another
pub part-goes : {a m b : Account} (run : Run Ending) (whole part : Run Ending) (next : Part) (t : State) → whole ≡ and_then part next
    → Goes a run [] whole m → Goes m part [] (over (normal t)) b → Goes a run [] (next t) b
part-goes {a} {m} {b} run whole part next t is so_far goes =
    goes-append so_far (subst (λ r. Goes m r [] (next t) b) (sym is) (goes-bind (on_normal next) goes))

pub part-refused : {a m b : Account} (run : Run Ending) (whole part : Run Ending) (next : Part) (t : State) (error : VarError) → whole ≡ and_then part next
    → Goes a run [] whole m → Refused m part b (over (stopped PastValueLimit t)) error → Refused a run b (over (stopped PastValueLimit t)) error
part-refused {a} {m} {b} run whole part next t error is so_far refused =
    refused-first so_far (subst (λ r. Refused m r b (over (stopped PastValueLimit t)) error) (sym is) (refused-bind (on_normal next) refused))

-- after the last element the part is over
pub no-elements : {a b : Account} (run : Run Ending) (elements : List Element) (i : ℕ) (t : State) → length elements ≤ i → Goes a run [] (set_all (user_variables (drop i elements)) t) b
    → Goes a run [] (over (normal t)) b
no-elements {a} {b} run elements i t past goes = subst (λ l. Goes a run [] (set_all (user_variables l) t) b) (drop_all i elements past) goes
