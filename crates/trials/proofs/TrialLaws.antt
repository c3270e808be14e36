-- How trials go on, one after another.
use Rattle.std.proofs.Common.{◌≡◌, ℕ, ◌+◌, ◌<◌, ◌≤◌, List, [], ◌∷◌, length, drop, Some, None, sym, ap, ◌∙◌, subst, add-one}
use Rattle.std.specs.Prelude.{Result, Ok, Err}
use Rattle.std.proofs.Math.ListN.{get_or}
use Rattle.std.proofs.Math.Seq.{drop-cons}
use Rattle.std.proofs.lemmas.List.{drop_all}
use Rattle.jm_base.specs.Run.{Run, over}
use Rattle.jm_base.specs.Outside.{Account, Goes}
use Rattle.jm_base.proofs.RunLaws.{goes-append, goes-bind, goes-nothing}
use Rattle.template_text.specs.Pieces.{Pieces}
use Rattle.thread_vars.specs.declared.error.VarError.{VarError}
use Rattle.thread_vars.specs.declared.error.VarError.TheVariants.{ValueLimit, NoMemory}
use Rattle.var_functions.specs.declared.state.UserState.{UserState}
use Rattle.thread_vars.specs.Vars.{Variables}
use Rattle.var_functions.specs.Expansion.{expanded, expansion}
use Rattle.var_functions.specs.Came.{CameTo, Refused, by_limit, by_memory}
use Rattle.var_functions.proofs.CameLaws.{came-bind, came-first, refused-bind, refused-first}
use Rattle.var_changes.specs.Changes.{Change, Changes}
use Rattle.trials.specs.Tried.{Tried, Try, fine, past_limit, on_tried, ◌>=>◌, each_of, text, text_of}
use Rattle.trials.specs.Pairs.{with_changed, changing}

-- a trial has come to a value, and the next one goes on from there
pub then-came : {A B C : Type 0} (a m b : Account) (first : Try A) (next : A → Try B) (old mid : UserState) (x : A) (on : C → Run (Tried B)) (limit : Run (Tried B)) (res : Result C VarError)
    → Goes a (first old) [] (over (fine x mid)) m → CameTo m (next x mid) b on limit res → CameTo a ((first >=> next) old) b on limit res
then-came a m b first next old mid x on limit res goes came =
    came-first a m b ((first >=> next) old) (next x mid) on limit res (goes-bind (on_tried next) goes) came

-- a trial that was refused
pub then-refused : {A B : Type 0} (a b : Account) (first : Try A) (next : A → Try B) (old new : UserState) (error : VarError)
    → Refused a (first old) b (over (past_limit new)) error → Refused a ((first >=> next) old) b (over (past_limit new)) error
then-refused a b first next old new error refused = refused-bind (on_tried next) refused

-- out of memory, after what was heard before
pub then-memory : {A B : Type 0} (a m : Account) (first : Try A) (next : A → Try B) (old mid : UserState) (x : A) (limit : Run (Tried B))
    → Goes a (first old) [] (over (fine x mid)) m → Refused a ((first >=> next) old) m limit NoMemory
then-memory a m first next old mid x limit goes = by_memory (next x mid, goes-bind (on_tried next) goes)

-- the text of a template has come
pub text-came : (a b : Account) (template : Pieces) (old new : UserState) (res : Result (List ℕ) VarError)
    → CameTo a (expansion template old.vars old.fns) b (λ x. over (expanded (Some x) new.fns)) (over (expanded None new.fns)) res → new.vars ≡ old.vars
    → CameTo a (text template old) b (λ x. over (fine x new)) (over (past_limit new)) res
text-came a b template old new res came same =
    subst (λ vars. CameTo a (text template old) b (λ x. over (fine x (record { vars = vars; fns = new.fns }))) (over (past_limit (record { vars = vars; fns = new.fns }))) res) (sym same)
    (came-bind a b (expansion template old.vars old.fns) (λ x. over (expanded (Some x) new.fns)) (over (expanded None new.fns)) res (λ x. over (text_of old x)) came)

-- changes of the variables have come
pub change-came : (a : Account) (changes : Variables → List Change) (old : UserState) (vars : Variables) (res : Result (Unit {0}) VarError) → Changes (changes old.vars) old.vars vars res
    → CameTo a (changing changes old) a (λ u. over (fine u (record { vars = vars; fns = old.fns }))) (over (past_limit (record { vars = vars; fns = old.fns }))) res
change-came a changes old vars (Ok u) is = subst (λ c. Goes a (over (with_changed old c)) [] (over (fine u (record { vars = vars; fns = old.fns }))) a) (sym is) (goes-nothing a _)
change-came a changes old vars (Err ValueLimit) is =
    by_limit (subst (λ c. Goes a (over (with_changed old c)) [] (over (past_limit (record { vars = vars; fns = old.fns }))) a) (sym is) (goes-nothing a _))
change-came a changes old vars (Err NoMemory) is = by_memory (_, goes-nothing a _)

-- ---- one after another

from-here : {X : Type 0} (xs : List X) (i : ℕ) (x : X) → i < length xs → x ≡ get_or xs i x → drop i xs ≡ x ∷ drop (i + 1) xs
from-here xs i x within is = (rw (add-one i) (drop-cons xs i x within)) ∙ ap (λ q. q ∷ drop (i + 1) xs) (sym is)

-- the next of them, and then those after it
pub each-step : {X : Type 0} (trial : X → Try (Unit {0})) (xs : List X) (i : ℕ) (x : X) (user : UserState) → i < length xs → x ≡ get_or xs i x
    → each_of trial (drop i xs) user ≡ (trial x >=> λ u. each_of trial (drop (i + 1) xs)) user
each-step trial xs i x user within is = ap (λ l. each_of trial l user) (from-here xs i x within is)

pub each-goes : {X : Type 0} {a m b : Account} (trial : X → Try (Unit {0})) (run : Run (Tried (Unit {0}))) (xs : List X) (i : ℕ) (x : X) (mid new : UserState) (u : Unit {0}) → i < length xs → x ≡ get_or xs i x
    → Goes a run [] (each_of trial (drop i xs) mid) m → Goes m (trial x mid) [] (over (fine u new)) b → Goes a run [] (each_of trial (drop (i + 1) xs) new) b
each-goes {X} {a} {m} {b} trial run xs i x mid new u within is so_far goes =
    goes-append so_far (subst (λ r. Goes m r [] (each_of trial (drop (i + 1) xs) new) b) (sym (each-step trial xs i x mid within is)) (goes-bind (on_tried (λ u. each_of trial (drop (i + 1) xs))) goes))

pub each-refused : {X : Type 0} {a m b : Account} (trial : X → Try (Unit {0})) (run : Run (Tried (Unit {0}))) (xs : List X) (i : ℕ) (x : X) (mid new : UserState) (error : VarError) → i < length xs → x ≡ get_or xs i x
    → Goes a run [] (each_of trial (drop i xs) mid) m → Refused m (trial x mid) b (over (past_limit new)) error → Refused a run b (over (past_limit new)) error
each-refused {X} {a} {m} {b} trial run xs i x mid new error within is so_far refused =
    refused-first so_far (subst (λ r. Refused m r b (over (past_limit new)) error) (sym (each-step trial xs i x mid within is)) (refused-bind (on_tried (λ u. each_of trial (drop (i + 1) xs))) refused))

pub each-over : {X : Type 0} {a b : Account} (trial : X → Try (Unit {0})) (run : Run (Tried (Unit {0}))) (xs : List X) (i : ℕ) (user : UserState) → length xs ≤ i
    → Goes a run [] (each_of trial (drop i xs) user) b → Goes a run [] (over (fine tt user)) b
each-over {X} {a} {b} trial run xs i user past goes = subst (λ l. Goes a run [] (each_of trial l user) b) (drop_all i xs past) goes

-- ---- the same for numbers, each at its place

number-here : (xs : List ℕ) (i : ℕ) → i < length xs → drop i xs ≡ get_or xs i 0 ∷ drop (i + 1) xs
number-here xs i within = rw (add-one i) (drop-cons xs i 0 within)

pub each-goes-at : {a m b : Account} (trial : ℕ → Try (Unit {0})) (run : Run (Tried (Unit {0}))) (xs : List ℕ) (i : ℕ) (mid new : UserState) (u : Unit {0}) → i < length xs
    → Goes a run [] (each_of trial (drop i xs) mid) m → Goes m (trial (get_or xs i 0) mid) [] (over (fine u new)) b → Goes a run [] (each_of trial (drop (i + 1) xs) new) b
each-goes-at {a} {m} {b} trial run xs i mid new u within so_far goes =
    goes-append so_far (subst (λ l. Goes m (each_of trial l mid) [] (each_of trial (drop (i + 1) xs) new) b) (sym (number-here xs i within)) (goes-bind (on_tried (λ u. each_of trial (drop (i + 1) xs))) goes))

pub each-refused-at : {a m b : Account} (trial : ℕ → Try (Unit {0})) (run : Run (Tried (Unit {0}))) (xs : List ℕ) (i : ℕ) (mid new : UserState) (error : VarError) → i < length xs
    → Goes a run [] (each_of trial (drop i xs) mid) m → Refused m (trial (get_or xs i 0) mid) b (over (past_limit new)) error → Refused a run b (over (past_limit new)) error
each-refused-at {a} {m} {b} trial run xs i mid new error within so_far refused =
    refused-first so_far (subst (λ l. Refused m (each_of trial l mid) b (over (past_limit new)) error) (sym (number-here xs i within)) (refused-bind (on_tried (λ u. each_of trial (drop (i + 1) xs))) refused))
