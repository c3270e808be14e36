-- Where trials, one after another, were cut short.
use mathlib.Core.Path.{fun_ext}
use Rattle.std.proofs.Common.{◌≡◌, ℕ, ◌+◌, ◌<◌, List, [], ◌∷◌, ◌++◌, length, take, drop, Option, Some, None, refl, sym, ap, ◌∙◌, subst, add-one}
use Rattle.std.specs.Prelude.{Result, Ok, Err, OnErr}
use Rattle.std.proofs.Math.ListN.{get_or}
use Rattle.std.proofs.Math.Seq.{drop-cons}
use Rattle.std.proofs.lemmas.List.{take_more, take-append-drop}
use Rattle.jm_base.specs.Run.{Run, over, ◌>>=◌}
use Rattle.jm_base.specs.Outside.{Account, Goes}
use Rattle.jm_base.proofs.RunLaws.{goes-append, goes-bind, bind-assoc}
use Rattle.thread_vars.specs.declared.error.VarError.{VarError}
use Rattle.thread_vars.specs.declared.error.VarError.TheVariants.{ValueLimit, NoMemory}
use Rattle.var_functions.specs.declared.state.UserState.{UserState}
use Rattle.thread_vars.specs.Vars.{Variables, Puts}
use Rattle.var_functions.specs.FunctionState.{IsLater}
use Rattle.var_functions.specs.Came.{LeftOf, Refused, by_limit, by_memory}
use Rattle.var_functions.proofs.CameLaws.{refused-bind}
use Rattle.var_changes.specs.Changes.{Change, Changes, ChangedInPart}
use Rattle.trials.specs.Tried.{Tried, Try, fine, past_limit, on_tried, ◌>=>◌, each_of}
use Rattle.trials.specs.CutShort.{DoesPrefix, Cut, CutAmong}

-- a call that was refused has left some rest of its run
pub refused-left : {A : Type 0} {a b : Account} {run limit : Run A} {error : VarError} → Refused a run b limit error → LeftOf a run b
refused-left {limit = limit} (by_limit goes) = (limit, goes)
refused-left (by_memory left) = left

-- a variable that was not set leaves the others as they were
pub puts_refused : {P : Type 0} (made : Option Variables) (old new : Variables) (res : Result (Unit {0}) VarError)
    → Puts made old new res → (new ≡ old → P) → OnErr res P
puts_refused made old new (Ok u) puts p = tt
puts_refused made old new (Err ValueLimit) puts p = p puts.1
puts_refused made old new (Err NoMemory) puts p = p puts

-- ---- trials after others

both : {A B C : Type 0} (f : A → Try B) (g : B → Try C) (user : UserState) (came : Option A)
    → (on_tried f (record { came = came; user = user }) >>= on_tried g) ≡ on_tried (λ x. f x >=> g) (record { came = came; user = user })
both f g user None = refl
both f g user (Some x) = refl

try-assoc : {A B C : Type 0} (r : Run (Tried A)) (f : A → Try B) (g : B → Try C) → ((r >>= on_tried f) >>= on_tried g) ≡ (r >>= on_tried (λ x. f x >=> g))
try-assoc r f g = bind-assoc r (on_tried f) (on_tried g) ∙ ap (λ k. r >>= k) (fun_ext λ t. both f g t.user t.came)

each-append : {X : Type 0} (trial : X → Try (Unit {0})) (xs ys : List X) (user : UserState) → each_of trial (xs ++ ys) user ≡ (each_of trial xs user >>= on_tried (λ u. each_of trial ys))
each-append trial [] ys user = refl
each-append {X} trial (x ∷ xs) ys user =
    ap (λ (f : Try (Unit {0})). trial x user >>= on_tried (λ u. f)) (fun_ext λ s. each-append trial xs ys s)
    ∙ sym (try-assoc (trial x user) (λ u. each_of trial xs) (λ u. each_of trial ys))

done-then : {X : Type 0} {a m b : Account} (trial : X → Try (Unit {0})) (xs ys : List X) (old mid new : UserState) → Goes a (each_of trial xs old) [] (over (fine tt mid)) m
    → Goes m (each_of trial ys mid) [] (over (fine tt new)) b → Goes a (each_of trial (xs ++ ys) old) [] (over (fine tt new)) b
done-then {X} {a} {m} {b} trial xs ys old mid new first second =
    subst (λ r. Goes a r [] (over (fine tt new)) b) (sym (each-append trial xs ys old)) (goes-append (goes-bind (on_tried (λ u. each_of trial ys)) first) second)

-- ---- one after another

pub around : {X : Type 0} (xs : List X) (i : ℕ) (x : X) → i < length xs → x ≡ get_or xs i x → xs ≡ take i xs ++ (x ∷ drop (i + 1) xs)
around xs i x within is = sym (take-append-drop i xs) ∙ ap (λ l. take i xs ++ l) (next ∙ ap (λ q. q ∷ drop (i + 1) xs) (sym is)) where
  next : drop i xs ≡ get_or xs i x ∷ drop (i + 1) xs
  next = rw (add-one i) (drop-cons xs i x within)

pub taken : {X : Type 0} (xs : List X) (i : ℕ) (x : X) → i < length xs → x ≡ get_or xs i x → take (i + 1) xs ≡ take i xs ++ x ∷ []
taken xs i x within is = take_more xs i x within ∙ ap (λ q. take i xs ++ q ∷ []) (sym is)

-- one more is done
pub each-done : {X : Type 0} {a m b : Account} (trial : X → Try (Unit {0})) (xs : List X) (i : ℕ) (x : X) (old mid new : UserState) → i < length xs → x ≡ get_or xs i x
    → Goes a (each_of trial (take i xs) old) [] (over (fine tt mid)) m → Goes m (trial x mid) [] (over (fine tt new)) b
    → Goes a (each_of trial (take (i + 1) xs) old) [] (over (fine tt new)) b
each-done {X} {a} {m} {b} trial xs i x old mid new within is so_far goes =
    subst (λ l. Goes a (each_of trial l old) [] (over (fine tt new)) b) (sym (taken xs i x within is))
    (done-then trial (take i xs) (x ∷ []) old mid new so_far (goes-bind (on_tried (λ u. each_of trial [])) goes))

-- the next one was refused
pub each-cut : {X : Type 0} {a m b : Account} (trial : X → Try (Unit {0})) (xs : List X) (i : ℕ) (x : X) (old mid new : UserState) (error : VarError) → i < length xs → x ≡ get_or xs i x
    → Goes a (each_of trial (take i xs) old) [] (over (fine tt mid)) m → Refused m (trial x mid) b (over (past_limit new)) error
    → new.vars ≡ mid.vars → IsLater mid.fns new.fns → DoesPrefix trial a xs old b new
each-cut {X} {a} {m} {b} trial xs i x old mid new error within is so_far refused vars later = record {
  done = take i xs;
  left = x ∷ drop (i + 1) xs;
  order = around xs i x within is;
  between = mid;
  moment = m;
  does = so_far;
  stands = record { vars = vars; fns = later };
  rest = refused-left (refused-bind (on_tried (λ u. each_of trial (drop (i + 1) xs))) refused);
}

-- ---- the same for numbers, each at its place

around-at : (xs : List ℕ) (i : ℕ) → i < length xs → xs ≡ take i xs ++ (get_or xs i 0 ∷ drop (i + 1) xs)
around-at xs i within = sym (take-append-drop i xs) ∙ ap (λ l. take i xs ++ l) next where
  next : drop i xs ≡ get_or xs i 0 ∷ drop (i + 1) xs
  next = rw (add-one i) (drop-cons xs i 0 within)

pub each-done-at : {a m b : Account} (trial : ℕ → Try (Unit {0})) (xs : List ℕ) (i : ℕ) (old mid new : UserState) → i < length xs
    → Goes a (each_of trial (take i xs) old) [] (over (fine tt mid)) m → Goes m (trial (get_or xs i 0) mid) [] (over (fine tt new)) b
    → Goes a (each_of trial (take (i + 1) xs) old) [] (over (fine tt new)) b
each-done-at {a} {m} {b} trial xs i old mid new within so_far goes =
    subst (λ l. Goes a (each_of trial l old) [] (over (fine tt new)) b) (sym (take_more xs i 0 within))
    (done-then trial (take i xs) (get_or xs i 0 ∷ []) old mid new so_far (goes-bind (on_tried (λ u. each_of trial [])) goes))

pub cut-at : (a m b : Account) (trial : ℕ → Try (Unit {0})) (cut : ℕ → Cut) (xs : List ℕ) (i : ℕ) (old mid new : UserState) → i < length xs
    → Goes a (each_of trial (take i xs) old) [] (over (fine tt mid)) m → cut (get_or xs i 0) m mid b new → CutAmong trial cut xs a old b new
cut-at a m b trial cut xs i old mid new within so_far next = record {
  done = take i xs;
  one = get_or xs i 0;
  left = drop (i + 1) xs;
  order = around-at xs i within;
  between = mid;
  moment = m;
  whole = so_far;
  next = next;
}

-- ---- what a call says that was refused

-- what a call says of each refusal, it says of this one
pub on_error : {A E : Type 0} {P : Type 0} (res : Result A E) (error : E) → OnErr res P → res ≡ Err error → P
on_error (Ok x) error p is = absurd (cc)
on_error (Err e) error p is = p

-- changes that were cut, out of memory
pub changes_cut : (changes : List Change) (old new : Variables) (res : Result (Unit {0}) VarError) → Changes changes old new res → res ≡ Err NoMemory → ChangedInPart changes old new
changes_cut changes old new (Ok u) is none = absurd (cc)
changes_cut changes old new (Err ValueLimit) is none = absurd (cc)
changes_cut changes old new (Err NoMemory) is none = is
