-- Laws of parts and rounds.
use Rattle.std.proofs.Common.{◌≡◌, ℕ, zero, suc, ◌+◌, ◌-◌, ◌≤◌, List, [], Option, Some, None, refl, sym, ap, ◌∙◌, subst, arith}
use mathlib.Core.Path.{fun_ext}
use Rattle.std.specs.Prelude.{Result, Ok, Err}
use Rattle.jm_base.specs.declared.types.End.TheVariants.{SampleLimit, RoundLimit, ValueLimit as PastValueLimit}
use Rattle.jm_base.specs.Run.{Run, over, ◌>>=◌}
use Rattle.jm_base.specs.Outside.{Account, Goes}
use Rattle.jm_base.proofs.RunLaws.{bind-assoc, goes-nothing}
use Rattle.template_text.specs.Pieces.{Pieces}
use Rattle.thread_vars.specs.declared.error.VarError.{VarError}
use Rattle.thread_vars.specs.declared.error.VarError.TheVariants.{ValueLimit, NoMemory}
use Rattle.var_functions.specs.declared.state.UserState.{UserState}
use Rattle.thread_vars.specs.Vars.{Variables, Puts}
use Rattle.var_functions.specs.Expansion.{expansion}
use Rattle.var_functions.specs.Came.{CameTo, by_limit, by_memory}
use Rattle.jm_meaning.specs.declared.signal.Signal.{Signal}
use Rattle.jm_meaning.specs.declared.signal.Signal.TheVariants.{Normal, NextLoop, Stop}
use Rattle.jm_meaning.specs.State.{State, Own, Ending, Part, state_of, normal, stopped, and_then, on_normal, at_units, at_rounds, taking_unit, with_unit, taking_round, with_round, on_came, tried, text, text_of, with_vars}
use Rattle.jm_meaning.specs.Rounds.{Turns, where_begun, rounds}

normal-assoc : (f g : Part) (s : State) (signal : Signal) → on_normal f (record { state = s; signal = signal }) >>= on_normal g
    ≡ on_normal (λ s. and_then (f s) g) (record { state = s; signal = signal })
normal-assoc f g s Normal = refl
normal-assoc f g s NextLoop = refl
normal-assoc f g s (Stop end) = refl

-- one part after another after another
pub then-assoc : (r : Run Ending) (f g : Part) → and_then (and_then r f) g ≡ and_then r (λ s. and_then (f s) g)
then-assoc r f g = bind-assoc r (on_normal f) (on_normal g) ∙ ap (λ h. r >>= h) (fun_ext λ e. normal-assoc f g e.state e.signal)

-- what stands after a decision to begin a round
abbrev pub round_at : {X : Type 0} → ℕ → Turns X → (ℕ → Part) → ℕ → X → Part
round_at limit turns body i x s =
    with_round s (λ s. and_then (turns.opens x i s) (λ s. and_then (body i s) (rounds (limit - (i + 1)) turns body (i + 1))))

-- no round is left, or one is taken
pub no-rounds : (s : State) (next : Part) → s.own.rounds ≡ 0 → with_round s next ≡ over (stopped RoundLimit s)
no-rounds s next none = ap (λ n. taking_round n s next) none

pub one-round : (s : State) (next : Part) (n : ℕ) → s.own.rounds ≡ suc n → with_round s next ≡ next (state_of s.user (at_rounds s.own n))
one-round s next n is = ap (λ n. taking_round n s next) is

-- no unit is left, or one is taken
pub no-units : (s : State) (next : Part) → s.own.units ≡ 0 → with_unit s next ≡ over (stopped SampleLimit s)
no-units s next none = ap (λ n. taking_unit n s next) none

pub one-unit : (s : State) (next : Part) (n : ℕ) → s.own.units ≡ suc n → with_unit s next ≡ next (state_of s.user (at_units s.own n))
one-unit s next n is = ap (λ n. taking_unit n s next) is

-- without fuel no round is left
dry : {X : Type 0} (user : UserState) (own : Own) → own.rounds ≡ 0 → (next : X → Part) (came : Option (Option X))
    → on_came own (where_begun (λ x s. over (stopped RoundLimit s))) (record { came = came; user = user })
    ≡ on_came own (where_begun (λ x s. with_round s (next x))) (record { came = came; user = user })
dry user own none next None = refl
dry user own none next (Some None) = refl
dry user own none next (Some (Some x)) = sym (no-rounds (state_of user own) (next x) none)

by_fuel : {X : Type 0} (limit : ℕ) (turns : Turns X) (body : ℕ → Part) (i : ℕ) (s : State) → i + s.own.rounds ≤ limit → (fuel : ℕ) → limit - i ≡ fuel
    → rounds fuel turns body i s ≡ tried (turns.begins i) s (where_begun (round_at limit turns body i))
unfolding rounds
by_fuel limit turns body i s bound zero is =
    let none : s.own.rounds ≡ 0 = omega arith in
    ap (λ k. turns.begins i s.user >>= k) (fun_ext λ t. dry t.user s.own none (λ x s. and_then (turns.opens x i s) (λ s. and_then (body i s) (rounds (limit - (i + 1)) turns body (i + 1)))) t.came)
by_fuel limit turns body i s bound (suc n) is =
    let less : n ≡ limit - (i + 1) = omega arith in
    ap (λ m. tried (turns.begins i) s (where_begun (λ x s. with_round s (λ s. and_then (turns.opens x i s) (λ s. and_then (body i s) (rounds m turns body (i + 1))))))) less

-- The rounds that are left: the next one is decided on, and then taken.
pub next-round : {X : Type 0} (limit : ℕ) (turns : Turns X) (body : ℕ → Part) (i : ℕ) (s : State) → i + s.own.rounds ≤ limit
    → rounds (limit - i) turns body i s ≡ tried (turns.begins i) s (where_begun (round_at limit turns body i))
next-round limit turns body i s bound = by_fuel limit turns body i s bound (limit - i) refl

-- what a part goes on with after a template's text
pub text-then : (template : Pieces) (s : State) (next : List ℕ → Part)
    → tried (text template) s next ≡ (expansion template s.user.vars s.user.fns >>= λ x. on_came s.own next (text_of s.user x))
text-then template s next = bind-assoc (expansion template s.user.vars s.user.fns) (λ x. over (text_of s.user x)) (on_came s.own next)

-- variables that were to be set
pub puts-came : (a : Account) (made : Option Variables) (old : UserState) (own : Own) (vars : Variables) (res : Result (Unit {0}) VarError) → Puts made old.vars vars res
    → CameTo a (with_vars made (state_of old own)) a (λ u. over (normal (state_of (record { vars = vars; fns = old.fns }) own)))
    (over (stopped PastValueLimit (state_of (record { vars = vars; fns = old.fns }) own))) res
puts-came a made old own vars (Ok u) is = subst (λ m. Goes a (with_vars m (state_of old own)) [] (over (normal (state_of (record { vars = vars; fns = old.fns }) own))) a) (sym is) (goes-nothing a _)
puts-came a made old own vars (Err ValueLimit) put =
    by_limit (subst (λ vs. Goes a (with_vars made (state_of old own)) [] (over (stopped PastValueLimit (state_of (record { vars = vs; fns = old.fns }) own))) a) (sym put.1)
    (subst (λ m. Goes a (with_vars m (state_of old own)) [] (over (stopped PastValueLimit (state_of old own))) a) (sym put.0) (goes-nothing a _)))
puts-came a made old own vars (Err NoMemory) put = by_memory (_, goes-nothing a _)
