-- What comes next in a ForEach.
use Rattle.std.proofs.Common.{◌≡◌, ℕ, ◌<◌, ◌≤◌, true, false, List, Some, None, refl, sym, subst, arith}
use Rattle.std.specs.Prelude.{Result, Err}
use Rattle.jm_base.specs.Run.{Run}
use Rattle.jm_base.specs.Outside.{Account}
use Rattle.thread_vars.specs.declared.error.VarError.{VarError}
use Rattle.var_functions.specs.declared.state.UserState.{UserState}
use Rattle.thread_vars.specs.Vars.{Variables, Puts}
use Rattle.var_functions.specs.Came.{CameTo, Refused}
use Rattle.element_tree.specs.declared.package.Turn.{Turn}
use Rattle.element_tree.specs.declared.package.Turn.TheVariants.{Child, Round, Over}
use Rattle.cursor_steps.specs.declared.pass.Pass.{Pass}
use Rattle.logic_controllers.specs.declared.rounds.Rounds.{Rounds}
use Rattle.cursor_steps.specs.CursorStep.{Step, answers, past_limit, with_vars}
use Rattle.cursor_steps.specs.RunningChildren.{is_left, after_child}
use Rattle.logic_controllers.specs.ControllerRounds.{round_begun, opened_vars, opened}
use Rattle.cursor_steps.proofs.Steps.{vars-refused, puts-came}
use Rattle.cursor_steps.proofs.Passes.{some-left, none-left}
use Rattle.logic_controllers.specs.declared.each_cursor.EachCursor.{EachCursor}
use Rattle.logic_controllers.specs.ForEachController.{Row, value_at, output_vars, each_goes, each_opens}

pub each-child : (row : Row) (c : EachCursor) (state : UserState) (place : ℕ) (pass : Pass)
    → (place ≡ c.rounds.pass.next) × (place < c.rounds.pass.children) × (pass ≡ after_child c.rounds.pass)
    → each_goes row c state ≡ answers (Child place) (record { element = c.element; rounds = record c.rounds { pass = pass }; value = c.value }) state
each-child row c state place pass h =
    let left : is_left c.rounds.pass ≡ true = some-left c.rounds.pass (omega (arith, h.0, h.1)) in rw (left, h.0, h.2) refl

pub each-over : (row : Row) (c : EachCursor) (state : UserState) (pass : Pass) → (c.rounds.pass.children ≤ c.rounds.pass.next) × (pass ≡ c.rounds.pass)
    → None ≡ value_at row c.rounds.begun state.vars
    → each_goes row c state ≡ answers Over (record { element = c.element; rounds = record c.rounds { pass = pass }; value = c.value }) state
each-over row c state pass h is =
    let none : is_left c.rounds.pass ≡ false = none-left c.rounds.pass h.0 in
    let no : value_at row c.rounds.begun state.vars ≡ None = sym is in rw (none, no, h.1) refl

pub each-round : (row : Row) (c : EachCursor) (state : UserState) (pass : Pass) (rounds : Rounds) (value : List ℕ) → (c.rounds.pass.children ≤ c.rounds.pass.next) × (pass ≡ c.rounds.pass)
    → Some value ≡ value_at row c.rounds.begun state.vars → rounds ≡ round_begun (record c.rounds { pass = pass })
    → each_goes row c state ≡ answers Round (record { element = c.element; rounds = rounds; value = Some value }) state
each-round row c state pass rounds value h is begun =
    let none : is_left c.rounds.pass ≡ false = none-left c.rounds.pass h.0 in
    let some : value_at row c.rounds.begun state.vars ≡ Some value = sym is in rw (none, some, begun, h.1) refl

-- its variables were to be set, the index variable first
pub each-opened : (a : Account) (name output : List ℕ) (c new : EachCursor) (old : UserState) (next : UserState → Run (Step Turn EachCursor)) (vars last : Variables) (res : Result (Unit {0}) VarError)
    → opened_vars name c.rounds old.vars ≡ Some vars → Puts (output_vars output c.value vars) vars last res
    → new ≡ record { element = c.element; rounds = opened c.rounds; value = None }
    → CameTo a (each_opens name output c old next) a (λ u. next (record { vars = last; fns = old.fns })) (past_limit new (record { vars = last; fns = old.fns })) res
each-opened a name output c new old next vars last res is put same =
    subst (λ m. CameTo a (with_vars m c old (λ state. with_vars (output_vars output c.value state.vars) (record { element = c.element; rounds = opened c.rounds; value = None }) state next)) a
    (λ u. next (record { vars = last; fns = old.fns })) (past_limit new (record { vars = last; fns = old.fns })) res) (sym is)
    (subst (λ n. CameTo a (with_vars (output_vars output c.value vars) (record { element = c.element; rounds = opened c.rounds; value = None }) (record { vars = vars; fns = old.fns }) next) a
    (λ u. next (record { vars = last; fns = old.fns })) (past_limit n (record { vars = last; fns = old.fns })) res) (sym same)
    (puts-came a (output_vars output c.value vars) (record { element = c.element; rounds = opened c.rounds; value = None }) (record { vars = vars; fns = old.fns }) next last res put))

pub each-stays : (a : Account) (name output : List ℕ) (c : EachCursor) (old : UserState) (next : UserState → Run (Step Turn EachCursor)) (vars : Variables) (rounds : Rounds) (error : VarError)
    → Puts (opened_vars name c.rounds old.vars) old.vars vars (Err error) → rounds ≡ c.rounds
    → Refused a (each_opens name output c old next) a (past_limit (record { element = c.element; rounds = rounds; value = c.value }) (record { vars = vars; fns = old.fns })) error
each-stays a name output c old next vars rounds error put same =
    rw same (vars-refused a (opened_vars name c.rounds old.vars) c old
    (λ state. with_vars (output_vars output c.value state.vars) (record { element = c.element; rounds = opened c.rounds; value = None }) state next) vars error put)
