-- What comes next in a While.
use Rattle.std.proofs.Common.{◌≡◌, ℕ, ◌<◌, ◌≤◌, true, false, List, [], Some, None, refl, subst, arith}
use Rattle.std.specs.Prelude.{Err, if◌then◌else◌}
use Rattle.jm_base.specs.Run.{Run, over}
use Rattle.jm_base.specs.Outside.{Account, Goes}
use Rattle.template_text.specs.Pieces.{Pieces}
use Rattle.thread_vars.specs.declared.error.VarError.{VarError}
use Rattle.var_functions.specs.declared.state.UserState.{UserState}
use Rattle.thread_vars.specs.Vars.{Variables, Puts}
use Rattle.var_functions.specs.Expansion.{expanded, expansion}
use Rattle.var_functions.specs.Came.{Refused}
use Rattle.element_tree.specs.declared.package.Turn.{Turn}
use Rattle.element_tree.specs.declared.package.Turn.TheVariants.{Child, Round, Over}
use Rattle.cursor_steps.specs.declared.pass.Pass.{Pass}
use Rattle.logic_controllers.specs.declared.rounds.Rounds.{Rounds}
use Rattle.cursor_steps.specs.CursorStep.{Step, answers, past_limit, expanding}
use Rattle.cursor_steps.specs.RunningChildren.{is_left, after_child}
use Rattle.logic_controllers.specs.ControllerRounds.{round_begun, opened_vars, opened}
use Rattle.cursor_steps.proofs.Steps.{text-came, text-refused, vars-refused}
use Rattle.cursor_steps.proofs.Passes.{some-left, none-left}
use Rattle.logic_controllers.specs.declared.while_cursor.WhileCursor.{WhileCursor}
use Rattle.logic_controllers.specs.WhileController.{last_ok, goes_on, while_goes, while_next}

-- a round begins, or the pass is over
abbrev decided : WhileCursor → List ℕ → UserState → Run (Step Turn WhileCursor)
decided c text state =
    if goes_on text c.rounds.begun (last_ok state.vars) then answers Round (record { element = c.element; rounds = round_begun c.rounds }) state else answers Over c state

-- a child is left in the round
pub while-child : (condition : Pieces) (c : WhileCursor) (state : UserState) (place : ℕ) (pass : Pass)
    → (place ≡ c.rounds.pass.next) × (place < c.rounds.pass.children) × (pass ≡ after_child c.rounds.pass)
    → while_goes condition c state ≡ answers (Child place) (record { element = c.element; rounds = record c.rounds { pass = pass } }) state
while-child condition c state place pass h =
    let left : is_left c.rounds.pass ≡ true = some-left c.rounds.pass (omega (arith, h.0, h.1)) in rw (left, h.0, h.2) refl

-- the condition's text came
pub while-over : (a b : Account) (condition : Pieces) (c : WhileCursor) (old new : UserState) (text : List ℕ) (pass : Pass)
    → (c.rounds.pass.children ≤ c.rounds.pass.next) × (pass ≡ c.rounds.pass)
    → Goes a (expansion condition old.vars old.fns) [] (over (expanded (Some text) new.fns)) b → new.vars ≡ old.vars → goes_on text c.rounds.begun (last_ok new.vars) ≡ false
    → Goes a (while_goes condition c old) [] (answers Over (record { element = c.element; rounds = record c.rounds { pass = pass } }) new) b
while-over a b condition c old new text pass h goes same on =
    let none : is_left c.rounds.pass ≡ false = none-left c.rounds.pass h.0 in
    rw (none, h.1)
    (subst (λ t. Goes a (expanding condition c old (decided c)) [] (if t then answers Round (record { element = c.element; rounds = round_begun c.rounds }) new else answers Over c new) b) on
    (text-came a b condition old new text c (decided c) goes same))

pub while-round : (a b : Account) (condition : Pieces) (c : WhileCursor) (old new : UserState) (text : List ℕ) (pass : Pass) (rounds : Rounds)
    → (c.rounds.pass.children ≤ c.rounds.pass.next) × (pass ≡ c.rounds.pass)
    → Goes a (expansion condition old.vars old.fns) [] (over (expanded (Some text) new.fns)) b → new.vars ≡ old.vars → goes_on text c.rounds.begun (last_ok new.vars) ≡ true
    → rounds ≡ round_begun (record c.rounds { pass = pass })
    → Goes a (while_goes condition c old) [] (answers Round (record { element = c.element; rounds = rounds }) new) b
while-round a b condition c old new text pass rounds h goes same on begun =
    let none : is_left c.rounds.pass ≡ false = none-left c.rounds.pass h.0 in
    rw (none, begun, h.1)
    (subst (λ t. Goes a (expanding condition c old (decided c)) [] (if t then answers Round (record { element = c.element; rounds = round_begun c.rounds }) new else answers Over c new) b) on
    (text-came a b condition old new text c (decided c) goes same))

-- it was refused
pub while-cut : (a b : Account) (condition : Pieces) (c : WhileCursor) (old new : UserState) (error : VarError) (pass : Pass)
    → (c.rounds.pass.children ≤ c.rounds.pass.next) × (pass ≡ c.rounds.pass)
    → Refused a (expansion condition old.vars old.fns) b (over (expanded None new.fns)) error → new.vars ≡ old.vars
    → Refused a (while_goes condition c old) b (past_limit (record { element = c.element; rounds = record c.rounds { pass = pass } }) new) error
while-cut a b condition c old new error pass h refused same =
    let none : is_left c.rounds.pass ≡ false = none-left c.rounds.pass h.0 in
    rw (none, h.1) (text-refused a b condition old new error c (decided c) refused same)

-- the index variable was refused
pub while-stays : (a : Account) (name : List ℕ) (condition : Pieces) (c : WhileCursor) (old : UserState) (vars : Variables) (rounds : Rounds) (error : VarError)
    → Puts (opened_vars name c.rounds old.vars) old.vars vars (Err error) → rounds ≡ c.rounds
    → Refused a (while_next name condition c old) a (past_limit (record { element = c.element; rounds = rounds }) (record { vars = vars; fns = old.fns })) error
while-stays a name condition c old vars rounds error put same =
    rw same (vars-refused a (opened_vars name c.rounds old.vars) c old (while_goes condition (record { element = c.element; rounds = opened c.rounds })) vars error put)
