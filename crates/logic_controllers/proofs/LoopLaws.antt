-- What comes next in a Loop.
use Rattle.std.proofs.Common.{◌≡◌, ℕ, List, [], Some, None, sym, ap, ◌∙◌}
use Rattle.std.specs.Prelude.{Err}
use Rattle.jm_base.specs.Run.{over}
use Rattle.jm_base.specs.Outside.{Account, Goes}
use Rattle.template_text.specs.Pieces.{Pieces}
use Rattle.thread_vars.specs.declared.error.VarError.{VarError}
use Rattle.var_functions.specs.declared.state.UserState.{UserState}
use Rattle.thread_vars.specs.Vars.{Variables, Puts}
use Rattle.var_functions.specs.Expansion.{expanded, expansion}
use Rattle.var_functions.specs.Came.{Refused}
use Rattle.element_tree.specs.declared.kinds.Loops.{Loops}
use Rattle.element_tree.specs.declared.package.Turn.{Turn}
use Rattle.logic_controllers.specs.declared.rounds.Rounds.{Rounds}
use Rattle.cursor_steps.specs.CursorStep.{answers, past_limit}
use Rattle.logic_controllers.specs.ControllerRounds.{before_rounds, opened_vars, opened}
use Rattle.cursor_steps.proofs.Steps.{text-came, text-refused, vars-came, vars-refused, goes-same}
use Rattle.logic_controllers.specs.declared.loop_cursor.LoopCursor.{LoopCursor}
use Rattle.logic_controllers.specs.LoopController.{loops_of, loop_enters, loop_goes, loop_next}

-- its text came
pub loop-begun : (a b : Account) (loops : Pieces) (children : ℕ) (c : LoopCursor) (old new : UserState) (text : List ℕ) (count : Loops) (rounds : Rounds)
    → Goes a (expansion loops old.vars old.fns) [] (over (expanded (Some text) new.fns)) b → new.vars ≡ old.vars → count ≡ loops_of text → rounds ≡ before_rounds children
    → Goes a (loop_enters loops children c old) [] (answers tt (record { element = c.element; loops = count; rounds = rounds }) new) b
loop-begun a b loops children c old new text count rounds goes same h k =
    rw (h, k) (text-came a b loops old new text c (λ text state. answers tt (record { element = c.element; loops = loops_of text; rounds = before_rounds children }) state) goes same)

-- its text was refused
pub loop-refused : (a b : Account) (loops : Pieces) (children : ℕ) (c : LoopCursor) (old new : UserState) (error : VarError)
    → Refused a (expansion loops old.vars old.fns) b (over (expanded None new.fns)) error → new.vars ≡ old.vars
    → Refused a (loop_enters loops children c old) b (past_limit c new) error
loop-refused a b loops children c old new error refused same =
    text-refused a b loops old new error c (λ text state. answers tt (record { element = c.element; loops = loops_of text; rounds = before_rounds children }) state) refused same

-- its round is open
pub loop-went : (a : Account) (name : List ℕ) (c new : LoopCursor) (old : UserState) (vars : Variables) (rounds : Rounds) (turn : Turn)
    → opened_vars name c.rounds old.vars ≡ Some vars → rounds ≡ opened c.rounds
    → answers turn new (record { vars = vars; fns = old.fns }) ≡ loop_goes (record { element = c.element; loops = c.loops; rounds = rounds }) (record { vars = vars; fns = old.fns })
    → Goes a (loop_next name c old) [] (answers turn new (record { vars = vars; fns = old.fns })) a
loop-went a name c new old vars rounds turn is begun went =
    goes-same a _ _ (vars-came (opened_vars name c.rounds old.vars) c old (loop_goes (record { element = c.element; loops = c.loops; rounds = opened c.rounds })) vars is
    ∙ ap (λ r. loop_goes (record { element = c.element; loops = c.loops; rounds = r }) (record { vars = vars; fns = old.fns })) (sym begun) ∙ sym went)

-- its index variable was refused
pub loop-stays : (a : Account) (name : List ℕ) (c : LoopCursor) (old : UserState) (vars : Variables) (rounds : Rounds) (error : VarError)
    → Puts (opened_vars name c.rounds old.vars) old.vars vars (Err error) → rounds ≡ c.rounds
    → Refused a (loop_next name c old) a (past_limit (record { element = c.element; loops = c.loops; rounds = rounds }) (record { vars = vars; fns = old.fns })) error
loop-stays a name c old vars rounds error put same =
    rw same (vars-refused a (opened_vars name c.rounds old.vars) c old (loop_goes (record { element = c.element; loops = c.loops; rounds = opened c.rounds })) vars error put)
