-- How the parts of a call come to its step.
use Rattle.std.proofs.Common.{◌≡◌, ℕ, List, [], Option, Some, None, sym, ap, ◌∙◌, subst}
use Rattle.std.specs.Prelude.{Result, Ok, Err, slice_get}
use Rattle.jm_base.specs.Run.{Run, over}
use Rattle.jm_base.specs.Outside.{Account, Goes}
use Rattle.jm_base.proofs.RunLaws.{goes-nothing, goes-bind}
use Rattle.template_text.specs.Pieces.{Pieces}
use Rattle.element_tree.specs.declared.kinds.Element.{Element}
use Rattle.thread_vars.specs.declared.error.VarError.{VarError}
use Rattle.thread_vars.specs.declared.error.VarError.TheVariants.{ValueLimit, NoMemory}
use Rattle.var_functions.specs.declared.state.UserState.{UserState}
use Rattle.thread_vars.specs.Vars.{Variables, Puts}
use Rattle.var_functions.specs.Expansion.{expanded, expansion}
use Rattle.var_functions.specs.Came.{CameTo, Refused, by_limit, by_memory}
use Rattle.var_functions.proofs.CameLaws.{refused-bind}
use Rattle.cursor_steps.specs.CursorStep.{Step, StepsTo, past_limit, with_vars, with_text, expanding, at_element}

-- a template whose text came
pub text-came : {A C : Type 0} (a b : Account) (template : Pieces) (old new : UserState) (text : List ℕ) (cursor : C) (next : List ℕ → UserState → Run (Step A C))
    → Goes a (expansion template old.vars old.fns) [] (over (expanded (Some text) new.fns)) b → new.vars ≡ old.vars
    → Goes a (expanding template cursor old next) [] (next text new) b
text-came a b template old new text cursor next goes same =
    subst (λ vars. Goes a (expanding template cursor old next) [] (next text (record { vars = vars; fns = new.fns })) b) (sym same)
    (goes-bind (with_text cursor old next) goes)

-- a template that was refused
pub text-refused : {A C : Type 0} (a b : Account) (template : Pieces) (old new : UserState) (error : VarError) (cursor : C) (next : List ℕ → UserState → Run (Step A C))
    → Refused a (expansion template old.vars old.fns) b (over (expanded None new.fns)) error → new.vars ≡ old.vars
    → Refused a (expanding template cursor old next) b (past_limit cursor new) error
text-refused a b template old new error cursor next refused same =
    subst (λ vars. Refused a (expanding template cursor old next) b (past_limit cursor (record { vars = vars; fns = new.fns })) error) (sym same)
    (refused-bind (with_text cursor old next) refused)

-- variables that were set
pub vars-came : {A C : Type 0} (made : Option Variables) (cursor : C) (old : UserState) (next : UserState → Run (Step A C)) (vars : Variables)
    → made ≡ Some vars → with_vars made cursor old next ≡ next (record { vars = vars; fns = old.fns })
vars-came made cursor old next vars is = ap (λ m. with_vars m cursor old next) is

-- variables that were refused
pub vars-refused : {A C : Type 0} (a : Account) (made : Option Variables) (cursor : C) (old : UserState) (next : UserState → Run (Step A C)) (vars : Variables) (error : VarError)
    → Puts made old.vars vars (Err error) → Refused a (with_vars made cursor old next) a (past_limit cursor (record { vars = vars; fns = old.fns })) error
vars-refused a made cursor old next vars ValueLimit put =
    by_limit (subst (λ vs. Goes a (with_vars made cursor old next) [] (past_limit cursor (record { vars = vs; fns = old.fns })) a) (sym put.1)
    (subst (λ m. Goes a (with_vars m cursor old next) [] (past_limit cursor old) a) (sym put.0) (goes-nothing a _)))
vars-refused a made cursor old next vars NoMemory put = by_memory (_, goes-nothing a _)

-- variables that were to be set
pub puts-came : {A C : Type 0} (a : Account) (made : Option Variables) (cursor : C) (old : UserState) (next : UserState → Run (Step A C)) (vars : Variables) (res : Result (Unit {0}) VarError)
    → Puts made old.vars vars res
    → CameTo a (with_vars made cursor old next) a (λ u. next (record { vars = vars; fns = old.fns })) (past_limit cursor (record { vars = vars; fns = old.fns })) res
puts-came a made cursor old next vars (Ok u) is = subst (λ m. Goes a (with_vars m cursor old next) [] (next (record { vars = vars; fns = old.fns })) a) (sym is) (goes-nothing a _)
puts-came a made cursor old next vars (Err error) put = vars-refused a made cursor old next vars error put

-- where nothing was heard, what a call came to is what it is
pub goes-same : {A : Type 0} (a : Account) (run rest : Run A) → run ≡ rest → Goes a run [] rest a
goes-same a run rest is = subst (λ r. Goes a r [] rest a) (sym is) (goes-nothing a rest)

-- out of memory, a call may end before it does anything
pub at-once : {A : Type 0} (a : Account) (run limit : Run A) → Refused a run a limit NoMemory
at-once a run limit = by_memory (run, goes-nothing a run)

-- an element is one element
pub same-element : (elements : List Element) (number : ℕ) (d e : Element) → Some d ≡ slice_get elements number → slice_get elements number ≡ Some e → d ≡ e
same-element elements number d e h k = let i : Some d ≡ Some e = h ∙ k in cc

-- a call that went on by its element
pub by-element : {A C : Type 0} (a b : Account) (found : Option Element) (element : Element) (cursor new : C) (old after : UserState) (next : Element → Run (Step A C)) (res : Result A VarError)
    → Some element ≡ found → StepsTo a (next element) b new after res → StepsTo a (at_element found cursor old next) b new after res
by-element a b found element cursor new old after next res is came = subst (λ o. StepsTo a (at_element o cursor old next) b new after res) is came
