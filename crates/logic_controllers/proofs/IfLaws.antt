-- What comes next in an If.
use Rattle.std.proofs.Common.{◌≡◌, ℕ, ◌<◌, ◌≤◌, Bool, true, false, List, [], Some, None, refl, subst}
use Rattle.std.specs.Prelude.{if◌then◌else◌}
use Rattle.jm_base.specs.Run.{over}
use Rattle.jm_base.specs.Outside.{Account, Goes}
use Rattle.template_text.specs.Pieces.{Pieces}
use Rattle.thread_vars.specs.declared.error.VarError.{VarError}
use Rattle.var_functions.specs.declared.state.UserState.{UserState}
use Rattle.var_functions.specs.Expansion.{expanded, expansion}
use Rattle.var_functions.specs.Came.{Refused}
use Rattle.element_tree.specs.declared.package.Turn.TheVariants.{Child, Over}
use Rattle.cursor_steps.specs.declared.pass.Pass.{Pass}
use Rattle.cursor_steps.specs.CursorStep.{answers, past_limit, expanding}
use Rattle.cursor_steps.specs.RunningChildren.{is_left, after_child, pass_over}
use Rattle.cursor_steps.proofs.Steps.{text-came, text-refused}
use Rattle.cursor_steps.proofs.Passes.{some-left, none-left}
use Rattle.logic_controllers.specs.declared.if_cursor.IfCursor.{IfCursor}
use Rattle.logic_controllers.specs.IfController.{is_true, if_enters, if_runs, if_next}

-- it is entered
pub if-unasked : (all : Bool) (condition : Pieces) (children : ℕ) (c : IfCursor) (state : UserState) (pass : Pass) → all ≡ true → pass ≡ pass_over children
    → if_enters all condition children c state ≡ answers tt (record { element = c.element; pass = pass }) state
if-unasked all condition children c state pass each is = rw (each, is) refl

pub if-asked : (a b : Account) (all : Bool) (condition : Pieces) (children left : ℕ) (c : IfCursor) (old new : UserState) (text : List ℕ) (pass : Pass) → all ≡ false
    → Goes a (expansion condition old.vars old.fns) [] (over (expanded (Some text) new.fns)) b → new.vars ≡ old.vars → pass ≡ pass_over left → left ≡ (if is_true text then children else 0)
    → Goes a (if_enters all condition children c old) [] (answers tt (record { element = c.element; pass = pass }) new) b
if-asked a b all condition children left c old new text pass each goes same is which =
    rw (each, is, which)
    (text-came a b condition old new text c (λ text state. answers tt (record { element = c.element; pass = pass_over (if is_true text then children else 0) }) state) goes same)

pub if-refused : (a b : Account) (all : Bool) (condition : Pieces) (children : ℕ) (c : IfCursor) (old new : UserState) (error : VarError) → all ≡ false
    → Refused a (expansion condition old.vars old.fns) b (over (expanded None new.fns)) error → new.vars ≡ old.vars
    → Refused a (if_enters all condition children c old) b (past_limit c new) error
if-refused a b all condition children c old new error each refused same =
    rw each (text-refused a b condition old new error c (λ text state. answers tt (record { element = c.element; pass = pass_over (if is_true text then children else 0) }) state) refused same)

-- no child is left
pub if-over : (all : Bool) (condition : Pieces) (c : IfCursor) (state : UserState) → c.pass.children ≤ c.pass.next → if_next all condition c state ≡ answers Over c state
if-over all condition c state h = let none : is_left c.pass ≡ false = none-left c.pass h in rw none refl

-- a child is left
pub if-plain : (all : Bool) (condition : Pieces) (c : IfCursor) (state : UserState) (place : ℕ) (pass : Pass) → c.pass.next < c.pass.children → all ≡ false
    → place ≡ c.pass.next → pass ≡ after_child c.pass
    → if_next all condition c state ≡ answers (Child place) (record { element = c.element; pass = pass }) state
if-plain all condition c state place pass h each is behind = let left : is_left c.pass ≡ true = some-left c.pass h in rw (left, each, is, behind) refl

pub if-child : (a b : Account) (all : Bool) (condition : Pieces) (c : IfCursor) (old new : UserState) (text : List ℕ) (place : ℕ) (pass : Pass) → c.pass.next < c.pass.children → all ≡ true
    → Goes a (expansion condition old.vars old.fns) [] (over (expanded (Some text) new.fns)) b → new.vars ≡ old.vars → is_true text ≡ true
    → place ≡ c.pass.next → pass ≡ after_child c.pass
    → Goes a (if_next all condition c old) [] (answers (Child place) (record { element = c.element; pass = pass }) new) b
if-child a b all condition c old new text place pass h each goes same holds is behind =
    let left : is_left c.pass ≡ true = some-left c.pass h in
    rw (left, each, is, behind)
    (subst (λ t. Goes a (expanding condition c old (λ text state. if is_true text then if_runs c state else answers Over c state)) [] (if t then if_runs c new else answers Over c new) b) holds
    (text-came a b condition old new text c (λ text state. if is_true text then if_runs c state else answers Over c state) goes same))

pub if-ends : (a b : Account) (all : Bool) (condition : Pieces) (c : IfCursor) (old new : UserState) (text : List ℕ) → c.pass.next < c.pass.children → all ≡ true
    → Goes a (expansion condition old.vars old.fns) [] (over (expanded (Some text) new.fns)) b → new.vars ≡ old.vars → is_true text ≡ false
    → Goes a (if_next all condition c old) [] (answers Over c new) b
if-ends a b all condition c old new text h each goes same holds =
    let left : is_left c.pass ≡ true = some-left c.pass h in
    rw (left, each)
    (subst (λ t. Goes a (expanding condition c old (λ text state. if is_true text then if_runs c state else answers Over c state)) [] (if t then if_runs c new else answers Over c new) b) holds
    (text-came a b condition old new text c (λ text state. if is_true text then if_runs c state else answers Over c state) goes same))

pub if-cut : (a b : Account) (all : Bool) (condition : Pieces) (c : IfCursor) (old new : UserState) (error : VarError) → c.pass.next < c.pass.children → all ≡ true
    → Refused a (expansion condition old.vars old.fns) b (over (expanded None new.fns)) error → new.vars ≡ old.vars
    → Refused a (if_next all condition c old) b (past_limit c new) error
if-cut a b all condition c old new error h each refused same =
    let left : is_left c.pass ≡ true = some-left c.pass h in
    rw (left, each) (text-refused a b condition old new error c (λ text state. if is_true text then if_runs c state else answers Over c state) refused same)
