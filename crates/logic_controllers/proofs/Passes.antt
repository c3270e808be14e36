-- What is next in a pass of a Simple or Once Only Controller.
use Rattle.std.proofs.Common.{◌≡◌, ℕ, ◌<◌, ◌≤◌, true, false, refl, arith}
use Rattle.std.specs.Prelude.{◌==◌}
use Rattle.std.proofs.lemmas.Bool.Decides.{nat_tests}
use Rattle.var_functions.specs.declared.state.UserState.{UserState}
use Rattle.element_tree.specs.declared.package.Turn.TheVariants.{Child, Over}
use Rattle.cursor_steps.specs.declared.pass.Pass.{Pass}
use Rattle.logic_controllers.specs.declared.simple_cursor.SimpleCursor.{SimpleCursor}
use Rattle.logic_controllers.specs.declared.once_cursor.OnceCursor.{OnceCursor}
use Rattle.cursor_steps.specs.CursorStep.{answers}
use Rattle.cursor_steps.specs.RunningChildren.{is_left, after_child}
use Rattle.cursor_steps.proofs.Passes.{some-left, none-left}
use Rattle.logic_controllers.specs.SimpleController.{simple_next}
use Rattle.logic_controllers.specs.OnceOnlyController.{once_next}

-- ---- Simple

pub simple-child : (c : SimpleCursor) (state : UserState) (place : ℕ) (pass : Pass) → (place ≡ c.pass.next) × (place < c.pass.children) × (pass ≡ after_child c.pass)
    → simple_next c state ≡ answers (Child place) (record c { pass = pass }) state
simple-child c state place pass h =
    let left : is_left c.pass ≡ true = some-left c.pass (omega (arith, h.0, h.1)) in rw (left, h.0, h.2) refl

pub simple-over : (c : SimpleCursor) (state : UserState) (pass : Pass) → (c.pass.children ≤ c.pass.next) × (pass ≡ c.pass)
    → simple_next c state ≡ answers Over (record c { pass = pass }) state
simple-over c state pass h =
    let left : is_left c.pass ≡ false = none-left c.pass h.0 in rw (left, h.1) refl

-- ---- Once Only

zero-is : (n : ℕ) → n ≡ 0 → (n == 0) ≡ true
zero-is n h = rw h refl

pub once-child : (round : ℕ) (c : OnceCursor) (state : UserState) (place : ℕ) (pass : Pass) → round ≡ 0 → (place ≡ c.pass.next) × (place < c.pass.children) × (pass ≡ after_child c.pass)
    → once_next round c state ≡ answers (Child place) (record c { pass = pass }) state
once-child round c state place pass first h =
    let left : is_left c.pass ≡ true = some-left c.pass (omega (arith, h.0, h.1)) in rw (first, left, h.0, h.2) refl

pub once-over : (round : ℕ) (c : OnceCursor) (state : UserState) (pass : Pass) → round ≡ 0 → (c.pass.children ≤ c.pass.next) × (pass ≡ c.pass)
    → once_next round c state ≡ answers Over (record c { pass = pass }) state
once-over round c state pass first h =
    let left : is_left c.pass ≡ false = none-left c.pass h.0 in rw (first, left, h.1) refl

later : (n : ℕ) → (n ≡ 0 → ⊥) → (n == 0) ≡ false
later n h = grind (arith, nat_tests)

pub once-later : (round : ℕ) (c : OnceCursor) (state : UserState) → (round ≡ 0 → ⊥) → once_next round c state ≡ answers Over c state
once-later round c state h = let no : (round == 0) ≡ false = later round h in rw no refl
