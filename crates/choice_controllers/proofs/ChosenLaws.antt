-- How a pass is begun, and what it runs.
use Rattle.std.proofs.Common.{◌≡◌, ℕ, ◌+◌, ◌-◌, List, [], Option, Some, None, length, refl, sym, ap, ◌∙◌}
use Rattle.std.specs.Prelude.{slice_get}
use Rattle.std.proofs.lemmas.List.FromFn.{length-range_with_len}
use Rattle.jm_base.specs.Run.{over}
use Rattle.jm_base.specs.Outside.{Account, Goes}
use Rattle.template_text.specs.Pieces.{Pieces}
use Rattle.element_tree.specs.declared.package.Turn.{Turn}
use Rattle.element_tree.specs.declared.package.Turn.TheVariants.{Child, Over}
use Rattle.thread_vars.specs.declared.error.VarError.{VarError}
use Rattle.var_functions.specs.declared.state.UserState.{UserState}
use Rattle.var_functions.specs.FunctionState.{Functions}
use Rattle.var_functions.specs.Expansion.{expanded, expansion}
use Rattle.var_functions.specs.Came.{Refused}
use Rattle.cursor_steps.specs.CursorStep.{answers, past_limit}
use Rattle.cursor_steps.proofs.Steps.{text-came, text-refused}
use Rattle.choice_controllers.specs.declared.interleave_cursor.InterleaveCursor.{InterleaveCursor}
use Rattle.choice_controllers.specs.declared.random_cursor.RandomCursor.{RandomCursor}
use Rattle.choice_controllers.specs.declared.order_cursor.OrderCursor.{OrderCursor}
use Rattle.choice_controllers.specs.declared.switch_cursor.SwitchCursor.{SwitchCursor}
use Rattle.choice_controllers.specs.Chosen.{turn_of}
use Rattle.choice_controllers.specs.InterleaveController.{interleave_next}
use Rattle.choice_controllers.specs.RandomController.{random_place, random_fns, random_enters, random_next}
use Rattle.choice_controllers.specs.RandomOrderController.{places, shuffled, random_order, order_of, order_enters, order_next}
use Rattle.choice_controllers.specs.SwitchController.{picks, switch_enters, switch_next}

-- ---- a child that was chosen

pub interleave-runs : (c : InterleaveCursor) (state : UserState) (turn : Turn) (chosen : Option ℕ) → turn ≡ turn_of c.chosen → chosen ≡ None
    → interleave_next c state ≡ answers turn (record { element = c.element; place = c.place; chosen = chosen }) state
interleave-runs c state turn chosen is taken = rw (is, taken) refl

pub random-runs : (c : RandomCursor) (state : UserState) (turn : Turn) (chosen : Option ℕ) → turn ≡ turn_of c.chosen → chosen ≡ None
    → random_next c state ≡ answers turn (record { element = c.element; chosen = chosen }) state
random-runs c state turn chosen is taken = rw (is, taken) refl

pub switch-runs : (c : SwitchCursor) (state : UserState) (turn : Turn) (chosen : Option ℕ) → turn ≡ turn_of c.chosen → chosen ≡ None
    → switch_next c state ≡ answers turn (record { element = c.element; chosen = chosen }) state
switch-runs c state turn chosen is taken = rw (is, taken) refl

-- ---- Random

pub random-entered : (children counted : ℕ) (c : RandomCursor) (state : UserState) (chosen : Option ℕ) (fns : Functions)
    → counted ≡ children → chosen ≡ random_place counted state.fns → fns ≡ random_fns counted state.fns
    → random_enters children c state ≡ answers tt (record { element = c.element; chosen = chosen }) (record { vars = state.vars; fns = fns })
random-entered children counted c state chosen fns same drawn after = rw (drawn, after, same) refl

-- ---- Random Order

-- the order that is made of all places
pub order-made : (children : ℕ) (xs : List ℕ) (fns : Functions) → xs ≡ places children → shuffled (length xs - 1) xs fns ≡ random_order children fns
order-made children xs fns is =
    rw is (ap (λ n. shuffled (n - 1) (places children) fns) (length-range_with_len 0 children))

pub order-self : (children : ℕ) (xs : List ℕ) (fns : Functions) (c new : OrderCursor) → xs ≡ places children
    → new ≡ record c { order = Some (shuffled (length xs - 1) xs fns).0; next = 0 } → new ≡ record c { order = Some (random_order children fns).0; next = 0 }
order-self children xs fns c new all is = is ∙ ap (λ s. record { element = c.element; order = Some s.0; next = 0 }) (order-made children xs fns all)

pub order-fns : (children : ℕ) (xs : List ℕ) (fns after : Functions) → xs ≡ places children
    → after ≡ (shuffled (length xs - 1) xs fns).1 → after ≡ (random_order children fns).1
order-fns children xs fns after all is = is ∙ ap (λ s. s.1) (order-made children xs fns all)

pub order-entered : (children : ℕ) (c new : OrderCursor) (state : UserState) (fns : Functions)
    → new ≡ record c { order = Some (random_order children state.fns).0; next = 0 } → fns ≡ (random_order children state.fns).1
    → order_enters children c state ≡ answers tt new (record { vars = state.vars; fns = fns })
order-entered children c new state fns is after = rw (is, after) refl

pub order-child : (c : OrderCursor) (state : UserState) (place : ℕ) (new : OrderCursor) → Some place ≡ slice_get (order_of c) c.next → new ≡ record c { next = c.next + 1 }
    → order_next c state ≡ answers (Child place) new state
order-child c state place new is behind = rw (behind, sym is) refl

pub order-over : (c new : OrderCursor) (state : UserState) → None ≡ slice_get (order_of c) c.next → new ≡ c → order_next c state ≡ answers Over new state
order-over c new state none same = rw (same, sym none) refl

-- ---- Switch

-- its text came
pub switch-begun : (a b : Account) (value : Pieces) (names : List (List ℕ)) (c : SwitchCursor) (old new : UserState) (text : List ℕ) (chosen : Option ℕ)
    → Goes a (expansion value old.vars old.fns) [] (over (expanded (Some text) new.fns)) b → new.vars ≡ old.vars → chosen ≡ picks text names
    → Goes a (switch_enters value names c old) [] (answers tt (record { element = c.element; chosen = chosen }) new) b
switch-begun a b value names c old new text chosen goes same is =
    rw is (text-came a b value old new text c (λ text state. answers tt (record { element = c.element; chosen = picks text names }) state) goes same)

-- its text was refused
pub switch-refused : (a b : Account) (value : Pieces) (names : List (List ℕ)) (c : SwitchCursor) (old new : UserState) (error : VarError)
    → Refused a (expansion value old.vars old.fns) b (over (expanded None new.fns)) error → new.vars ≡ old.vars
    → Refused a (switch_enters value names c old) b (past_limit c new) error
switch-refused a b value names c old new error refused same =
    text-refused a b value old new error c (λ text state. answers tt (record { element = c.element; chosen = picks text names }) state) refused same
