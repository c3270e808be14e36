-- The Random Order Controller runs each of its children once in a pass, in an order that random words make.
use Rattle.std.specs.Prelude.{◌≡◌, ℕ, zero, suc, ◌+◌, ◌-◌, ◌%◌, ◌<◌, List, [], Option, Some, None, Result, All, OnOk, OnErr, IsOkAnd, IsOkUnless, IsPermutation, slice_get, unwrap_or, swap}
use Rattle.std.specs.List.{range_with_len}
use Rattle.jm_base.specs.Run.{Run}
use Rattle.thread_vars.specs.declared.error.VarError.{VarError}
use Rattle.thread_vars.specs.declared.error.VarError.TheVariants.{NoMemory}
use Rattle.var_functions.specs.declared.state.UserState.{UserState}
use Rattle.var_functions.specs.FunctionState.{Functions, drawn, draw}
use Rattle.element_tree.specs.declared.package.Turn.{Turn}
use Rattle.element_tree.specs.declared.package.Turn.TheVariants.{Child, Over}
use Rattle.choice_controllers.specs.declared.order_cursor.OrderCursor.{OrderCursor}
use Rattle.cursor_steps.specs.CursorStep.{Step, answers}
use Rattle.cursor_steps.specs.RunningChildren.{IsAmong}

-- For i from this one down to 1 a word w is drawn, and what stands at i and at w mod (i + 1) is exchanged.
abbrev pub shuffled : {A : Type 0} → ℕ → List A → Functions → List A × Functions
shuffled zero xs fns = (xs, fns)
shuffled (suc i) xs fns = shuffled i (swap xs (suc i) (drawn fns.random % (suc i + 1))) (draw fns)

-- the places of this many children, in order
abbrev pub places : ℕ → List ℕ
places children = range_with_len 0 children

-- the order of this many children in a pass, and what functions keep after its words
abbrev pub random_order : ℕ → Functions → List ℕ × Functions
random_order children fns = shuffled (children - 1) (places children) fns

-- a pass over this many children begins
abbrev pub order_enters : ℕ → OrderCursor → UserState → Run (Step (Unit {0}) OrderCursor)
order_enters children c state =
    answers tt (record c { order = Some (random_order children state.fns).0; next = 0 }) (record state { fns = (random_order children state.fns).1 })

-- the order of the pass; there is none before the first one
abbrev pub order_of : OrderCursor → List ℕ
order_of c = unwrap_or c.order []

-- the child at a place is run, or the pass is over
abbrev pub order_runs : Option ℕ → OrderCursor → UserState → Run (Step Turn OrderCursor)
order_runs None c state = answers Over c state
order_runs (Some place) c state = answers (Child place) (record c { next = c.next + 1 }) state

-- the children are run in the order of the pass
abbrev pub order_next : OrderCursor → UserState → Run (Step Turn OrderCursor)
order_next c state = order_runs (slice_get (order_of c) c.next) c state

-- What stands after a pass over this many children was begun: an order of all of them, each once, in as many draws as it
-- takes. It is refused where there is no memory alone, and then cursor and state are as they were.
pub record OrderEntered (children : ℕ) (c : OrderCursor) (state : UserState) (result : Result (Unit {0}) VarError) (d : OrderCursor) (after : UserState) : Type 0 where
  pub order : OnOk result (d ≡ record c { order = Some (random_order children state.fns).0; next = 0 })
  pub draws : OnOk result (after ≡ record state { fns = (random_order children state.fns).1 })
  pub once : OnOk result (IsPermutation (places children) (order_of d))
  pub child : OnOk result (All (λ place. place < children) (order_of d))
  pub kept : OnErr result ((d ≡ c) × (after ≡ state))
  pub memory : IsOkUnless result NoMemory

-- a turn is never refused, and answers a child among any number that all of the order are among
abbrev pub RunsOrdered : List ℕ → Result Turn VarError → Type 0
RunsOrdered order result = (children : ℕ) → All (λ place. place < children) order → IsOkAnd result (IsAmong children)
