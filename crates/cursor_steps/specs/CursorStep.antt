-- What a call of a cursor comes to, over any outside.
use Rattle.std.specs.Prelude.{◌≡◌, ℕ, List, Option, Some, None, Result, slice_get}
use Rattle.jm_base.specs.Run.{Run, over, ◌>>=◌}
use Rattle.jm_base.specs.Outside.{Account}
use Rattle.template_text.specs.Pieces.{Pieces}
use Rattle.element_tree.specs.declared.kinds.Element.{Element}
use Rattle.element_tree.specs.declared.kinds.Kind.{Kind}
use Rattle.thread_vars.specs.declared.error.VarError.{VarError}
use Rattle.var_functions.specs.declared.state.UserState.{UserState}
use Rattle.thread_vars.specs.Vars.{Variables}
use Rattle.var_functions.specs.Expansion.{Expanded, expansion}
use Rattle.var_functions.specs.Came.{CameTo}

-- the answer, or none where a value or the variables would pass their limit; and how the cursor and the state of the
-- thread stand then
pub record Step (A C : Type 0) : Type 0 where
  pub answer : Option A
  pub cursor : C
  pub state : UserState

abbrev pub answers : {A C : Type 0} → A → C → UserState → Run (Step A C)
answers answer cursor state = over (record { answer = Some answer; cursor = cursor; state = state })

abbrev pub past_limit : {A C : Type 0} → C → UserState → Run (Step A C)
past_limit cursor state = over (record { answer = None; cursor = cursor; state = state })

-- goes on with these variables, where they are within their limits
abbrev pub with_vars : {A C : Type 0} → Option Variables → C → UserState → (UserState → Run (Step A C)) → Run (Step A C)
with_vars None cursor state next = past_limit cursor state
with_vars (Some vars) cursor state next = next (record state { vars = vars })

-- goes on with a text, where it is within its limit, and with what functions keep
abbrev pub with_text : {A C : Type 0} → C → UserState → (List ℕ → UserState → Run (Step A C)) → Expanded (List ℕ) → Run (Step A C)
with_text cursor state next x =
    elim x.came [ None ↦ past_limit cursor (record state { fns = x.fns }) | Some text ↦ next text (record state { fns = x.fns }) ]

-- a template is expanded, and then the call goes on with its text
abbrev pub expanding : {A C : Type 0} → Pieces → C → UserState → (List ℕ → UserState → Run (Step A C)) → Run (Step A C)
expanding template cursor state next = expansion template state.vars state.fns >>= with_text cursor state next

-- a call goes on by the element that the cursor stands for; there is no answer where it is not there
abbrev pub at_element : {A C : Type 0} → Option Element → C → UserState → (Element → Run (Step A C)) → Run (Step A C)
at_element None cursor state next = past_limit cursor state
at_element (Some element) cursor state next = next element

-- Between two moments of the outside the call came to its step: to its answer, with the cursor and the state as they are
-- now; past a limit, with both as they are now; or, out of memory, to somewhere on its way.
abbrev pub StepsTo : {A C : Type 0} → Account → Run (Step A C) → Account → C → UserState → Result A VarError → Type 0
StepsTo before step after cursor state result =
    CameTo before step after (λ answer. answers answer cursor state) (past_limit cursor state) result

-- the element of this number is there, and of this kind
pub record IsThere (elements : List Element) (number : ℕ) (element : Element) (kind : Kind) : Type 0 where
  pub there : slice_get elements number ≡ Some element
  pub of_kind : element.kind ≡ kind
