-- Parts after texts and variables are calls of cursors after them.
use Rattle.std.proofs.Common.{◌≡◌, ℕ, List, Option, Some, None, refl, sym, ap, ◌∙◌}
use mathlib.Core.Path.{fun_ext}
use Rattle.jm_base.specs.Run.{Run, ◌>>=◌}
use Rattle.jm_base.proofs.RunLaws.{bind-assoc}
use Rattle.template_text.specs.Pieces.{Pieces}
use Rattle.var_functions.specs.declared.state.UserState.{UserState}
use Rattle.thread_vars.specs.Vars.{Variables}
use Rattle.var_functions.specs.Expansion.{Expanded, expansion}
use Rattle.cursor_steps.specs.CursorStep.{Step, expanding, with_text, with_vars as step_vars}
use Rattle.jm_meaning.specs.State.{State, Own, Ending, Part, state_of, and_then, on_came, tried, text, text_of, with_vars}
use Rattle.jm_meaning.proofs.PartLaws.{text-then}
use Rattle.open_elements.specs.Moves.{past}

by_came : {A C : Type 0} (c : C) (user : UserState) (own : Own) (next : List ℕ → UserState → Run (Step A C)) (go : Step A C → Run Ending) (part : List ℕ → Part)
    → ((u : UserState) → go (record { answer = None; cursor = c; state = u }) ≡ past (state_of u own))
    → ((x : List ℕ) (u : UserState) → part x (state_of u own) ≡ (next x u >>= go)) → (x : Expanded (List ℕ)) (came : Option (List ℕ)) → x.came ≡ came
    → on_came own part (text_of user x) ≡ (with_text c user next x >>= go)
by_came c user own next go part stops goes x None is = rw is (sym (stops (record { vars = user.vars; fns = x.fns })))
by_came c user own next go part stops goes x (Some t) is = rw is (goes t (record { vars = user.vars; fns = x.fns }))

-- a part after a text is a call after its template
pub text-law : {A C : Type 0} (template : Pieces) (c : C) (s : State) (next : List ℕ → UserState → Run (Step A C)) (go : Step A C → Run Ending) (part : List ℕ → Part)
    → ((u : UserState) → go (record { answer = None; cursor = c; state = u }) ≡ past (state_of u s.own))
    → ((x : List ℕ) (u : UserState) → part x (state_of u s.own) ≡ (next x u >>= go))
    → tried (text template) s part ≡ (expanding template c s.user next >>= go)
text-law template c s next go part stops goes =
    text-then template s part
    ∙ ap (λ k. expansion template s.user.vars s.user.fns >>= k) (fun_ext λ x. by_came c s.user s.own next go part stops goes x x.came refl)
    ∙ sym (bind-assoc (expansion template s.user.vars s.user.fns) (with_text c s.user next) go)

-- a part after variables that are set is a call after them
pub vars-law : {A C : Type 0} (made : Option Variables) (c : C) (s : State) (next : UserState → Run (Step A C)) (go : Step A C → Run Ending) (part : Part)
    → ((u : UserState) → go (record { answer = None; cursor = c; state = u }) ≡ past (state_of u s.own))
    → ((u : UserState) → part (state_of u s.own) ≡ (next u >>= go))
    → and_then (with_vars made s) part ≡ (step_vars made c s.user next >>= go)
vars-law None c s next go part stops goes = sym (stops s.user)
vars-law (Some vars) c s next go part stops goes = goes (record { vars = vars; fns = s.user.fns })
