-- What is left by a cursor goes on as its next step says.
use Rattle.std.proofs.Common.{◌≡◌, ℕ, ◌+◌, ◌-◌, ◌≤◌, Bool, true, false, List, length, Option, Some, None, refl, sym, ap, ◌∙◌, subst, arith}
use mathlib.Core.Path.{fun_ext}
use Rattle.std.specs.Prelude.{slice_get, if◌then◌else◌, ◌==◌}
use Rattle.jm_base.specs.Run.{Run, over, ◌>>=◌}
use Rattle.jm_base.proofs.RunLaws.{bind-assoc}
use Rattle.template_text.specs.Pieces.{Pieces}
use Rattle.element_tree.specs.declared.kinds.Kind.{Kind}
use Rattle.element_tree.specs.declared.kinds.Kind.TheVariants as kinds
use Rattle.element_tree.specs.declared.package.Turn.{Turn}
use Rattle.element_tree.specs.declared.package.Turn.TheVariants.{Child, Round, Over}
use Rattle.var_functions.specs.declared.state.UserState.{UserState}
use Rattle.thread_vars.specs.Vars.{put_var}
use Rattle.logic_controllers.specs.declared.rounds.Rounds.{Rounds}
use Rattle.logic_controllers.specs.declared.simple_cursor.SimpleCursor.{SimpleCursor}
use Rattle.logic_controllers.specs.declared.once_cursor.OnceCursor.{OnceCursor}
use Rattle.logic_controllers.specs.declared.loop_cursor.LoopCursor.{LoopCursor}
use Rattle.logic_controllers.specs.declared.if_cursor.IfCursor.{IfCursor}
use Rattle.logic_controllers.specs.declared.while_cursor.WhileCursor.{WhileCursor}
use Rattle.logic_controllers.specs.declared.each_cursor.EachCursor.{EachCursor}
use Rattle.cursor_steps.specs.CursorStep.{Step, answers, with_vars as step_vars}
use Rattle.cursor_steps.specs.RunningChildren.{is_left, after_child, pass_over}
use Rattle.logic_controllers.specs.ControllerRounds.{round_begun, opened_vars, opened}
use Rattle.logic_controllers.specs.SimpleController.{simple_next}
use Rattle.logic_controllers.specs.OnceOnlyController.{once_next}
use Rattle.logic_controllers.specs.LoopController.{round_begins, loop_goes, loop_next}
use Rattle.logic_controllers.specs.IfController.{is_true, if_runs, if_next, if_next_at}
use Rattle.logic_controllers.specs.WhileController.{last_ok, goes_on, while_goes, while_next, while_next_at}
use Rattle.logic_controllers.specs.ForEachController.{Row, kind_of, value_at, output_vars, each_decides, each_goes, each_next, each_next_at}
use Rattle.jm_meaning.specs.State.{State, Own, Ending, Part, state_of, normal, and_then, with_round, on_came, tried, text, with_vars}
use Rattle.jm_meaning.specs.Rounds.{Turns, where_begun, where_so, rounds, set_index, loop_turns, while_goes as while_goes_by, while_turns, each_turns}
use Rattle.jm_meaning.specs.Children.{Below, in_order, if_each}
use Rattle.jm_meaning.specs.Beginning.{max_rounds}
use Rattle.jm_meaning.proofs.PartLaws.{then-assoc, round_at, next-round}
use Rattle.open_elements.specs.Moves.{pass_left, turned, stepped}
use Rattle.open_elements.specs.Cursors.{simple_left, once_left, if_left, round_left, loop_left, while_left, each_left, if_left_in, while_left_in, each_left_in}
use Rattle.open_elements.proofs.PassLaws.{prefix, none-left, all-left}
use Rattle.open_elements.proofs.StepLaws.{text-law, vars-law}

-- ---- Simple and Once Only

pub simple-law : (below : Below) (round : ℕ) (children : List ℕ) (c : SimpleCursor) (s : State) → c.pass.children ≤ length children
    → simple_left below round children c s ≡ (simple_next c s.user >>= stepped below (λ d. round) children (simple_left below round children) s.own)
simple-law below round children c s few = by_left (is_left c.pass) refl where
  by_left : (x : Bool) → is_left c.pass ≡ x → simple_left below round children c s ≡ (simple_next c s.user >>= stepped below (λ d. round) children (simple_left below round children) s.own)
  by_left true is = let f = prefix c.pass children is few in rw (is, f.is, f.there) refl
  by_left false is = rw (is, none-left c.pass children is) refl

-- in the first round a Once Only is its children
in_first : (round : ℕ) → (round == 0) ≡ true → (below : Below) (children : List ℕ) (c : OnceCursor) → once_left below round children c ≡ in_order below round (pass_left c.pass children)
in_first round is below children c = fun_ext λ s. ap (λ b. if b then in_order below round (pass_left c.pass children) s else over (normal s)) is

pub once-law : (below : Below) (round : ℕ) (children : List ℕ) (c : OnceCursor) (s : State) → c.pass.children ≤ length children
    → once_left below round children c s ≡ (once_next round c s.user >>= stepped below (λ d. round) children (once_left below round children) s.own)
once-law below round children c s few = by_round (round == 0) refl (is_left c.pass) refl where
  by_round : (x : Bool) → (round == 0) ≡ x → (y : Bool) → is_left c.pass ≡ y
      → once_left below round children c s ≡ (once_next round c s.user >>= stepped below (λ d. round) children (once_left below round children) s.own)
  by_round true is true left =
      let f = prefix c.pass children left few in
      rw (is, left, f.is, f.there) (ap (and_then (below f.child round s)) (sym (in_first round is below children (record { element = c.element; pass = after_child c.pass }))))
  by_round true is false left = rw (is, left, none-left c.pass children left) refl
  by_round false is y left = rw is refl

-- ---- If

pub if-law : (all : Bool) (condition : Pieces) (below : Below) (round : ℕ) (children : List ℕ) (c : IfCursor) (s : State) → c.pass.children ≤ length children
    → if_left all condition below round children c s ≡ (if_next all condition c s.user >>= stepped below (λ d. round) children (if_left all condition below round children) s.own)
if-law false condition below round children c s few = by_left (is_left c.pass) refl where
  by_left : (x : Bool) → is_left c.pass ≡ x
      → if_left false condition below round children c s ≡ (if_next false condition c s.user >>= stepped below (λ d. round) children (if_left false condition below round children) s.own)
  by_left true is = let f = prefix c.pass children is few in rw (is, f.is, f.there) refl
  by_left false is = rw (is, none-left c.pass children is) refl
if-law true condition below round children c s few = by_left (is_left c.pass) refl where
  go : Step Turn IfCursor → Run Ending
  go = stepped below (λ d. round) children (if_left true condition below round children) s.own

  holds : (child : ℕ) → slice_get children c.pass.next ≡ Some child → (x : Bool) (u : UserState)
      → (if x then and_then (below child round (state_of u s.own)) (if_each below round (pass_left (after_child c.pass) children) (text condition)) else over (normal (state_of u s.own)))
      ≡ ((if x then if_runs c u else answers Over c u) >>= go)
  holds child there true u = rw there refl
  holds child there false u = refl

  by_left : (x : Bool) → is_left c.pass ≡ x → if_left true condition below round children c s ≡ (if_next true condition c s.user >>= go)
  by_left true is =
      let f = prefix c.pass children is few in
      rw (is, f.is) (text-law condition c s (λ t u. if is_true t then if_runs c u else answers Over c u) go
      (λ t s. if is_true t then and_then (below f.child round s) (if_each below round (pass_left (after_child c.pass) children) (text condition)) else over (normal s))
      (λ u. refl) (λ t u. holds f.child f.there (is_true t) u))
  by_left false is = rw (is, none-left c.pass children is) refl

-- ---- rounds

one_less : (n : ℕ) → n + 1 - 1 ≡ n
one_less n = omega arith

module _ {X : Type 0} (turns : Turns X) (below : Below) (children : List ℕ) (r : Rounds) (s : State) where
  -- a child is run in an open round
  pub round-child : is_left r.pass ≡ true → r.pass.children ≡ length children
      → round_left turns below children r s
      ≡ turned below (r.begun - 1) children (round_left turns below children (record { begun = r.begun; opening = false; pass = after_child r.pass })) s (Child r.pass.next)
  round-child is all =
      let f = prefix r.pass children is (omega (arith, all)) in
      rw (f.is, f.there) (then-assoc (below f.child (r.begun - 1) s) (in_order below (r.begun - 1) (pass_left (after_child r.pass) children))
      (rounds (max_rounds - r.begun) turns (λ i. in_order below i children) r.begun))

  -- what is left where a round has begun
  first_left : r.pass.children ≡ length children → (t : State)
      → and_then (in_order below r.begun children t) (rounds (max_rounds - (r.begun + 1)) turns (λ i. in_order below i children) (r.begun + 1)) ≡ round_left turns below children (round_begun r) t
  first_left all t = rw (one_less r.begun, all-left (pass_over r.pass.children) children refl all) refl

  new_round : (x : X) → r.pass.children ≡ length children → (t : State)
      → round_at max_rounds turns (λ i. in_order below i children) r.begun x t ≡ with_round t (λ s. and_then (turns.opens x r.begun s) (round_left turns below children (round_begun r)))
  new_round x all t = ap (with_round t) (fun_ext λ s. ap (and_then (turns.opens x r.begun s)) (fun_ext λ s. first_left all s))

  -- after the last child of a round the next one is decided on
  pub round-decided : is_left r.pass ≡ false → r.pass.children ≡ length children → r.begun + s.own.rounds ≤ max_rounds
      → round_left turns below children r s
      ≡ tried (turns.begins r.begun) s (where_begun (λ x s. with_round s (λ s. and_then (turns.opens x r.begun s) (round_left turns below children (round_begun r)))))
  round-decided is all bound =
      rw (none-left r.pass children is) (next-round max_rounds turns (λ i. in_order below i children) r.begun s bound
      ∙ ap (λ f. tried (turns.begins r.begun) s (where_begun f)) (fun_ext λ x. fun_ext λ t. new_round x all t))

-- the opening of a round that has just begun
opens_first : (name : List ℕ) (r : Rounds) (s : State) → set_index name r.begun s ≡ with_vars (opened_vars name (round_begun r) s.user.vars) s
opens_first name r s = rw (one_less r.begun) refl

abbrev loop_on : List ℕ → Below → List ℕ → Own → Step Turn LoopCursor → Run Ending
loop_on name below children own = stepped below (λ d. d.rounds.begun - 1) children (loop_left name below children) own

abbrev loop_open : LoopCursor → LoopCursor
loop_open c = record { element = c.element; loops = c.loops; rounds = opened c.rounds }

module _ (name : List ℕ) (below : Below) (children : List ℕ) (c : LoopCursor) (own : Own) where
  loop_decides : (u : UserState) (x : Bool)
      → where_begun (λ x s. with_round s (λ s. and_then (set_index name c.rounds.begun s) (round_left (loop_turns name c.loops) below children (round_begun c.rounds)))) (where_so x) (state_of u own)
      ≡ ((if x then answers Round (record { element = c.element; loops = c.loops; rounds = round_begun (opened c.rounds) }) u else answers Over (loop_open c) u) >>= loop_on name below children own)
  loop_decides u true = ap (with_round (state_of u own)) (fun_ext λ s. ap (λ r. and_then r (round_left (loop_turns name c.loops) below children (round_begun c.rounds))) (opens_first name c.rounds s))
  loop_decides u false = refl

  loop_went : c.rounds.pass.children ≡ length children → c.rounds.begun + own.rounds ≤ max_rounds → (u : UserState) (x : Bool) → is_left c.rounds.pass ≡ x
      → round_left (loop_turns name c.loops) below children c.rounds (state_of u own) ≡ (loop_goes (loop_open c) u >>= loop_on name below children own)
  loop_went all bound u true is = rw is (round-child (loop_turns name c.loops) below children c.rounds (state_of u own) is all)
  loop_went all bound u false is =
      rw is (round-decided (loop_turns name c.loops) below children c.rounds (state_of u own) is all bound ∙ loop_decides u (round_begins c.loops c.rounds.begun))

pub loop-law : (name : List ℕ) (below : Below) (children : List ℕ) (c : LoopCursor) (s : State) → c.rounds.pass.children ≡ length children → c.rounds.begun + s.own.rounds ≤ max_rounds
    → loop_left name below children c s ≡ (loop_next name c s.user >>= stepped below (λ d. d.rounds.begun - 1) children (loop_left name below children) s.own)
loop-law name below children c s all bound =
    vars-law (opened_vars name c.rounds s.user.vars) c s (loop_goes (record { element = c.element; loops = c.loops; rounds = opened c.rounds }))
    (stepped below (λ d. d.rounds.begun - 1) children (loop_left name below children) s.own) (round_left (loop_turns name c.loops) below children c.rounds)
    (λ u. refl) (λ u. loop_went name below children c s.own all bound u (is_left c.rounds.pass) refl)

-- ---- While

mapped : (i : ℕ) (own : Own) (next : Option (Unit {0}) → Part) (user : UserState) (came : Option (List ℕ))
    → on_came own next (while_goes_by i (record { came = came; user = user }))
    ≡ on_came own (λ x s. next (where_so (goes_on x i (last_ok s.user.vars))) s) (record { came = came; user = user })
mapped i own next user None = refl
mapped i own next user (Some x) = refl

-- a round is decided on by the text of the condition
while-then : (name : List ℕ) (condition : Pieces) (i : ℕ) (s : State) (next : Option (Unit {0}) → Part)
    → tried ((while_turns name condition).begins i) s next ≡ tried (text condition) s (λ x s. next (where_so (goes_on x i (last_ok s.user.vars))) s)
while-then name condition i s next =
    bind-assoc (text condition s.user) (λ t. over (while_goes_by i t)) (on_came s.own next)
    ∙ ap (λ k. text condition s.user >>= k) (fun_ext λ t. mapped i s.own next t.user t.came)

abbrev while_on : List ℕ → Pieces → Below → List ℕ → Own → Step Turn WhileCursor → Run Ending
while_on name condition below children own = stepped below (λ d. d.rounds.begun - 1) children (while_left name condition below children) own

abbrev while_open : WhileCursor → WhileCursor
while_open c = record { element = c.element; rounds = opened c.rounds }

module _ (name : List ℕ) (condition : Pieces) (below : Below) (children : List ℕ) (c : WhileCursor) (own : Own) where
  while_decided : (u : UserState) (x : Bool)
      → where_begun (λ x s. with_round s (λ s. and_then (set_index name c.rounds.begun s) (round_left (while_turns name condition) below children (round_begun c.rounds)))) (where_so x) (state_of u own)
      ≡ ((if x then answers Round (record { element = c.element; rounds = round_begun (opened c.rounds) }) u else answers Over (while_open c) u) >>= while_on name condition below children own)
  while_decided u true = ap (with_round (state_of u own)) (fun_ext λ s. ap (λ r. and_then r (round_left (while_turns name condition) below children (round_begun c.rounds))) (opens_first name c.rounds s))
  while_decided u false = refl

  while_went : c.rounds.pass.children ≡ length children → c.rounds.begun + own.rounds ≤ max_rounds → (u : UserState) (x : Bool) → is_left c.rounds.pass ≡ x
      → round_left (while_turns name condition) below children c.rounds (state_of u own) ≡ (while_goes condition (while_open c) u >>= while_on name condition below children own)
  while_went all bound u true is = rw is (round-child (while_turns name condition) below children c.rounds (state_of u own) is all)
  while_went all bound u false is =
      rw is (round-decided (while_turns name condition) below children c.rounds (state_of u own) is all bound
      ∙ while-then name condition c.rounds.begun (state_of u own)
      (where_begun (λ x s. with_round s (λ s. and_then (set_index name c.rounds.begun s) (round_left (while_turns name condition) below children (round_begun c.rounds)))))
      ∙ text-law condition (while_open c) (state_of u own)
      (λ t u. if goes_on t c.rounds.begun (last_ok u.vars) then answers Round (record { element = c.element; rounds = round_begun (opened c.rounds) }) u else answers Over (while_open c) u) (while_on name condition below children own)
      (λ x s. where_begun (λ x s. with_round s (λ s. and_then (set_index name c.rounds.begun s) (round_left (while_turns name condition) below children (round_begun c.rounds))))
      (where_so (goes_on x c.rounds.begun (last_ok s.user.vars))) s)
      (λ u. refl) (λ t u. while_decided u (goes_on t c.rounds.begun (last_ok u.vars))))

pub while-law : (name : List ℕ) (condition : Pieces) (below : Below) (children : List ℕ) (c : WhileCursor) (s : State)
    → c.rounds.pass.children ≡ length children → c.rounds.begun + s.own.rounds ≤ max_rounds
    → while_left name condition below children c s ≡ (while_next name condition c s.user >>= stepped below (λ d. d.rounds.begun - 1) children (while_left name condition below children) s.own)
while-law name condition below children c s all bound =
    vars-law (opened_vars name c.rounds s.user.vars) c s (while_goes condition (record { element = c.element; rounds = opened c.rounds }))
    (stepped below (λ d. d.rounds.begun - 1) children (while_left name condition below children) s.own) (round_left (while_turns name condition) below children c.rounds)
    (λ u. refl) (λ u. while_went name condition below children c s.own all bound u (is_left c.rounds.pass) refl)

-- ---- ForEach

abbrev each_on : List ℕ → Row → List ℕ → Below → List ℕ → Own → Step Turn EachCursor → Run Ending
each_on name row output below children own = stepped below (λ d. d.rounds.begun - 1) children (each_left name row output below children) own

abbrev each_open : EachCursor → EachCursor
each_open c = record { element = c.element; rounds = opened c.rounds; value = None }

module _ (name : List ℕ) (row : Row) (output : List ℕ) (below : Below) (children : List ℕ) (c : EachCursor) (own : Own) where
  -- a round that begins with this value
  each_opens : (value : List ℕ) (s : State)
      → and_then (and_then (set_index name c.rounds.begun s) (λ s. with_vars (put_var output value s.user.vars) s)) (round_left (each_turns name row output) below children (round_begun c.rounds))
      ≡ each_left name row output below children (record { element = c.element; rounds = round_begun (opened c.rounds); value = Some value }) s
  each_opens value s =
      then-assoc (set_index name c.rounds.begun s) (λ s. with_vars (put_var output value s.user.vars) s) (round_left (each_turns name row output) below children (round_begun c.rounds))
      ∙ ap (λ r. and_then r (λ s. and_then (with_vars (put_var output value s.user.vars) s) (round_left (each_turns name row output) below children (round_begun c.rounds)))) (opens_first name c.rounds s)

  each_decided : (u : UserState) (x : Option (List ℕ))
      → where_begun (λ x s. with_round s (λ s. and_then ((each_turns name row output).opens x c.rounds.begun s) (round_left (each_turns name row output) below children (round_begun c.rounds)))) x (state_of u own)
      ≡ (each_decides x (each_open c) u >>= each_on name row output below children own)
  each_decided u None = refl
  each_decided u (Some value) = ap (with_round (state_of u own)) (fun_ext λ s. each_opens value s)

  each_went : c.rounds.pass.children ≡ length children → c.rounds.begun + own.rounds ≤ max_rounds → (u : UserState) (x : Bool) → is_left c.rounds.pass ≡ x
      → round_left (each_turns name row output) below children c.rounds (state_of u own) ≡ (each_goes row (each_open c) u >>= each_on name row output below children own)
  each_went all bound u true is = rw is (round-child (each_turns name row output) below children c.rounds (state_of u own) is all)
  each_went all bound u false is =
      rw is (round-decided (each_turns name row output) below children c.rounds (state_of u own) is all bound ∙ each_decided u (value_at row c.rounds.begun u.vars))

pub each-law : (name : List ℕ) (row : Row) (output : List ℕ) (below : Below) (children : List ℕ) (c : EachCursor) (s : State)
    → c.rounds.pass.children ≡ length children → c.rounds.begun + s.own.rounds ≤ max_rounds
    → each_left name row output below children c s ≡ (each_next name row output c s.user >>= stepped below (λ d. d.rounds.begun - 1) children (each_left name row output below children) s.own)
each-law name row output below children c s all bound =
    vars-law (opened_vars name c.rounds s.user.vars) c s
    (λ u. step_vars (output_vars output c.value u.vars) (record { element = c.element; rounds = opened c.rounds; value = None }) u (each_goes row (each_open c)))
    (each_on name row output below children s.own)
    (λ s. and_then (with_vars (output_vars output c.value s.user.vars) s) (round_left (each_turns name row output) below children c.rounds))
    (λ u. refl)
    (λ u. vars-law (output_vars output c.value u.vars) (record { element = c.element; rounds = opened c.rounds; value = None }) (state_of u s.own)
    (each_goes row (each_open c)) (each_on name row output below children s.own)
    (round_left (each_turns name row output) below children c.rounds) (λ u. refl)
    (λ u. each_went name row output below children c s.own all bound u (is_left c.rounds.pass) refl))

-- ---- at an element of the cursor's kind

pub if-law-in : (k : Kind) (all : Bool) (condition : Pieces) (below : Below) (round : ℕ) (children : List ℕ) (c : IfCursor) (s : State) → k ≡ kinds.If all condition → c.pass.children ≤ length children
    → if_left_in k below round children c s ≡ (if_next_at k c s.user >>= stepped below (λ d. round) children (if_left_in k below round children) s.own)
if-law-in k all condition below round children c s is few =
    subst (λ k. if_left_in k below round children c s ≡ (if_next_at k c s.user >>= stepped below (λ d. round) children (if_left_in k below round children) s.own)) (sym is)
    (if-law all condition below round children c s few)

pub while-law-in : (k : Kind) (name : List ℕ) (condition : Pieces) (below : Below) (children : List ℕ) (c : WhileCursor) (s : State) → k ≡ kinds.While condition
    → c.rounds.pass.children ≡ length children → c.rounds.begun + s.own.rounds ≤ max_rounds
    → while_left_in k name below children c s ≡ (while_next_at k name c s.user >>= stepped below (λ d. d.rounds.begun - 1) children (while_left_in k name below children) s.own)
while-law-in k name condition below children c s is all bound =
    subst (λ k. while_left_in k name below children c s ≡ (while_next_at k name c s.user >>= stepped below (λ d. d.rounds.begun - 1) children (while_left_in k name below children) s.own)) (sym is)
    (while-law name condition below children c s all bound)

pub each-law-in : (k : Kind) (name : List ℕ) (row : Row) (output : List ℕ) (below : Below) (children : List ℕ) (c : EachCursor) (s : State) → k ≡ kind_of row output
    → c.rounds.pass.children ≡ length children → c.rounds.begun + s.own.rounds ≤ max_rounds
    → each_left_in k name below children c s ≡ (each_next_at k name c s.user >>= stepped below (λ d. d.rounds.begun - 1) children (each_left_in k name below children) s.own)
each-law-in k name row output below children c s is all bound =
    subst (λ k. each_left_in k name below children c s ≡ (each_next_at k name c s.user >>= stepped below (λ d. d.rounds.begun - 1) children (each_left_in k name below children) s.own)) (sym is)
    (each-law name row output below children c s all bound)
