-- What an element means goes on as its cursor's entry says.
use Rattle.std.proofs.Common.{◌≡◌, ℕ, Bool, true, false, List, length, refl, sym, subst, arith}
use Rattle.std.specs.Prelude.{if◌then◌else◌}
use Rattle.jm_base.specs.Run.{over, ◌>>=◌}
use Rattle.template_text.specs.Pieces.{Pieces}
use Rattle.element_tree.specs.declared.kinds.Kind.{Kind}
use Rattle.element_tree.specs.declared.kinds.Kind.TheVariants as kinds
use Rattle.var_functions.specs.declared.state.UserState.{UserState}
use Rattle.logic_controllers.specs.declared.simple_cursor.SimpleCursor.{SimpleCursor}
use Rattle.logic_controllers.specs.declared.once_cursor.OnceCursor.{OnceCursor}
use Rattle.logic_controllers.specs.declared.loop_cursor.LoopCursor.{LoopCursor}
use Rattle.logic_controllers.specs.declared.if_cursor.IfCursor.{IfCursor}
use Rattle.logic_controllers.specs.declared.while_cursor.WhileCursor.{WhileCursor}
use Rattle.logic_controllers.specs.declared.each_cursor.EachCursor.{EachCursor}
use Rattle.cursor_steps.specs.CursorStep.{answers}
use Rattle.cursor_steps.specs.RunningChildren.{pass_over, none_left, is_left}
use Rattle.logic_controllers.specs.ControllerRounds.{before_rounds}
use Rattle.logic_controllers.specs.SimpleController.{simple_enters}
use Rattle.logic_controllers.specs.OnceOnlyController.{once_enters}
use Rattle.logic_controllers.specs.LoopController.{loops_of, loop_enters, loop_enters_at}
use Rattle.logic_controllers.specs.IfController.{is_true, if_enters, if_enters_at}
use Rattle.logic_controllers.specs.WhileController.{while_enters}
use Rattle.logic_controllers.specs.ForEachController.{Row, kind_of, each_enters}
use Rattle.jm_meaning.specs.State.{State, state_of, normal, tried, text}
use Rattle.jm_meaning.specs.Rounds.{Turns, rounds, loop_turns, while_turns, each_turns}
use Rattle.jm_meaning.specs.Children.{Below, in_order, once_only, if_part}
use Rattle.jm_meaning.specs.Beginning.{max_rounds}
use Rattle.open_elements.specs.Moves.{begun, pass_left}
use Rattle.open_elements.specs.Cursors.{simple_left, once_left, if_left, round_left, loop_left, while_left, each_left, if_left_in, while_left_in, each_left_in}
use Rattle.open_elements.proofs.PassLaws.{none-left, all-left}
use Rattle.open_elements.proofs.StepLaws.{text-law}
use Rattle.open_elements.proofs.PassLaws.{count-is}
use Rattle.std.proofs.Common.{Some, [], ap, ◌∙◌}
use Rattle.std.specs.Prelude.{slice_get, unwrap_or, IfSome}
use Rattle.std.specs.Option.{option_map}
use Rattle.element_tree.specs.declared.kinds.Element.{Element}
use Rattle.element_tree.specs.Tree.{Tree}
use Rattle.element_tree.specs.Names.{label_of, lock_of, lock_of_kind, lock_name}
use Rattle.cursor_steps.specs.declared.pass.Pass.{Pass}
use Rattle.cursor_steps.specs.RunningChildren.{run_count}
use Rattle.sampler_pipeline.specs.SamplerPipeline.{label_at}
use Rattle.jm_meaning.specs.declared.signal.Signal.{Signal}
use Rattle.jm_meaning.specs.declared.transaction.Tally.{Tally}
use Rattle.jm_meaning.specs.Children.{children_of}
use Rattle.jm_meaning.specs.Meaning.{kind_meaning}
use Rattle.jm_meaning.specs.Transactions.{tally_of, transaction_from}
use Rattle.jm_meaning.specs.Sections.{section}
use Rattle.jm_meaning.proofs.TransactionLaws.{by-tally}
use Rattle.open_elements.specs.declared.cursor.Cursor.TheVariants.{Transaction, Section}
use Rattle.open_elements.specs.declared.entering.Entered.TheVariants.{Open}
use Rattle.open_elements.specs.Entering.{here_with, entered}

-- before the first child of a pass all are left
whole : (n : ℕ) (children : List ℕ) → n ≡ length children → pass_left (pass_over n) children ≡ children
whole n children all = all-left (pass_over n) children refl all

pub simple-enter : (below : Below) (round : ℕ) (children : List ℕ) (n : ℕ) (c : SimpleCursor) (s : State) → n ≡ length children
    → in_order below round children s ≡ (simple_enters n c s.user >>= begun (simple_left below round children) s.own)
simple-enter below round children n c s all = rw (whole n children all) refl

pub once-enter : (below : Below) (round : ℕ) (children : List ℕ) (n : ℕ) (c : OnceCursor) (s : State) → n ≡ length children
    → once_only below round children s ≡ (once_enters n c s.user >>= begun (once_left below round children) s.own)
once-enter below round children n c s all = rw (whole n children all) refl

pub if-enter : (all : Bool) (condition : Pieces) (below : Below) (round : ℕ) (children : List ℕ) (n : ℕ) (c : IfCursor) (s : State) → n ≡ length children
    → if_part all below round children (text condition) s ≡ (if_enters all condition n c s.user >>= begun (if_left all condition below round children) s.own)
if-enter true condition below round children n c s all = rw (whole n children all) refl
if-enter false condition below round children n c s all =
    text-law condition c s (λ t u. answers tt (record { element = c.element; pass = pass_over (if is_true t then n else 0) }) u)
    (begun (if_left false condition below round children) s.own)
    (λ t s. if is_true t then in_order below round children s else over (normal s)) (λ u. refl) (λ t u. by_truth (is_true t) u) where
      by_truth : (x : Bool) (u : UserState) → (if x then in_order below round children (state_of u s.own) else over (normal (state_of u s.own)))
          ≡ in_order below round (pass_left (pass_over (if x then n else 0)) children) (state_of u s.own)
      by_truth true u = rw (whole n children all) refl
      by_truth false u = refl

no_less : (n : ℕ) → is_left (none_left n) ≡ false
no_less n = grind arith

-- before the first round all rounds are left
before-first : {X : Type 0} (turns : Turns X) (below : Below) (children : List ℕ) (n : ℕ) (s : State)
    → rounds max_rounds turns (λ i. in_order below i children) 0 s ≡ round_left turns below children (before_rounds n) s
before-first turns below children n s = rw (none-left (none_left n) children (no_less n)) refl

pub loop-enter : (name : List ℕ) (loops : Pieces) (below : Below) (children : List ℕ) (n : ℕ) (c : LoopCursor) (s : State)
    → tried (text loops) s (λ x. rounds max_rounds (loop_turns name (loops_of x)) (λ i. in_order below i children) 0)
    ≡ (loop_enters loops n c s.user >>= begun (loop_left name below children) s.own)
loop-enter name loops below children n c s =
    text-law loops c s (λ t u. answers tt (record { element = c.element; loops = loops_of t; rounds = before_rounds n }) u) (begun (loop_left name below children) s.own)
    (λ x. rounds max_rounds (loop_turns name (loops_of x)) (λ i. in_order below i children) 0) (λ u. refl)
    (λ t u. before-first (loop_turns name (loops_of t)) below children n (state_of u s.own))

pub while-enter : (name : List ℕ) (condition : Pieces) (below : Below) (children : List ℕ) (n : ℕ) (c : WhileCursor) (s : State)
    → rounds max_rounds (while_turns name condition) (λ i. in_order below i children) 0 s
    ≡ (while_enters n c s.user >>= begun (while_left name condition below children) s.own)
while-enter name condition below children n c s = before-first (while_turns name condition) below children n s

pub each-enter : (name : List ℕ) (row : Row) (output : List ℕ) (below : Below) (children : List ℕ) (n : ℕ) (c : EachCursor) (s : State)
    → rounds max_rounds (each_turns name row output) (λ i. in_order below i children) 0 s
    ≡ (each_enters n c s.user >>= begun (each_left name row output below children) s.own)
each-enter name row output below children n c s = before-first (each_turns name row output) below children n s

-- ---- at an element of the cursor's kind

pub loop-enter-in : (k : Kind) (name : List ℕ) (loops : Pieces) (below : Below) (children : List ℕ) (n : ℕ) (c : LoopCursor) (s : State) → k ≡ kinds.Loop loops
    → tried (text loops) s (λ x. rounds max_rounds (loop_turns name (loops_of x)) (λ i. in_order below i children) 0)
    ≡ (loop_enters_at k n c s.user >>= begun (loop_left name below children) s.own)
loop-enter-in k name loops below children n c s is =
    subst (λ k. tried (text loops) s (λ x. rounds max_rounds (loop_turns name (loops_of x)) (λ i. in_order below i children) 0) ≡ (loop_enters_at k n c s.user >>= begun (loop_left name below children) s.own)) (sym is)
    (loop-enter name loops below children n c s)

pub if-enter-in : (k : Kind) (all : Bool) (condition : Pieces) (below : Below) (round : ℕ) (children : List ℕ) (n : ℕ) (c : IfCursor) (s : State) → k ≡ kinds.If all condition → n ≡ length children
    → if_part all below round children (text condition) s ≡ (if_enters_at k n c s.user >>= begun (if_left_in k below round children) s.own)
if-enter-in k all condition below round children n c s is count =
    subst (λ k. if_part all below round children (text condition) s ≡ (if_enters_at k n c s.user >>= begun (if_left_in k below round children) s.own)) (sym is)
    (if-enter all condition below round children n c s count)

pub while-enter-in : (k : Kind) (name : List ℕ) (condition : Pieces) (below : Below) (children : List ℕ) (n : ℕ) (c : WhileCursor) (s : State) → k ≡ kinds.While condition
    → rounds max_rounds (while_turns name condition) (λ i. in_order below i children) 0 s ≡ (while_enters n c s.user >>= begun (while_left_in k name below children) s.own)
while-enter-in k name condition below children n c s is =
    subst (λ k. rounds max_rounds (while_turns name condition) (λ i. in_order below i children) 0 s ≡ (while_enters n c s.user >>= begun (while_left_in k name below children) s.own)) (sym is)
    (while-enter name condition below children n c s)

pub each-enter-in : (k : Kind) (name : List ℕ) (row : Row) (output : List ℕ) (below : Below) (children : List ℕ) (n : ℕ) (c : EachCursor) (s : State) → k ≡ kind_of row output
    → rounds max_rounds (each_turns name row output) (λ i. in_order below i children) 0 s ≡ (each_enters n c s.user >>= begun (each_left_in k name below children) s.own)
each-enter-in k name row output below children n c s is =
    subst (λ k. rounds max_rounds (each_turns name row output) (λ i. in_order below i children) 0 s ≡ (each_enters n c s.user >>= begun (each_left_in k name below children) s.own)) (sym is)
    (each-enter name row output below children n c s)

-- a transaction begins with all its children, and no sample counted
pub transaction-enter : (plan : Tree) (failure : Signal) (below : Below) (number round : ℕ) (e : Element) (s : State) (pass : Pass) (tally : Tally) → slice_get plan.elements number ≡ Some e
    → pass ≡ pass_over (run_count plan.elements e) → tally ≡ tally_of []
    → kind_meaning (here_with plan failure) below number e kinds.Transaction round s
    ≡ entered (here_with plan failure) below number round e s (Open (Transaction (record { children = record { element = number; pass = pass }; tally = tally })))
transaction-enter plan failure below number round e s pass tally there all none =
    by-tally (label_of plan.elements e.name) (in_order below round (children_of plan.elements e)) s
    ∙ ap (λ l. transaction_from l (tally_of []) (in_order below round (children_of plan.elements e) s)) (sym (ap (λ o. unwrap_or (option_map (λ e. label_of plan.elements e.name) o) 0) there))
    ∙ ap (λ t. transaction_from (label_at plan.elements number) t (in_order below round (children_of plan.elements e) s)) (sym none)
    ∙ ap (λ cs. transaction_from (label_at plan.elements number) tally (in_order below round cs s)) (sym (ap (λ p. pass_left p (children_of plan.elements e)) all ∙ whole (run_count plan.elements e) (children_of plan.elements e) (sym (count-is plan.elements e))))

-- a section is entered with all its children
pub section-enter : (plan : Tree) (failure : Signal) (below : Below) (number round : ℕ) (e : Element) (s : State) (pass : Pass) (lock : ℕ) (name : List ℕ) → e.kind ≡ kinds.CriticalSection name
    → pass ≡ pass_over (run_count plan.elements e) → lock ≡ lock_of plan.elements name
    → kind_meaning (here_with plan failure) below number e e.kind round s
    ≡ entered (here_with plan failure) below number round e s (Open (Section (record { children = record { element = number; pass = pass }; lock = lock })))
section-enter plan failure below number round e s pass lock name kind all at =
    ap (λ k. kind_meaning (here_with plan failure) below number e k round s) kind
    ∙ ap (λ l. section l (in_order below round (children_of plan.elements e)) s) (sym at)
    ∙ ap (λ cs. section lock (in_order below round cs) s) (sym (ap (λ p. pass_left p (children_of plan.elements e)) all ∙ whole (run_count plan.elements e) (children_of plan.elements e) (sym (count-is plan.elements e))))

-- the number of the lock of a critical section, where the plan has looked it up
pub lock_at : (elements : List Element) (n : ℕ) (e : Element) (name : List ℕ) (lock : ℕ) → slice_get elements n ≡ Some e → e.kind ≡ kinds.CriticalSection name
    → IfSome (slice_get elements n) (λ e. IfSome (lock_name e) (λ name. lock ≡ lock_of elements name)) → lock ≡ lock_of elements name
lock_at elements n e name lock there kind h =
    let at : IfSome (lock_name e) (λ name. lock ≡ lock_of elements name) = rw there at h in
    subst (λ k. IfSome (lock_of_kind k) (λ name. lock ≡ lock_of elements name)) kind at
