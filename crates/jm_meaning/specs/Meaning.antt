-- The meaning of a plan.
use Rattle.std.specs.Prelude.{ℕ, zero, suc, List, Option, Some, None, slice_get}
use Rattle.jm_base.specs.declared.types.End.{End}
use Rattle.jm_base.specs.declared.types.End.TheVariants.{Completed, StopThread, StopTest}
use Rattle.jm_base.specs.Run.{Run, over, give, wait, ◌>>=◌, Waited, Ended}
use Rattle.element_tree.specs.declared.kinds.Element.{Element}
use Rattle.element_tree.specs.declared.kinds.Kind.{Kind}
use Rattle.element_tree.specs.declared.kinds.Kind.TheVariants.{ThreadGroup, Simple, OnceOnly, Loop, If, While, ForEach, Switch, Interleave, Random, RandomOrder, Transaction, CriticalSection, Script, Http}
use Rattle.element_tree.specs.declared.kinds.Loops.{Loops}
use Rattle.element_props.specs.declared.choices.OnError.{OnError}
use Rattle.element_props.specs.declared.choices.OnError.TheVariants as on_error
use Rattle.element_tree.specs.Tree.{Tree, group_of}
use Rattle.element_tree.specs.Names.{label_of, lock_of}
use Rattle.logic_controllers.specs.LoopController.{loops_of}
use Rattle.choice_controllers.specs.SwitchController.{run_names}
use Rattle.jm_meaning.specs.declared.signal.Signal.{Signal}
use Rattle.jm_meaning.specs.declared.signal.Signal.TheVariants.{Normal, NextLoop, Stop}
use Rattle.jm_meaning.specs.State.{Ending, Part, normal, and_then, with_unit, tried, text}
use Rattle.jm_meaning.specs.Rounds.{rounds, loop_turns, while_turns, each_turns, group_turns, round_of_group, round_start}
use Rattle.jm_meaning.specs.Children.{Below, children_of, in_order, once_only, if_part}
use Rattle.jm_meaning.specs.Choices.{switch, interleave, random, random_order}
use Rattle.jm_meaning.specs.Transactions.{transaction}
use Rattle.jm_meaning.specs.Sections.{section}
use Rattle.jm_meaning.specs.Sampling.{sampling}
use Rattle.jm_meaning.specs.Beginning.{Options, max_rounds, first_of, set_first}
use Rattle.jm_meaning.specs.RampUp.{pause_of}

-- what a thread's run is over: the plan, and what a failed sample leads to
pub record Here : Type 0 where
  pub plan : Tree
  pub at_failure : Signal

-- what a failed sample leads to, by the action of the thread's group
abbrev pub signal_of : OnError → Signal
signal_of on_error.Continue = Normal
signal_of on_error.NextLoop = NextLoop
signal_of on_error.StopThread = Stop StopThread
signal_of on_error.StopTest = Stop StopTest

-- the children that run
abbrev pub children_in : Here → Element → List ℕ
children_in here e = children_of here.plan.elements e

-- An element by its kind, where below is the meaning of its children. A thread group stands below the plan alone, and
-- has its rounds in the meaning of a thread. The other kinds mean nothing here.
abbrev pub kind_meaning : Here → Below → ℕ → Element → Kind → ℕ → Part
kind_meaning here below number e Simple round s = in_order below round (children_in here e) s
kind_meaning here below number e OnceOnly round s = once_only below round (children_in here e) s
kind_meaning here below number e (If all condition) round s = if_part all below round (children_in here e) (text condition) s
kind_meaning here below number e (Loop loops) round s =
    tried (text loops) s (λ x. rounds max_rounds (loop_turns e.name (loops_of x)) (λ i. in_order below i (children_in here e)) 0)
kind_meaning here below number e (While condition) round s =
    rounds max_rounds (while_turns e.name condition) (λ i. in_order below i (children_in here e)) 0 s
kind_meaning here below number e (ForEach end input output separator start) round s =
    rounds max_rounds (each_turns e.name (record { input = input; separator = separator; start = start; end = end }) output)
    (λ i. in_order below i (children_in here e)) 0 s
kind_meaning here below number e (Switch value) round s =
    switch below round (run_names here.plan.elements e) (children_in here e) (text value) s
kind_meaning here below number e Interleave round s = interleave below round number (children_in here e) s
kind_meaning here below number e Random round s = random below round (children_in here e) s
kind_meaning here below number e RandomOrder round s = random_order below round (children_in here e) s
kind_meaning here below number e Transaction round s =
    transaction (label_of here.plan.elements e.name) (in_order below round (children_in here e)) s
kind_meaning here below number e (CriticalSection lock) round s =
    section (lock_of here.plan.elements lock) (in_order below round (children_in here e)) s
kind_meaning here below number e (Script replies request) round s =
    with_unit s (sampling here.plan.elements number here.at_failure)
kind_meaning here below number e (Http body host method params path port replies) round s =
    with_unit s (sampling here.plan.elements number here.at_failure)
kind_meaning here below number e kind round s = over (normal s)

abbrev pub element_meaning : Here → Below → ℕ → Option Element → ℕ → Part
element_meaning here below number None round s = over (normal s)
element_meaning here below number (Some e) round s = kind_meaning here below number e e.kind round s

-- the meaning of an element at which and below which elements nest at most this deep
unfoldable pub meaning : Here → ℕ → Below
meaning here zero number round s = over (normal s)
meaning here (suc depth) number round s =
    element_meaning here (meaning here depth) number (slice_get here.plan.elements number) round s

-- the rounds of a thread group, that many at most, from one of this index on
abbrev pub group_rounds : ℕ → Part → Below → Loops → List ℕ → ℕ → Part
group_rounds n start below loops children = rounds n (group_turns loops start) (λ i s. round_of_group (in_order below i children s))

-- below a group, which stands below the plan, elements nest at most 30 deep
abbrev pub group_meaning : Here → ℕ → Element → Kind → Part
group_meaning here number e (ThreadGroup loops on_error ramp_ms threads) s =
    group_rounds max_rounds (round_start here.plan.elements number) (meaning here 30) loops (children_in here e) 0 s
group_meaning here number e kind s = over (normal s)

abbrev pub group_part : Here → ℕ → Option Element → Part
group_part here number None s = over (normal s)
group_part here number (Some e) s = group_meaning here number e e.kind s

-- how a thread ends
abbrev pub end_of : Signal → End
end_of Normal = Completed
end_of NextLoop = Completed
end_of (Stop end) = end

abbrev pub failure_in : Kind → Signal
failure_in (ThreadGroup loops on_error ramp_ms threads) = signal_of on_error
failure_in kind = Normal

abbrev pub failure_of : Option Element → Signal
failure_of None = Normal
failure_of (Some e) = failure_in e.kind

-- a thread of the group at this place
abbrev pub here_at : Tree → ℕ → Here
here_at plan group = record { plan = plan; at_failure = failure_of (slice_get plan.elements group) }

-- after the rounds of the group the thread ends
abbrev pub and_end : Run Ending → Run Unit
and_end run = run >>= λ e. give (Ended (end_of e.signal)) (over tt)

-- a pause of that many milliseconds, where there is one, and then the run
abbrev pub after_pause : {A : Type 0} → ℕ → Run A → Run A
after_pause zero run = run
after_pause (suc ms) run = wait (suc ms) (give (Waited (suc ms)) run)

-- the first variables of a thread are set, and then come the rounds of its group
abbrev pub thread_part : Tree → ℕ → Part
thread_part plan group s = and_then (set_first plan.elements s) (group_part (here_at plan group) group (slice_get plan.elements group))

-- the events of a thread by its number: its ramp-up pause, its first variables, the rounds of its group, and its end
unfoldable pub events : Tree → ℕ → Options → Run (Unit {0})
events plan thread options =
    after_pause (pause_of plan thread) (and_end (thread_part plan (group_of plan thread) (first_of plan thread options)))
