-- What contracts see of a thread's worker.
use Rattle.std.specs.Prelude.{◌≡◌, ℕ, Bool, false, List, [], ◌∷◌, ◌++◌, Option, Some, None, map, if◌then◌else◌, ◌⊎◌}
use Rattle.jm_base.specs.declared.types.Sample.{Sample}
use Rattle.jm_base.specs.declared.types.End.{End}
use Rattle.jm_base.specs.Run.{Run, Event, over, give, Ended}
use Rattle.jm_base.specs.Outside.{Account, Goes}
use Rattle.element_tree.specs.Tree.{Tree}
use Rattle.var_functions.specs.declared.state.UserState.{UserState}
use Rattle.jm_meaning.specs.declared.item.Item.{Item}
use Rattle.jm_meaning.specs.declared.item.Item.TheVariants.{Sampled, Entered}
use Rattle.jm_meaning.specs.State.{State, Ending, and_then}
use Rattle.jm_meaning.specs.Beginning.{Options, set_first}
use Rattle.jm_meaning.specs.Meaning.{events, and_end, after_pause}
use Rattle.jm_meaning.specs.TraceShown.{shown}
use Rattle.config_elements.specs.RoundStart.{Config}
use Rattle.control_machine.specs.declared.position.Position.{Position}
use Rattle.control_machine.specs.Left.{left_of}
use Rattle.thread_machine.specs.declared.trace.TraceItem.{TraceItem}
use Rattle.thread_machine.specs.Bare.{bare}

-- The plan and the thread's number in it; the pause before its first variables that is still to come, and whether those are
-- set; its variables and what functions keep; the units left of its sample budget; what it keeps of Counters and data sets;
-- its place in the plan; the sample that is owed to its trace; the lock of the section that is still to be entered, and of
-- the one that is open; the end that comes after a section was left for a limit; its trace, and whether it has ended.
pub record Standing : Type 0 where
  pub plan : Tree
  pub thread : ℕ
  pub pause : ℕ
  pub begun : Bool
  pub user : UserState
  pub units : ℕ
  pub config : Config
  pub machine : Position
  pub owed : Option Sample
  pub entering : Option ℕ
  pub section : Option ℕ
  pub last : Option End
  pub trace : List TraceItem
  pub ended : Bool

abbrev pub state_in : Standing → State
state_in w = record { user = w.user; own = record { units = w.units; rounds = w.machine.rounds; places = w.machine.places; config = w.config.places } }

-- what is left of the thread's part of the plan
abbrev pub part_left : Standing → Run Ending
part_left w =
    if w.begun
    then left_of w.plan w.machine (state_in w)
    else and_then (set_first w.plan.elements (state_in w)) (left_of w.plan w.machine)

-- after a section that was left for a limit comes the end
abbrev pub before_end : Option End → Run (Unit {0}) → Run (Unit {0})
before_end None run = run
before_end (Some end) run = give (Ended end) (over tt)

-- what is left of the thread's run
abbrev pub rest : Standing → Run (Unit {0})
rest w = if w.ended then over tt else before_end w.last (after_pause w.pause (and_end (part_left w)))

-- before its first step the whole of the thread's run is left
pub record IsAtStart (plan : Tree) (thread : ℕ) (options : Options) (w : Standing) : Type 0 where
  pub plan_is : w.plan ≡ plan
  pub thread_is : w.thread ≡ thread
  pub units_are : w.units ≡ options.budget
  pub left : rest w ≡ events plan thread options
  pub owes_nothing : w.owed ≡ None
  pub enters_none : w.entering ≡ None
  pub none_open : w.section ≡ None
  pub no_items : w.trace ≡ []
  pub goes_on : w.ended ≡ false

-- a sample that is owed to the trace
abbrev pub owed_items : Option Sample → List Item
owed_items None = []
owed_items (Some sample) = Sampled sample ∷ []

-- a section that is still to be entered
abbrev pub entering_items : Option ℕ → List Item
entering_items None = []
entering_items (Some lock) = Entered lock ∷ []

-- what is owed to the trace
abbrev pub owed_to : Standing → List Item
owed_to w = owed_items w.owed ++ entering_items w.entering

-- Nothing was heard since the last of these events: the run has come to that event, and what is left comes after it. Before
-- the first event nothing was heard at all.
abbrev pub HeardForEvents : Account → Run (Unit {0}) → List Event → Run (Unit {0}) → Account → Type 0
HeardForEvents start run events left now =
    ((events ≡ []) × (left ≡ run) × (now ≡ start))
    ⊎ ((earlier : List Event) × (last : Event) × (events ≡ earlier ++ last ∷ []) × Goes start run earlier (give last left) now)

-- From the start of the thread until now its run has given what the bare trace shows, and then what is owed to it; what is left is left.
pub record Stands (start now : Account) (options : Options) (w : Standing) : Type 0 where
  pub so_far : List Event
  pub goes : Goes start (events w.plan w.thread options) so_far (rest w) now
  pub heard : HeardForEvents start (events w.plan w.thread options) so_far (rest w) now
  pub shows : map shown so_far ≡ bare w.trace ++ owed_to w
