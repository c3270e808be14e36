-- What is left of a thread's run, seen from its innermost open element.
use Rattle.std.specs.Prelude.{◌≡◌, ℕ, ◌+◌, ◌-◌, ◌<◌, ◌≤◌, List, [], ◌∷◌, length, Option, Some, None, false, is_some, slice_get, unwrap_or}
use Rattle.std.specs.Option.{option_map}
use Rattle.std.specs.List.{AllByRecursion}
use Rattle.jm_base.specs.declared.types.End.{End}
use Rattle.jm_base.specs.declared.types.End.TheVariants.{Completed, StopThread, StopTest, Stopped, SampleLimit, RoundLimit, ValueLimit, NoMemory}
use Rattle.jm_base.specs.Run.{Run, over, give, Entered as EnteredEvent, Left as LeftEvent}
use Rattle.element_tree.specs.declared.kinds.Element.{Element}
use Rattle.element_tree.specs.declared.kinds.Kind.TheVariants.{Transaction, CriticalSection}
use Rattle.element_tree.specs.Names.{lock_of}
use Rattle.element_tree.specs.Tree.{Tree, Nests, Apart}
use Rattle.var_functions.specs.declared.state.UserState.{UserState}
pub use Rattle.sampler_pipeline.specs.SamplerPipeline.{label_at}
use Rattle.jm_meaning.specs.declared.signal.Signal.{Signal}
use Rattle.jm_meaning.specs.declared.signal.Signal.TheVariants.{Normal, NextLoop, Stop}
use Rattle.jm_meaning.specs.State.{State, Own, Ending, Part, state_of, normal, stopped, and_then, with_unit}
use Rattle.jm_meaning.specs.Rounds.{round_of_group, round_start}
use Rattle.jm_meaning.specs.Children.{children_of, in_order}
use Rattle.jm_meaning.specs.Transactions.{with_own_sample}
use Rattle.jm_meaning.specs.Beginning.{max_rounds}
use Rattle.jm_meaning.specs.Meaning.{Here, children_in, meaning, group_rounds}
use Rattle.node_table.specs.ElementLinks.{links_of}
use Rattle.control_machine.specs.declared.stack.Frame.{Frame}
use Rattle.control_machine.specs.declared.position.Group.{Group}
use Rattle.control_machine.specs.declared.position.Position.{Position}
use Rattle.control_machine.specs.declared.moves.Move.{Move}
use Rattle.control_machine.specs.declared.moves.Move.TheVariants.{Iteration, RunSampler, EnterSection, LeaveSection, TransactionSample, Finished}
use Rattle.open_elements.specs.Moves.{pass_left}
use Rattle.open_elements.specs.Cursors.{cursor_left, Shut, Plain, Summing, Leaving, shut_of, lock_in, begun_of, FitsKind}
use Rattle.open_elements.specs.Closing.{closing, KeepsLock}
use Rattle.open_elements.specs.Entering.{kind_part, IsSamplerKind}

-- what an open element gives after the child that is open
abbrev pub frame_left : Here → Frame → Option Element → Part
frame_left here f None s = over (normal s)
frame_left here f (Some e) s = cursor_left (meaning here f.depth) f.round (children_in here e) e f.cursor s

abbrev pub closed : Here → Frame → Run Ending → Run Ending
closed here f inner = closing (label_at here.plan.elements f.element) (shut_of f.cursor) inner

abbrev pub around : Here → Frame → Run Ending → Run Ending
around here f inner = closed here f (and_then inner (frame_left here f (slice_get here.plan.elements f.element)))

-- the rest of the open elements, the innermost first
unfoldable pub rest_of : Here → List Frame → Run Ending → Run Ending
rest_of here [] inner = inner
rest_of here (f ∷ fs) inner = rest_of here fs (around here f inner)

-- the lock of the section that is open, if one is
abbrev pub open_lock : List Frame → Option ℕ
open_lock [] = None
open_lock (f ∷ fs) = lock_in (shut_of f.cursor) (open_lock fs)

-- the children of the element at this place that run
abbrev pub children_at : List Element → ℕ → List ℕ
children_at elements n = unwrap_or (option_map (children_of elements) (slice_get elements n)) []

-- the rest of a group's round, and the rounds after it
abbrev pub group_around : Here → Group → Run Ending → Run Ending
group_around here g inner =
    and_then (round_of_group (and_then inner (in_order (meaning here 30) (g.begun - 1) (pass_left g.pass (children_at here.plan.elements g.element)))))
    (group_rounds (max_rounds - g.begun) (round_start here.plan.elements g.element) (meaning here 30) g.loops (children_at here.plan.elements g.element) g.begun)

-- what is left of the group's rounds
unfoldable pub left_in : Here → Group → List Frame → Run Ending → Run Ending
left_in here g fs inner = group_around here g (rest_of here fs inner)

-- a machine's thread
abbrev pub here_in : Tree → Position → Here
here_in plan m = record { plan = plan; at_failure = m.at_failure }

-- what is left of a thread's rounds after a part of its run
abbrev pub left_after : Tree → Position → Run Ending → Run Ending
left_after plan m inner = left_in (here_in plan m) m.group m.stack.frames inner

-- what is left of a thread's rounds
abbrev pub left_of : Tree → Position → State → Run Ending
left_of plan m s = left_after plan m (over (record { state = s; signal = m.signal }))

-- what a thread carries beside its variables and its machine: the units left, and the places of Counters and data sets
pub record Beside : Type 0 where
  pub units : ℕ
  pub config : List ℕ

-- with what the machine keeps: the rounds left, and the places of the Interleave Controllers
abbrev pub own_at : Position → Beside → Own
own_at m beside = record { units = beside.units; rounds = m.rounds; places = m.places; config = beside.config }

abbrev pub state_at : Position → Beside → UserState → State
state_at m beside user = state_of user (own_at m beside)

-- ---- moves

-- a sampler by its number, where an element has it
abbrev pub sampler_part : Here → ℕ → Option Element → Part
sampler_part here number None s = over (normal s)
sampler_part here number (Some e) s = kind_part here number e e.kind s

abbrev pub ended : End → State → Ending
ended Completed s = normal s
ended end s = stopped end s

-- what is left after a move
abbrev pub moved : Tree → Position → State → Move → Run Ending
moved plan m s (Iteration index) = left_after plan m (round_start plan.elements m.group.element s)
moved plan m s (RunSampler number) = left_after plan m (sampler_part (here_in plan m) number (slice_get plan.elements number) s)
moved plan m s (EnterSection lock) = with_unit s (λ s. give (EnteredEvent lock) (left_of plan m s))
moved plan m s (LeaveSection lock) = give (LeftEvent lock) (left_of plan m s)
moved plan m s (TransactionSample element tally) =
    left_after plan m (with_own_sample (label_at plan.elements element) tally (record { state = s; signal = m.signal }))
moved plan m s (Finished end) = over (ended end s)

-- the ends that a machine finishes with
abbrev pub IsFinish : End → Type 0
IsFinish Completed = Unit {0}
IsFinish StopThread = Unit {0}
IsFinish StopTest = Unit {0}
IsFinish Stopped = ⊥
IsFinish SampleLimit = ⊥
IsFinish RoundLimit = Unit {0}
IsFinish ValueLimit = ⊥
IsFinish NoMemory = ⊥

-- the number is that of a sampler
pub record IsSampler (elements : List Element) (number : ℕ) : Type 0 where
  pub element : Element
  pub there : slice_get elements number ≡ Some element
  pub of_kind : IsSamplerKind element.kind

-- the number is that of a transaction
pub record IsTransaction (elements : List Element) (number : ℕ) : Type 0 where
  pub element : Element
  pub there : slice_get elements number ≡ Some element
  pub kind : element.kind ≡ Transaction

-- the number is that of the lock of a critical section
pub record IsLock (elements : List Element) (lock : ℕ) : Type 0 where
  pub number : ℕ
  pub element : Element
  pub there : slice_get elements number ≡ Some element
  pub name : List ℕ
  pub kind : element.kind ≡ CriticalSection name
  pub lock_is : lock ≡ lock_of elements name

-- the moves that a machine makes
abbrev pub IsMove : List Element → Move → Type 0
IsMove elements (Iteration index) = Unit {0}
IsMove elements (RunSampler number) = IsSampler elements number
IsMove elements (EnterSection lock) = IsLock elements lock
IsMove elements (LeaveSection lock) = IsLock elements lock
IsMove elements (TransactionSample element tally) = IsTransaction elements element
IsMove elements (Finished end) = IsFinish end

-- ---- what holds of a machine

-- an open element: it is of the kind of its cursor, those below it nest at most that deep, and its rounds are within the
-- limit
pub record IsOpen (elements : List Element) (limit left : ℕ) (f : Frame) : Type 0 where
  pub element : Element
  pub there : slice_get elements f.element ≡ Some element
  pub fits : FitsKind f.element (length (children_of elements element)) element.kind f.cursor
  pub below : AllByRecursion (Nests f.depth elements) element.children
  pub depth : f.depth ≤ 29
  pub bound : begun_of f.cursor + left ≤ limit
  pub lock : KeepsLock elements element.kind (shut_of f.cursor)

abbrev pub AreOpen : List Element → ℕ → List Frame → Type 0
AreOpen elements left [] = Unit {0}
AreOpen elements left (f ∷ fs) = IsOpen elements max_rounds left f × AreOpen elements left fs

-- a section is open inside no other
abbrev pub IsAlone : Shut → Option ℕ → Type 0
IsAlone Plain outer = Unit {0}
IsAlone (Summing tally) outer = Unit {0}
IsAlone (Leaving lock) outer = outer ≡ None

-- an open element inside these: no critical section stands below one that is open
pub record IsApart (elements : List Element) (fs : List Frame) (f : Frame) : Type 0 where
  pub element : Element
  pub there : slice_get elements f.element ≡ Some element
  pub below : AllByRecursion (Apart f.depth (is_some (open_lock (f ∷ fs))) elements) element.children
  pub alone : IsAlone (shut_of f.cursor) (open_lock fs)

abbrev pub AreApart : List Element → List Frame → Type 0
AreApart elements [] = Unit {0}
AreApart elements (f ∷ fs) = IsApart elements fs f × AreApart elements fs

-- how deep elements nest at most inside the innermost of these, and in the group where none is open
abbrev pub depth_in : List Frame → ℕ
depth_in [] = 30
depth_in (f ∷ fs) = f.depth

-- the depths of the open elements fall from the outermost, which is below the group's, to the innermost
abbrev pub DepthsFall : List Frame → Type 0
DepthsFall [] = Unit {0}
DepthsFall (f ∷ fs) = (f.depth < depth_in fs) × DepthsFall fs

-- the group, with children that nest at most that deep, and rounds within the limit
pub record GroupIsOpen (elements : List Element) (left : ℕ) (g : Group) : Type 0 where
  pub element : Element
  pub there : slice_get elements g.element ≡ Some element
  pub below : AllByRecursion (Nests 30 elements) element.children
  pub apart : AllByRecursion (Apart 30 false elements) element.children
  pub pass : g.pass.children ≡ length (children_of elements element)
  pub bound : g.begun + left ≤ max_rounds

-- a signal of the way out, or that the run goes on
abbrev pub IsOut : Signal → Type 0
IsOut Normal = Unit {0}
IsOut NextLoop = Unit {0}
IsOut (Stop StopThread) = Unit {0}
IsOut (Stop StopTest) = Unit {0}
IsOut (Stop RoundLimit) = Unit {0}
IsOut (Stop end) = ⊥

-- a machine stands in the plan for which it was made, and has the links of its elements
pub record StandsIn (plan : Tree) (m : Position) : Type 0 where
  pub group : GroupIsOpen plan.elements m.rounds m.group
  pub open_ : AreOpen plan.elements m.rounds m.stack.frames
  pub apart : AreApart plan.elements m.stack.frames
  pub falls : DepthsFall m.stack.frames
  pub failure : IsOut m.at_failure
  pub signal : IsOut m.signal
  pub links : m.links ≡ links_of plan.elements
