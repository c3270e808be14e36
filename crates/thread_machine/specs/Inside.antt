-- How a worker keeps what contracts see of it.
use Rattle.std.specs.Prelude.{◌≡◌, ℕ, ◌+◌, ◌≤◌, ◌<◌, Bool, true, false, length, All, Option, Some, None, IfSome}
use Rattle.jm_base.specs.declared.types.End.{End}
use Rattle.jm_base.specs.declared.types.End.TheVariants.{SampleLimit, ValueLimit}
use Rattle.jm_base.specs.declared.types.Sample.{Sample}
use Rattle.element_tree.specs.Names.{labels_of}
use Rattle.config_elements.specs.RoundStart.{feeds_of}
use Rattle.node_table.specs.KeptPackages.{packages_of}
use Rattle.control_machine.specs.Left.{StandsIn, IsLock, open_lock}
use Rattle.thread_machine.specs.declared.runner.Runner.{Runner}
use Rattle.thread_machine.specs.Bare.{IsLabelled}
use Rattle.thread_machine.specs.SectionOrder.{SectionsFrom, IsNoEnd}
use Rattle.thread_machine.specs.Standing.{Standing}

abbrev pub standing_of : Runner → Bool → Standing
standing_of r ended = record {
  plan = r.plan.now;
  thread = r.thread;
  pause = r.pause;
  begun = r.begun;
  user = r.user;
  units = r.units;
  config = r.config;
  machine = r.machine;
  owed = r.owed;
  entering = r.entering;
  section = r.section;
  last = r.last;
  trace = r.trace.items;
  ended = ended;
}

-- how many items what is owed will take
abbrev pub owed_count : {X : Type 0} → Option X → ℕ
owed_count None = 0
owed_count (Some x) = 1

abbrev pub IsOwedLabelled : ℕ → Option Sample → Type 0
IsOwedLabelled labels None = Unit {0}
IsOwedLabelled labels (Some sample) = sample.label < labels

-- the lock of the section that the machine has open: the one that is still to be entered, or that is open
abbrev pub held : Option ℕ → Option ℕ → Option ℕ
held None section = section
held (Some lock) section = Some lock

-- the ends that leave a section first, by a limit that the worker itself finds
abbrev pub IsLimit : End → Type 0
IsLimit SampleLimit = Unit {0}
IsLimit ValueLimit = Unit {0}
IsLimit end = ⊥

-- A thread that makes more moves: its machine stands in its plan and has open what the thread has, what the thread keeps of
-- Counters and data sets was made for its group, and its table has the packages of its plan. No section is open before the
-- first variables are set.
pub record MovesOn (r : Runner) : Type 0 where
  pub stands : StandsIn r.plan.now r.machine
  pub lock : held r.entering r.section ≡ open_lock r.machine.stack.frames
  pub first : r.begun ≡ false → r.section ≡ None
  pub feeds : r.config.feeds ≡ feeds_of r.plan.now.elements r.machine.group.element
  pub table : r.table ≡ packages_of r.plan.now.elements

-- A thread that goes on: there is room for what is owed, for a section that is left and for the thread's end; it makes more
-- moves, or its end by a limit comes next. A section is entered where none is open.
pub record GoesOn (r : Runner) : Type 0 where
  pub room : 2 + owed_count r.owed + owed_count r.entering ≤ r.trace.room
  pub moves : r.last ≡ None → MovesOn r
  pub limit : IfSome r.last (λ end. IsLimit end × (r.section ≡ None))
  pub known : IfSome r.section (IsLock r.plan.now.elements)
  pub enters : IfSome r.entering (λ lock. (r.begun ≡ true) × (r.last ≡ None) × (r.section ≡ None) × (r.owed ≡ None) × IsLock r.plan.now.elements lock)

-- A thread that is at its moves: nothing is owed to the trace, the pause before the first variables was made, no end comes
-- next, and there is room for what a move shows.
pub record IsMoving (r : Runner) : Type 0 where
  pub owed : r.owed ≡ None
  pub entering : r.entering ≡ None
  pub last : r.last ≡ None
  pub pause : r.pause ≡ 0
  pub moves : MovesOn r
  pub known : IfSome r.section (IsLock r.plan.now.elements)
  pub room : 4 ≤ r.trace.room

-- A thread whose machine has come to a section that is to be entered, where none is open.
pub record IsEntering (r : Runner) (lock : ℕ) : Type 0 where
  pub owed : r.owed ≡ None
  pub entering : r.entering ≡ None
  pub last : r.last ≡ None
  pub pause : r.pause ≡ 0
  pub begun : r.begun ≡ true
  pub none_open : r.section ≡ None
  pub held : open_lock r.machine.stack.frames ≡ Some lock
  pub stands : StandsIn r.plan.now r.machine
  pub feeds : r.config.feeds ≡ feeds_of r.plan.now.elements r.machine.group.element
  pub table : r.table ≡ packages_of r.plan.now.elements
  pub room : 4 ≤ r.trace.room
  pub there : IsLock r.plan.now.elements lock

-- nothing is owed to the trace, and no section is open
pub record HasSettled (r : Runner) : Type 0 where
  pub owed : r.owed ≡ None
  pub entering : r.entering ≡ None
  pub section : r.section ≡ None

-- what holds of every worker
pub record IsSound (r : Runner) (ended : Bool) : Type 0 where
  pub going : ended ≡ false → GoesOn r
  pub settled : ended ≡ true → HasSettled r
  pub labels : All (IsLabelled (length (labels_of r.plan.now.elements))) r.trace.items
  pub owed_label : IsOwedLabelled (length (labels_of r.plan.now.elements)) r.owed
  pub sections : SectionsFrom None r.trace.items r.section
  pub no_end : ended ≡ false → All IsNoEnd r.trace.items
