-- What the trace of a thread that has ended says.
use Rattle.std.specs.Prelude.{◌≡◌, ◌⊎◌, ℕ, List, [], ◌∷◌, ◌++◌, map, All, Some, None}
use Rattle.jm_base.specs.declared.types.End.{End}
use Rattle.jm_base.specs.declared.types.End.TheVariants.{Stopped, NoMemory}
use Rattle.jm_base.specs.declared.types.Heard.{Heard}
use Rattle.jm_base.specs.Run.{Run, Event, give, over_value}
use Rattle.jm_base.specs.Outside.{Account, Scripts, list_form, script_form, Path}
use Rattle.jm_meaning.specs.declared.item.Item.TheVariants.{Ended}
use Rattle.element_tree.specs.Tree.{Tree}
use Rattle.jm_meaning.specs.Beginning.{Options}
use Rattle.jm_meaning.specs.Meaning.{events}
use Rattle.jm_meaning.specs.TraceShown.{shown}
use Rattle.thread_machine.specs.declared.trace.TraceItem.{TraceItem}
use Rattle.thread_machine.specs.declared.trace.TraceItem.TheVariants.{Ended as EndedItem}
use Rattle.thread_machine.specs.Bare.{bare}
use Rattle.thread_machine.specs.SectionOrder.{open_from, left_items, IsNoEnd, IsBareNoEnd}

-- The bare trace is the events of the thread over what was told, and all of that is used.
pub record FollowsWhole (plan : Tree) (thread : ℕ) (options : Options) (told : List Heard) (trace : List TraceItem) : Type 0 where
  pub items : map shown (over_value list_form (events plan thread options) told).events ≡ bare trace
  pub used : (over_value list_form (events plan thread options) told).value ≡ []
  pub comes_to_its_end : (over_value list_form (events plan thread options) told).came_to ≡ Some tt

-- The bare trace is the events of the thread over the replies of a plan, and the run is over.
pub record IsScripted (plan : Tree) (thread : ℕ) (options : Options) (v : Scripts) (trace : List TraceItem) : Type 0 where
  pub items : map shown (over_value script_form (events plan thread options) v).events ≡ bare trace
  pub comes_to_its_end : (over_value script_form (events plan thread options) v).came_to ≡ Some tt

-- the last item of the trace is its only end, and it is this one
abbrev pub IsEndedBy : List TraceItem → End → Type 0
IsEndedBy trace end = (before : List TraceItem) × (trace ≡ before ++ EndedItem end ∷ []) × All IsNoEnd before

-- The trace follows what the outside was told since the thread began, and its replies, where it has them.
pub record Follows (start now : Account) (plan : Tree) (thread : ℕ) (options : Options) (trace : List TraceItem) (end : End) : Type 0 where
  pub last : IsEndedBy trace end
  pub told : start.told ≡ Some [] → (told : List Heard) × (now.told ≡ Some told) × FollowsWhole plan thread options told trace
  pub scripted : (v : Scripts) → start.value ≡ Some v → IsScripted plan thread options v trace

-- Hearing all of this list the run gives these events, and it hears nothing after the last of them.
abbrev pub UsesAll : Run (Unit {0}) → List Heard → List Event → Run (Unit {0}) → Type 0
UsesAll run told events left =
    ((told ≡ []) × (events ≡ []) × (left ≡ run))
    ⊎ ((earlier : List Event) × (last : Event) × (events ≡ earlier ++ last ∷ []) × Path run told earlier (give last left))

-- The thread came to this end before its run did. The bare trace is what these events show, of which none is an end, then that the
-- open section was left, then this end.
pub record EndsAfter (given : List Event) (trace : List TraceItem) (end : End) : Type 0 where
  pub no_end : All IsBareNoEnd (map shown given)
  pub items : bare trace ≡ map shown given ++ (left_items (open_from None (map shown given)) ++ Ended end ∷ [])
  pub last : IsEndedBy trace end

-- The thread was stopped. Its run has given a prefix of its events over what was told, and these used all of that.
pub record FollowsStopped (plan : Tree) (thread : ℕ) (options : Options) (told : List Heard) (trace : List TraceItem) : Type 0 where
  pub given : List Event
  pub more : List Event
  pub left : Run (Unit {0})
  pub prefix : (over_value list_form (events plan thread options) told).events ≡ given ++ more
  pub used : UsesAll (events plan thread options) told given left
  pub ends : EndsAfter given trace Stopped

-- The thread was cut, out of memory. Hearing exactly what was told its run has given a prefix of its events, and was then on its
-- way to the next one: what these events didn't use was used on this way.
pub record FollowsCut (plan : Tree) (thread : ℕ) (options : Options) (told : List Heard) (trace : List TraceItem) : Type 0 where
  pub given : List Event
  pub more : List Event
  pub left : Run (Unit {0})
  pub prefix : (over_value list_form (events plan thread options) told).events ≡ given ++ more
  pub used : Path (events plan thread options) told given left
  pub ends : EndsAfter given trace NoMemory

-- the trace of a thread that came to this end before its run did, over the replies of a plan, which give a prefix of its events
pub record IsScriptedTo (end : End) (plan : Tree) (thread : ℕ) (options : Options) (v : Scripts) (trace : List TraceItem) : Type 0 where
  pub given : List Event
  pub more : List Event
  pub prefix : (over_value script_form (events plan thread options) v).events ≡ given ++ more
  pub ends : EndsAfter given trace end

-- the trace of a stopped thread over the replies of a plan
abbrev pub IsScriptedStop : Tree → ℕ → Options → Scripts → List TraceItem → Type 0
IsScriptedStop plan thread options v trace = IsScriptedTo Stopped plan thread options v trace

-- The trace of a stopped thread follows what its outside was told since the thread began, and its replies, where it has them.
pub record WasStopped (start now : Account) (plan : Tree) (thread : ℕ) (options : Options) (trace : List TraceItem) : Type 0 where
  pub last : IsEndedBy trace Stopped
  pub told : start.told ≡ Some [] → (told : List Heard) × (now.told ≡ Some told) × FollowsStopped plan thread options told trace
  pub scripted : (v : Scripts) → start.value ≡ Some v → IsScriptedStop plan thread options v trace

-- So does the trace of a thread that was cut, out of memory.
pub record WasCut (start now : Account) (plan : Tree) (thread : ℕ) (options : Options) (trace : List TraceItem) : Type 0 where
  pub last : IsEndedBy trace NoMemory
  pub told : start.told ≡ Some [] → (told : List Heard) × (now.told ≡ Some told) × FollowsCut plan thread options told trace
  pub scripted : (v : Scripts) → start.value ≡ Some v → IsScriptedTo NoMemory plan thread options v trace

-- how the trace of a thread with this end stands, of one that wasn't stopped
abbrev pub HasRun : Account → Account → Tree → ℕ → Options → List TraceItem → End → Type 0
HasRun start now plan thread options trace Stopped = ⊥
HasRun start now plan thread options trace NoMemory = WasCut start now plan thread options trace
HasRun start now plan thread options trace end = Follows start now plan thread options trace end
