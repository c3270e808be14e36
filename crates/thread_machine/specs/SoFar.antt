-- How a thread's trace stands after a step.
use Rattle.std.specs.Prelude.{◌≡◌, List, [], ◌++◌, map, Some}
use Rattle.jm_base.specs.declared.types.Heard.{Heard}
use Rattle.jm_base.specs.Run.{over_value}
use Rattle.jm_base.specs.Outside.{Account, list_form}
use Rattle.jm_meaning.specs.declared.item.Item.{Item}
use Rattle.jm_meaning.specs.Beginning.{Options}
use Rattle.jm_meaning.specs.Meaning.{events}
use Rattle.jm_meaning.specs.TraceShown.{shown}
use Rattle.thread_machine.specs.declared.step.Step.{Step}
use Rattle.thread_machine.specs.declared.step.Step.TheVariants.{Sampled, Null, Enter, Leave, Ended}
use Rattle.thread_machine.specs.Bare.{bare}
use Rattle.thread_machine.specs.Standing.{Standing, owed_to, Stands}
use Rattle.thread_machine.specs.Follows.{HasRun}

-- until the thread has ended it stands as before; then its trace is that of a thread that has run
abbrev pub StandsAfter : Account → Account → Options → Standing → Standing → Step → Type 0
StandsAfter start now options old new (Sampled entry) = Stands start now options new
StandsAfter start now options old new Null = Stands start now options new
StandsAfter start now options old new (Enter lock) = Stands start now options new
StandsAfter start now options old new (Leave lock) = Stands start now options new
StandsAfter start now options old new (Ended end) = HasRun start now old.plan old.thread options new.trace end

-- Over what the outside was told since the thread began, the events begin with the bare trace and what is owed to it.
pub record IsPrefix (told : List Heard) (options : Options) (w : Standing) : Type 0 where
  pub more : List Item
  pub items : map shown (over_value list_form (events w.plan w.thread options) told).events ≡ (bare w.trace ++ owed_to w) ++ more

-- A thread that stands shows a prefix of its events over what was told.
abbrev pub ShowsAPrefix : Type 0
ShowsAPrefix = (start now : Account) (options : Options) (w : Standing) → Stands start now options w → start.told ≡ Some []
    → (told : List Heard) × (now.told ≡ Some told) × IsPrefix told options w
