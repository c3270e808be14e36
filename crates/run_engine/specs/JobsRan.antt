-- A worker before its run, and after.
use Rattle.std.specs.Prelude.{◌≡◌, ℕ, ◌+◌, ◌≤◌, ◌<◌, false, true, List, [], Some, None, length, slice_index_or}
use Rattle.jm_base.specs.declared.types.End.{End}
use Rattle.jm_base.specs.declared.types.End.TheVariants.{Stopped}
use Rattle.jm_base.specs.declared.types.Heard.{Heard}
use Rattle.jm_base.specs.Outside.{Account}
use Rattle.element_tree.specs.Tree.{Tree}
use Rattle.element_tree.specs.Names.{labels_of}
use Rattle.jm_meaning.specs.Beginning.{Options}
use Rattle.thread_machine.specs.declared.trace.TraceItem.{TraceItem}
use Rattle.thread_machine.specs.Standing.{Stands}
use Rattle.thread_machine.specs.Follows.{HasRun, WasStopped}
use Rattle.recorder_core.specs.declared.places.Recorder.{Recorder}
use Rattle.recorder_core.specs.RecorderSeats.{writes, numbers_of, IsWriter}
use Rattle.critical_section.specs.declared.places.Sections.{Sections}
use Rattle.run_engine.specs.declared.job.Job.{Job}
use Rattle.run_engine.specs.Marks.{IsMarked}
use Rattle.phaser_core.specs.Keeps.{KeepsTo}
use Rattle.run_engine.specs.SectionsRun.{entered_in, Rises}

-- what two moments of an outside have in common: who opened it, and whether it tells
pub record SameOutside (before after : Account) : Type 0 where
  pub origin : after.origin ≡ before.origin
  pub tells : (heard : List Heard) → before.told ≡ Some heard → (more : List Heard) × (after.told ≡ Some more)

-- the thread has run to this end, or was stopped
abbrev pub HasEnded : Account → Account → Tree → ℕ → Options → List TraceItem → End → Type 0
HasEnded start now plan thread options trace Stopped = WasStopped start now plan thread options trace
HasEnded start now plan thread options trace end = HasRun start now plan thread options trace end

-- the thread has come to some end
abbrev pub RunsToEnd : Account → Account → Tree → ℕ → Options → List TraceItem → Type 0
RunsToEnd start now plan thread options trace = (end : End) × HasEnded start now plan thread options trace end

-- it has done nothing, and its plan and its budget fit the recorder
pub record CanRun {O : Type 0} (r : Recorder) (j : Job O) : Type 0 where
  pub seat : IsWriter r j.seat
  pub owes_nothing : j.worker.owed ≡ None
  pub enters_none : j.worker.entering ≡ None
  pub none_open : j.worker.section ≡ None
  pub rises : Rises j.worker.trace
  pub few : length (entered_in j.worker.trace) + j.worker.units ≤ 4194304
  pub goes_on : j.worker.ended ≡ false
  pub none : (writes j.seat).list ≡ []
  pub unraised : (writes j.seat).raised ≡ false
  pub unseen : (writes j.seat).saw ≡ false
  pub labels : length (labels_of j.worker.plan.elements) ≤ (numbers_of r).labels
  pub budget : j.worker.units ≤ (numbers_of r).budget

-- it has run to its end; the seat, the outside and the plan are those of the start
pub record JobRan {O : Type 0} (account : O → Account) (r : Recorder) (before after : Job O) : Type 0 where
  pub number : after.number ≡ before.number
  pub over : after.worker.ended ≡ true
  pub rises : Rises after.worker.trace
  pub same_sections : after.sections.now ≡ before.sections.now
  pub seat : IsWriter r after.seat
  pub made : (writes after.seat).made ≡ (writes before.seat).made
  pub marked : IsMarked (writes after.seat).raised (writes after.seat).saw after.worker.trace
  pub plan : after.worker.plan ≡ before.worker.plan
  pub outside : SameOutside (account before.out) (account after.out)
  pub keeps : KeepsTo (numbers_of r).labels (numbers_of r).budget (writes after.seat).list
  pub runs : (options : Options) → Stands (account before.out) (account before.out) options before.worker
      → RunsToEnd (account before.out) (account after.out) before.worker.plan before.worker.thread options after.worker.trace

-- all have run, in their order
pub record AllRan {O : Type 0} (account : O → Account) (r : Recorder) (before after : List (Job O)) : Type 0 where
  pub len : length after ≡ length before
  pub each : (i : ℕ) (d : Job O) → i < length before → JobRan account r (slice_index_or before i d) (slice_index_or after i d)

-- the locks of each are these
abbrev pub AllAmong : {O : Type 0} → Sections → List (Job O) → Type 0
AllAmong s jobs = (i : ℕ) (d : Job _) → i < length jobs → (slice_index_or jobs i d).sections.now ≡ s
