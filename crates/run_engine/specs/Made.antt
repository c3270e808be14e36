-- Seats and workers before the first starts.
use Rattle.std.specs.Prelude.{◌≡◌, ℕ, ◌<◌, List, [], length, slice_index_or, Contains, Option, Some, Bool, false, zero, suc}
use Rattle.jm_base.specs.declared.types.Heard.{Heard}
use Rattle.jm_base.specs.Outside.{Account}
use Rattle.element_tree.specs.Tree.{Tree}
use Rattle.jm_meaning.specs.Beginning.{Options}
use Rattle.outside_world.specs.Scripted.{told_when}
use Rattle.thread_machine.specs.Standing.{Stands}
use Rattle.recorder_core.specs.declared.places.Recorder.{Recorder}
use Rattle.recorder_core.specs.declared.places.WriterSeat.{WriterSeat}
use Rattle.recorder_core.specs.RecorderSeats.{writes, IsWriter}
use Rattle.run_engine.specs.declared.job.Job.{Job}
use Rattle.run_engine.specs.JobsRan.{CanRun}

-- how many writers were made, as the one of this number knows it
abbrev pub made_at : ℕ → ℕ → ℕ
made_at count zero = count
made_at count (suc i) = 0

-- a writer that has recorded nothing
pub record IsNew (r : Recorder) (count number : ℕ) (s : WriterSeat) : Type 0 where
  pub seat : IsWriter r s
  pub number_is : (writes s).number ≡ number
  pub none : (writes s).list ≡ []
  pub made : (writes s).made ≡ made_at count number
  pub raised : (writes s).raised ≡ false
  pub saw : (writes s).saw ≡ false

-- how an outside stands that a world has just opened
pub record IsOpened (identity : ℕ) (tells : Bool) (number : ℕ) (a : Account) : Type 0 where
  pub origin : a.origin ≡ Some (identity, number)
  pub told : a.told ≡ told_when tells []

-- a worker before its first step, with an outside of the world, and a writer that has recorded nothing
pub record IsFresh {O : Type 0} (account : O → Account) (r : Recorder) (plan : Tree) (options : Options) (identity : ℕ) (tells : Bool) (count number : ℕ) (j : Job O) : Type 0 where
  pub can_run : CanRun r j
  pub new : IsNew r count number j.seat
  pub number_is : j.number ≡ number
  pub plan_is : j.worker.plan ≡ plan
  pub opened : IsOpened identity tells number (account j.out)
  pub stands : (start : Account) → Stands start start options j.worker

-- all of them, in their order
abbrev pub AllFresh : {O : Type 0} → (O → Account) → Recorder → Tree → Options → ℕ → Bool → ℕ → List (Job O) → Type 0
AllFresh account r plan options identity tells count jobs =
    (i : ℕ) (d : Job _) → i < length jobs → IsFresh account r plan options identity tells count i (slice_index_or jobs i d)

-- the outsides of workers are those that a world opened, in the order of their numbers
abbrev pub AllOpened : {O : Type 0} → (O → Account) → ℕ → List (Job O) → Type 0
AllOpened account identity jobs =
    (i : ℕ) (d : Job _) → i < length jobs → ((slice_index_or jobs i d).number ≡ i) × ((account (slice_index_or jobs i d).out).origin ≡ Some (identity, i))

-- each outside of these numbers was told nothing, where it tells
abbrev pub AreUntold : Bool → List ℕ → (ℕ → Option (List Heard)) → Type 0
AreUntold tells opened told = (i : ℕ) → Contains opened i → told i ≡ told_when tells []
