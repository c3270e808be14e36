-- What the reporter takes in when workers are joined.
use Rattle.std.specs.Prelude.{◌≡◌, ℕ, ◌<◌, Bool, true, List, Some, length, map, slice_index_or, All}
use Rattle.jm_base.specs.Outside.{Account}
use Rattle.element_tree.specs.Tree.{Tree}
use Rattle.jm_meaning.specs.Beginning.{Options}
use Rattle.thread_machine.specs.declared.trace.TraceItem.{TraceItem}
use Rattle.thread_machine.specs.Bare.{IsLabelled}
use Rattle.thread_machine.specs.Follows.{IsEndedBy}
use Rattle.phaser_core.specs.declared.view.Joined.{Joined}
use Rattle.phaser_core.specs.declared.view.ReporterView.{ReporterView}
use Rattle.phaser_core.specs.Views.{Pair, left_of}
use Rattle.recorder_core.specs.declared.places.Recorder.{Recorder}
use Rattle.recorder_core.specs.RecorderSeats.{writes, numbers_of, IsWriter}
use Rattle.run_engine.specs.declared.job.Job.{Job}
use Rattle.run_engine.specs.Made.{made_at}
use Rattle.phaser_core.specs.Keeps.{KeepsTo}
use Rattle.run_engine.specs.Marks.{IsMarked}
use Rattle.run_engine.specs.SectionsRun.{Rises}
use Rattle.run_engine.specs.Followed.{FollowsWhere}
use Rattle.jm_base.specs.declared.types.End.{End}

abbrev pub joined_of : {O : Type 0} → Job O → Joined
joined_of j = left_of (writes j.seat)

-- the numbers of joined writers, in their order
abbrev pub numbers_in : List Joined → List ℕ
numbers_in joined = map (λ (j : Joined). j.number) joined

abbrev pub trace_of : {O : Type 0} → Job O → List TraceItem
trace_of j = j.worker.trace

abbrev pub number_of : {O : Type 0} → Job O → ℕ
number_of j = j.number

-- the reporter is as before but for the joined writers
pub record OnlyJoined (r s : ReporterView) : Type 0 where
  pub interval : s.interval ≡ r.interval
  pub closed : s.closed ≡ r.closed
  pub raised : s.raised ≡ r.raised
  pub ready : s.ready ≡ r.ready
  pub labels : s.labels ≡ r.labels

-- a trace with its end, whose samples keep to the recorder's numbers
pub record IsWholeTrace (labels budget : ℕ) (trace : List TraceItem) (list : List Pair) : Type 0 where
  pub end : End
  pub ends : IsEndedBy trace end
  pub keeps : KeepsTo labels budget list

-- a worker of this thread that has run and can be taken in
pub record IsDone {O : Type 0} (account : O → Account) (r : Recorder) (plan : Tree) (options : Options) (identity : ℕ) (tells : Bool) (count i : ℕ) (j : Job O) : Type 0 where
  pub seat : IsWriter r j.seat
  pub number_is : j.number ≡ i
  pub plan_is : j.worker.plan ≡ plan
  pub origin : (account j.out).origin ≡ Some (identity, i)
  pub made : (writes j.seat).made ≡ made_at count i
  pub over : j.worker.ended ≡ true
  pub rises : Rises j.worker.trace
  pub marked : IsMarked (writes j.seat).raised (writes j.seat).saw j.worker.trace
  pub whole : IsWholeTrace (numbers_of r).labels (numbers_of r).budget j.worker.trace (writes j.seat).list
  pub follows : tells ≡ true → FollowsWhere plan i options (account j.out).told j.worker.trace

abbrev pub AllDone : {O : Type 0} → (O → Account) → Recorder → Tree → Options → ℕ → Bool → ℕ → List (Job O) → Type 0
AllDone account r plan options identity tells count jobs =
    (i : ℕ) (d : Job _) → i < length jobs → IsDone account r plan options identity tells count i (slice_index_or jobs i d)

-- the labels of each trace's samples are among this many
abbrev pub AllLabelled : ℕ → List (List TraceItem) → Type 0
AllLabelled labels traces = (i : ℕ) (d : List TraceItem) → i < length traces → All (IsLabelled labels) (slice_index_or traces i d)

-- each trace has its end, which is its last item and no other
abbrev pub AllEnd : List (List TraceItem) → Type 0
AllEnd traces = (i : ℕ) (d : List TraceItem) → i < length traces → (end : End) × IsEndedBy (slice_index_or traces i d) end
