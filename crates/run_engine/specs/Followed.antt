-- That a trace follows what its thread's outside was told.
use Rattle.std.specs.Prelude.{◌≡◌, ℕ, ◌<◌, List, [], ◌∷◌, ◌++◌, length, slice_index_or, Contains, Option, Some}
use Rattle.jm_base.specs.declared.types.End.{End}
use Rattle.jm_base.specs.declared.types.End.TheVariants.{Stopped, NoMemory}
use Rattle.jm_base.specs.declared.types.Heard.{Heard}
use Rattle.element_tree.specs.Tree.{Tree}
use Rattle.jm_meaning.specs.Beginning.{Options}
use Rattle.thread_machine.specs.declared.trace.TraceItem.{TraceItem}
use Rattle.thread_machine.specs.declared.trace.TraceItem.TheVariants.{Ended as EndedItem}
use Rattle.thread_machine.specs.Follows.{IsEndedBy, FollowsWhole, FollowsStopped, FollowsCut}

-- the last item of a trace says how the thread ended
pub record EndsWith (trace : List TraceItem) (end : End) : Type 0 where
  pub before : List TraceItem
  pub last : trace ≡ before ++ EndedItem end ∷ []

-- how a trace with this end follows what was told
abbrev pub FollowsTo : Tree → ℕ → Options → List Heard → List TraceItem → End → Type 0
FollowsTo plan thread options told trace Stopped = FollowsStopped plan thread options told trace
FollowsTo plan thread options told trace NoMemory = FollowsCut plan thread options told trace
FollowsTo plan thread options told trace end = FollowsWhole plan thread options told trace

-- The trace is the plan's meaning over what the outside was told, up to the thread's end; of a thread that was stopped or cut, out
-- of memory, a prefix of it. Its last item is its only end.
pub record FollowsTold (plan : Tree) (thread : ℕ) (options : Options) (told : List Heard) (trace : List TraceItem) : Type 0 where
  pub end : End
  pub last : IsEndedBy trace end
  pub follows : FollowsTo plan thread options told trace end

-- the outside told, and the trace follows it
abbrev pub FollowsWhere : Tree → ℕ → Options → Option (List Heard) → List TraceItem → Type 0
FollowsWhere plan thread options told trace = (heard : List Heard) × (told ≡ Some heard) × FollowsTold plan thread options heard trace

-- each thread's trace follows what its outside was told
abbrev pub AllFollow : Tree → Options → (ℕ → Option (List Heard)) → List (List TraceItem) → Type 0
AllFollow plan options told traces = (i : ℕ) (d : List TraceItem) → i < length traces → FollowsWhere plan i options (told i) (slice_index_or traces i d)

-- each outside of these numbers was told what some trace of its thread follows
abbrev pub AreFollowed : Tree → Options → List ℕ → (ℕ → Option (List Heard)) → Type 0
AreFollowed plan options opened told = (i : ℕ) → Contains opened i → (trace : List TraceItem) × FollowsWhere plan i options (told i) trace
