-- Sources and sinks in memory, as contracts see them.
use Rattle.std.specs.Prelude.{◌≡◌, ℕ, ◌+◌, ◌-◌, ◌^◌, ◌<◌, List, [], ◌++◌, length, drop, min, Contains, ◌⊎◌}

-- a count of 64 bits, one higher: at the end of 64 bits it stands still
abbrev pub one_more : ℕ → ℕ
one_more count = min (count + 1) (2 ^ 64 - 1)

-- the bytes that are left, the numbers of the calls that fail, and how many calls were made and have failed
pub record SourceState : Type 0 where
  pub left : List ℕ
  pub failing : List ℕ
  pub calls : ℕ
  pub faults : ℕ

abbrev pub new_source : List ℕ → List ℕ → SourceState
new_source bytes failing = record { left = bytes; failing = failing; calls = 0; faults = 0 }

-- the next call fails
abbrev pub FailsNext : SourceState → Type 0
FailsNext source = Contains source.failing source.calls

-- how many bytes the next call gives into a buffer with so much room, where it does not fail
abbrev pub given_count : SourceState → ℕ → ℕ
given_count source room = min (min 64 room) (length source.left)

abbrev pub after_read : SourceState → ℕ → SourceState
after_read source n = record source { left = drop n source.left; calls = one_more source.calls }

abbrev pub after_failed_read : SourceState → SourceState
after_failed_read source = record source { calls = one_more source.calls; faults = one_more source.faults }

-- the bytes that were written, how many there is room for in all, the numbers of the calls that fail, and how many
-- calls were made and have failed
pub record SinkState : Type 0 where
  pub written : List ℕ
  pub room : ℕ
  pub failing : List ℕ
  pub calls : ℕ
  pub faults : ℕ

abbrev pub new_sink : ℕ → List ℕ → SinkState
new_sink room failing = record { written = []; room = room; failing = failing; calls = 0; faults = 0 }

-- a write of this piece fails: by its number, or since no room is left
abbrev pub RefusesPiece : SinkState → List ℕ → Type 0
RefusesPiece sink piece = Contains sink.failing sink.calls ⊎ ((length sink.written ≡ sink.room) × (0 < length piece))

-- how many bytes of a piece of this length the next call takes, where it does not fail
abbrev pub taken_count : SinkState → ℕ → ℕ
taken_count sink offered = min (min 64 offered) (sink.room - length sink.written)

abbrev pub after_write : SinkState → List ℕ → SinkState
after_write sink prefix = record sink { written = sink.written ++ prefix; calls = one_more sink.calls }

abbrev pub after_failed_write : SinkState → SinkState
after_failed_write sink = record sink { calls = one_more sink.calls; faults = one_more sink.faults }
