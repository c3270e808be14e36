-- What printing a text comes to.
use Rattle.std.specs.Prelude.{◌≡◌, ℕ, ◌++◌, List, Option, Result, Ok, Err}
use Rattle.std.specs.Io.KnownBytes.{Appends}
use Rattle.jm_base.specs.FaultCounts.{Rose}
use Rattle.edge_io.specs.Edges.{AppendsProperPrefix}
use Rattle.line_output.specs.OutputPieces.{Moves, MovesPart, AppendsPart}
use Rattle.trace_output.specs.declared.error.PrintError.{PrintError}
use Rattle.trace_output.specs.declared.error.PrintError.TheVariants.{WriteFault, NoMemory}

-- what a sink holds, where it is told, its count of faults, and what is held back from it
pub record Way : Type 0 where
  pub written : Option (List ℕ)
  pub faults : ℕ
  pub held : List ℕ

abbrev pub way : Option (List ℕ) → ℕ → List ℕ → Way
way written faults held = record { written = written; faults = faults; held = held }

-- ---- a text is put: it goes out after what was held back, or is held back itself

pub record IsPut (text : List ℕ) (old new : Way) : Type 0 where
  pub moved : Moves old.written new.written old.held new.held text
  pub calm : new.faults ≡ old.faults

-- the sink has failed, and a prefix of what was held back and of the text is out
pub record IsFailed (text : List ℕ) (old new : Way) : Type 0 where
  pub prefix : AppendsProperPrefix old.written new.written (old.held ++ text)
  pub rose : Rose old.faults new.faults

-- a prefix of the text was put
pub record IsCut (text : List ℕ) (old new : Way) : Type 0 where
  pub part : MovesPart old.written new.written old.held new.held text
  pub calm : new.faults ≡ old.faults

-- what became of a text that was to be put, by the answer
abbrev pub HasPut : List ℕ → Way → Way → Result (Unit {0}) PrintError → Type 0
HasPut text old new (Ok u) = IsPut text old new
HasPut text old new (Err WriteFault) = IsFailed text old new
HasPut text old new (Err NoMemory) = IsCut text old new

-- ---- a text is printed: it is out, or a prefix of it

pub record TextOut (text : List ℕ) (old new : Option (List ℕ)) (faults now : ℕ) : Type 0 where
  pub out : Appends old new text
  pub calm : now ≡ faults

-- the sink has failed, and a prefix of the text is out
pub record TextFailed (text : List ℕ) (old new : Option (List ℕ)) (faults now : ℕ) : Type 0 where
  pub prefix : AppendsProperPrefix old new text
  pub rose : Rose faults now

-- a prefix of the text is out, and the sink has not failed
pub record TextCut (text : List ℕ) (old new : Option (List ℕ)) (faults now : ℕ) : Type 0 where
  pub part : AppendsPart old new text
  pub calm : now ≡ faults

-- what became of a text that was to be printed, by the answer
abbrev pub HasPrinted : List ℕ → Option (List ℕ) → Option (List ℕ) → ℕ → ℕ → Result (Unit {0}) PrintError → Type 0
HasPrinted text old new faults now (Ok u) = TextOut text old new faults now
HasPrinted text old new faults now (Err WriteFault) = TextFailed text old new faults now
HasPrinted text old new faults now (Err NoMemory) = TextCut text old new faults now
