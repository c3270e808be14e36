-- A reader or a writer with its count of faults, as contracts see a source or a sink over one.
use Rattle.std.specs.Prelude.{ℕ}

pub record Counting (Inner : Type 0) : Type 0 where
  pub inner : Inner
  pub faults : ℕ

-- one that has had no fault
abbrev pub counting : {Inner : Type 0} → Inner → Counting Inner
counting x = record { inner = x; faults = 0 }
