-- Why a run fails.
use Rattle.std.specs.Prelude.{◌≡◌, ℕ}
use Rattle.jm_base.specs.FaultCounts.{Rose}
use Rattle.reporter_loop.specs.declared.error.RunError.{RunError}
use Rattle.reporter_loop.specs.declared.error.RunError.TheVariants.{WriteFault, NoMemory}

-- a write failed only where the sink's count of faults rose; out of memory, the count is as before
abbrev pub IsCause : ℕ → ℕ → RunError → Type 0
IsCause before after WriteFault = Rose before after
IsCause before after NoMemory = after ≡ before
