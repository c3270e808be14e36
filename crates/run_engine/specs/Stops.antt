-- Why threads of a run were stopped.
use Rattle.std.specs.Prelude.{◌≡◌, ◌⊎◌, ℕ, true, List, [], ◌∷◌}
use Rattle.jm_base.specs.declared.types.End.{End}
use Rattle.jm_base.specs.declared.types.End.TheVariants.{StopTest, Stopped}
use Rattle.interval_tables.specs.declared.report.Report.{Report}
use Rattle.thread_machine.specs.declared.trace.TraceItem.{TraceItem}
use Rattle.reporter_loop.specs.Reported.{any_over}
use Rattle.run_engine.specs.Followed.{EndsWith}

-- some trace ends so
abbrev pub SomeEnds : End → List (List TraceItem) → Type 0
SomeEnds end [] = ⊥
SomeEnds end (trace ∷ traces) = EndsWith trace end ⊎ SomeEnds end traces

-- A thread was stopped only where some thread has ended the test, or one of these reports has more errors than the limit.
abbrev pub StopHasCause : ℕ → List (List TraceItem) → List Report → Type 0
StopHasCause limit traces reports = SomeEnds Stopped traces → SomeEnds StopTest traces ⊎ (any_over limit reports ≡ true)
