-- How many samples a trace has, and how many units it shows.
use Rattle.std.specs.Prelude.{ℕ, ◌+◌, List}
use Rattle.std.specs.List.{sum_by}
use Rattle.thread_machine.specs.SectionOrder.{sections_in}
use Rattle.thread_machine.specs.Inside.{owed_count}
use Rattle.thread_machine.specs.Standing.{Standing}
use Rattle.thread_machine.specs.declared.trace.TraceItem.{TraceItem}
use Rattle.thread_machine.specs.declared.trace.TraceItem.TheVariants.{Sampled}

-- 1 for a sample, and 0 for any other item
abbrev pub one_if_sample : TraceItem → ℕ
one_if_sample (Sampled sample interval) = 1
one_if_sample item = 0

-- how many samples a trace has
abbrev pub samples_in : List TraceItem → ℕ
samples_in trace = sum_by one_if_sample trace

-- how many samples and sections a thread's trace has, with what is owed to it
abbrev pub uses_in : Standing → ℕ
uses_in w = samples_in w.trace + sections_in w.trace + owed_count w.owed + owed_count w.entering
