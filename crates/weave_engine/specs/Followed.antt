-- What each trace of a woven run shows of its thread.
use Rattle.std.specs.Prelude.{◌≡◌, ◌⊎◌, ℕ, List, slice_get, Some}
use Rattle.element_tree.specs.Tree.{Tree}
use Rattle.jm_meaning.specs.Beginning.{Options}
use Rattle.outside_world.specs.Scripted.{scripts_of}
use Rattle.thread_machine.specs.declared.trace.TraceItem.{TraceItem}
use Rattle.thread_machine.specs.Follows.{IsScripted, IsScriptedStop}

-- the trace shows all events of its thread over the plan's replies, or a prefix of them and the stop
abbrev pub Followed : Tree → Options → ℕ → List TraceItem → Type 0
Followed plan options thread trace = IsScripted plan thread options (scripts_of plan) trace ⊎ IsScriptedStop plan thread options (scripts_of plan) trace

abbrev pub AllFollow : Tree → Options → List (List TraceItem) → Type 0
AllFollow plan options traces = (d : ℕ) (trace : List TraceItem) → slice_get traces d ≡ Some trace → Followed plan options d trace
