-- The pause of a thread before its first round: the threads of a group start one after another over its ramp-up time.
use Rattle.std.specs.Prelude.{ℕ, ◌-◌, ◌*◌, ◌/◌, List, slice_get, unwrap_or}
use Rattle.std.specs.Option.{option_map}
use Rattle.element_tree.specs.declared.kinds.Element.{Element}
use Rattle.element_tree.specs.declared.kinds.Kind.{Kind}
use Rattle.element_tree.specs.declared.kinds.Kind.TheVariants.{ThreadGroup}
use Rattle.element_tree.specs.declared.threads.Thread.{Thread}
use Rattle.element_tree.specs.Tree.{Tree, threads_of}

-- the pause of the i-th thread, from 0, of n threads that start over r milliseconds
abbrev pub ramp_up : ℕ → ℕ → ℕ → ℕ
ramp_up i n r = i * r / n

-- the pause of the thread of this number, from 1, in a group of this kind
abbrev pub pause_in : Kind → ℕ → ℕ
pause_in (ThreadGroup loops on_error ramp_ms threads) number = ramp_up (number - 1) threads ramp_ms
pause_in kind number = 0

abbrev pub pause_of_thread : List Element → Thread → ℕ
pause_of_thread elements t = unwrap_or (option_map (λ e. pause_in e.kind t.number) (slice_get elements t.element)) 0

-- the pause of a thread by its number over all groups, in milliseconds
unfoldable pub pause_of : Tree → ℕ → ℕ
pause_of plan thread = unwrap_or (option_map (pause_of_thread plan.elements) (slice_get (threads_of plan) thread)) 0
