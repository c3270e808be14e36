use denote.Ref.{NamedLft}
use denote.Param.Send.{IsSend, IsSync, sendable}
use Rattle.std.proofs.Crossing.{crosses}
use Rattle.outside_sends.proofs.Crossing.{script}
use Rattle.engine_tests.specs.contracts.fakes.Tally as Tally
use Rattle.engine_tests.specs.contracts.slow.SlowOutside as SlowOutside
use Rattle.engine_tests.proofs.stopping.run_slow.Goals as goal

-- an outside that is slow to reply may go to another thread
tally : IsSync Tally.the_row
tally = search (crosses, sendable) depth 60

slow : (a : NamedLft) → IsSend (SlowOutside.the_row a)
slow a = search (script, tally, crosses, sendable) depth 60

pub run_threads-requires-send-W-Out : goal.run_threads-requires-send-W-Out
run_threads-requires-send-W-Out g c κs within = search (slow, sendable) depth 60
