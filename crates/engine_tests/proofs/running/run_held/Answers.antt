use denote.Ref.{NamedLft}
use denote.Param.Send.{IsSend, IsSync, sendable}
use Rattle.std.proofs.Crossing.{crosses}
use Rattle.outside_sends.proofs.Crossing.{script}
use Rattle.engine_tests.specs.contracts.fakes.Tally as Tally
use Rattle.engine_tests.specs.contracts.fakes.HeldOutside as HeldOutside
use Rattle.engine_tests.proofs.running.run_held.Goals as goal

-- an outside that holds replies may go to another thread
tally : IsSync Tally.the_row
tally = search (crosses, sendable) depth 60

held : (a : NamedLft) → IsSend (HeldOutside.the_row a)
held a = search (script, tally, crosses, sendable) depth 60

pub run_threads-requires-send-W-Out : goal.run_threads-requires-send-W-Out
run_threads-requires-send-W-Out g c κs within = search (held, sendable) depth 60
