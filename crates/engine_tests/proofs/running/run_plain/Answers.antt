use denote.Param.Send.{sendable}
use Rattle.outside_sends.proofs.Crossing.{script}
use Rattle.engine_tests.proofs.running.run_plain.Goals as goal

pub run_threads-requires-send-W-Out : goal.run_threads-requires-send-W-Out
run_threads-requires-send-W-Out g c κs within = search (script, sendable) depth 60
