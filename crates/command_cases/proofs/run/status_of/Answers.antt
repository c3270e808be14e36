use denote.Param.Send.{sendable}
use Rattle.outside_sends.proofs.Crossing.{script}
use Rattle.command_cases.proofs.run.status_of.Goals as goal

pub start-requires-send-W-Out : goal.start-requires-send-W-Out
start-requires-send-W-Out g c κs within = search (script, sendable) depth 60
