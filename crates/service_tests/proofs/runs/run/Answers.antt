use denote.Param.Send.{sendable}
use Rattle.outside_sends.proofs.SocketCrossing.{over_sockets}
use Rattle.service_tests.proofs.runs.run.Goals as goal

pub start-status-requires-send-W-Out : goal.start-status-requires-send-W-Out
start-status-requires-send-W-Out g c κs = search (over_sockets, sendable) depth 60
