use denote.Param.Send.{sendable}
use Rattle.outside_sends.proofs.SocketCrossing.{over_sockets}
use Rattle.jm_program.proofs.main.Goals as goal

pub start-requires-send-W-Out : goal.start-requires-send-W-Out
start-requires-send-W-Out c κs = search (over_sockets, sendable) depth 60
