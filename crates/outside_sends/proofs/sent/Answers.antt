use denote.Param.Send.{sendable}
use Rattle.outside_sends.proofs.Crossing.{script}
use Rattle.outside_sends.proofs.sent.Goals as goal

pub sendable-requires-send-T : goal.sendable-requires-send-T
sendable-requires-send-T c κs = search (script, sendable) depth 60
