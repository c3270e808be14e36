use denote.Exit.{no}
use denote.Param.Send.{param_send, arg_send}
use Rattle.outside_sends.proofs.SocketCrossing.{over_sockets}
use Rattle.outside_sends.proofs.sent_over_sockets.Goals as goal

pub sendable-requires-send-T : goal.sendable-requires-send-T
sendable-requires-send-T g c κs within = param_send _ _ (arg_send _ no _ (over_sockets _ c.type_bounds.send-R))
