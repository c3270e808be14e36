use denote.Param.Send.{sendable}
use Rattle.plan_shares.proofs.PlanShares.{kind}
use Rattle.plan_shares.proofs.read_kind_at_once.Goals as goal

pub join-requires-send-F : goal.join-requires-send-F
join-requires-send-F g c κs within = search (kind, sendable) depth 60
