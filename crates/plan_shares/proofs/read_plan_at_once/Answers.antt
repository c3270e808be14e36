use denote.Param.Send.{sendable}
use Rattle.plan_shares.proofs.PlanShares.{plan}
use Rattle.plan_shares.proofs.read_plan_at_once.Goals as goal

pub join-requires-send-F : goal.join-requires-send-F
join-requires-send-F g c κs within = search (plan, sendable) depth 60
