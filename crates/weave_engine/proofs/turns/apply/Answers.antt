use Rattle.weave_engine.proofs.CoreLaws.{applied_ok}
use Rattle.weave_engine.proofs.turns.apply.Goals as goal

pub returns : goal.returns
returns c = applied_ok c.apply.result c.args.core.now c.apply.new.self c.args.event c.requires c.apply.ensures.step c.apply.ensures.keeps
