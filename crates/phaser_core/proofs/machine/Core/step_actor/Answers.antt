use Rattle.phaser_core.proofs.Applying.{writer_applied, reporter_applies, look_applies, take_applies, split_applies, join_applies, ok_applies}
use Rattle.phaser_core.proofs.machine.Core.step_actor.Goals as goal

pub returns-in-Enter-clause-step : goal.returns-in-Enter-clause-step
returns-in-Enter-clause-step c = writer_applied c.args.self.now c.args.event c.in-Enter.event c.in-Enter.writer c.in-Enter.event-is c.in-Enter.is c.step_writer.result c.step_writer.new.self c.step_writer.ensures.answer c.step_writer.ensures.after

pub returns-in-SwapActive-clause-step : goal.returns-in-SwapActive-clause-step
returns-in-SwapActive-clause-step c = reporter_applies c.args.self.now c.args.event c.in-SwapActive.is c.step_reporter.result c.step_reporter.new.self c.step_reporter.ensures.answer c.step_reporter.ensures.after

pub returns-in-Join-clause-step : goal.returns-in-Join-clause-step
returns-in-Join-clause-step c = join_applies c.args.self.now c.args.event c.in-Join.writer c.in-Join.is c.join.result c.join.new.self c.join.ensures.answer c.join.ensures.after

pub returns-in-Look-clause-step : goal.returns-in-Look-clause-step
returns-in-Look-clause-step c = ok_applies c.look.result c.args.self.now c.args.event c.look.new.self _ _ (look_applies c.args.self.now c.args.event c.in-Look.is) c.look.ensures.ok c.look.ensures.after

pub returns-in-Take-clause-step : goal.returns-in-Take-clause-step
returns-in-Take-clause-step c = ok_applies c.take.result c.args.self.now c.args.event c.take.new.self _ _ (take_applies c.args.self.now c.args.event c.in-Take.is) c.take.ensures.ok c.take.ensures.after

pub returns-in-Split-clause-step : goal.returns-in-Split-clause-step
returns-in-Split-clause-step c = ok_applies c.split.result c.args.self.now c.args.event c.split.new.self _ _ (split_applies c.args.self.now c.args.event c.in-Split.is) c.split.ensures.ok c.split.ensures.after
