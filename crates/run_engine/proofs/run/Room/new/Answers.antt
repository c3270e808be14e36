use Rattle.std.proofs.Common.{[], length, ap, ◌∙◌}
use Rattle.interval_tables.proofs.Sums.{length-sum_of}
use Rattle.run_engine.proofs.run.Room.new.Goals as goal

pub returns-clause-last : goal.returns-clause-last
returns-clause-last c = ap length c.in_ok-last.ensures.rows ∙ length-sum_of c.args.labels []
