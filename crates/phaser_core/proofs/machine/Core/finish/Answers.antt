use Rattle.phaser_core.proofs.Makes.{finish_partition}
use Rattle.phaser_core.proofs.machine.Core.finish.Goals as goal

pub returns-clause-partition : goal.returns-clause-partition
returns-clause-partition c = finish_partition c.args.self c.self.inside.numbers c.self.inside.words.items c.as_slice.result.now c.self.inside.writers.items c.self.inside.reporter c.in_ok-reports.reports.items c.self.view_is c.as_slice.ensures.value c.in_ok-reports.ensures c.requires.0 c.requires.1
