use Rattle.phaser_core.proofs.Makes.{table_next}
use Rattle.phaser_core.proofs.layout.push_table.Goals as goal

pub loop-row-preserved : goal.loop-row-preserved
loop-row-preserved c = table_next c.loop-row.words.items c.args.words.now.items c.extend_from_slice.new.self.items c.loop-row._row c.loop-row.invariant c.in_ok-extend_from_slice.ensures.items
