use Rattle.std.proofs.Common.{◌≡◌, length, take}
use Rattle.element_tree.specs.Names.{labels_of}
use Rattle.jm_command.proofs.CountLaws.{traced, IsSum}
use Rattle.jm_command.proofs.report.counted.Given as goal

abbrev pub invariant-items : goal.invariant-items
invariant-items l = record {
  interval : l.total.interval ≡ 0;
  sum : IsSum (length (labels_of l.plan.elements)) l.total.rows (traced (take l.item-index l.trace));
}
