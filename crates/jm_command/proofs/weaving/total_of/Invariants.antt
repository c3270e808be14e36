use Rattle.std.proofs.Common.{◌≡◌, length, take}
use Rattle.element_tree.specs.Names.{labels_of}
use Rattle.phaser_core.specs.Shares.{rows_of_all}
use Rattle.jm_command.proofs.weaving.total_of.Given as goal

abbrev pub invariant-reports : goal.invariant-reports
invariant-reports l = l.total.rows ≡ rows_of_all (length (labels_of l.plan.elements)) (take l.report-index l.reports)
