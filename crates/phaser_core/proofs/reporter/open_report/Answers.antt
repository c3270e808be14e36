use Rattle.std.proofs.Common.{◌∙◌}
use Rattle.phaser_core.proofs.Makes.{open_is}
use Rattle.phaser_core.proofs.reporter.open_report.Goals as goal

pub returns : goal.returns
returns c = c.in_ok-last.ensures ∙ open_is c.args.labels c.args.interval c.args.words.now c.cell_word-first.result c.cell_count.result c.cell_word-first.ensures c.cell_count.ensures c.requires.wide
