use Rattle.std.proofs.Common.{arith}
use Rattle.config_elements.proofs.delays.sum_of.Goals as goal

pub returns : goal.returns
returns c = rw (c.capped.ensures, c.saturating_add.ensures, c.from.ensures) (omega arith)
