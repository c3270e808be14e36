use Rattle.element_props.proofs.RowsAgain.{read_again}
use Rattle.element_props.proofs.again.written_is_read_again.Goals as goal

pub returns : goal.returns
returns c = read_again
