-- What contracts see of the open elements: the innermost first.
use Rattle.std.specs.Prelude.{List}
use Rattle.control_machine.specs.declared.stack.Frame.{Frame}

pub record Opened : Type 0 where
  pub frames : List Frame
