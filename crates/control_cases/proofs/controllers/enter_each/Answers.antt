-- The element is a ForEach, and its row is the one of its properties.
use Rattle.std.proofs.Common.{sym}
use Rattle.logic_controllers.specs.ForEachController.{Row}
use Rattle.control_cases.proofs.controllers.enter_each.Goals as goal

pub enter-requires : goal.enter-requires
enter-requires c =
    let row : Row = record { input = c.in-ForEach.input; separator = c.in-ForEach.separator; start = c.in-ForEach.start; end = c.in-ForEach.end } in
    record { there = (c.in-Some.element.now, sym c.in-Some.ensures, (row, c.in-ForEach.output, c.in-ForEach.is)) }
