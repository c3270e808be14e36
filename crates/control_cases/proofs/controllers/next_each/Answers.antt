-- The element is a ForEach, and its row is the one of its properties.
use Rattle.std.proofs.Common.{sym}
use Rattle.control_cases.proofs.controllers.next_each.Goals as goal

pub next-requires : goal.next-requires
next-requires c = (
  c.in-Some.element.now,
  record { input = c.in-ForEach.input; separator = c.in-ForEach.separator; start = c.in-ForEach.start; end = c.in-ForEach.end },
  c.in-ForEach.output,
  record { there = sym c.in-Some.ensures; of_kind = c.in-ForEach.is },
)
