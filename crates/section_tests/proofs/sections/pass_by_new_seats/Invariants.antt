use Rattle.std.proofs.Common.{◌≡◌, ◌+◌, None}
use Rattle.critical_section.specs.SectionSeats.{view_of, IsSeatOf}
use Rattle.section_tests.proofs.sections.pass_by_new_seats.Given as goal

abbrev pub invariant-loop-lock : goal.invariant-loop-lock
invariant-loop-lock g l = record {
  seat : IsSeatOf l.sections l.first;
  left : (view_of l.first).inside ≡ None;
  made : (view_of l.first).made ≡ l.lock + 1;
  seats : (view_of l.first).seats ≡ l.lock + 1;
}
