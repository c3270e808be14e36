use Rattle.std.proofs.Common.{◌≡◌, length, None}
use Rattle.critical_section.specs.SectionSeats.{view_of, IsSeatOf}
use Rattle.section_tests.proofs.sections.pass_each.Given as goal

abbrev pub invariant-loop-lock : goal.invariant-loop-lock
invariant-loop-lock g l = record {
  seat : IsSeatOf l.sections l.first;
  left : (view_of l.first).inside ≡ None;
  own : length (view_of l.first).own ≡ l.lock;
  made : (view_of l.first).made ≡ 1;
  seats : (view_of l.first).seats ≡ 1;
}
