use Rattle.std.proofs.Common.{◌≡◌, length, None}
use Rattle.critical_section.specs.SectionSeats.{view_of, IsSeatOf}
use Rattle.section_tests.proofs.sections.add_often.Given as goal

abbrev pub invariant-loop-round : goal.invariant-loop-round
invariant-loop-round g l = record {
  seat : IsSeatOf l.sections l.seat;
  left : (view_of l.seat).inside ≡ None;
  own : length (view_of l.seat).own ≡ l._round;
  one : (view_of l.seat).seats ≡ 1;
}
