use Rattle.std.proofs.Common.{◌≡◌, length, None}
use Rattle.critical_section.specs.Book.{HasAllJoined, IsFirst}
use Rattle.critical_section.specs.SectionSeats.{IsSeatOf, view_of}
use Rattle.sections_bench.proofs.pass.Given as goal

abbrev pub invariant-loop-round : goal.invariant-loop-round
invariant-loop-round g l = record {
  seat : IsSeatOf l.sections l.seat;
  left : (view_of l.seat).inside ≡ None;
  own : length (view_of l.seat).own ≡ l._round;
  first : IsFirst (view_of l.seat);
  joined : HasAllJoined (view_of l.seat);
}
