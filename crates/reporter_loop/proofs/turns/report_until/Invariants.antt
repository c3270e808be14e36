use Rattle.std.proofs.Common.{◌≡◌, ◌<◌, length}
use Rattle.output_lines.specs.Reports.{report_text}
use Rattle.recorder_core.specs.RecorderSeats.{reports, numbers_of, IsReporter}
use Rattle.reporter_loop.specs.Counted.{CountsAll}
use Rattle.reporter_loop.specs.Reported.{Reported}
use Rattle.reporter_loop.specs.Ticked.{TickedSoFar}
use Rattle.reporter_loop.proofs.turns.report_until.Given as goal

abbrev pub invariant-loop : goal.invariant-loop
invariant-loop g l = record {
  iterator : (goal.iterator-loop g).can_next l.iterator' × (goal.iterator-loop g).is_finite l.iterator';
  seat : IsReporter l.recorder l.seat;
  few : (reports l.seat).interval < 16777216;
  rows : length l.counts.last.rows ≡ (numbers_of l.recorder).labels;
  counted : CountsAll (numbers_of l.recorder).labels (reports l.seat) l.counts.total;
  reported : Reported (report_text l.rules.plan.now) l.rules.limit (reports l.seat) (g.K.Sink.written l.initial.sink) (g.K.Sink.written l.sink);
  joined : (reports l.seat).joined ≡ (reports l.fn.seat).joined;
  faults : g.K.Sink.faults l.sink ≡ g.K.Sink.faults l.initial.sink;
  ticked : TickedSoFar (reports l.seat).interval (g.T.Ticker.ticks l.initial.ticker) (g.T.Ticker.ticks l.ticker);
}
