use Rattle.recorder_core.specs.RecorderSeats.{reports, numbers_of}
use Rattle.reporter_loop.proofs.Counting.{more_fits, counts_more}
use Rattle.reporter_loop.proofs.turns.close_counted.Goals as goal

pub add_last-requires-clause-room : goal.add_last-requires-clause-room
add_last-requires-clause-room g c =
    more_fits (numbers_of c.args.recorder.now) (reports c.args.seat) (reports c.close_interval-seat.result) c.close_interval-seat.new.into c.args.counts.now.total
    c.requires.counted c.close_interval-seat.ensures.closed c.close_interval-seat.ensures.sums

pub returns-clause-counted : goal.returns-clause-counted
returns-clause-counted g c =
    counts_more (numbers_of c.args.recorder.now) (reports c.args.seat) (reports c.close_interval-seat.result) c.close_interval-seat.new.into c.args.counts.now.total
    c.requires.counted c.close_interval-seat.ensures.closed c.close_interval-seat.ensures.sums c.add_last.new.self.total c.add_last.ensures.total
