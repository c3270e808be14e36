use Rattle.phaser_words.specs.WordSeats.{reading, numbers}
use Rattle.recorder_core.proofs.Ending.{all_shown, all_parted, all_counted}
use Rattle.recorder_core.proofs.places.Recorder.finish.Goals as goal

pub returns-clause-reports : goal.returns-clause-reports
returns-clause-reports c = all_shown (reading c.args.seat.words) (reading c.read_into.new.words) _ c.read_into.ensures.same c.read_into.ensures.ends.is

pub returns-clause-parted : goal.returns-clause-parted
returns-clause-parted c = all_parted (numbers c.args.self.words) (reading c.args.seat.words) (reading c.read_into.new.words) _ c.read_into.ensures.same c.read_into.ensures.ends

pub returns-clause-count : goal.returns-clause-count
returns-clause-count c =
    all_counted (numbers c.args.self.words) (reading c.args.seat.words) (reading c.read_into.new.words) _ c.interval-intervals.result c.read_into.ensures.same c.read_into.ensures.ends c.interval-intervals.ensures
