use Rattle.std.proofs.Common.{◌∙◌, Bool, ap, sym}
use Rattle.interval_reporter.specs.Judged.{errors_of}
use Rattle.recorder_core.specs.RecorderSeats.{reports}
use Rattle.reporter_loop.specs.Reported.{raised_if}
use Rattle.reporter_loop.proofs.Judging.{over_is, not_over_is}
use Rattle.reporter_loop.proofs.turns.judge.Goals as goal

pub returns-in-Stop-clause-raised : goal.returns-in-Stop-clause-raised
returns-in-Stop-clause-raised g c =
    c.raise_stop_as_reporter.ensures.raised
    ∙ ap (λ (b : Bool). raised_if b (reports c.args.seat)) (sym (over_is c.args.rules.now.limit (errors_of c.args.report.now) (c.judge.ensures.stop.0 c.in-Stop.is)))

pub returns-in-Go-clause-raised : goal.returns-in-Go-clause-raised
returns-in-Go-clause-raised g c =
    ap (λ (b : Bool). raised_if b (reports c.args.seat)) (sym (not_over_is c.args.rules.now.limit (errors_of c.args.report.now) (λ low. let stop = sym c.in-Go.is ∙ c.judge.ensures.stop.1 low in cc)))
