use Rattle.output_lines.specs.Reports.{report_text}
use Rattle.recorder_core.specs.RecorderSeats.{reports}
use Rattle.reporter_loop.proofs.Judging.{reported_more, cut_after, unjudged_after}
use Rattle.reporter_loop.proofs.Outcomes.{ok_and, err_then}
use Rattle.reporter_loop.proofs.turns.one_turn.Goals as goal

pub returns-then-tick-clause-reported : goal.returns-then-tick-clause-reported
returns-then-tick-clause-reported g c =
    let done = c.one_interval.ensures in
    ok_and c.one_interval.result.1 done.judged done.written (λ judged written old h.
    reported_more (report_text c.args.rules.now.plan.now) c.args.rules.now.limit (reports c.args.seat) c.one_interval.new.counts.last old (g.K.Sink.written c.args.sink.now) (g.K.Sink.written c.one_interval.new.sink)
    h done.number c.requires.few done.bounds written (reports c.one_interval.result.0) judged)

pub returns-then-tick-clause-prefix : goal.returns-then-tick-clause-prefix
returns-then-tick-clause-prefix g c =
    let done = c.one_interval.ensures in
    err_then c.one_interval.result.1 done.cut (λ cut old h.
    cut_after (report_text c.args.rules.now.plan.now) c.args.rules.now.limit (reports c.args.seat) c.one_interval.new.counts.last old (g.K.Sink.written c.args.sink.now) (g.K.Sink.written c.one_interval.new.sink)
    h done.number cut)

pub returns-then-tick-clause-unjudged : goal.returns-then-tick-clause-unjudged
returns-then-tick-clause-unjudged g c =
    err_then c.one_interval.result.1 c.one_interval.ensures.unjudged (λ closed old h.
    unjudged_after (report_text c.args.rules.now.plan.now) c.args.rules.now.limit (reports c.args.seat) (reports c.one_interval.result.0) c.one_interval.new.counts.last old (g.K.Sink.written c.args.sink.now) h closed)
