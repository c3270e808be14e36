use Rattle.plain_run.proofs.ThreadWays.{pause-cut, rest-cut, end-cut, thread-shows}
use Rattle.plain_run.proofs.UnderWay.{cut-always}
use Rattle.plain_run.proofs.run_begun.Goals as goal

pub returns-in_err-pause-clause-cut : goal.returns-in_err-pause-clause-cut
returns-in_err-pause-clause-cut g c = cut-always c.from_residual.result (λ options start.
    pause-cut c.args.plan.now c.args.thread c.ramp_up_pause.result options _ _ c.ramp_up_pause.ensures c.in_err-pause.ensures.cut)

pub returns-in_err-signal-clause-cut : goal.returns-in_err-signal-clause-cut
returns-in_err-signal-clause-cut g c = cut-always c.from_residual-in_err-signal.result (λ options start.
    rest-cut c.args.plan.now c.args.thread c.group_of.result c.ramp_up_pause.result options _ _ _ c.args.progress.now.items.items
    (record c.args.progress.now { items = c.pause.new.items })
    c.requires.items c.group_of.ensures.number c.ramp_up_pause.ensures start c.in_ok-pause.ensures.shows c.in_err-signal.ensures)

pub returns-in_err-push-clause-cut : goal.returns-in_err-push-clause-cut
returns-in_err-push-clause-cut g c = cut-always c.from_residual-in_err-push.result (λ options start.
    end-cut c.args.plan.now c.args.thread c.group_of.result c.ramp_up_pause.result options _ _ _ c.args.progress.now.items.items
    (record c.args.progress.now { items = c.pause.new.items })
    c.requires.items c.group_of.ensures.number c.ramp_up_pause.ensures start c.in_ok-pause.ensures.shows c.run_thread.new.progress c.in_ok-signal.signal c.in_ok-signal.ensures)

pub returns-clause-shows : goal.returns-clause-shows
returns-clause-shows g c = λ options start. rw (c.replace.ensures.value, c.in_ok-push.ensures.items)
    (thread-shows c.args.plan.now c.args.thread c.group_of.result c.ramp_up_pause.result options _ _ _ c.args.progress.now.items.items
    (record c.args.progress.now { items = c.pause.new.items })
    c.requires.items c.group_of.ensures.number c.ramp_up_pause.ensures start
    c.in_ok-pause.ensures.shows c.run_thread.new.progress c.in_ok-signal.signal c.in_ok-signal.ensures c.end_of.result c.end_of.ensures)
