use Rattle.std.proofs.Common.{◌≡◌, ◌∙◌, ℕ, Bool, [], ap, sym, subst, length, rules}
use Rattle.output_lines.specs.Reports.{report_text}
use Rattle.phaser_core.specs.declared.view.ReporterView.{ReporterView}
use Rattle.interval_tables.specs.Rows.{sum_of}
use Rattle.recorder_core.specs.RecorderSeats.{reports, numbers_of}
use Rattle.reporter_loop.specs.Reported.{any_over}
use Rattle.reporter_loop.proofs.Judging.{reported_same, quiet}
use Rattle.reporter_loop.proofs.Outcomes.{if_ok_then, err_then, on_ok}
use Rattle.run_engine.specs.Asked.{options_of}
use Rattle.run_engine.specs.Followed.{AllFollow}
use Rattle.std.specs.List.{range_with_len}
use Rattle.run_engine.specs.Joins.{AllEnd, numbers_in}
use Rattle.run_engine.specs.Made.{AllFresh, AreUntold}
use Rattle.run_engine.proofs.Finishing.{all_done}
use Rattle.run_engine.proofs.Opening.{none_served}
use Rattle.run_engine.proofs.Hearing.{untold_follow, all_follow}
use Rattle.element_tree.specs.Names.{locks_of}
use Rattle.run_engine.specs.SectionsRun.{AreNumbered}
use Rattle.run_engine.proofs.Placing.{all_seats, numbered_all}
use Rattle.run_engine.proofs.Stopping.{stopped_books}
use Rattle.run_engine.proofs.Finishing.{all_among}
use Rattle.run_engine.proofs.run.run_threads.Goals as goal

pub returns-in_err-seats-clause-closed : goal.returns-in_err-seats-clause-closed
returns-in_err-seats-clause-closed g c = none_served _ _ _ c.requires.opened

pub returns-in_err-recorder-clause-closed : goal.returns-in_err-recorder-clause-closed
returns-in_err-recorder-clause-closed g c = none_served _ _ _ c.requires.opened

pub run_beside-jobs-requires-clause-jobs : goal.run_beside-jobs-requires-clause-jobs
run_beside-jobs-requires-clause-jobs g c κs within k d lt = (c.in_ok-jobs.ensures.each k d lt).can_run

pub run_beside-jobs-requires-clause-may : goal.run_beside-jobs-requires-clause-may
run_beside-jobs-requires-clause-may g c κs within =
    let labels : c.labels-labels.result ≡ (numbers_of c.in_ok-recorder.recorder).labels = search rules in
    record { seat = search rules; closed = search rules; interval = search rules; raised = search rules; rows = search rules; none = c.in_ok-counts.ensures.none ∙ ap (λ (n : ℕ). sum_of n []) labels; labels = search rules }

pub join_all-requires-clause-jobs : goal.join_all-requires-clause-jobs
join_all-requires-clause-jobs g c κs within =
    let account = g.W.Out.Outside.account in
    let plan = c.args.ask.now.plan.now in let options = options_of c.args.ask.now in
    let made = c.in_ok-jobs.ensures in
    let count = c.threads-threads.result in
    let r = c.in_ok-recorder.recorder in let jobs = c.in_ok-jobs.jobs.items in
    let fresh = subst (λ (b : Bool). AllFresh account r plan options (g.W.World.identity c.open_all.new.world) b count jobs) (sym made.same.1)
    (subst (λ (k : ℕ). AllFresh account r plan options k (g.W.World.tells c.args.world.now) count jobs) (sym made.same.0) made.each) in
    all_done account r plan options (g.W.World.identity c.open_all.new.world) (g.W.World.tells c.open_all.new.world) count jobs c.run_beside-jobs.result.0.items fresh c.run_beside-jobs.ensures.jobs

pub returns-in_err-sections-clause-closed : goal.returns-in_err-sections-clause-closed
returns-in_err-sections-clause-closed g c = none_served _ _ _ c.requires.opened

pub finish-book-requires-clause-joined : goal.finish-book-requires-clause-joined
finish-book-requires-clause-joined g c =
    (all_seats c.in_ok-sections.sections _ c.open_all.new.first c.join_all.new.first c.join_all.new.traces.items c.in_ok-jobs.ensures.first c.join_all.ensures.taken c.join_all.ensures.ends.0).all

pub join_all-requires-clause-seats : goal.join_all-requires-clause-seats
join_all-requires-clause-seats g c κs within =
    all_among g.W.Out.Outside.account c.in_ok-recorder.recorder c.in_ok-sections.sections c.in_ok-jobs.jobs.items c.run_beside-jobs.result.0.items c.in_ok-jobs.ensures.among c.run_beside-jobs.ensures.jobs

pub returns-in-Ok-clause-places : goal.returns-in-Ok-clause-places
returns-in-Ok-clause-places g c =
    let seats = all_seats c.in_ok-sections.sections _ c.open_all.new.first c.join_all.new.first c.join_all.new.traces.items c.in_ok-jobs.ensures.first c.join_all.ensures.taken c.join_all.ensures.ends.0 in
    if_ok_then c.finish_run.result c.finish_run.ensures.traces (λ b is.
    subst (AreNumbered (length (locks_of c.args.ask.now.plan.now.elements))) (sym is)
    (numbered_all c.in_ok-sections.sections (length (locks_of c.args.ask.now.plan.now.elements)) c.join_all.new.first c.join_all.new.traces.items c.finish-book.result seats c.in_ok-sections.ensures.locks c.finish-book.ensures.lists c.finish-book.ensures.numbered))

pub returns-in-Ok-clause-ends : goal.returns-in-Ok-clause-ends
returns-in-Ok-clause-ends g c =
    let ends = c.join_all.ensures.ends in
    if_ok_then c.finish_run.result c.finish_run.ensures.traces (λ b is. (ap length is ∙ ends.0 ∙ c.threads-threads.ensures.count, subst AllEnd (sym is) ends.1))

pub returns-in-Ok-clause-numbers : goal.returns-in-Ok-clause-numbers
returns-in-Ok-clause-numbers g c =
    if_ok_then c.finish_run.result c.finish_run.ensures.lists (λ b is.
    ap (λ (q : ReporterView). numbers_in q.joined) is ∙ c.join_all.ensures.numbers ∙ ap (λ (n : ℕ). range_with_len 0 n) c.threads-threads.ensures.count)

pub returns-in-Ok-clause-follows : goal.returns-in-Ok-clause-follows
returns-in-Ok-clause-follows g c =
    if_ok_then c.finish_run.result c.finish_run.ensures.traces (λ b is tells.
    subst (AllFollow c.args.ask.now.plan.now (options_of c.args.ask.now) (g.W.World.told c.join_all.new.world)) (sym is)
    (c.join_all.ensures.follows (c.in_ok-jobs.ensures.same.1 ∙ tells)))

pub returns-in-Ok-clause-written : goal.returns-in-Ok-clause-written
returns-in-Ok-clause-written g c =
    let text = report_text c.args.ask.now.plan.now in let limit = c.args.ask.now.limit in
    let old = g.K.Sink.written c.args.reports.now in let new = g.K.Sink.written c.run_beside-jobs.new.sink in
    let r = reports c.run_beside-jobs.result.1 in let s = reports c.join_all.new.seat in let only = c.join_all.ensures.only in
    c.finish_run.ensures.written limit old (reported_same text limit r s old new only.interval only.closed only.raised (on_ok c.run_beside-jobs.result.2 c.in-Ok.is c.run_beside-jobs.ensures.reported.reported))

pub returns-in-Ok-clause-prefix : goal.returns-in-Ok-clause-prefix
returns-in-Ok-clause-prefix g c =
    let text = report_text c.args.ask.now.plan.now in let limit = c.args.ask.now.limit in
    let old = g.K.Sink.written c.args.reports.now in let new = g.K.Sink.written c.run_beside-jobs.new.sink in
    let r = reports c.run_beside-jobs.result.1 in let s = reports c.join_all.new.seat in let only = c.join_all.ensures.only in
    err_then c.finish_run.result c.finish_run.ensures.prefix (λ prefix.
    prefix limit old (reported_same text limit r s old new only.interval only.closed only.raised (on_ok c.run_beside-jobs.result.2 c.in-Ok.is c.run_beside-jobs.ensures.reported.reported)))

pub returns-in-Ok-clause-unlimited : goal.returns-in-Ok-clause-unlimited
returns-in-Ok-clause-unlimited g c =
    let limit = c.args.ask.now.limit in
    let h = on_ok c.run_beside-jobs.result.2 c.in-Ok.is c.run_beside-jobs.ensures.reported.reported in
    let r = reports c.run_beside-jobs.result.1 in let only = c.join_all.ensures.only in
    if_ok_then c.finish_run.result c.finish_run.ensures.lists (λ b is most.
    ap (λ (q : ReporterView). q.raised) is ∙ only.raised ∙ h.raised ∙ quiet limit r.closed most h.bounds)

pub returns-in-Ok-clause-stopped : goal.returns-in-Ok-clause-stopped
returns-in-Ok-clause-stopped g c =
    let limit = c.args.ask.now.limit in
    let h = on_ok c.run_beside-jobs.result.2 c.in-Ok.is c.run_beside-jobs.ensures.reported.reported in
    let s = reports c.join_all.new.seat in let only = c.join_all.ensures.only in
    let raised : s.raised ≡ any_over limit s.closed = only.raised ∙ h.raised ∙ ap (any_over limit) (sym only.closed) in
    stopped_books limit s c.join_all.new.traces.items c.join_all.ensures.marks raised c.finish_run.result c.finish_run.ensures.traces c.finish_run.ensures.lists c.finish_run.ensures.stop

pub returns-in_err-jobs-clause-heard : goal.returns-in_err-jobs-clause-heard
returns-in_err-jobs-clause-heard g c =
    λ tells. untold_follow _ _ _ _ (subst (λ (b : Bool). AreUntold b (g.W.World.opened c.open_all.new.world) (g.W.World.told c.open_all.new.world)) tells c.in_err-jobs.ensures.untold)

pub returns-in-Ok-clause-heard : goal.returns-in-Ok-clause-heard
returns-in-Ok-clause-heard g c =
    λ tells. all_follow _ _ _ _ c.threads-threads.result c.join_all.new.traces.items (c.join_all.ensures.same.2 ∙ c.in_ok-jobs.ensures.opened) c.join_all.ensures.ends.0
    (c.join_all.ensures.follows (c.in_ok-jobs.ensures.same.1 ∙ tells))

pub returns-in-Err-clause-heard : goal.returns-in-Err-clause-heard
returns-in-Err-clause-heard g c =
    λ tells. all_follow _ _ _ _ c.threads-threads.result c.join_all.new.traces.items (c.join_all.ensures.same.2 ∙ c.in_ok-jobs.ensures.opened) c.join_all.ensures.ends.0
    (c.join_all.ensures.follows (c.in_ok-jobs.ensures.same.1 ∙ tells))
