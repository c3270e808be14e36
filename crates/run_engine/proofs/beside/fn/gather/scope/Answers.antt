use Rattle.std.proofs.Common.{rules, ap, sym, subst, List}
use Rattle.std.specs.Prelude.{All}
use Rattle.run_engine.specs.JobsRan.{AllRan, CanRun}
use Rattle.run_engine.specs.declared.job.Job.{Job}
use denote.Exit.{no}
use denote.Param.{param}
use denote.Param.Send.{IsSend, IsSync, param_send, arg_send, shr_send}
use Rattle.std.proofs.Crossing.{Vec-send}
use Rattle.recorder_core.proofs.places.Recorder.TheSendSync as recorder
use Rattle.reporter_loop.proofs.ended.Ended.TheSendSync as ended
use Rattle.run_engine.proofs.JobCrosses.{closure, job}
use Rattle.run_engine.proofs.beside.fn.gather.scope.Goals as goal

pub returns-in-Ok : goal.returns-in-Ok
returns-in-Ok g c =
    let at = c.report_at-end.ensures in (
      subst (λ (js : List (Job _)). AllRan g.O.Outside.account c.captures.recorder.now js c.join-jobs.result.items) (ap (λ v. v.items) c.of.ensures)
          (subst (λ p. AllRan g.O.Outside.account p.recorder.now p.before.value.items c.join-jobs.result.items) c.in-Ok.ensures.ok c.join-jobs.ensures),
      at.reported,
      at.ticker,
      at.sink,
    )

pub returns-in-Err : goal.returns-in-Err
returns-in-Err g c =
    let at = c.report_at-end-in-Err.ensures in
    (subst (λ f. AllRan g.O.Outside.account f.1.now f.3.items c.work-jobs.result.items) c.in-Err.ensures.err c.work-jobs.ensures, at.reported, at.ticker, at.sink)

pub work-jobs-requires-after_bounds : goal.work-jobs-requires-after_bounds
work-jobs-requires-after_bounds g c κs within =
    (subst (λ f. All (CanRun f.1.now) f.3.items) (sym c.in-Err.ensures.err) c.requires.0, search rules, search rules)

pub spawn_with-requires-send-T : goal.spawn_with-requires-send-T
spawn_with-requires-send-T g c κs within =
    let s : IsSend (param 1 g.row.O) = search rules in
    param_send _ _ (arg_send _ no _ (Vec-send _ (job _ _ (param 1 g.row.O) s)))

pub spawn_with-requires-send-F : goal.spawn_with-requires-send-F
spawn_with-requires-send-F g c κs within =
    let s : IsSend (param 1 g.row.O) = search rules in
    let y : IsSync (param 0 g.row.R) = search rules in
    param_send _ _ (arg_send _ no _ (closure _ _ _ _ _ (shr_send _ _ _ y) (shr_send _ _ _ recorder.the_sync) (shr_send _ _ _ ended.the_sync) (Vec-send _ (job _ _ (param 1 g.row.O) s))))
