use Rattle.std.proofs.Common.{arith}
use Rattle.plain_run.proofs.ShowsLaws.{paused_shows, no_pause}
use Rattle.plain_run.proofs.UnderWay.{after-nothing, after-pausing, cut-always}
use Rattle.jm_meaning.specs.Meaning.{after_pause}
use Rattle.plain_run.proofs.pause.Goals as goal

pub returns-in_err-pause-clause-cut : goal.returns-in_err-pause-clause-cut
returns-in_err-pause-clause-cut g c = cut-always c.from_residual.result (λ run. after-nothing (after_pause c.args.ms run) c.in_err-pause.ensures.err)

pub returns-in_err-push-clause-cut : goal.returns-in_err-push-clause-cut
returns-in_err-push-clause-cut g c = cut-always c.from_residual-in_err-push.result (λ run. after-pausing c.args.ms (λ h. omega (arith, h)) c.in_ok-pause.ensures.ok run)

pub returns-in_ok-push-clause-shows : goal.returns-in_ok-push-clause-shows
returns-in_ok-push-clause-shows g c = λ run. paused_shows _ _ c.args.items.now.items _ c.args.ms (λ h. omega (arith, h)) c.in_ok-pause.ensures.ok c.in_ok-push.ensures.items run

pub returns-else-ms-gt0-clause-shows : goal.returns-else-ms-gt0-clause-shows
returns-else-ms-gt0-clause-shows g c = λ run. no_pause _ c.args.items.now.items c.args.ms (omega arith) run
