use Rattle.std.proofs.Common.{refl}
use Rattle.plain_run.proofs.StepLaws.{one-shown, none-shown}
use Rattle.plain_run.proofs.progress.Progress.show.Goals as goal

pub returns-in_ok-push-in-Some : goal.returns-in_ok-push-in-Some
returns-in_ok-push-in-Some c = λ a.
    one-shown a c.args.self.now c.show_pause.new.self _ c.args.number c.args.at_failure c.args.paused c.args.sample c.in_ok-show_pause.ensures.same c.in_ok-show_pause.ensures.items
    c.in-Some.sample c.in-Some.is refl c.in_ok-push-in-Some.ensures.items c.with-self.ensures c.after_sample-signal.result c.after_sample-signal.ensures

pub returns-in_ok-push-in-None : goal.returns-in_ok-push-in-None
returns-in_ok-push-in-None c = λ a.
    none-shown a c.args.self.now c.show_pause.new.self _ c.args.number c.args.at_failure c.args.paused c.args.sample c.in_ok-show_pause.ensures.same c.in_ok-show_pause.ensures.items
    c.in-None.is refl c.in_ok-push-in-None.ensures.items
