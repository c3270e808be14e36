use Rattle.std.proofs.Common.{◌∙◌, Ok, refl}
use Rattle.jm_base.specs.declared.types.End.TheVariants.{StopThread}
use Rattle.jm_meaning.specs.declared.signal.Signal.TheVariants.{Normal, Stop}
use Rattle.jm_base.specs.Run.{over}
use Rattle.jm_meaning.specs.State.{normal}
use Rattle.jm_meaning.specs.Rounds.{round_start}
use Rattle.plain_run.proofs.StepLaws.{taken-goes, not-taken, round-fed, round-out, round-refused, round-cut, refused-runs}
use Rattle.plain_run.proofs.progress.Progress.open_group_round.Goals as goal

pub returns-in-Ok-true-clause-plays : goal.returns-in-Ok-true-clause-plays
returns-in-Ok-true-clause-plays g c = λ group feeds.
    let taken = c.take_round.ensures.plays (g.O.Outside.account c.args.outside.now) in
    taken-goes (λ s. over (normal s)) (round_start c.args.plan.now.elements group) _ _ (Ok Normal) taken c.in-Normal.is
    (round-fed _ _ c.args.plan.now.elements group c.take_round.new.self (record c.take_round.new.self { user = c.begin_round.new.state; config = c.begin_round.new.config }) refl c.begin_round.ensures.kept c.in-Ok-true.field-0 c.in-Ok-true.field-0-test (c.in-Ok-true.ensures.came group (taken.feeds ∙ feeds)))

pub returns-in-Ok-false-clause-plays : goal.returns-in-Ok-false-clause-plays
returns-in-Ok-false-clause-plays g c = λ group feeds.
    let taken = c.take_round.ensures.plays (g.O.Outside.account c.args.outside.now) in
    taken-goes (λ s. over (normal s)) (round_start c.args.plan.now.elements group) _ _ (Ok (Stop StopThread)) taken c.in-Normal.is
    (round-out _ _ c.args.plan.now.elements group c.take_round.new.self (record c.take_round.new.self { user = c.begin_round.new.state; config = c.begin_round.new.config }) refl c.begin_round.ensures.kept c.in-Ok-false.field-0 c.in-Ok-false.field-0-test (c.in-Ok-false.ensures.came group (taken.feeds ∙ feeds)))

pub returns-in-Err-clause-plays : goal.returns-in-Err-clause-plays
returns-in-Err-clause-plays g c = λ group feeds.
    let taken = c.take_round.ensures.plays (g.O.Outside.account c.args.outside.now) in
    taken-goes (λ s. over (normal s)) (round_start c.args.plan.now.elements group) _ _ (c.refused.result) taken c.in-Normal.is
    (refused-runs c.refused.result c.in-Err.error c.refused.ensures
    (λ is. round-refused _ _ c.args.plan.now.elements group c.take_round.new.self (record c.take_round.new.self { user = c.begin_round.new.state; config = c.begin_round.new.config }) refl c.begin_round.ensures.kept c.in-Err.error (c.in-Err.ensures.came group (taken.feeds ∙ feeds)) is)
    (λ is. round-cut _ _ c.args.plan.now.elements group c.take_round.new.self (record c.take_round.new.self { user = c.begin_round.new.state; config = c.begin_round.new.config }) refl c.begin_round.ensures.kept c.in-Err.error (c.in-Err.ensures.came group (taken.feeds ∙ feeds)) is))

pub returns-in_default : goal.returns-in_default
returns-in_default g c = record {
  plays = λ group feeds. not-taken (λ s. over (normal s)) (round_start c.args.plan.now.elements group) (c.take_round.ensures.plays _) c.in_default.not-Normal;
  taken = λ h. absurd (c.in_default.not-Normal h);
}
