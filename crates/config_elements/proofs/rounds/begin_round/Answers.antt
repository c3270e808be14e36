use Rattle.std.proofs.Common.{ap, ◌∙◌}
use Rattle.config_elements.proofs.FeedLaws.{begin-came, begin-cut}
use Rattle.config_elements.proofs.rounds.begin_round.Goals as goal

pub returns-clause-came : goal.returns-clause-came
returns-clause-came g c = λ group made.
    begin-came c.args.plan.now.elements group c.as_slice.result.now c.config.inside.places.items c.args.config.now.places c.feed_all.new.places.items c.args.state.now c.feed_all.new.state _ c.feed_all.result
    (c.as_slice.ensures.value ∙ ap (λ v. v.feeds) c.config.view_is ∙ made) (ap (λ v. v.places) c.config.view_is) c.feed_all.ensures.came

pub returns-clause-cut : goal.returns-clause-cut
returns-clause-cut g c = λ group made none.
    begin-cut c.args.plan.now.elements group c.as_slice.result.now c.config.inside.places.items c.args.config.now.places c.feed_all.new.places.items c.args.state.now c.feed_all.new.state
    (c.as_slice.ensures.value ∙ ap (λ v. v.feeds) c.config.view_is ∙ made) (ap (λ v. v.places) c.config.view_is) (λ fed. c.feed_all.ensures.cut fed none)
