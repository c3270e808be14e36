use Rattle.std.proofs.Common.{refl, false, arith, ◌∙◌}
use Rattle.std.proofs.lemmas.Result.{err_from_is_err_and}
use Rattle.config_elements.proofs.FeedLaws.{row-of, one-fed, not-fed, refused-fed, cut-fed, all-fed}
use Rattle.config_elements.proofs.rounds.feed_all.Goals as goal

pub returns-then-not-fed-clause-came : goal.returns-then-not-fed-clause-came
returns-then-not-fed-clause-came c = λ fed a.
    not-fed c.args.plan.now.elements c.args.feeds.now c.feeds.feed-index c.feed-item.result c.args.places.now.items c.feeds.places.items c.feed_one.new.places.items c.args.state.now c.feeds.state c.feed_one.new.state
    c.feeds-test.true c.feed-item.is (c.feeds.invariant.fed fed) a false refl
    (rw c.if-not-fed.true at (c.in_ok-fed.ensures.fed (row-of c.args.plan.now.elements c.args.feeds.now c.feeds.feed-index c.feed-item.result fed c.feeds-test.true c.feed-item.is)))

pub returns-in_err-fed-clause-came : goal.returns-in_err-fed-clause-came
returns-in_err-fed-clause-came c =
    let out = err_from_is_err_and c.from_residual.result c.from_residual.ensures.1 in
    rw (out.1, out.2) (λ fed a.
    refused-fed c.args.plan.now.elements c.args.feeds.now c.feeds.feed-index c.feed-item.result c.args.places.now.items c.feeds.places.items c.feed_one.new.places.items c.args.state.now c.feeds.state c.feed_one.new.state
    c.feeds-test.true c.feed-item.is (c.feeds.invariant.fed fed) a c.in_err-fed.field-0.0
    (c.in_err-fed.ensures.fed (row-of c.args.plan.now.elements c.args.feeds.now c.feeds.feed-index c.feed-item.result fed c.feeds-test.true c.feed-item.is)))

pub returns-in_err-fed-clause-cut : goal.returns-in_err-fed-clause-cut
returns-in_err-fed-clause-cut c =
    let out = err_from_is_err_and c.from_residual.result c.from_residual.ensures.1 in
    rw (out.1, out.2) (λ fed none.
    cut-fed c.args.plan.now.elements c.args.feeds.now c.feeds.feed-index c.feed-item.result c.args.places.now.items c.feeds.places.items c.feed_one.new.places.items c.args.state.now c.feeds.state c.feed_one.new.state
    c.feeds-test.true c.feed-item.is (c.feeds.invariant.fed fed)
    (c.in_err-fed.ensures.cut (row-of c.args.plan.now.elements c.args.feeds.now c.feeds.feed-index c.feed-item.result fed c.feeds-test.true c.feed-item.is) none))

pub returns-clause-came : goal.returns-clause-came
returns-clause-came c = λ fed a.
    all-fed c.args.plan.now.elements c.args.feeds.now c.feeds.feed-index c.args.places.now.items c.feeds.places.items c.args.state.now c.feeds.state a (omega (arith, c.feeds-test.false)) (c.feeds.invariant.fed fed)

pub feeds-init : goal.feeds-init
feeds-init c = record { fed = λ fed ns. refl; fns = refl }

pub feeds-preserved : goal.feeds-preserved
feeds-preserved c =
    record {
      fed = λ fed.
          one-fed c.args.plan.now.elements c.args.feeds.now c.feeds.feed-index c.feed-item.result c.args.places.now.items c.feeds.places.items c.feed_one.new.places.items c.args.state.now c.feeds.state c.feed_one.new.state
          c.feeds-test.true c.feed-item.is (c.feeds.invariant.fed fed)
          (rw c.if-not-fed.false at (c.in_ok-fed.ensures.fed (row-of c.args.plan.now.elements c.args.feeds.now c.feeds.feed-index c.feed-item.result fed c.feeds-test.true c.feed-item.is)));
      fns = c.in_ok-fed.ensures.fns ∙ c.feeds.invariant.fns;
    }

pub returns-then-not-fed-clause-fns : goal.returns-then-not-fed-clause-fns
returns-then-not-fed-clause-fns c = c.in_ok-fed.ensures.fns ∙ c.feeds.invariant.fns

pub returns-in_err-fed-clause-fns : goal.returns-in_err-fed-clause-fns
returns-in_err-fed-clause-fns c = c.in_err-fed.ensures.fns ∙ c.feeds.invariant.fns
