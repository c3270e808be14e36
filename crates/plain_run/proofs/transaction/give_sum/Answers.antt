use Rattle.std.proofs.Common.{refl, sym, ◌∙◌}
use Rattle.plain_run.proofs.TransactionWays.{no-sum, no-unit-for-sum, sum-given}
use Rattle.plain_run.proofs.transaction.give_sum.Goals as goal

pub returns-then-not-is_given : goal.returns-then-not-is_given
returns-then-not-is_given c = λ a. no-sum a c.args.progress.now c.args.label c.args.tally c.args.signal (sym c.is_given.ensures ∙ c.if-not-is_given.true)

pub returns-then-progress-eq0 : goal.returns-then-progress-eq0
returns-then-progress-eq0 c = λ a.
    no-unit-for-sum a c.args.progress.now c.args.label c.args.tally c.args.signal (sym c.is_given.ensures ∙ c.if-not-is_given.false) c.if-progress-eq0.true

pub returns : goal.returns
returns c = λ a.
    sum-given a c.args.progress.now c.args.label c.args.tally c.args.signal (sym c.is_given.ensures ∙ c.if-not-is_given.false)
    _ c.in_ok-sample.sample c.in_ok-sample.ensures c.if-progress-eq0.false refl c.in_ok-push.ensures.items refl refl
