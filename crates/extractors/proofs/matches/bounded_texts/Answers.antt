use Rattle.std.proofs.Common.{◌≡◌, ◌+◌, ◌-◌, length, sym, arith}
use Rattle.extractors.proofs.MatchLaws.{no_left, no_right, one_between, between_over}
use Rattle.extractors.proofs.matches.bounded_texts.Goals as goal

pub returns-in-None-cut_at : goal.returns-in-None-cut_at
returns-in-None-cut_at c =
    no_right (length c.args.text.now - c.texts._turn) c.args.left.now c.args.right.now c.texts.rest.now c.in-Some._before.now c.in-Some.within.now c.texts.texts.items _ (omega (arith, c.texts-test.true))
    (sym c.in-Some.ensures) (sym c.in-None-cut_at.ensures) c.texts.invariant

pub returns-in-None : goal.returns-in-None
returns-in-None c =
    no_left (length c.args.text.now - c.texts._turn) c.args.left.now c.args.right.now c.texts.rest.now c.texts.texts.items _ (omega (arith, c.texts-test.true)) (sym c.in-None.ensures) c.texts.invariant

pub texts-preserved : goal.texts-preserved
texts-preserved c =
    let less : length c.args.text.now - (c.texts._turn + 1) ≡ length c.args.text.now - c.texts._turn - 1 = omega arith in
    rw (c.in_ok-push-in-Some-cut_at.ensures.items, c.in_ok-new-in-Some-cut_at.ensures, less)
    (one_between (length c.args.text.now - c.texts._turn) c.args.left.now c.args.right.now c.texts.rest.now c.in-Some._before.now c.in-Some.within.now c.in-Some-cut_at.inner.now c.in-Some-cut_at.after.now
    c.texts.texts.items _ (omega (arith, c.texts-test.true)) (sym c.in-Some.ensures) (sym c.in-Some-cut_at.ensures) c.texts.invariant)

pub returns : goal.returns
returns c = between_over (length c.args.text.now - c.texts._turn) c.args.left.now c.args.right.now c.texts.rest.now c.texts.texts.items _ (omega (arith, c.texts-test.false)) c.texts.invariant
