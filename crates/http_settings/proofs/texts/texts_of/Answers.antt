use Rattle.std.proofs.Common.{arith, drop, ◌+◌}
use Rattle.std.proofs.lemmas.Result.{err_from_is_err_and}
use Rattle.jm_base.proofs.RunLaws.{goes-nothing}
use Rattle.http_settings.specs.RequestSettings.{pairs_seen}
use Rattle.http_settings.proofs.TextLaws.{stands-same, stands-then, text_goes, text_refused, texts_over}
use Rattle.http_settings.proofs.texts.texts_of.Goals as goal

pub pairs-init : goal.pairs-init
pairs-init g c = rw c.new-texts.ensures.items record { goes = goes-nothing _ _; stands = stands-same _ }

pub pairs-preserved : goal.pairs-preserved
pairs-preserved g c =
    let rs = c.args.pairs.now in
    let i = c.pairs.pair-index in
    record {
      goes = text_goes _ rs i c.pair-item.result c.pairs.texts.items c.add_text.new.texts.items c.pairs.state c.add_text.new.state c.pairs-test.true c.pair-item.is
          c.pairs.invariant.goes (c.in_ok-add_text.ensures.came (pairs_seen (drop (i + 1) rs)));
      stands = stands-then c.args.state.now c.pairs.state c.add_text.new.state c.pairs.invariant.stands c.in_ok-add_text.ensures.stands;
    }

pub returns-in_err-add_text-clause-came : goal.returns-in_err-add_text-clause-came
returns-in_err-add_text-clause-came g c =
    let rs = c.args.pairs.now in
    let i = c.pairs.pair-index in
    let out = err_from_is_err_and c.from_residual.result c.from_residual.ensures.1 in
    rw (out.1, out.2) (text_refused _ rs i c.pair-item.result c.pairs.texts.items c.pairs.state c.add_text.new.state c.in_err-add_text.field-0.0 c.pairs-test.true c.pair-item.is
    c.pairs.invariant.goes (c.in_err-add_text.ensures.came (pairs_seen (drop (i + 1) rs))))

pub returns-in_err-add_text-clause-stands : goal.returns-in_err-add_text-clause-stands
returns-in_err-add_text-clause-stands g c = stands-then c.args.state.now c.pairs.state c.add_text.new.state c.pairs.invariant.stands c.in_err-add_text.ensures.stands

pub returns-clause-came : goal.returns-clause-came
returns-clause-came g c = rw c.of.ensures (texts_over _ c.args.pairs.now c.pairs.pair-index c.pairs.texts.items c.pairs.state (omega (arith, c.pairs-test.false)) c.pairs.invariant.goes)
