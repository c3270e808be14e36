use Rattle.std.proofs.Common.{◌∙◌, refl, arith}
use Rattle.std.proofs.lemmas.Result.{err_from_is_err_and}
use Rattle.element_props.proofs.ReadsLaws.{no_memory_after, goes_nothing, asked_step, asked_stops, regexes_done, regexes_fail, whole_none, own_more, around_more}
use Rattle.element_props.proofs.asking.regexes_prop.Goals as goal

pub texts-init : goal.texts-init
texts-init g c = rw (c.new-regexes.ensures.items, c.new-whole.ensures.items) (record { asked = goes_nothing _ _; own = refl; around = whole_none c.args.fully })

pub texts-preserved : goal.texts-preserved
texts-preserved g c = record {
  asked = asked_step _ _ _ _ _ _ _ _ _ c.texts-test.true c.texts.invariant.asked c.in-Ok.ensures.asks;
  own = own_more _ _ _ _ _ c.texts-test.true c.texts.invariant.own c.in-Ok.ensures.regexes;
  around = around_more _ _ _ _ _ _ c.texts-test.true c.texts.invariant.around c.in-Ok.ensures.whole;
}

pub returns-in-Err : goal.returns-in-Err
returns-in-Err g c = regexes_fail _ _ _ _ _ _ (asked_stops _ _ _ _ _ _ _ _ _ _ c.texts-test.true c.texts.invariant.asked c.in-Err.ensures.asks)

pub returns : goal.returns
returns g c = regexes_done _ _ _ _ _ _ _ _ _ (omega arith) c.in_ok-texts.ensures (c.of.ensures ∙ c.texts.invariant.own) (c.of-2.ensures ∙ c.texts.invariant.around) c.texts.invariant.asked

pub returns-in_err-texts : goal.returns-in_err-texts
returns-in_err-texts g c =
    let p = err_from_is_err_and c.from_residual.result c.from_residual.ensures.1 in
    rw p.1 (regexes_fail _ _ _ _ _ _ (no_memory_after _ _ _ _ _ c.texts.invariant.asked p.2))
