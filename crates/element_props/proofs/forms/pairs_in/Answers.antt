use Rattle.std.proofs.Common.{sym, ◌∙◌}
use Rattle.element_props.specs.Forms.{pair_in}
use Rattle.element_props.proofs.PropLaws.{all_done, short_left}
use Rattle.element_props.proofs.FormLaws.{short_pairs}
use Rattle.element_props.proofs.forms.pairs_in.Goals as goal

pub pairs-preserved : goal.pairs-preserved
pairs-preserved c = rw (c.in_ok-push.ensures.items) (record {
  kept = all_done pair_in _ _ _ _ c.in-Some.pair c.pairs-test.true c.item-item.is (sym c.in_ok-pair.ensures.value ∙ c.in-Some.is) c.pairs.invariant.kept;
  short = short_left _ _ _ c.pairs-test.true c.item-item.is c.pairs.invariant.short;
  fit = short_pairs _ _ c.pairs.invariant.fit (rw (c.in-Some.is) at c.in_ok-pair.ensures.short);
})
