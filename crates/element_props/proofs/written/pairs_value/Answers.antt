use Rattle.std.proofs.Common.{ap, ◌∙◌, arith}
use Rattle.element_props.specs.PropertiesWritten.{pair_data}
use Rattle.serde_json.specs.Data.{array}
use Rattle.serde_json.proofs.Views.{view-Array}
use Rattle.element_props.proofs.WrittenLaws.{written_more, written_all}
use Rattle.element_props.proofs.written.pairs_value.Goals as goal

pub pairs-preserved : goal.pairs-preserved
pairs-preserved c = rw (c.in_ok-push.ensures.items) (written_more pair_data _ _ _ _ _ c.pairs-test.true c.pair-item.is c.in_ok-value.ensures c.pairs.invariant)

pub returns : goal.returns
returns c = view-Array c.pairs.values ∙ ap array (written_all pair_data _ _ _ (omega arith) c.pairs.invariant)
