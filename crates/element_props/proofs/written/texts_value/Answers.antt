use Rattle.std.proofs.Common.{ap, ◌∙◌, arith}
use Rattle.element_props.specs.PropertiesWritten.{text_data}
use Rattle.serde_json.specs.Data.{array}
use Rattle.serde_json.proofs.Views.{view-Array}
use Rattle.element_props.proofs.WrittenLaws.{written_more, written_all}
use Rattle.element_props.proofs.written.texts_value.Goals as goal

pub texts-preserved : goal.texts-preserved
texts-preserved c = rw (c.in_ok-push.ensures.items) (written_more text_data _ _ _ _ _ c.texts-test.true c.text-item.is (c.in_ok-value.ensures ∙ ap text_data c.bytes.ensures) c.texts.invariant)

pub returns : goal.returns
returns c = view-Array c.texts.values ∙ ap array (written_all text_data _ _ _ (omega arith) c.texts.invariant)
