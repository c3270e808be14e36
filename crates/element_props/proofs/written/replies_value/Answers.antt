use Rattle.std.proofs.Common.{ap, ◌∙◌, arith}
use Rattle.element_props.specs.PropertiesWritten.{reply_data}
use Rattle.serde_json.specs.Data.{array}
use Rattle.serde_json.proofs.Views.{view-Array}
use Rattle.element_props.proofs.WrittenLaws.{written_more, written_all}
use Rattle.element_props.proofs.written.replies_value.Goals as goal

pub replies-preserved : goal.replies-preserved
replies-preserved c = rw (c.in_ok-push.ensures.items) (written_more reply_data _ _ _ _ _ c.replies-test.true c.reply-item.is c.in_ok-value.ensures c.replies.invariant)

pub returns : goal.returns
returns c = view-Array c.replies.values ∙ ap array (written_all reply_data _ _ _ (omega arith) c.replies.invariant)
