use Rattle.std.proofs.Common.{◌≡◌, drop}
use Rattle.serde_json.specs.View.{items_view}
use Rattle.element_props.specs.PropertiesWritten.{items_by, reply_data}
use Rattle.element_props.proofs.WrittenLaws.{joined}
use Rattle.element_props.proofs.written.replies_value.Given as goal

-- the values so far, before those that are left
abbrev pub invariant-replies : goal.invariant-replies
invariant-replies l = joined (items_view l.values.items) (items_by reply_data (drop l.reply-index l.replies)) ≡ items_by reply_data l.replies
