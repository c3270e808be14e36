use Rattle.std.proofs.Common.{◌≡◌, drop}
use Rattle.serde_json.specs.View.{items_view}
use Rattle.element_props.specs.Forms.{all_of}
use Rattle.element_props.specs.Replies.{reply_in}
use Rattle.element_props.proofs.PropLaws.{before}
use Rattle.element_props.proofs.forms.replies_of.Given as goal

-- the replies so far, before those that are left
abbrev pub invariant-replies : goal.invariant-replies
invariant-replies l = before l.found.items (all_of reply_in (items_view (drop l.item-index l.items))) ≡ all_of reply_in (items_view l.items)
