use Rattle.std.proofs.Common.{◌≡◌, map}
use Rattle.serde_json.specs.View.{members_view}
use Rattle.element_props.specs.Replies.{has_only}
use Rattle.element_props.proofs.replies.has_only.Given as goal

abbrev pub invariant-loop-key : goal.invariant-loop-key
invariant-loop-key l =
    (goal.iterator-loop-key).can_next l.key-iterator ×
    (goal.iterator-loop-key).is_finite l.key-iterator ×
    (has_only (map (λ k. k.now) l.fn.keys) (members_view l.key-iterator) ≡ has_only (map (λ k. k.now) l.fn.keys) (members_view l.fn.members.entries))
