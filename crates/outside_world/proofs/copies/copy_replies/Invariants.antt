use Rattle.std.proofs.Common.{◌≡◌, take}
use Rattle.outside_world.proofs.copies.copy_replies.Given as goal

abbrev pub invariant-loop-reply : goal.invariant-loop-reply
invariant-loop-reply l = l.all.items ≡ take l.reply-index l.replies
