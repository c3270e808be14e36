use Rattle.std.proofs.Common.{◌≡◌, ◌++◌, drop}
use Rattle.template_text.specs.Pieces.{spelling}
use Rattle.template_text.specs.View.{pieces_of}
use Rattle.template_text.proofs.write.spell.Given as goal

-- what is written and what is left are all
abbrev pub invariant-loop-piece : goal.invariant-loop-piece
invariant-loop-piece l =
    (pieces_of l.piece-items ≡ l.template) × (l.out.items ++ spelling (pieces_of (drop l.piece-index l.piece-items)) ≡ spelling l.template)
