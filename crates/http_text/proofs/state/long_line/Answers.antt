use Rattle.std.proofs.Common.{◌≡◌}
use Rattle.http_text.proofs.ChunkLaws.{no-line-in}
use Rattle.http_text.proofs.state.long_line.Goals as goal

pub returns-in-Ok-Complete-clause-may : goal.returns-in-Ok-Complete-clause-may
returns-in-Ok-Complete-clause-may c =
    let line = rw c.in-Ok-Complete.field-0-is at c.in-Ok-Complete.ensures.complete in
    λ _ none. absurd (no-line-in c.args.line.now c.saturating_sub.result line.0 _ line.1.reads none)
