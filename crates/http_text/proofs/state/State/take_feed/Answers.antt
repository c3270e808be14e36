use Rattle.std.proofs.Common.{◌≡◌, refl}
use Rattle.jm_base.specs.declared.types.Wire.TheVariants.{BadChunk}
use Rattle.http_text.specs.declared.state.Phase.TheVariants as phase
use Rattle.http_text.specs.ResponseReading.{reading_of}
use Rattle.http_text.specs.SizeLines.{before_size}
use Rattle.http_text.proofs.Moves.{move-at}
use Rattle.http_text.proofs.BodyMoves.{feed-good, feed-bad}
use Rattle.http_text.proofs.state.State.take_feed.Goals as goal

pub returns-then-piece-eq10-clause-read : goal.returns-then-piece-eq10-clause-read
returns-then-piece-eq10-clause-read c =
    let old = reading_of c.args.self.now in
    move-at old _ _ _ phase.ChunkFeed (phase.SizeLine before_size) c.clear.new.self.items old.reply c.requires.phase refl refl refl refl refl
    (λ stands. feed-good old.head_only old.part c.clear.new.self.items c.args.piece.now old.reply stands c.requires.some c.if-piece-eq10.true c.clear.ensures.items)

pub returns-else-piece-eq10-clause-read : goal.returns-else-piece-eq10-clause-read
returns-else-piece-eq10-clause-read c =
    let old = reading_of c.args.self.now in
    move-at old _ _ _ phase.ChunkFeed (phase.Refused BadChunk) old.part old.reply c.requires.phase refl refl refl refl refl
    (λ stands. feed-bad old.head_only old.part old.part c.args.piece.now old.reply c.requires.some c.if-piece-eq10.false)
