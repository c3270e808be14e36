use Rattle.std.proofs.Common.{◌≡◌, refl}
use Rattle.jm_base.specs.declared.types.Wire.TheVariants.{BadChunk}
use Rattle.http_text.specs.declared.state.Phase.TheVariants as phase
use Rattle.http_text.specs.ResponseReading.{reading_of}
use Rattle.http_text.proofs.Moves.{move-at}
use Rattle.http_text.proofs.BodyMoves.{return-bad}
use Rattle.http_text.proofs.state.State.take_return.Goals as goal

pub returns-else-piece-eq13-clause-read : goal.returns-else-piece-eq13-clause-read
returns-else-piece-eq13-clause-read c =
    let old = reading_of c.args.self.now in
    move-at old _ _ _ phase.ChunkReturn (phase.Refused BadChunk) old.part old.reply c.requires.phase refl refl refl refl refl
    (λ stands. return-bad old.head_only old.part old.part c.args.piece.now old.reply c.requires.some c.if-piece-eq13.false)
