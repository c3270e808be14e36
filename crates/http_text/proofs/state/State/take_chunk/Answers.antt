use Rattle.std.proofs.Common.{◌≡◌, ◌≢◌, ◌<◌, ◌≤◌, ◌+◌, ◌-◌, ◌++◌, length, take, [], sym, ap, subst, refl, ◌∙◌, arith}
use Rattle.std.proofs.lemmas.List.{take_all, length-take-le}
use Rattle.jm_base.specs.declared.types.Wire.TheVariants.{TooLong}
use Rattle.http_text.specs.declared.state.State.{State}
use Rattle.http_text.specs.declared.state.Phase.TheVariants as phase
use Rattle.http_text.specs.ResponseReading.{reading_of}
use Rattle.http_text.proofs.Moves.{move-at}
use Rattle.http_text.proofs.States.{reply-grown, head_only-kept}
use Rattle.http_text.proofs.BodyMoves.{chunk-more, chunk-done, chunk-long}
use Rattle.http_text.proofs.state.State.take_chunk.Goals as goal

pub returns-in-None-clause-read : goal.returns-in-None-clause-read
returns-in-None-clause-read c =
    let grown = rw c.in-None.is at c.in_ok-grow_body.ensures.grown in
    let old = reading_of c.args.self.now in
    let kept = reading_of c.grow_body.new.self in
    move-at old _ _ c.args.piece.now (phase.Chunk c.args.left) (phase.Refused TooLong) kept.part kept.reply
    c.requires.phase (ap (λ (s : State). s.head_only) c.refuse.ensures.state ∙ head_only-kept c.args.self.now c.grow_body.new.self c.in_ok-grow_body.ensures.same)
    (ap (λ (s : State). s.phase) c.refuse.ensures.state) (ap (λ (s : State). s.part.items) c.refuse.ensures.state) (ap (λ (s : State). (reading_of s).reply) c.refuse.ensures.state)
    (take_all _ c.args.piece.now (omega (arith, c.refuse.ensures.used)))
    (λ stands. chunk-long old.head_only c.args.left old.part kept.part c.args.piece.now old.reply kept.reply grown.0 grown.1)

pub returns-in-Some-clause-read : goal.returns-in-Some-clause-read
returns-in-Some-clause-read c =
    let grown = rw c.in-Some.is at c.in_ok-grow_body.ensures.grown in
    let old = reading_of c.args.self.now in
    let kept = reading_of c.grow_body.new.self in
    let fits : c.in-Some.count ≤ length c.args.piece.now = omega (arith, grown.0) in
    let count : length (take c.in-Some.count c.args.piece.now) ≡ c.in-Some.count = length-take-le c.in-Some.count c.args.piece.now fits in
    move-at old _ _ (take c.in-Some.count c.args.piece.now) (phase.Chunk c.args.left) phase.ChunkReturn kept.part kept.reply
    c.requires.phase (head_only-kept c.args.self.now c.grow_body.new.self c.in_ok-grow_body.ensures.same) refl refl refl refl
    (λ stands. chunk-done old.head_only c.args.left old.part kept.part (take c.in-Some.count c.args.piece.now) old.reply kept.reply stands
    (omega (arith, count, c.if-count-left.true)) (omega (arith, count, grown.1))
    (reply-grown c.args.self.now c.grow_body.new.self (take c.in-Some.count c.args.piece.now) c.in_ok-grow_body.ensures.same grown.2))

pub returns-in-Some-2-clause-read : goal.returns-in-Some-2-clause-read
returns-in-Some-2-clause-read c =
    let grown = rw c.in-Some.is at c.in_ok-grow_body.ensures.grown in
    let old = reading_of c.args.self.now in
    let kept = reading_of c.grow_body.new.self in
    let fits : c.in-Some.count ≤ length c.args.piece.now = omega (arith, grown.0) in
    let less : c.in-Some.count < c.args.left = omega (arith, grown.0, c.if-count-left.false) in
    let count : length (take c.in-Some.count c.args.piece.now) ≡ c.in-Some.count = length-take-le c.in-Some.count c.args.piece.now fits in
    move-at old _ _ (take c.in-Some.count c.args.piece.now) (phase.Chunk c.args.left) (phase.Chunk (c.args.left - c.in-Some.count)) kept.part kept.reply
    c.requires.phase (head_only-kept c.args.self.now c.grow_body.new.self c.in_ok-grow_body.ensures.same) refl refl refl refl
    (λ stands. chunk-more old.head_only c.args.left (c.args.left - c.in-Some.count) old.part kept.part (take c.in-Some.count c.args.piece.now) old.reply kept.reply stands
    (omega (arith, count, less)) (omega (arith, less)) (omega (arith, count, grown.1))
    (reply-grown c.args.self.now c.grow_body.new.self (take c.in-Some.count c.args.piece.now) c.in_ok-grow_body.ensures.same grown.2))
