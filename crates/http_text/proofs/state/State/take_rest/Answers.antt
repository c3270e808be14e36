use Rattle.std.proofs.Common.{◌≡◌, ◌≤◌, ◌++◌, length, take, [], sym, ap, subst, refl, ◌∙◌, arith}
use Rattle.std.proofs.lemmas.List.{take_all}
use Rattle.jm_base.specs.declared.types.Wire.TheVariants.{TooLong}
use Rattle.http_text.specs.declared.state.State.{State}
use Rattle.http_text.specs.declared.state.Phase.TheVariants as phase
use Rattle.http_text.specs.ResponseReading.{reading_of}
use Rattle.http_text.proofs.Moves.{move-at}
use Rattle.http_text.proofs.States.{reply-grown, head_only-kept}
use Rattle.http_text.proofs.BodyMoves.{rest-more, rest-long}
use Rattle.http_text.proofs.state.State.take_rest.Goals as goal

pub returns-in-None-clause-read : goal.returns-in-None-clause-read
returns-in-None-clause-read c =
    let grown = rw c.in-None.is at c.in_ok-grow_body.ensures.grown in
    let old = reading_of c.args.self.now in
    let kept = reading_of c.grow_body.new.self in
    move-at old _ _ c.args.piece.now phase.Rest (phase.Refused TooLong) kept.part kept.reply
    c.requires.phase (ap (λ (s : State). s.head_only) c.refuse.ensures.state ∙ head_only-kept c.args.self.now c.grow_body.new.self c.in_ok-grow_body.ensures.same)
    (ap (λ (s : State). s.phase) c.refuse.ensures.state) (ap (λ (s : State). s.part.items) c.refuse.ensures.state) (ap (λ (s : State). (reading_of s).reply) c.refuse.ensures.state)
    (take_all _ c.args.piece.now (omega (arith, c.refuse.ensures.used)))
    (λ stands. rest-long old.head_only old.part kept.part c.args.piece.now old.reply kept.reply grown.0)

pub returns-in-Some-clause-read : goal.returns-in-Some-clause-read
returns-in-Some-clause-read c =
    let grown = rw c.in-Some.is at c.in_ok-grow_body.ensures.grown in
    let old = reading_of c.args.self.now in
    let kept = reading_of c.grow_body.new.self in
    let all : take c.in-Some.field-0 c.args.piece.now ≡ c.args.piece.now = take_all _ c.args.piece.now (omega (arith, grown.0)) in
    move-at old _ _ c.args.piece.now phase.Rest phase.Rest kept.part kept.reply
    c.requires.phase (head_only-kept c.args.self.now c.grow_body.new.self c.in_ok-grow_body.ensures.same) (ap (λ (s : State). s.phase) c.in_ok-grow_body.ensures.same ∙ c.requires.phase) refl refl
    (take_all _ c.args.piece.now (omega arith))
    (λ stands. rest-more old.head_only old.part kept.part c.args.piece.now old.reply kept.reply stands (omega (arith, grown.0, grown.1))
    (reply-grown c.args.self.now c.grow_body.new.self c.args.piece.now c.in_ok-grow_body.ensures.same (grown.2 ∙ ap (λ x. c.args.self.now.body.items ++ x) all)))
