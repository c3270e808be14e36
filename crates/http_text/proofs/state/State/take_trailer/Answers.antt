use Rattle.std.proofs.Common.{◌≡◌, ◌<◌, ◌≤◌, ◌+◌, ◌-◌, ◌++◌, length, take, [], sym, ap, subst, refl, ◌∙◌, arith, true, false}
use Rattle.std.proofs.lemmas.List.{take_all}
use Rattle.jm_base.specs.declared.types.Wire.TheVariants.{TooLong, BadChunk}
use Rattle.http_text.specs.declared.state.State.{State}
use Rattle.http_text.specs.declared.state.Phase.TheVariants as phase
use Rattle.http_lines.specs.SectionEnds.{section_end, EndsPast}
use Rattle.http_text.specs.ResponseHeads.{IsSection}
use Rattle.http_text.specs.ResponseReading.{reading_of}
use Rattle.http_text.proofs.Moves.{move-at}
use Rattle.http_text.proofs.BodyMoves.{trailer-open, trailer-long, trailer-good, trailer-bad}
use Rattle.http_text.proofs.state.State.take_trailer.Goals as goal

pub returns-in-Open-clause-read : goal.returns-in-Open-clause-read
returns-in-Open-clause-read c =
    let grown = rw c.in-Open.is at c.in_ok-used.ensures.grown in
    let old = reading_of c.args.self.now in
    move-at old _ _ c.args.piece.now (phase.Trailer c.args.scan) (phase.Trailer c.in-Open.scan) (old.part ++ c.args.piece.now) old.reply
    c.requires.phase (ap (λ (s : State). s.head_only) c.in_ok-used.ensures.same) refl grown.3 (ap (λ (s : State). (reading_of s).reply) c.in_ok-used.ensures.same)
    (take_all _ c.args.piece.now (omega arith))
    (λ stands. trailer-open old.head_only c.args.scan c.in-Open.scan old.part c.args.piece.now old.reply stands grown.0
    (let below : length old.part < 65536 = stands.2 in omega (arith, c.saturating_sub-room.ensures, c.len.ensures, grown.1, below)) grown.2)

pub returns-in-Long-clause-read : goal.returns-in-Long-clause-read
returns-in-Long-clause-read c =
    let grown = rw c.in-Long.is at c.in_ok-used.ensures.grown in
    let old = reading_of c.args.self.now in
    let kept = reading_of c.grow.new.self in
    move-at old _ _ c.args.piece.now (phase.Trailer c.args.scan) (phase.Refused TooLong) kept.part old.reply
    c.requires.phase (ap (λ (s : State). s.head_only) c.refuse.ensures.state ∙ ap (λ (s : State). s.head_only) c.in_ok-used.ensures.same) (ap (λ (s : State). s.phase) c.refuse.ensures.state)
    (ap (λ (s : State). s.part.items) c.refuse.ensures.state)
    (ap (λ (s : State). (reading_of s).reply) c.refuse.ensures.state ∙ ap (λ (s : State). (reading_of s).reply) c.in_ok-used.ensures.same)
    (take_all _ c.args.piece.now (omega (arith, c.refuse.ensures.used)))
    (λ stands.
    let room : c.saturating_sub-room.result ≡ 65536 - length old.part = omega (arith, c.saturating_sub-room.ensures, c.len.ensures) in
    trailer-long old.head_only c.args.scan old.part c.args.piece.now kept.part old.reply stands
    (subst (λ n. n ≤ length c.args.piece.now) room grown.0) (subst (λ n. EndsPast n (section_end c.args.scan c.args.piece.now)) room grown.1))

pub returns-then-is_section-clause-read : goal.returns-then-is_section-clause-read
returns-then-is_section-clause-read c =
    let grown = rw c.in-Whole.is at c.in_ok-used.ensures.grown in
    let old = reading_of c.args.self.now in
    let kept = reading_of c.grow.new.self in
    let text = c.deref.ensures.value ∙ grown.4 in
    move-at old _ _ (take c.in-Whole.used c.args.piece.now) (phase.Trailer c.args.scan) phase.Done kept.part old.reply
    c.requires.phase (ap (λ (s : State). s.head_only) c.in_ok-used.ensures.same) refl refl (ap (λ (s : State). (reading_of s).reply) c.in_ok-used.ensures.same) refl
    (λ stands. trailer-good old.head_only c.args.scan old.part kept.part c.args.piece.now c.in-Whole.used old.reply stands grown.0
    (omega (arith, c.saturating_sub-room.ensures, c.len.ensures, grown.1)) grown.3 (subst IsSection text (c.is_section.ensures.0 c.if-is_section.true)))

pub returns-else-is_section-clause-read : goal.returns-else-is_section-clause-read
returns-else-is_section-clause-read c =
    let grown = rw c.in-Whole.is at c.in_ok-used.ensures.grown in
    let old = reading_of c.args.self.now in
    let kept = reading_of c.grow.new.self in
    let text = c.deref.ensures.value ∙ grown.4 in
    move-at old _ _ (take c.in-Whole.used c.args.piece.now) (phase.Trailer c.args.scan) (phase.Refused BadChunk) kept.part old.reply
    c.requires.phase (ap (λ (s : State). s.head_only) c.in_ok-used.ensures.same) refl refl (ap (λ (s : State). (reading_of s).reply) c.in_ok-used.ensures.same) refl
    (λ stands. trailer-bad old.head_only c.args.scan old.part kept.part c.args.piece.now c.in-Whole.used old.reply stands grown.0
    (omega (arith, c.saturating_sub-room.ensures, c.len.ensures, grown.1)) grown.3 (λ good. let t = c.is_section.ensures.1 (subst IsSection (sym text) good) in let e : false ≡ true = sym c.if-is_section.false ∙ t in cc))
