use Rattle.std.proofs.Common.{◌≡◌, ◌<◌, ◌≤◌, ◌+◌, ◌-◌, ◌++◌, length, take, [], sym, ap, subst, refl, ◌∙◌, arith}
use Rattle.std.proofs.lemmas.List.{take_all}
use Rattle.jm_base.specs.declared.types.Wire.TheVariants.{TooLong}
use Rattle.http_text.specs.declared.state.State.{State}
use Rattle.http_text.specs.declared.state.Phase.TheVariants as phase
use Rattle.http_lines.specs.SectionEnds.{section_end, EndsPast}
use Rattle.http_text.specs.ResponseReading.{reading_of, Advances}
use Rattle.http_text.proofs.Moves.{move-at, from-at, head-open, head-long, head-ends}
use Rattle.http_text.proofs.state.State.take_head.Goals as goal

pub returns-in-Open-clause-read : goal.returns-in-Open-clause-read
returns-in-Open-clause-read c =
    let grown = rw c.in-Open.is at c.in_ok-used.ensures.grown in
    let old = reading_of c.args.self.now in
    move-at old _ _ c.args.piece.now (phase.Head c.args.passed c.args.scan) (phase.Head c.args.passed c.in-Open.scan) (old.part ++ c.args.piece.now) old.reply
    c.requires.phase (ap (λ (s : State). s.head_only) c.in_ok-used.ensures.same) refl grown.3 (ap (λ (s : State). (reading_of s).reply) c.in_ok-used.ensures.same)
    (take_all _ c.args.piece.now (omega arith))
    (λ stands. head-open old.head_only c.args.passed c.args.scan c.in-Open.scan old.part c.args.piece.now old.reply stands grown.0
    (let below : c.args.passed + length old.part < 65536 = stands.2 in omega (arith, c.saturating_add.ensures, c.saturating_sub-room.ensures, c.len.ensures, grown.1, below)) grown.2)

pub returns-in-Long-clause-read : goal.returns-in-Long-clause-read
returns-in-Long-clause-read c =
    let grown = rw c.in-Long.is at c.in_ok-used.ensures.grown in
    let old = reading_of c.args.self.now in
    let kept = reading_of c.grow.new.self in
    move-at old _ _ c.args.piece.now (phase.Head c.args.passed c.args.scan) (phase.Refused TooLong) kept.part old.reply
    c.requires.phase (ap (λ (s : State). s.head_only) c.refuse.ensures.state ∙ ap (λ (s : State). s.head_only) c.in_ok-used.ensures.same) (ap (λ (s : State). s.phase) c.refuse.ensures.state)
    (ap (λ (s : State). s.part.items) c.refuse.ensures.state)
    (ap (λ (s : State). (reading_of s).reply) c.refuse.ensures.state ∙ ap (λ (s : State). (reading_of s).reply) c.in_ok-used.ensures.same)
    (take_all _ c.args.piece.now (omega (arith, c.refuse.ensures.used)))
    (λ stands.
    let below : c.args.passed + length old.part < 65536 = stands.2 in
    let room : c.saturating_sub-room.result ≡ 65536 - (c.args.passed + length old.part) = omega (arith, c.saturating_add.ensures, c.saturating_sub-room.ensures, c.len.ensures, below) in
    head-long old.head_only c.args.passed c.args.scan old.part c.args.piece.now kept.part old.reply stands
    (subst (λ n. n ≤ length c.args.piece.now) room grown.0) (subst (λ n. EndsPast n (section_end c.args.scan c.args.piece.now)) room grown.1))

pub returns-in_ok-end_head-in-Whole-clause-read : goal.returns-in_ok-end_head-in-Whole-clause-read
returns-in_ok-end_head-in-Whole-clause-read c =
    let grown = rw c.in-Whole.is at c.in_ok-used.ensures.grown in
    let old = reading_of c.args.self.now in
    let same : c.grow.new.self.head_only ≡ old.head_only = ap (λ (s : State). s.head_only) c.in_ok-used.ensures.same in
    let body : c.grow.new.self.body.items ≡ old.reply.body = ap (λ (s : State). s.body.items) c.in_ok-used.ensures.same in
    let lead = rw (grown.4, body, same) at c.in_ok-end_head-in-Whole.ensures.read in
    from-at old _ _ (phase.Head c.args.passed c.args.scan) c.requires.phase
    (λ stands.
    let below : c.args.passed + length old.part < 65536 = stands.2 in
    head-ends old.head_only c.args.passed c.args.scan old.part c.args.piece.now c.in-Whole.used old.reply (reading_of c.end_head.new.self) stands grown.0
    (omega (arith, c.saturating_add.ensures, c.saturating_sub-room.ensures, c.len.ensures, grown.1, below)) (c.in_ok-end_head-in-Whole.ensures.head_only ∙ same) lead)
