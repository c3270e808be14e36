use Rattle.std.proofs.Common.{◌≡◌, ◌≤◌, ◌<◌, ◌+◌, ◌-◌, ◌++◌, length, take, [], sym, ap, subst, refl, ◌∙◌, arith, length-append, List, ℕ, ◌==◌, nat_lt, cond}
use Rattle.std.proofs.lemmas.List.{take_all, length-take-le, append-nil}
use Rattle.std.proofs.lemmas.Bool.Decides.{nat_tests}
use Rattle.httparse.specs.Grammar.{HasNoChunkLine, NeverHasChunkLine, MayBecomeChunkLine}
use Rattle.httparse.specs.Spans.{IsChunkLineAt}
use Rattle.jm_base.specs.declared.types.Wire.TheVariants.{BadChunk}
use Rattle.http_text.specs.declared.state.State.{State}
use Rattle.http_text.specs.declared.state.Phase.TheVariants as phase
use Rattle.http_lines.specs.SectionEnds.{before_trailer}
use Rattle.http_text.specs.ResponseReading.{reading_of}
use Rattle.http_text.proofs.Moves.{move-at, stands-at}
use Rattle.http_text.specs.SizeLines.{is_known}
use Rattle.http_text.proofs.BodyMoves.{line-open, line-known, line-whole, line-past, line-within, line-bad, line-long, never-none}
use Rattle.http_text.proofs.SizeLaws.{both-true}
use Rattle.http_text.proofs.state.State.take_line.Goals as goal

pub returns-then-is_open-clause-moved : goal.returns-then-is_open-clause-moved
returns-then-is_open-clause-moved c =
    let both = both-true (nat_lt c.min-count.result c.saturating_sub-room.result) (is_known c.after-scan.result) (sym c.is_open.ensures ∙ c.if-is_open.true) in
    let fits : c.min-count.result < c.saturating_sub-room.result = grind (arith, nat_tests, both.0) in
    λ _. omega (arith, c.min-count.ensures, c.line_len.ensures, fits)

pub returns-then-is_open-clause-read : goal.returns-then-is_open-clause-read
returns-then-is_open-clause-read c =
    let old = reading_of c.args.self.now in
    let kept = reading_of c.add_to_part.new.self in
    let both = both-true (nat_lt c.min-count.result c.saturating_sub-room.result) (is_known c.after-scan.result) (sym c.is_open.ensures ∙ c.if-is_open.true) in
    let fits : c.min-count.result < c.saturating_sub-room.result = grind (arith, nat_tests, both.0) in
    let count : c.min-count.result ≤ length c.args.piece.now = omega (arith, c.min-count.ensures, c.line_len.ensures) in
    let whole = ap length c.in_ok-add_to_part.ensures.items ∙ length-append old.part (take c.min-count.result c.args.piece.now) in
    move-at old _ _ (take c.min-count.result c.args.piece.now) (phase.SizeLine c.args.scan) (phase.SizeLine c.after-scan.result) kept.part old.reply
    c.requires.phase (ap (λ (s : State). s.head_only) c.in_ok-add_to_part.ensures.same) refl refl
    (ap (λ (s : State). (reading_of s).reply) c.in_ok-add_to_part.ensures.same) refl
    (λ stands.
    let short : length old.part < 65536 = stands.0 in
    line-known old.head_only c.args.scan c.after-scan.result old.part kept.part (take c.min-count.result c.args.piece.now) old.reply stands c.in_ok-add_to_part.ensures.items
    (omega (arith, c.saturating_sub-room.ensures, c.len-before.ensures, whole, length-take-le c.min-count.result c.args.piece.now count, fits, short))
    c.after-scan.ensures both.1)

pub returns-in-Ok-Partial-clause-read : goal.returns-in-Ok-Partial-clause-read
returns-in-Ok-Partial-clause-read c =
    let old = reading_of c.args.self.now in
    let kept = reading_of c.add_to_part.new.self in
    let none = rw c.in-Ok-Partial.field-0-is at c.in-Ok-Partial.ensures.partial in
    let may = rw c.in-Ok-Partial.field-0-is at c.in-Ok-Partial.ensures.unfinished in
    let count : c.min-count.result ≤ length c.args.piece.now = omega (arith, c.min-count.ensures, c.line_len.ensures) in
    let whole = ap length c.in_ok-add_to_part.ensures.items ∙ length-append old.part (take c.min-count.result c.args.piece.now) in
    move-at old _ _ (take c.min-count.result c.args.piece.now) (phase.SizeLine c.args.scan) (phase.SizeLine c.after-scan.result) kept.part old.reply
    c.requires.phase (ap (λ (s : State). s.head_only) c.in_ok-add_to_part.ensures.same) refl refl
    (ap (λ (s : State). (reading_of s).reply) c.in_ok-add_to_part.ensures.same) refl
    (λ stands.
    let short : length old.part < 65536 = stands.0 in
    line-open old.head_only c.args.scan c.after-scan.result old.part kept.part (take c.min-count.result c.args.piece.now) old.reply stands c.in_ok-add_to_part.ensures.items
    (omega (arith, c.if-count-room.true, c.saturating_sub-room.ensures, c.len-before.ensures, whole, length-take-le c.min-count.result c.args.piece.now count, short))
    (subst HasNoChunkLine c.deref.ensures.value none) (subst MayBecomeChunkLine c.deref.ensures.value may) c.after-scan.ensures)

pub returns-in-Ok-Complete-clause-used : goal.returns-in-Ok-Complete-clause-used
returns-in-Ok-Complete-clause-used c =
    let old = reading_of c.args.self.now in
    let text = c.deref.ensures.value ∙ c.in_ok-add_to_part.ensures.items in
    let line = rw c.in-Ok-Complete.field-0-is at c.in-Ok-Complete.ensures.complete in
    let within = line-within c.deref.result.now _ _ line.0 line.1 in
    let count : c.min-count.result ≤ length c.args.piece.now = omega (arith, c.min-count.ensures, c.line_len.ensures) in
    let whole = ap length text ∙ length-append old.part (take c.min-count.result c.args.piece.now) in
    omega (arith, c.saturating_sub.ensures, c.len-before.ensures, within, whole, count, length-take-le c.min-count.result c.args.piece.now count)

pub returns-in-Ok-Complete-clause-moved : goal.returns-in-Ok-Complete-clause-moved
returns-in-Ok-Complete-clause-moved c =
    let old = reading_of c.args.self.now in
    let text = c.deref.ensures.value ∙ c.in_ok-add_to_part.ensures.items in
    let line = rw c.in-Ok-Complete.field-0-is at c.in-Ok-Complete.ensures.complete in
    λ stands.
    let at = stands-at old (phase.SizeLine c.args.scan) c.requires.phase stands in
    let past = line-past old.part (take c.min-count.result c.args.piece.now) _ _ line.0 at.1 (subst (λ t. IsChunkLineAt t c.in-Ok-Complete.len c.in-Ok-Complete.size line.0) text line.1) in
    omega (arith, c.saturating_sub.ensures, c.len-before.ensures, past)

pub returns-in-Ok-Complete-clause-read : goal.returns-in-Ok-Complete-clause-read
returns-in-Ok-Complete-clause-read c =
    let old = reading_of c.args.self.now in
    let text = c.deref.ensures.value ∙ c.in_ok-add_to_part.ensures.items in
    let line = rw c.in-Ok-Complete.field-0-is at c.in-Ok-Complete.ensures.complete in
    let count : c.min-count.result ≤ length c.args.piece.now = omega (arith, c.min-count.ensures, c.line_len.ensures) in
    let whole = ap length text ∙ length-append old.part (take c.min-count.result c.args.piece.now) in
    move-at old _ _ (take c.saturating_sub.result c.args.piece.now) (phase.SizeLine c.args.scan)
    (cond (c.in-Ok-Complete.size == 0) (phase.Trailer before_trailer) (phase.Chunk c.in-Ok-Complete.size)) c.clear.new.self.items old.reply
    c.requires.phase (ap (λ (s : State). s.head_only) c.in_ok-add_to_part.ensures.same) c.place_after_size-self.ensures refl (ap (λ (s : State). (reading_of s).reply) c.in_ok-add_to_part.ensures.same) refl
    (λ stands.
    let short : length old.part < 65536 = stands.0 in
    let past = line-past old.part (take c.min-count.result c.args.piece.now) _ _ line.0 stands.1 (subst (λ t. IsChunkLineAt t c.in-Ok-Complete.len c.in-Ok-Complete.size line.0) text line.1) in
    line-whole old.head_only c.args.scan old.part c.clear.new.self.items c.args.piece.now c.deref.result.now c.min-count.result c.in-Ok-Complete.len c.saturating_sub.result c.in-Ok-Complete.size old.reply
    line.0 stands text count
    (omega (arith, c.min-count.ensures, c.saturating_sub-room.ensures, c.len-before.ensures, whole, length-take-le c.min-count.result c.args.piece.now count, short))
    line.1 (omega (arith, c.saturating_sub.ensures, c.len-before.ensures, past)) c.clear.ensures.items)

pub returns-in-Err-clause-read : goal.returns-in-Err-clause-read
returns-in-Err-clause-read c =
    let old = reading_of c.args.self.now in
    let kept = reading_of c.add_to_part.new.self in
    let text = c.deref.ensures.value ∙ c.in_ok-add_to_part.ensures.items in
    let count : c.min-count.result ≤ length c.args.piece.now = omega (arith, c.min-count.ensures, c.line_len.ensures) in
    let whole = ap length text ∙ length-append old.part (take c.min-count.result c.args.piece.now) in
    move-at old _ _ c.args.piece.now (phase.SizeLine c.args.scan) (phase.Refused BadChunk) kept.part old.reply
    c.requires.phase (ap (λ (s : State). s.head_only) c.refuse-in-Err.ensures.state ∙ ap (λ (s : State). s.head_only) c.in_ok-add_to_part.ensures.same)
    (ap (λ (s : State). s.phase) c.refuse-in-Err.ensures.state) (ap (λ (s : State). s.part.items) c.refuse-in-Err.ensures.state)
    (ap (λ (s : State). (reading_of s).reply) c.refuse-in-Err.ensures.state ∙ ap (λ (s : State). (reading_of s).reply) c.in_ok-add_to_part.ensures.same)
    (take_all _ c.args.piece.now (omega (arith, c.refuse-in-Err.ensures.used)))
    (λ stands.
    let short : length old.part < 65536 = stands.0 in
    line-bad old.head_only c.args.scan old.part kept.part c.args.piece.now c.min-count.result old.reply c.deref.result.now text
    (omega (arith, c.if-count-room-2.true, c.saturating_sub-room.ensures, c.len-before.ensures, whole, length-take-le c.min-count.result c.args.piece.now count, short))
    c.in-Err.ensures.invalid)

pub returns-in-Ok-Partial-2-clause-read : goal.returns-in-Ok-Partial-2-clause-read
returns-in-Ok-Partial-2-clause-read c =
    let old = reading_of c.args.self.now in
    let kept = reading_of c.add_to_part.new.self in
    let text = c.deref-in-Ok-Partial-2.ensures.value ∙ c.in_ok-add_to_part.ensures.items in
    let count : c.min-count.result ≤ length c.args.piece.now = omega (arith, c.min-count.ensures, c.line_len.ensures) in
    let whole = ap length text ∙ length-append old.part (take c.min-count.result c.args.piece.now) in
    let none = rw c.in-Ok-Partial.field-0-is at c.in-Ok-Partial.ensures.partial in
    move-at old _ _ c.args.piece.now (phase.SizeLine c.args.scan) (phase.Refused c.long_line-wire.result) kept.part old.reply
    c.requires.phase (ap (λ (s : State). s.head_only) c.refuse.ensures.state ∙ ap (λ (s : State). s.head_only) c.in_ok-add_to_part.ensures.same)
    (ap (λ (s : State). s.phase) c.refuse.ensures.state) (ap (λ (s : State). s.part.items) c.refuse.ensures.state)
    (ap (λ (s : State). (reading_of s).reply) c.refuse.ensures.state ∙ ap (λ (s : State). (reading_of s).reply) c.in_ok-add_to_part.ensures.same)
    (take_all _ c.args.piece.now (omega (arith, c.refuse.ensures.used)))
    (λ stands.
    let short : length old.part < 65536 = stands.0 in
    line-long old.head_only c.args.scan old.part kept.part c.args.piece.now c.min-count.result old.reply c.deref-in-Ok-Partial-2.result.now c.long_line-wire.result text
    (omega (arith, c.if-count-room.false, c.min-count.ensures, c.saturating_sub-room.ensures, c.len-before.ensures, whole, length-take-le c.min-count.result c.args.piece.now count, short))
    (subst HasNoChunkLine (c.deref.ensures.value ∙ sym c.deref-in-Ok-Partial-2.ensures.value) none) c.long_line-wire.ensures.bad c.long_line-wire.ensures.long c.long_line-wire.ensures.may)

pub returns-in-Err-2-clause-read : goal.returns-in-Err-2-clause-read
returns-in-Err-2-clause-read c =
    let old = reading_of c.args.self.now in
    let kept = reading_of c.add_to_part.new.self in
    let text = c.deref-in-Err-2.ensures.value ∙ c.in_ok-add_to_part.ensures.items in
    let count : c.min-count.result ≤ length c.args.piece.now = omega (arith, c.min-count.ensures, c.line_len.ensures) in
    let whole = ap length text ∙ length-append old.part (take c.min-count.result c.args.piece.now) in
    let none : HasNoChunkLine c.deref.result.now = never-none c.deref.result.now c.in-Err.ensures.invalid in
    move-at old _ _ c.args.piece.now (phase.SizeLine c.args.scan) (phase.Refused c.long_line-wire-in-Err-2.result) kept.part old.reply
    c.requires.phase (ap (λ (s : State). s.head_only) c.refuse-in-Err-2.ensures.state ∙ ap (λ (s : State). s.head_only) c.in_ok-add_to_part.ensures.same)
    (ap (λ (s : State). s.phase) c.refuse-in-Err-2.ensures.state) (ap (λ (s : State). s.part.items) c.refuse-in-Err-2.ensures.state)
    (ap (λ (s : State). (reading_of s).reply) c.refuse-in-Err-2.ensures.state ∙ ap (λ (s : State). (reading_of s).reply) c.in_ok-add_to_part.ensures.same)
    (take_all _ c.args.piece.now (omega (arith, c.refuse-in-Err-2.ensures.used)))
    (λ stands.
    let short : length old.part < 65536 = stands.0 in
    line-long old.head_only c.args.scan old.part kept.part c.args.piece.now c.min-count.result old.reply c.deref-in-Err-2.result.now c.long_line-wire-in-Err-2.result text
    (omega (arith, c.if-count-room-2.false, c.min-count.ensures, c.saturating_sub-room.ensures, c.len-before.ensures, whole, length-take-le c.min-count.result c.args.piece.now count, short))
    (subst HasNoChunkLine (c.deref.ensures.value ∙ sym c.deref-in-Err-2.ensures.value) none) c.long_line-wire-in-Err-2.ensures.bad c.long_line-wire-in-Err-2.ensures.long c.long_line-wire-in-Err-2.ensures.may)
