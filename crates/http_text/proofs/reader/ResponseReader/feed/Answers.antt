use Rattle.std.proofs.Common.{◌≡◌, ◌≤◌, ◌-◌, length, drop, take, sym, ◌∙◌, arith, true, false, subst}
use Rattle.std.proofs.lemmas.List.{length-take, length-drop}
use Rattle.http_text.specs.ResponseReading.{reading_of, IsReading, HasAnswered}
use Rattle.http_text.proofs.ReadingLaws.{advances-on, answered, read-more}
use Rattle.http_text.proofs.reader.ResponseReader.feed.Goals.{then-loop-at-test+else-is_reading, else-loop-at-test}
use Rattle.http_text.proofs.reader.ResponseReader.feed.Goals as goal

pub loop-at-preserved : goal.loop-at-preserved
loop-at-preserved c = record {
  within = omega (arith, c.advance-at.ensures.used.1, c.loop-at.invariant.within, length-take (length c.args.piece.now - c.loop-at.at) (drop c.loop-at.at c.args.piece.now), length-drop c.loop-at.at c.args.piece.now);
  same = c.advance-at.ensures.head_only ∙ c.loop-at.invariant.same;
  read = λ stands.
      let before = c.loop-at.invariant.read stands in
      advances-on _ _ _ c.args.piece.now c.loop-at.at c.advance-at.result c.loop-at.invariant.within before (c.advance-at.ensures.read before.stands);
  over = λ no_reading. absurd (no_reading (subst (λ r. IsReading r.phase) (c.loop-at.invariant.over no_reading) (c.is_reading.ensures.0 c.if-is_reading.true)));
  still = λ no_reading. absurd (no_reading (subst (λ r. IsReading r.phase) (c.loop-at.invariant.over no_reading) (c.is_reading.ensures.0 c.if-is_reading.true)));
}

pub returns-clause-answer : goal.returns-clause-answer
returns-clause-answer c = λ bytes read.
    let r = reading_of c.loop-at.self-inside.state in
    let all : IsReading r.phase → length c.args.piece.now ≤ c.loop-at.at = λ reads. elim c.loop-at-test.branch [
      | then-loop-at-test+else-is_reading w ↦ let e : false ≡ true = sym w.if-is_reading.false ∙ w.is_reading.ensures.1 reads in cc
      | else-loop-at-test w ↦ omega (arith, w.loop-at-test.false)
    ] in
    subst (HasAnswered r bytes c.args.piece.now) (sym c.answer.ensures)
    (answered r.head_only r.phase r.part r.reply bytes c.args.piece.now c.loop-at.at
    (read-more c.args.self.now r bytes (take c.loop-at.at c.args.piece.now) read (c.loop-at.invariant.read read.stands)) c.loop-at.invariant.within all)
