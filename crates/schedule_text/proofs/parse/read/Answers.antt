use Rattle.std.proofs.Common.{Err, ◌≡◌, ◌+◌, ◌<◌, ℕ, List, [], ◌∷◌, length, get_or, drop, arith, ap, ◌∙◌, sym}
use Rattle.std.proofs.lemmas.List.{drop_more, drop_all}
use Rattle.schedule_text.specs.Reading.{after_given, run, reading_of}
use Rattle.schedule_text.proofs.ReadLaws.{read_on, read_off, read_open, read_end}
use Rattle.schedule_text.proofs.parse.read.Goals as goal

pub returns-in_default : goal.returns-in_default
returns-in_default c =
    let i = c.loop-at.at in
    let text = c.args.text.now in
    let within : i < length text = omega (arith, c.loop-at-test.true) in
    read_off text c.loop-at.tokens.items c.loop-at.place i (get_or text i 0) c.mark_of-mark.result (drop (i + 1) text)
    (c.loop-at.invariant.reads ∙ ap (λ l. after_given c.loop-at.tokens.items (run c.loop-at.place i l)) (drop_more text i 0 within))
    c.mark_of-mark.ensures.mark (sym c.in_default.is ∙ c.after.ensures.next)

pub loop-at-preserved : goal.loop-at-preserved
loop-at-preserved c =
    let i = c.loop-at.at in
    let text = c.args.text.now in
    let within : i < length text = omega (arith, c.loop-at-test.true) in
    record {
      within = omega (arith, within);
      low = c.in-Some.ensures.low;
      reads = read_on text c.loop-at.tokens.items c.push_ended.new.tokens.items c.loop-at.place c.in-Some.next i (get_or text i 0) c.mark_of-mark.result (drop (i + 1) text)
          (c.loop-at.invariant.reads ∙ ap (λ l. after_given c.loop-at.tokens.items (run c.loop-at.place i l)) (drop_more text i 0 within))
          c.mark_of-mark.ensures.mark (sym c.in-Some.is ∙ c.after.ensures.next) c.in_ok-push_ended.ensures;
    }

pub returns-then-not-may_end : goal.returns-then-not-may_end
returns-then-not-may_end c =
    let i = c.loop-at.at in
    let text = c.args.text.now in
    let all : i ≡ length text = omega (arith, c.loop-at-test.false, c.loop-at.invariant.within) in
    let left : drop i text ≡ [] = drop_all i text (omega (arith, all)) in
    read_open text c.loop-at.tokens.items c.loop-at.place i (c.loop-at.invariant.reads ∙ ap (λ l. after_given c.loop-at.tokens.items (run c.loop-at.place i l)) left)
    (sym c.may_end.ensures ∙ c.if-not-may_end.true) ∙ ap Err all

pub returns : goal.returns
returns c =
    let i = c.loop-at.at in
    let text = c.args.text.now in
    let all : i ≡ length text = omega (arith, c.loop-at-test.false, c.loop-at.invariant.within) in
    let left : drop i text ≡ [] = drop_all i text (omega (arith, all)) in
    read_end text c.loop-at.tokens.items c.push_token.new.tokens.items c.loop-at.place i (c.loop-at.invariant.reads ∙ ap (λ l. after_given c.loop-at.tokens.items (run c.loop-at.place i l)) left)
    (sym c.may_end.ensures ∙ c.if-not-may_end.false) c.in_ok-push_token.ensures
