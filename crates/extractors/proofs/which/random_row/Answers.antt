use Rattle.std.proofs.Common.{◌≡◌, ◌%◌, ◌∙◌, length, sym, ap, arith}
use Rattle.std.specs.Prelude.{slice_get}
use Rattle.std.proofs.lemmas.Option.{slice_get_past}
use Rattle.reply_search.specs.Found.{matches_of}
use Rattle.extractors.proofs.which.random_row.Goals as goal

pub returns-then-count-eq0 : goal.returns-then-count-eq0
returns-then-count-eq0 c =
    let ms = matches_of c.args.x.now.pattern c.args.text.now in
    let none : length ms ≡ 0 = sym c.in_ok-count.ensures ∙ c.if-count-eq0.true in
    sym (slice_get_past ms (c.args.pick % length ms) (omega (arith, none)))

pub returns : goal.returns
returns c =
    let ms = matches_of c.args.x.now.pattern c.args.text.now in
    c.in_ok-row.ensures ∙ ap (λ n. slice_get ms (c.args.pick % n)) c.in_ok-count.ensures
