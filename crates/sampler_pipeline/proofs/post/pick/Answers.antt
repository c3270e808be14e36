use Rattle.std.proofs.Common.{◌≡◌, sym, ap, ◌∙◌}
use Rattle.std.specs.Prelude.{pos}
use Rattle.std.proofs.lemmas.Int.{to_z-of_z}
use mir.Val.{to_z, of_z, SFits}
use mir.Syntax.{w32}
use Rattle.var_functions.proofs.LaterLaws.{later_same, later_draw}
use Rattle.sampler_pipeline.proofs.StageLaws.{picked, not-picked}
use Rattle.sampler_pipeline.proofs.post.pick.Goals as goal

pub returns-then-match_number-eq0-clause-came : goal.returns-then-match_number-eq0-clause-came
returns-then-match_number-eq0-clause-came c =
    let fits : SFits w32 c.args.match_number = record { sfits = c.ranges.match_number.sfits } in
    let none : c.args.match_number ≡ pos 0 = sym (to_z-of_z w32 c.args.match_number fits) ∙ ap (to_z w32) c.if-match_number-eq0.true in
    λ a. rw c.draw.ensures.after (picked a c.args.match_number c.args.state.now _ none c.draw.ensures.word)

pub returns-else-match_number-eq0-clause-came : goal.returns-else-match_number-eq0-clause-came
returns-else-match_number-eq0-clause-came c = λ a. not-picked a c.args.match_number c.args.state.now (λ none. c.if-match_number-eq0.false (ap (of_z w32) none))

pub returns-then-match_number-eq0-clause-later : goal.returns-then-match_number-eq0-clause-later
returns-then-match_number-eq0-clause-later c = later_draw c.args.state.now.fns c.draw.new.self c.draw.ensures.after

pub returns-else-match_number-eq0-clause-later : goal.returns-else-match_number-eq0-clause-later
returns-else-match_number-eq0-clause-later c = later_same _
