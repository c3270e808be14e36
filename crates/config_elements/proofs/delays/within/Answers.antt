use Rattle.var_functions.proofs.LaterLaws.{later_same, later_draw}
use Rattle.config_elements.proofs.DelayLaws.{none_within, drawn_within}
use Rattle.config_elements.proofs.delays.within.Goals as goal

pub returns-then-range-eq0-clause-came : goal.returns-then-range-eq0-clause-came
returns-then-range-eq0-clause-came c = λ a. none_within a c.args.state.now c.args.range c.if-range-eq0.true

pub returns-clause-came : goal.returns-clause-came
returns-clause-came c = λ a. rw (c.from.ensures, c.draw-word.ensures.after) (drawn_within a c.args.state.now c.args.range c.draw-word.result c.if-range-eq0.false c.draw-word.ensures.word)

pub returns-then-range-eq0-clause-later : goal.returns-then-range-eq0-clause-later
returns-then-range-eq0-clause-later c = later_same _

pub returns-clause-later : goal.returns-clause-later
returns-clause-later c = later_draw c.args.state.now.fns c.draw-word.new.self c.draw-word.ensures.after
