use Rattle.std.proofs.Common.{◌≡◌}
use Rattle.std.specs.Prelude.{drop}
use Rattle.element_props.specs.ChoiceTexts.{named}
use Rattle.element_props.proofs.choice.choice_of.Given as goal

-- the choices that are left find the same
abbrev pub invariant-loop-choice : goal.invariant-loop-choice
invariant-loop-choice g l = named g.C.Choice.word (drop l.choice-index l.choice-items) l.text ≡ named g.C.Choice.word l.choice-items l.text
