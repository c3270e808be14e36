use Rattle.std.proofs.Common.{true, false, Some, sym, ◌∙◌, arith}
use Rattle.std.specs.Prelude.{codes}
use Rattle.choice_controllers.specs.SwitchController.{run_names}
use Rattle.choice_controllers.proofs.SwitchLaws.{count-names, named-within, picks-empty, picks-index, picks-named, picks-default}
use Rattle.choice_controllers.proofs.switch_cursor.picks.Goals as goal

pub returns-then-is_empty-clause-place : goal.returns-then-is_empty-clause-place
returns-then-is_empty-clause-place c =
    picks-empty c.args.text.now (run_names c.args.plan.now.elements c.args.element.now) c.args.children (c.requires ∙ count-names c.args.plan.now.elements c.args.element.now) c.if-children-eq0.false (sym c.is_empty.ensures ∙ c.if-is_empty.true)

pub returns-in-Some-clause-place : goal.returns-in-Some-clause-place
returns-in-Some-clause-place c =
    picks-index c.args.text.now (run_names c.args.plan.now.elements c.args.element.now) c.args.children c.in-Some.index _ (c.requires ∙ count-names c.args.plan.now.elements c.args.element.now) (omega (arith, c.requires)) c.if-children-eq0.false (sym c.is_empty.ensures ∙ c.if-is_empty.false)
    (sym c.in-Some.is ∙ c.decimal_number.ensures) c.index_among.ensures.among

pub returns-in-Some-place_named-clause-place : goal.returns-in-Some-place_named-clause-place
returns-in-Some-place_named-clause-place c =
    picks-named c.args.text.now (run_names c.args.plan.now.elements c.args.element.now) c.args.children c.in-Some-place_named.place (c.requires ∙ count-names c.args.plan.now.elements c.args.element.now) c.if-children-eq0.false (sym c.is_empty.ensures ∙ c.if-is_empty.false)
    (sym c.in_default.is ∙ c.decimal_number.ensures) (sym c.in-Some-place_named.is ∙ c.place_named.ensures)

pub returns-in-Some-place_named-clause-child : goal.returns-in-Some-place_named-clause-child
returns-in-Some-place_named-clause-child c =
    named-within false c.args.text.now (run_names c.args.plan.now.elements c.args.element.now) _ (Some c.in-Some-place_named.place) (count-names c.args.plan.now.elements c.args.element.now) (sym c.in-Some-place_named.is ∙ c.place_named.ensures)

pub returns-in-None-clause-place : goal.returns-in-None-clause-place
returns-in-None-clause-place c =
    picks-default c.args.text.now (run_names c.args.plan.now.elements c.args.element.now) c.args.children _ (c.requires ∙ count-names c.args.plan.now.elements c.args.element.now) c.if-children-eq0.false (sym c.is_empty.ensures ∙ c.if-is_empty.false)
    (sym c.in_default.is ∙ c.decimal_number.ensures) (sym c.in-None.is ∙ c.place_named.ensures) c.place_named-in-None.ensures

pub returns-in-None-clause-child : goal.returns-in-None-clause-child
returns-in-None-clause-child c =
    named-within true (codes "default") (run_names c.args.plan.now.elements c.args.element.now) _ c.place_named-in-None.result (count-names c.args.plan.now.elements c.args.element.now) c.place_named-in-None.ensures
