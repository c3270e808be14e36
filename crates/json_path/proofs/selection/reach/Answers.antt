use Rattle.std.proofs.Common.{ap, sym, ◌∙◌, drop, ◌+◌}
use Rattle.std.specs.List.{flat_map}
use Rattle.std.proofs.lemmas.List.{drop_all}
use Rattle.json_path.specs.Selection.{step_values, reached}
use Rattle.json_path.specs.JsonViews.{data_of}
use Rattle.json_path.proofs.SelectionLaws.{step_on, no_step_on, first_step}
use Rattle.json_path.proofs.selection.reach.Goals as goal

pub loop-step-preserved : goal.loop-step-preserved
loop-step-preserved c =
    let steps = c.args.steps.now in
    let i = c.loop-step.step-index in
    let prefix = first_step steps i c.step-item.result c.loop-step-test.true c.step-item.is in
    ap (flat_map (reached (drop (i + 1) steps))) (c.in_ok-values.ensures ∙ ap (λ x. flat_map (step_values c.step-item.result) (data_of x)) c.as_slice.ensures.value)
    ∙ step_on c.step-item.result (drop (i + 1) steps) (data_of c.loop-step.values.items)
    ∙ ap (λ x. flat_map (reached x) (data_of c.loop-step.values.items)) (sym prefix) ∙ c.loop-step.invariant

pub returns : goal.returns
returns c =
    sym (no_step_on (data_of c.loop-step.values.items))
    ∙ ap (λ x. flat_map (reached x) (data_of c.loop-step.values.items)) (sym (drop_all c.loop-step.step-index c.args.steps.now c.loop-step-test.false)) ∙ c.loop-step.invariant
