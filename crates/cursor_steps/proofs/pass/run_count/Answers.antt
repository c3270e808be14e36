use Rattle.std.proofs.Common.{ap, sym, ◌∙◌}
use Rattle.std.specs.Prelude.{min}
use Rattle.std.proofs.lemmas.List.Sums.{length-filter}
use Rattle.cursor_steps.specs.RunningChildren.{is_run_at}
use Rattle.cursor_steps.proofs.pass.run_count.Goals as goal

pub returns : goal.returns
returns c =
    c.min.ensures ∙ ap (λ n. min n 65535) (c.count_runs.ensures ∙ sym (length-filter (is_run_at c.args.plan.now.elements) c.args.element.now.children))
