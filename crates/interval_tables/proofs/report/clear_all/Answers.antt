use Rattle.std.proofs.Common.{◌≡◌, ◌∷◌, ◌++◌, [], List, ℕ, length, take, sym, ap, ◌∙◌, arith}
use Rattle.std.proofs.lemmas.List.{take_more_set}
use Rattle.std.proofs.Math.Seq.{take-length}
use Rattle.interval_tables.specs.declared.row.Row.{Row}
use Rattle.interval_tables.specs.Rows.{sum_of, no_samples}
use Rattle.interval_tables.proofs.Sums.{sum_of_next}
use Rattle.interval_tables.proofs.report.clear_all.Goals as goal

pub loop-label-preserved : goal.loop-label-preserved
loop-label-preserved c = take_more_set c.loop-label.rows c.loop-label.label no_samples (omega arith) ∙ ap (λ (l : List Row). l ++ no_samples ∷ []) c.loop-label.invariant ∙ sym (sum_of_next c.loop-label.label [])

pub returns : goal.returns
returns c =
    let whole : c.loop-label.label ≡ length c.loop-label.rows = omega arith in let long : length c.loop-label.rows ≡ length c.args.rows.now = omega arith in
    sym (take-length c.loop-label.rows) ∙ ap (λ (k : ℕ). take k c.loop-label.rows) (sym whole) ∙ c.loop-label.invariant ∙ ap (λ (k : ℕ). sum_of k []) (whole ∙ long)
