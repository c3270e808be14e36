use Rattle.std.proofs.Common.{rules, map, [], ◌∷◌, decimal}
use Rattle.output_lines.specs.Lines.{truth}
use Rattle.output_lines.proofs.NumberRows.{last_row}
use Rattle.output_lines.proofs.middle_rows.write_middle.Goals as goal

pub returns-clause-row : goal.returns-clause-row
returns-clause-row c =
    let s = c.args.sample.now in
    last_row c.args.label.now (decimal s.code) (s.message ∷ c.args.name.now ∷ truth s.ok ∷ s.failure ∷ []) (map (λ f. f.now) c.fields.result) _ _ _ _ _
    c.text-start.ensures c.text.ensures c.in_ok-push_or_renew.ensures.ok (search rules) c.in_ok-write_row.ensures
