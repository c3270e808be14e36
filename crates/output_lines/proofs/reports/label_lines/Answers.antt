use Rattle.std.proofs.Common.{◌≡◌, ◌<◌, ◌++◌, ◌∙◌, length, get_or, map, ap, arith}
use Rattle.element_tree.specs.Names.{labels_of}
use Rattle.interval_tables.specs.Rows.{no_samples}
use Rattle.output_lines.specs.Reports.{row_line}
use Rattle.output_lines.proofs.Labels.{next_line, no_line, all_lines}
use Rattle.output_lines.proofs.reports.label_lines.Goals.{then-row-gt0+in_ok-row_line, else-row-gt0}
use Rattle.output_lines.proofs.reports.label_lines.Goals as goal

pub loop-label-preserved : goal.loop-label-preserved
loop-label-preserved c =
    let line = row_line (map (λ f. f.now) c.args.prefix.now) in
    let names = labels_of c.args.plan.now.elements in
    let rows = c.args.rows.now in
    let low : c.loop-label.label < length rows = omega (arith, c.loop-label-test.true, c.labels-label-end.ensures, c.requires) in
    let row = get_or rows c.from.result no_samples in
    let here : row ≡ get_or rows c.loop-label.label no_samples = ap (λ i. get_or rows i no_samples) c.from.ensures in
    elim c.if-row-gt0.branch [
      | then-row-gt0+in_ok-row_line w ↦ ap (λ o. o.items) w.out-is ∙ next_line line names rows c.requires c.args.out.now.items c.loop-label.out.items _ c.loop-label.label w.label_text-name.result.now row low w.label_text-name.ensures here w.if-row-gt0.true c.loop-label.invariant
          (w.in_ok-row_line.ensures ∙ ap (λ name. c.loop-label.out.items ++ line (name, row)) w.bytes.ensures)
      | else-row-gt0 w ↦ ap (λ o. o.items) w.out-is ∙ no_line line names rows c.requires c.args.out.now.items c.loop-label.out.items c.loop-label.label row low here w.if-row-gt0.false c.loop-label.invariant
    ]

pub returns : goal.returns
returns c = all_lines (row_line (map (λ f. f.now) c.args.prefix.now)) (labels_of c.args.plan.now.elements) c.args.rows.now c.requires c.args.out.now.items c.loop-label.out.items c.loop-label.label
    (omega (arith, c.loop-label-test.false, c.labels-label-end.ensures)) c.loop-label.invariant
