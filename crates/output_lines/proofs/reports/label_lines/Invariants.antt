use Rattle.std.proofs.Common.{◌≡◌, ◌++◌, map, take}
use Rattle.std.specs.List.{zip, filter, flat_map}
use Rattle.element_tree.specs.Names.{labels_of}
use Rattle.output_lines.specs.Reports.{has_samples, row_line}
use Rattle.output_lines.proofs.reports.label_lines.Given as goal

abbrev pub invariant-loop-label : goal.invariant-loop-label
invariant-loop-label l =
    l.out.items ≡ l.fn.out.items ++ flat_map (row_line (map (λ f. f.now) l.prefix)) (filter has_samples (take l.label (zip (labels_of l.plan.elements) l.rows)))
