use Rattle.std.proofs.Common.{rules, ◌≡◌, ◌+◌, ◌*◌, ◌<◌, ◌++◌, ◌∷◌, [], ℕ, List, length, get_or, take, set, sym, ap, ◌∙◌, subst, arith, append_assoc, add-zero, length-set}
use Rattle.std.proofs.lemmas.List.{take_more_set}
use Rattle.std.proofs.Math.Seq.{take-length}
use Rattle.phaser_core.specs.declared.view.ReporterView.{ReporterView}
use Rattle.phaser_core.specs.Cells.{table_cells}
use Rattle.phaser_core.specs.Shares.{SumsOfStripes}
use Rattle.phaser_core.specs.CoreMoves.{gathered}
use Rattle.phaser_core.proofs.CellSteps.{cell_low}
use Rattle.phaser_words.specs.WordSeats.{reading, numbers}
use Rattle.recorder_core.proofs.Cellwise.{gathered_next, gathered_none, harvests_at, cell_left, sums_next, nothing_taken}
use Rattle.recorder_core.proofs.rows.take_cells.Goals as goal

pub loop-column-init : goal.loop-column-init
loop-column-init c =
    let r : ReporterView = reading c.args.seat.now in let labels = c.requires.seat.1 in
    let j : ℕ = 6 * (c.args.stripe * (numbers c.args.words.now).labels + c.args.label) in
    let b = cell_low (numbers c.args.words.now).labels c.args.stripe c.args.label 0 c.requires.stripe c.requires.label (omega arith) in
    let low : j < table_cells r.labels = omega arith in
    record {
      seated = c.requires.seat;
      long = search rules;
      far = nothing_taken r j c.requires.begun low;
      sums = λ h. absurd (omega arith);
    }

pub take-requires-clause-left : goal.take-requires-clause-left
take-requires-clause-left c =
    let r : ReporterView = reading c.args.seat.now in let n = c.loop-column.column in let labels = c.requires.seat.1 in
    let j : ℕ = 6 * (c.args.stripe * (numbers c.args.words.now).labels + c.args.label) in
    let b = cell_low (numbers c.args.words.now).labels c.args.stripe c.args.label n c.requires.stripe c.requires.label (omega arith) in
    cell_left (numbers c.args.words.now).labels (j + n) (reading c.loop-column.seat)
    (harvests_at r (reading c.loop-column.seat) (r.cells ++ take n c.loop-column.cells) (j + n) c.loop-column.invariant.far (omega arith)) b

pub loop-column-preserved : goal.loop-column-preserved
loop-column-preserved c =
    let r : ReporterView = reading c.args.seat.now in let n = c.loop-column.column in let cells = c.loop-column.cells in let x = c.take.result in
    let labels = c.requires.seat.1 in let j : ℕ = 6 * (c.args.stripe * (numbers c.args.words.now).labels + c.args.label) in
    let b = cell_low (numbers c.args.words.now).labels c.args.stripe c.args.label n c.requires.stripe c.requires.label (omega arith) in
    let low : j + n < table_cells r.labels = omega arith in
    let long = c.loop-column.invariant.long in
    let more = take_more_set cells n x (omega arith) in
    let list : (r.cells ++ take n cells) ++ x ∷ [] ≡ r.cells ++ take (n + 1) (set cells n x) = append_assoc r.cells (take n cells) (x ∷ []) ∙ ap (λ (l : List ℕ). r.cells ++ l) (sym more) in
    let far : (j + n) + 1 ≡ j + (n + 1) = omega arith in
    record {
      seated = c.take.ensures.seat;
      long = length-set cells n x ∙ long;
      far = c.take.ensures.taken ∙ gathered_next r (reading c.loop-column.seat) (r.cells ++ take n cells) (j + n) x c.loop-column.invariant.far low ∙ (λ i. gathered r (list i) (far i));
      sums = λ _. subst (λ (l : List ℕ). SumsOfStripes r.labels (length l) (λ i. get_or l i 0)) list (sums_next r (reading c.loop-column.seat) (r.cells ++ take n cells) (j + n) x c.loop-column.invariant.far low c.take.ensures.sums);
    }

pub returns-clause-taken : goal.returns-clause-taken
returns-clause-taken c =
    let r : ReporterView = reading c.args.seat.now in let cells = c.loop-column.cells in
    let j : ℕ = 6 * (c.args.stripe * (numbers c.args.words.now).labels + c.args.label) in
    let end : c.loop-column.column ≡ 6 = omega arith in let long = c.loop-column.invariant.long in
    let whole : take c.loop-column.column cells ≡ cells = ap (λ (k : ℕ). take k cells) (end ∙ sym long) ∙ take-length cells in
    c.loop-column.invariant.far ∙ (λ i. gathered r (r.cells ++ whole i) (j + end i))

pub returns-clause-sums : goal.returns-clause-sums
returns-clause-sums c =
    let r : ReporterView = reading c.args.seat.now in let cells = c.loop-column.cells in
    let end : c.loop-column.column ≡ 6 = omega arith in let long = c.loop-column.invariant.long in
    let whole : take c.loop-column.column cells ≡ cells = ap (λ (k : ℕ). take k cells) (end ∙ sym long) ∙ take-length cells in
    subst (λ (l : List ℕ). SumsOfStripes r.labels (length (r.cells ++ l)) (λ i. get_or (r.cells ++ l) i 0)) whole (c.loop-column.invariant.sums (omega arith))
