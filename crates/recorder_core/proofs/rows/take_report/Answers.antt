use Rattle.std.proofs.Common.{◌≡◌, ◌+◌, ◌*◌, ◌<◌, [], ℕ, List, length, get_or, sym, refl, ap, ◌∙◌, subst, arith}
use Rattle.interval_tables.specs.declared.row.Row.{Row}
use Rattle.interval_tables.specs.Rows.{sum_of}
use Rattle.interval_tables.proofs.Sums.{length-sum_of}
use Rattle.phaser_core.specs.declared.view.ReporterView.{ReporterView}
use Rattle.phaser_core.specs.Cells.{table_cells, merged_to}
use Rattle.phaser_words.specs.WordSeats.{reading, numbers}
use Rattle.recorder_core.specs.Folds.{HasTaken}
use Rattle.recorder_core.proofs.Cellwise.{none_taken, stripe_below, taken_on, harvests_at, holds_cells, gathered_all}
use Rattle.recorder_core.proofs.rows.take_report.Goals as goal

pub loop-stripe-init : goal.loop-stripe-init
loop-stripe-init c =
    let labels = c.requires.rows.1 in let some = c.requires.rows.0 in
    record {
      seated = c.requires.seat;
      interval = refl;
      long = refl;
      taken = none_taken (numbers c.args.words.now).labels (reading c.args.seat.now) c.clear.new.self.rows (omega arith) c.requires.seat.1 c.requires.begun.0 c.requires.begun.1 (c.clear.ensures.rows ∙ ap (λ (k : ℕ). sum_of k []) labels);
    }

pub take_stripe-requires-clause-rows : goal.take_stripe-requires-clause-rows
take_stripe-requires-clause-rows c =
    let labels = c.requires.rows.1 in let some = c.requires.rows.0 in let long = c.loop-stripe.invariant.long in
    let cleared : length c.clear.new.self.rows ≡ length c.args.into.now.rows = ap (λ (rows : List Row). length rows) c.clear.ensures.rows ∙ length-sum_of (length c.args.into.now.rows) [] in
    (omega arith, omega arith)

pub take_stripe-requires-clause-begun : goal.take_stripe-requires-clause-begun
take_stripe-requires-clause-begun c =
    let n : ℕ = (numbers c.args.words.now).labels in let t = c.loop-stripe.invariant.taken in let labels = c.requires.rows.1 in let some = c.requires.rows.0 in let named = c.requires.seat.1 in
    let b = stripe_below n c.loop-stripe.stripe (omega arith) (omega arith) in
    harvests_at (reading c.args.seat.now) (reading c.loop-stripe.seat) t.cells (6 * (c.loop-stripe.stripe * n)) t.taken (omega arith)

pub take_stripe-requires-clause-count : goal.take_stripe-requires-clause-count
take_stripe-requires-clause-count c =
    let n : ℕ = (numbers c.args.words.now).labels in let t = c.loop-stripe.invariant.taken in let labels = c.requires.rows.1 in let some = c.requires.rows.0 in let named = c.requires.seat.1 in
    let b = stripe_below n c.loop-stripe.stripe (omega arith) (omega arith) in
    ap (λ (l : List ℕ). length l) (holds_cells (reading c.args.seat.now) (reading c.loop-stripe.seat) t.cells (6 * (c.loop-stripe.stripe * n)) t.taken (omega arith)) ∙ t.count

pub take_stripe-requires-clause-folded : goal.take_stripe-requires-clause-folded
take_stripe-requires-clause-folded c =
    let n : ℕ = (numbers c.args.words.now).labels in let t = c.loop-stripe.invariant.taken in let labels = c.requires.rows.1 in let some = c.requires.rows.0 in let named = c.requires.seat.1 in
    let b = stripe_below n c.loop-stripe.stripe (omega arith) (omega arith) in
    t.folded ∙ ap (λ (l : List ℕ). merged_to n (λ j. get_or l j 0) c.loop-stripe.stripe) (sym (holds_cells (reading c.args.seat.now) (reading c.loop-stripe.seat) t.cells (6 * (c.loop-stripe.stripe * n)) t.taken (omega arith)))

pub loop-stripe-preserved : goal.loop-stripe-preserved
loop-stripe-preserved c =
    let n : ℕ = (numbers c.args.words.now).labels in let labels = c.requires.rows.1 in let some = c.requires.rows.0 in let named = c.requires.seat.1 in
    let b = stripe_below n c.loop-stripe.stripe (omega arith) (omega arith) in
    record {
      seated = c.take_stripe.ensures.seat;
      interval = c.take_stripe.ensures.interval ∙ c.loop-stripe.invariant.interval;
      long = c.take_stripe.ensures.rows ∙ c.loop-stripe.invariant.long;
      taken = taken_on n c.loop-stripe.stripe (c.loop-stripe.stripe + 1) (reading c.args.seat.now) (reading c.loop-stripe.seat) (reading c.take_stripe.new.seat) c.loop-stripe.into.rows c.take_stripe.new.into.rows (omega arith) c.loop-stripe.invariant.taken c.take_stripe.ensures.taken;
    }

pub returns-clause-rows : goal.returns-clause-rows
returns-clause-rows c =
    let cleared : length c.clear.new.self.rows ≡ length c.args.into.now.rows = ap (λ (rows : List Row). length rows) c.clear.ensures.rows ∙ length-sum_of (length c.args.into.now.rows) [] in
    c.loop-stripe.invariant.long ∙ cleared

pub returns-clause-closed : goal.returns-clause-closed
returns-clause-closed c =
    let n : ℕ = (numbers c.args.words.now).labels in let r : ReporterView = reading c.args.seat.now in
    let all : c.loop-stripe.stripe ≡ 4 = omega arith in
    gathered_all n r (reading c.loop-stripe.seat) c.loop-stripe.into
    (subst (λ (s : ℕ). HasTaken n s r (reading c.loop-stripe.seat) c.loop-stripe.into.rows) all c.loop-stripe.invariant.taken) c.requires.seat.1
    (c.loop-stripe.invariant.interval ∙ c.clear.ensures.interval ∙ c.requires.interval)
