use Rattle.std.proofs.Common.{◌≡◌, ◌+◌, ◌*◌, ◌<◌, [], ℕ, List, length, sym, refl, ap, ◌∙◌, subst, arith}
use Rattle.interval_tables.specs.declared.row.Row.{Row}
use Rattle.interval_tables.specs.Rows.{sum_of}
use Rattle.interval_tables.proofs.Sums.{length-sum_of}
use Rattle.phaser_core.specs.declared.view.ReporterView.{ReporterView}
use Rattle.phaser_core.specs.declared.view.ReporterStage.TheVariants.{Idle}
use Rattle.phaser_core.specs.Cells.{table_cells, merged_to}
use Rattle.phaser_core.specs.Shares.{SumsOfStripes}
use Rattle.phaser_core.specs.Views.{AllJoined}
use Rattle.phaser_words.specs.WordSeats.{reading, numbers}
use Rattle.recorder_core.specs.Folds.{open_cell}
use Rattle.recorder_core.proofs.rows.read_report.Goals as goal

pub loop-stripe-init : goal.loop-stripe-init
loop-stripe-init c = record {
  seated = c.requires.seat;
  same = refl;
  long = refl;
  folded = c.clear.ensures.rows ∙ ap (λ (k : ℕ). sum_of k []) c.requires.rows;
}

pub read_stripe-requires-clause-rows : goal.read_stripe-requires-clause-rows
read_stripe-requires-clause-rows c =
    c.loop-stripe.invariant.long ∙ ap (λ (rows : List Row). length rows) c.clear.ensures.rows ∙ length-sum_of (length c.args.into.now.rows) [] ∙ c.requires.rows

pub read_stripe-requires-clause-idle : goal.read_stripe-requires-clause-idle
read_stripe-requires-clause-idle c = ap (λ (q : ReporterView). q.closing) c.loop-stripe.invariant.same ∙ c.requires.idle

pub read_stripe-requires-clause-joined : goal.read_stripe-requires-clause-joined
read_stripe-requires-clause-joined c = subst AllJoined (sym c.loop-stripe.invariant.same) c.requires.joined

pub read_stripe-requires-clause-sums : goal.read_stripe-requires-clause-sums
read_stripe-requires-clause-sums c =
    let n : ℕ = (numbers c.args.words.now).labels in subst (λ (q : ReporterView). SumsOfStripes n (table_cells n) (open_cell n q)) (sym c.loop-stripe.invariant.same) c.requires.sums

pub read_stripe-requires-clause-folded : goal.read_stripe-requires-clause-folded
read_stripe-requires-clause-folded c =
    let n : ℕ = (numbers c.args.words.now).labels in c.loop-stripe.invariant.folded ∙ ap (λ (q : ReporterView). merged_to n (open_cell n q) c.loop-stripe.stripe) (sym c.loop-stripe.invariant.same)

pub loop-stripe-preserved : goal.loop-stripe-preserved
loop-stripe-preserved c =
    let n : ℕ = (numbers c.args.words.now).labels in
    record {
      seated = c.read_stripe.ensures.seat;
      same = c.read_stripe.ensures.same ∙ c.loop-stripe.invariant.same;
      long = c.read_stripe.ensures.rows ∙ c.loop-stripe.invariant.long;
      folded = c.read_stripe.ensures.folded ∙ ap (λ (q : ReporterView). merged_to n (open_cell n q) (c.loop-stripe.stripe + 1)) c.loop-stripe.invariant.same;
    }

pub returns-clause-folded : goal.returns-clause-folded
returns-clause-folded c =
    let n : ℕ = (numbers c.args.words.now).labels in let all : c.loop-stripe.stripe ≡ 4 = omega arith in
    c.loop-stripe.invariant.folded ∙ ap (merged_to n (open_cell n (reading c.args.seat.now))) all
