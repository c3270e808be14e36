-- What the reporter has closed, written and raised.
use Rattle.std.specs.Prelude.{◌≡◌, ℕ, ◌≤◌, Bool, true, false, nat_lt, List, [], ◌∷◌, ◌++◌, length, Option}
use Rattle.std.specs.Io.KnownBytes.{Appends}
use Rattle.interval_tables.specs.declared.report.Report.{Report}
use Rattle.interval_tables.specs.Rows.{IsInBounds}
use Rattle.phaser_core.specs.declared.view.ReporterView.{ReporterView}
use Rattle.phaser_core.specs.CoreMoves.{reporter_raised, or}
use Rattle.recorder_core.specs.Stands.{closed_as}
use Rattle.interval_reporter.specs.Judged.{errors_of}
use Rattle.reporter_loop.specs.ReportsWritten.{texts_of, AreNumbered}

abbrev pub raised_if : Bool → ReporterView → ReporterView
raised_if true r = reporter_raised r
raised_if false r = r

-- the interval is closed with this report, and stop is raised where it has more errors than the limit
abbrev pub judged : ℕ → ReporterView → Report → ReporterView
judged limit r report = raised_if (nat_lt limit (errors_of report)) (closed_as r report)

-- some report has more errors than the limit
abbrev pub any_over : ℕ → List Report → Bool
any_over limit [] = false
any_over limit (x ∷ xs) = or (nat_lt limit (errors_of x)) (any_over limit xs)

abbrev pub AllInBounds : List Report → Type 0
AllInBounds [] = Unit {0}
AllInBounds (x ∷ xs) = IsInBounds x.rows × AllInBounds xs

-- Since a moment at which no interval was closed: just the closed reports were written, each in bounds, and stop was raised exactly
-- where one of them has more errors than the limit.
pub record Reported (text : Report → List ℕ) (limit : ℕ) (r : ReporterView) (old new : Option (List ℕ)) : Type 0 where
  pub written : Appends old new (texts_of text r.closed)
  pub numbered : AreNumbered r.closed
  pub bounds : AllInBounds r.closed
  pub count : length r.closed ≡ r.interval
  pub few : r.interval ≤ 16777216
  pub raised : r.raised ≡ any_over limit r.closed

-- The last closed report was not written whole, and the hook was not asked of it: stop was raised exactly where one before it has
-- more errors than the limit.
pub record EndsUnjudged (limit : ℕ) (r : ReporterView) : Type 0 where
  pub before : List Report
  pub last : Report
  pub closed_are : r.closed ≡ before ++ last ∷ []
  pub raised : r.raised ≡ any_over limit before
