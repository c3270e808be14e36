-- What a hook answers, and what a reporter keeps.
use Rattle.std.specs.Prelude.{◌≡◌, ℕ, ◌<◌, ◌^◌, ◌↔◌}
use denote.Ref.{Bor}
use denote.Param.Members.{Shared}
use Rattle.interval_tables.specs.declared.report.Report.{Report}
use Rattle.interval_tables.specs.declared.row.Row.{Row}
use Rattle.jm_base.specs.SumTotals.{total}
use Rattle.interval_tables.specs.Rows.{IsInBounds}
use Rattle.interval_reporter.specs.declared.hook.Reporter.{Reporter}
use Rattle.interval_reporter.specs.declared.verdict.Verdict.{Verdict}
use Rattle.interval_reporter.specs.declared.verdict.Verdict.TheVariants.{Stop}

-- how many samples failed, over all labels
abbrev pub errors_of : Report → ℕ
errors_of report = total (λ (r : Row). r.errors) report.rows

module _ {F : Type 0} (g : Shared F (Bor Report × (ℕ × Unit {0})) Verdict) where
  -- The hook may be called on every report in bounds and every limit, and answers Stop exactly where the report has more errors than the limit.
  pub record StopsPast (hook : F) : Type 0 where
    pub callable : (report : Bor Report) (limit : ℕ) → IsInBounds report.now.rows → limit < 2 ^ 64 → g.pre hook (report, (limit, tt))
    pub exact : (report : Bor Report) (limit : ℕ) (verdict : Verdict) → IsInBounds report.now.rows → limit < 2 ^ 64
        → g.post hook (report, (limit, tt)) verdict → (verdict ≡ Stop) ↔ (limit < errors_of report.now)

  -- the kept hook does
  abbrev pub Keeps : Reporter F → Type 0
  Keeps reporter = StopsPast reporter.hook

  -- the kept hook may give this verdict on the report and the limit
  pub record Answers (reporter : Reporter F) (report : Report) (limit : ℕ) (verdict : Verdict) : Type 0 where
    pub shown : Bor Report
    pub shows : shown.now ≡ report
    pub given : g.post reporter.hook (shown, (limit, tt)) verdict
