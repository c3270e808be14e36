-- The verdict on a report in bounds.
use Rattle.std.proofs.Common.{◌≡◌, ◌↔◌, ℕ, ◌<◌, ◌-◌, ◌^◌, refl, arith}
use Rattle.interval_tables.specs.declared.report.Report.{Report}
use Rattle.interval_tables.specs.Rows.{IsInBounds}
use Rattle.interval_reporter.specs.declared.verdict.Verdict.{Verdict}
use Rattle.interval_reporter.specs.declared.verdict.Verdict.TheVariants.{Go, Stop}
use Rattle.interval_reporter.specs.Judged.{errors_of}

-- with the greatest limit no report in bounds has more errors
pub unlimited_goes : (report : Report) (limit : ℕ) (verdict : Verdict) → ((verdict ≡ Stop) ↔ (limit < errors_of report)) → IsInBounds report.rows → limit ≡ 2 ^ 64 - 1 → verdict ≡ Go
unlimited_goes report limit Go stop bounds most = refl
unlimited_goes report limit Stop stop bounds most = absurd (let low = bounds.errors in let over = stop.0 refl in let top : 2 ^ 64 - 1 ≡ 18446744073709551615 = refl in omega arith)
