-- What looking for the last writers keeps.
use Rattle.std.proofs.Common.{◌≡◌, ◌∙◌, refl}
use Rattle.interval_tables.specs.declared.report.Report.{Report}
use Rattle.phaser_core.specs.declared.view.ReporterView.{ReporterView}
use Rattle.recorder_core.specs.Stands.{Same, closed_as}

pub same_twice : (q r s : ReporterView) → Same q r → Same r s → Same q s
same_twice q r s a b = (b.0 ∙ a.0, b.1 ∙ a.1, b.2 ∙ a.2, b.3 ∙ a.3, b.4 ∙ a.4, b.5 ∙ a.5)

pub same_closed : (r s : ReporterView) (report : Report) → Same r s → closed_as s report ≡ closed_as r report
same_closed r s report h = rw (h.0, h.1, h.2, h.3, h.4, h.5) refl
