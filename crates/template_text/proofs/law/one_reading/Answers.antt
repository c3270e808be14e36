-- The reading that the scanner makes is there, and every other one is the same.
use Rattle.std.proofs.Common.{sym, ◌∙◌}
use Rattle.template_text.specs.Scan.{reading}
use Rattle.template_text.proofs.Readings.{reading_is, reading_only}
use Rattle.template_text.proofs.law.one_reading.Goals as goal

pub returns-clause-exists : goal.returns-clause-exists
returns-clause-exists c = λ s. (reading s, reading_is s)

pub returns-clause-only : goal.returns-clause-only
returns-clause-only c = λ s ps qs h k. reading_only s ps h ∙ sym (reading_only s qs k)

pub returns-clause-function : goal.returns-clause-function
returns-clause-function c = λ s. reading_is s
