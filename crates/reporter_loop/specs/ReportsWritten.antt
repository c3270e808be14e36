-- What was written of reports.
use Rattle.std.specs.Prelude.{◌≡◌, ℕ, List, [], ◌∷◌, ◌++◌, length, map, take, Option}
use Rattle.std.specs.List.{range_with_len}
use Rattle.std.specs.Io.KnownBytes.{Appends}
use Rattle.interval_tables.specs.declared.report.Report.{Report}

-- the texts of the reports, one after another
abbrev pub texts_of : (Report → List ℕ) → List Report → List ℕ
texts_of text [] = []
texts_of text (report ∷ reports) = text report ++ texts_of text reports

-- the reports are those of the intervals 0, 1, 2 and so on
abbrev pub AreNumbered : List Report → Type 0
AreNumbered reports = map (λ (r : Report). r.interval) reports ≡ range_with_len 0 (length reports)

-- a prefix of a text was written
abbrev pub AppendsPrefix : Option (List ℕ) → Option (List ℕ) → List ℕ → Type 0
AppendsPrefix before after text = (n : ℕ) × Appends before after (take n text)

-- a prefix of the texts of reports that are numbered from 0 was written
pub record WritesPrefix (text : Report → List ℕ) (before after : Option (List ℕ)) : Type 0 where
  pub reports : List Report
  pub numbered : AreNumbered reports
  pub written : AppendsPrefix before after (texts_of text reports)
