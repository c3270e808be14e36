-- The printed lines.
use Rattle.std.specs.Prelude.{ℕ, Bool, List, [], ◌∷◌, slice_get, unwrap_or, codes, if◌then◌else◌}
use Rattle.std.specs.Fmt.{decimal}
use Rattle.csv.specs.Writing.{row_text, default_writer}
use Rattle.jm_base.specs.declared.types.Sample.{Sample}
use Rattle.jm_base.specs.declared.types.End.{End}
use Rattle.jm_base.specs.declared.types.End.TheVariants.{Completed, StopThread, StopTest, Stopped, SampleLimit, RoundLimit, ValueLimit, NoMemory}
use Rattle.element_tree.specs.Tree.{Tree, thread_name_of}
use Rattle.element_tree.specs.Names.{labels_of}

-- a row of comma-separated values: fields quoted where needed, a line feed at the end
abbrev pub csv_line : List (List ℕ) → List ℕ
csv_line fields = row_text default_writer fields

-- the text of a label
abbrev pub label_text : Tree → ℕ → List ℕ
label_text plan label = unwrap_or (slice_get (labels_of plan.elements) label) []

abbrev pub truth : Bool → List ℕ
truth ok = if ok then codes "true" else codes "false"

abbrev pub header_fields : List (List ℕ)
header_fields =
    codes "timeStamp" ∷ codes "elapsed" ∷ codes "label" ∷ codes "responseCode" ∷ codes "responseMessage"
    ∷ codes "threadName" ∷ codes "success" ∷ codes "failureMessage" ∷ codes "bytes" ∷ codes "interval" ∷ []

-- what is printed of a sample that was counted in an interval, under this label and by a thread of this name
abbrev pub sample_fields : List ℕ → List ℕ → Sample → ℕ → List (List ℕ)
sample_fields label name s interval =
    decimal s.stamp ∷ decimal s.elapsed ∷ label ∷ decimal s.code ∷ s.message
    ∷ name ∷ truth s.ok ∷ s.failure ∷ decimal s.bytes ∷ decimal interval ∷ []

-- the same for a thread of a plan
abbrev pub result_fields : Tree → ℕ → Sample → ℕ → List (List ℕ)
result_fields plan thread s interval = sample_fields (label_text plan s.label) (thread_name_of plan thread) s interval

abbrev pub end_name : End → List ℕ
end_name Completed = codes "Completed"
end_name StopThread = codes "StopThread"
end_name StopTest = codes "StopTest"
end_name Stopped = codes "Stopped"
end_name SampleLimit = codes "SampleLimit"
end_name RoundLimit = codes "RoundLimit"
end_name ValueLimit = codes "ValueLimit"
end_name NoMemory = codes "NoMemory"

unfoldable pub header_text : List ℕ
header_text = csv_line header_fields

unfoldable pub result_text : Tree → ℕ → Sample → ℕ → List ℕ
result_text plan thread sample interval = csv_line (result_fields plan thread sample interval)

unfoldable pub end_text : Tree → ℕ → End → List ℕ
end_text plan thread end = csv_line (codes "end" ∷ thread_name_of plan thread ∷ end_name end ∷ [])
