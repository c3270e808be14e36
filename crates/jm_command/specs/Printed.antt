-- The texts of a command on a plan.
use Rattle.std.specs.Prelude.{◌≡◌, codes, ℕ, Bool, true, false, All, List, [], ◌∷◌, ◌++◌, length, map, Option, Some, None}
use Rattle.std.specs.List.{flat_map}
use Rattle.std.specs.Option.{option_map_or}
use Rattle.jm_base.specs.declared.types.Entry.{Entry}
use Rattle.var_functions.specs.RunProps.{pairs_of}
use Rattle.jm_base.specs.declared.types.End.{End}
use Rattle.jm_base.specs.declared.types.End.TheVariants.{NoMemory}
use Rattle.jm_base.specs.Run.{over_value}
use Rattle.jm_base.specs.Outside.{script_form}
use Rattle.element_tree.specs.Tree.{Tree}
use Rattle.element_tree.specs.Names.{labels_of}
use Rattle.element_tree.specs.PlanWritten.{plan_text}
use Rattle.interval_tables.specs.declared.report.Report.{Report}
use Rattle.interval_tables.specs.Rows.{sum_of}
use Rattle.command_words.specs.declared.command.Solo.{Solo}
use Rattle.command_words.specs.declared.command.Command.{Command}
use Rattle.command_words.specs.declared.command.Command.TheVariants.{Check, Make, Solo as SoloCommand, Weave, Run}
use Rattle.jm_meaning.specs.declared.item.Item.{Item}
use Rattle.jm_meaning.specs.declared.item.Item.TheVariants.{Sampled, Ended}
use Rattle.jm_meaning.specs.Beginning.{Options}
use Rattle.jm_meaning.specs.Meaning.{events}
use Rattle.jm_meaning.specs.TraceShown.{shown}
use Rattle.outside_world.specs.Scripted.{scripts_of}
use Rattle.output_lines.specs.Lines.{header_text, result_text, end_text}
use Rattle.output_lines.specs.Reports.{summary_text}
use Rattle.thread_machine.specs.Stepped.{entry_of}
use Rattle.thread_machine.specs.SectionOrder.{IsBareNoEnd, open_from, left_items}
use Rattle.jm_command.specs.WovenTexts.{WeaveTexts}

-- the seed, the properties and the sample budget of a run of one thread
abbrev pub options_of : Solo → Options
options_of s = record { seed = s.seed; props = s.props; budget = s.samples }

-- what stands for the options of `solo` that are not given; its properties are those of an empty text
abbrev pub default_solo : Solo
default_solo = record { seed = 0; props = pairs_of []; samples = 65536; thread = 0 }

-- what a run of one thread of a plan shows, over the replies that the plan has itself
unfoldable pub shown_of : Tree → Solo → List Item
shown_of plan s = map shown (over_value script_form (events plan s.thread (options_of s)) (scripts_of plan)).events

-- a sample's line, with interval 0
abbrev pub item_text : Tree → ℕ → Item → List ℕ
item_text plan thread (Sampled sample) = result_text plan thread sample 0
item_text plan thread item = []

-- the results of what a thread shows: the header, and a line for each sample
abbrev pub results_of : Tree → ℕ → List Item → List ℕ
results_of plan thread items = header_text ++ flat_map (item_text plan thread) items

-- how a thread has ended, by the last item that it shows
abbrev pub end_of_item : Item → Option End
end_of_item (Ended end) = Some end
end_of_item item = None

abbrev pub last_end : List Item → Option End
last_end [] = None
last_end (item ∷ []) = end_of_item item
last_end (item ∷ next ∷ items) = last_end (next ∷ items)

-- what is counted of an item: of a sample its label, whether it succeeded, its time and its bytes
abbrev pub entries_in : Item → List Entry
entries_in (Sampled sample) = entry_of sample ∷ []
entries_in item = []

-- what is counted of all that a thread shows, in its order
abbrev pub entries_of : List Item → List Entry
entries_of items = flat_map entries_in items

-- the sum of what is counted: a row for each label of the plan
abbrev pub counted : Tree → List Item → Report
counted plan items = record { interval = 0; rows = sum_of (length (labels_of plan.elements)) (entries_of items) }

-- the report of what a thread shows: the summary of its samples, and then its end line
abbrev pub report_of : Tree → ℕ → List Item → List ℕ
report_of plan thread items = summary_text plan (counted plan items) ++ option_map_or (end_text plan thread) (last_end items) []

-- These items are of a thread that was cut short because memory ran out: a prefix of the plan's meaning, without an end, then that
-- the open section was left, then this end.
pub record IsCut (plan : Tree) (s : Solo) (items : List Item) : Type 0 where
  pub given : List Item
  pub more : List Item
  pub prefix : shown_of plan s ≡ given ++ more
  pub no_end : All IsBareNoEnd given
  pub items_are : items ≡ given ++ (left_items (open_from None given) ++ Ended NoMemory ∷ [])

-- the items are those of the plan's meaning, or of a thread that was cut short a prefix of it
abbrev pub IsMeant : Tree → Solo → List Item → End → Type 0
IsMeant plan s items NoMemory = IsCut plan s items
IsMeant plan s items end = items ≡ shown_of plan s

-- what a thread with this end has shown
pub record IsShown (plan : Tree) (s : Solo) (items : List Item) (end : End) : Type 0 where
  pub last : last_end items ≡ Some end
  pub meant : IsMeant plan s items end

-- a thread that ended so was not cut short because memory ran out
abbrev pub end_is_whole : End → Bool
end_is_whole NoMemory = false
end_is_whole end = true

-- ---- the texts of a command

-- The texts of a command on a plan, its results and its report. Of `check` the plan as it is written and a line feed, and no
-- report; of `solo` the header and the result lines, the summary and the end line; of `make` no results, and the report of a
-- `solo` without options; of `weave` those of the woven run.
abbrev pub TextsOf : Command → Tree → List ℕ → List ℕ → Type 0
TextsOf Check plan results report = (results ≡ plan_text plan ++ codes "\n") × (report ≡ [])
TextsOf (Make m) plan results report = (results ≡ []) × (report ≡ report_of plan default_solo.thread (shown_of plan default_solo))
TextsOf (SoloCommand s) plan results report = (results ≡ results_of plan s.thread (shown_of plan s)) × (report ≡ report_of plan s.thread (shown_of plan s))
TextsOf (Weave w) plan results report = WeaveTexts w plan results report
TextsOf (Run r) plan results report = ⊥

-- a thread has shown these items, and this is its report
pub record HasShown (plan : Tree) (s : Solo) (items : List Item) (report : List ℕ) : Type 0 where
  pub end : End
  pub shown_as : IsShown plan s items end
  pub report_is : report ≡ report_of plan s.thread items

-- These texts may be printed: those of the plan itself, those of a thread that has run, maybe cut short because memory ran out, or
-- those of the woven run.
abbrev pub MayPrint : Command → Tree → List ℕ → List ℕ → Type 0
MayPrint Check plan results report = (results ≡ plan_text plan ++ codes "\n") × (report ≡ [])
MayPrint (Make m) plan results report = (results ≡ []) × ((items : List Item) × HasShown plan default_solo items report)
MayPrint (Weave w) plan results report = WeaveTexts w plan results report
MayPrint (Run r) plan results report = ⊥
MayPrint (SoloCommand s) plan results report = (items : List Item) × (results ≡ results_of plan s.thread items) × HasShown plan s items report
