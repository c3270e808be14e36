-- The texts of a thread that has run.
use Rattle.std.proofs.Common.{◌≡◌, ℕ, true, List, [], ◌∷◌, ◌++◌, Option, Some, refl, sym, ap, ap₂, ◌∙◌, subst, inl, inr}
use Rattle.std.specs.Prelude.{All, codes, map, Result}
use Rattle.std.specs.List.{flat_map}
use Rattle.std.specs.Option.{option_map_or}
use Rattle.std.proofs.lemmas.List.{append-nil, map-append}
use Rattle.std.proofs.lemmas.List.Elements.{All-head, All-tail}
use Rattle.edge_io.proofs.EdgeLaws.{Appends-nil}
use Rattle.var_functions.specs.RunProps.{pairs_of}
use Rattle.jm_base.specs.declared.types.End.{End}
use Rattle.jm_base.specs.declared.types.End.TheVariants.{Stopped, NoMemory}
use Rattle.jm_base.specs.Outside.{Account}
use Rattle.element_tree.specs.Tree.{Tree}
use Rattle.jm_meaning.specs.declared.item.Item.{Item}
use Rattle.jm_meaning.specs.declared.item.Item.TheVariants.{Ended}
use Rattle.jm_meaning.specs.TraceShown.{shown}
use Rattle.outside_world.specs.Scripted.{scripts_of}
use Rattle.element_tree.specs.PlanWritten.{plan_text}
use Rattle.output_lines.specs.Lines.{header_text, result_text, end_text}
use Rattle.output_lines.specs.Reports.{summary_text}
use Rattle.thread_machine.specs.declared.trace.TraceItem.{TraceItem}
use Rattle.thread_machine.specs.declared.trace.TraceItem.TheVariants.{Paused as TracedPause, Sampled as TracedSample, Null as TracedNull, Entered as TracedEntry, Left as TracedExit, Ended as TracedEnd}
use Rattle.thread_machine.specs.Bare.{bare, bare_item, IsCountedIn}
use Rattle.thread_machine.specs.Follows.{Follows, WasCut, HasRun}
use Rattle.command_words.specs.declared.command.Solo.{Solo}
use Rattle.command_words.specs.declared.command.Command.TheVariants.{Check, Make, Solo as SoloCommand}
use Rattle.command_words.specs.declared.command.Make.{Make as MakeOf}
use Rattle.trace_output.specs.Texts.{line_of, trace_text}
use Rattle.trace_output.specs.declared.error.PrintError.{PrintError}
use Rattle.trace_output.specs.Printing.{HasPrinted, TextOut, TextFailed, TextCut}
use Rattle.jm_command.specs.declared.status.Status.{Status}
use Rattle.jm_command.specs.declared.status.Status.TheVariants.{Done, Usage, Refused, ReadFault, WriteFault, Memory}
use Rattle.jm_command.specs.Parts.{sinks, TextSays, ReportSays, MadeSays, PlanSays}
use Rattle.jm_command.specs.Printed.{options_of, default_solo, shown_of, item_text, results_of, counted, report_of, last_end, end_is_whole, IsCut, IsShown, HasShown, MayPrint}

last_end-append : (items : List Item) (end : End) → last_end (items ++ Ended end ∷ []) ≡ Some end
last_end-append [] end = refl
last_end-append (x ∷ []) end = refl
last_end-append (x ∷ y ∷ items) end = last_end-append (y ∷ items) end

bare_end : (trace prefix : List TraceItem) (end : End) → trace ≡ prefix ++ TracedEnd end ∷ [] → last_end (bare trace) ≡ Some end
bare_end trace prefix end is = ap (λ t. last_end (bare t)) is ∙ ap last_end (map-append _ prefix (TracedEnd end ∷ [])) ∙ last_end-append (bare prefix) end

-- the items of a thread that was not cut are those of the plan's meaning
whole_items : (plan : Tree) (s : Solo) (items : List Item) (end : End) → IsShown plan s items end → end_is_whole end ≡ true → items ≡ shown_of plan s
whole_items plan s items NoMemory is h = absurd (cc)
whole_items plan s items end is h = is.meant

module _ (plan : Tree) (s : Solo) (start now : Account) (trace : List TraceItem) (scripted : start.value ≡ Some (scripts_of plan)) where
  whole : (end : End) → Follows start now plan s.thread (options_of s) trace end → bare trace ≡ shown_of plan s
  unfolding shown_of
  whole end f = sym (f.scripted (scripts_of plan) scripted).items

  cut_items : WasCut start now plan s.thread (options_of s) trace → IsCut plan s (bare trace)
  unfolding shown_of
  cut_items f =
      let c = f.scripted (scripts_of plan) scripted in
      record {
        given = map shown c.given;
        more = map shown c.more;
        prefix = ap (map shown) c.prefix ∙ map-append shown c.given c.more;
        no_end = c.ends.no_end;
        items_are = c.ends.items;
      }

  pub shown_by : (end : End) → HasRun start now plan s.thread (options_of s) trace end → IsShown plan s (bare trace) end
  shown_by Stopped f = absurd f
  shown_by NoMemory f = record { last = bare_end trace f.last.0 NoMemory f.last.1; meant = cut_items f }
  shown_by end f = record { last = bare_end trace f.last.0 end f.last.1; meant = whole end f }

-- ---- the lines of a thread of which each sample is counted in interval 0

line_is : (plan : Tree) (thread : ℕ) (item : TraceItem) → IsCountedIn 0 item → line_of plan thread item ≡ item_text plan thread (bare_item item)
line_is plan thread (TracedPause ms) counted = refl
line_is plan thread (TracedSample sample interval) counted = ap (result_text plan thread sample) counted
line_is plan thread (TracedNull sampler) counted = refl
line_is plan thread (TracedEntry lock place) counted = refl
line_is plan thread (TracedExit lock) counted = refl
line_is plan thread (TracedEnd end) counted = refl

lines_are : (plan : Tree) (thread : ℕ) (trace : List TraceItem) → All (IsCountedIn 0) trace → trace_text plan thread trace ≡ flat_map (item_text plan thread) (bare trace)
lines_are plan thread [] counted = refl
lines_are plan thread (item ∷ trace) counted =
    ap₂ (λ x y. x ++ y) (line_is plan thread item (All-head (IsCountedIn 0) item trace counted)) (lines_are plan thread trace (All-tail (IsCountedIn 0) item trace counted))

-- ---- a thread that has run

module _ (plan : Tree) (s : Solo) (trace : List TraceItem) (end : End) (shown : IsShown plan s (bare trace) end) where
  abbrev report : List ℕ
  report = summary_text plan (counted plan (bare trace)) ++ end_text plan s.thread end

  ends : report ≡ report_of plan s.thread (bare trace)
  ends = sym (ap (λ o. summary_text plan (counted plan (bare trace)) ++ option_map_or (end_text plan s.thread) o []) shown.last)

  has_shown : HasShown plan s (bare trace) report
  has_shown = record { end = end; shown_as = shown; report_is = ends }

  same : end_is_whole end ≡ true → bare trace ≡ shown_of plan s
  same whole = whole_items plan s (bare trace) end shown whole

  report_whole : end_is_whole end ≡ true → report ≡ report_of plan s.thread (shown_of plan s)
  report_whole whole = ends ∙ ap (report_of plan s.thread) (same whole)

  -- the report of a plan that was made
  pub made_report : s ≡ default_solo → (a b : Option (List ℕ)) (f g : ℕ) (status : Status) → ReportSays report (end_is_whole end) a b f g status → MadeSays plan a b f g status
  made_report is a b f g Done h =
      subst (λ text. TextOut text a b f g) (report_whole h.0 ∙ ap (λ (d : Solo). report_of plan d.thread (shown_of plan d)) is) h.1
  made_report is a b f g Usage h = absurd h
  made_report is a b f g Refused h = absurd h
  made_report is a b f g ReadFault h = absurd h
  made_report is a b f g WriteFault h = (report, (bare trace, subst (λ d. HasShown plan d (bare trace) report) is has_shown), h)
  made_report is a b f g Memory h = inr (report, (bare trace, subst (λ d. HasShown plan d (bare trace) report) is has_shown), h)

  module _ (counted : All (IsCountedIn 0) trace) (a b : Option (List ℕ)) (f g : ℕ) where
    abbrev results : List ℕ
    results = header_text ++ trace_text plan s.thread trace

    results_are : results ≡ results_of plan s.thread (bare trace)
    results_are = ap (λ l. header_text ++ l) (lines_are plan s.thread trace counted)

    may : MayPrint (SoloCommand s) plan results report
    may = (bare trace, results_are, has_shown)

    -- the results are not out
    pub results_failed : TextFailed results a b f g → (r : Option (List ℕ)) (k : ℕ) → PlanSays (SoloCommand s) plan (sinks a f r k) (sinks b g r k) WriteFault
    results_failed h r k = (results, report, may, inl (record { some = h.prefix; rose = h.rose; nothing = record { reports = refl; report_faults = refl } }))

    pub results_cut : TextCut results a b f g → (r : Option (List ℕ)) (k : ℕ) → PlanSays (SoloCommand s) plan (sinks a f r k) (sinks b g r k) Memory
    results_cut h r k = inr (results, report, may, inl (record { part = h.part; calm = h.calm; nothing = record { reports = refl; report_faults = refl } }))

    -- the results are out, and then comes the report
    pub solo_says : TextOut results a b f g → (r r' : Option (List ℕ)) (k k' : ℕ) (status : Status) → ReportSays report (end_is_whole end) r r' k k' status
        → PlanSays (SoloCommand s) plan (sinks a f r k) (sinks b g r' k') status
    solo_says out r r' k k' Done h = (
      results,
      report,
      (results_are ∙ ap (results_of plan s.thread) (same h.0), report_whole h.0),
      record { results_out = out.out; result_calm = out.calm; report_out = h.1.out; report_calm = h.1.calm },
    )
    solo_says out r r' k k' Usage h = absurd h
    solo_says out r r' k k' Refused h = absurd h
    solo_says out r r' k k' ReadFault h = absurd h
    solo_says out r r' k k' WriteFault h = (results, report, may, inr (record { results_out = out.out; some = h.prefix; rose = h.rose; result_calm = out.calm }))
    solo_says out r r' k k' Memory h = inr (results, report, may, inr (record { results_out = out.out; result_calm = out.calm; part = h.part; calm = h.calm }))

-- a report that is whole, of a thread that was cut
pub out_is_part : (text : List ℕ) (a b : Option (List ℕ)) (f g : ℕ) → TextOut text a b f g → TextCut text a b f g
out_is_part text a b f g h = record { part = (text, [], sym (append-nil text), h.out); calm = h.calm }

-- what became of the text of a value, by the answer that is known
pub printed_as : {X : Type 0} (text : X → List ℕ) (x y : X) (a b : Option (List ℕ)) (f g : ℕ) (r s : Result (Unit {0}) PrintError) → x ≡ y → HasPrinted (text x) a b f g r → r ≡ s → HasPrinted (text y) a b f g s
printed_as text x y a b f g r s same h is = subst (λ v. HasPrinted (text v) a b f g s) same (subst (HasPrinted (text x) a b f g) is h)

-- ---- the other commands

pub check_says : (plan : Tree) (a b : Option (List ℕ)) (f g : ℕ) (r : Option (List ℕ)) (k : ℕ) (status : Status) → TextSays (plan_text plan ++ codes "\n") a b f g status
    → PlanSays Check plan (sinks a f r k) (sinks b g r k) status
check_says plan a b f g r k Done h =
    (plan_text plan ++ codes "\n", [], (refl, refl), record { results_out = h.out; result_calm = h.calm; report_out = Appends-nil r; report_calm = refl })
check_says plan a b f g r k Usage h = absurd h
check_says plan a b f g r k Refused h = absurd h
check_says plan a b f g r k ReadFault h = absurd h
check_says plan a b f g r k WriteFault h =
    (plan_text plan ++ codes "\n", [], (refl, refl), inl (record { some = h.prefix; rose = h.rose; nothing = record { reports = refl; report_faults = refl } }))
check_says plan a b f g r k Memory h =
    inr (plan_text plan ++ codes "\n", [], (refl, refl), inl (record { part = h.part; calm = h.calm; nothing = record { reports = refl; report_faults = refl } }))

pub made_says : (plan : Tree) (m : MakeOf) (a : Option (List ℕ)) (f : ℕ) (r r' : Option (List ℕ)) (k k' : ℕ) (status : Status) → MadeSays plan r r' k k' status
    → PlanSays (Make m) plan (sinks a f r k) (sinks a f r' k') status
made_says plan m a f r r' k k' Done h = (
  [],
  report_of plan default_solo.thread (shown_of plan default_solo),
  (refl, refl),
  record { results_out = Appends-nil a; result_calm = refl; report_out = h.out; report_calm = h.calm },
)
made_says plan m a f r r' k k' Usage h = absurd h
made_says plan m a f r r' k k' Refused h = absurd h
made_says plan m a f r r' k k' ReadFault h = absurd h
made_says plan m a f r r' k k' WriteFault h =
    ([], h.0, (refl, h.1), inr (record { results_out = Appends-nil a; some = h.2.prefix; rose = h.2.rose; result_calm = refl }))
made_says plan m a f r r' k k' Memory h = elim h [
  | inl n ↦ inl (record { results = record { results = refl; result_faults = refl }; reports = record { reports = n.0; report_faults = n.1 } })
  | inr c ↦ inr ([], c.0, (refl, c.1), inr (record { results_out = Appends-nil a; result_calm = refl; part = c.2.part; calm = c.2.calm }))
]

abbrev solo_with : List (List ℕ × List ℕ) → Solo
solo_with props = record { seed = 0; props = props; samples = 65536; thread = 0 }

pub default_is : (props : List (List ℕ × List ℕ)) → props ≡ pairs_of [] → solo_with props ≡ default_solo
default_is props is = ap solo_with is
