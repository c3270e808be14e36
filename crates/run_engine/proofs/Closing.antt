-- What the traces and the lists of all workers say, once all were taken in.
use Rattle.std.proofs.Common.{◌≡◌, ◌∙◌, ℕ, Bool, List, length, map, sym, ap, subst}
use Rattle.std.specs.List.{range_with_len}
use Rattle.jm_base.specs.Outside.{Account}
use Rattle.element_tree.specs.Tree.{Tree}
use Rattle.jm_meaning.specs.Beginning.{Options}
use Rattle.thread_machine.specs.declared.trace.TraceItem.{TraceItem}
use Rattle.phaser_core.specs.declared.view.Joined.{Joined}
use Rattle.phaser_core.specs.declared.view.ReporterView.{ReporterView}
use Rattle.phaser_words.specs.RecorderKinds.{lists_of}
use Rattle.recorder_core.specs.declared.places.Recorder.{Recorder}
use Rattle.recorder_core.specs.RecorderSeats.{numbers_of}
use Rattle.run_engine.specs.declared.job.Job.{Job}
use Rattle.run_engine.specs.Joins.{joined_of, numbers_in, trace_of, AllDone, AllEnd}
use Rattle.phaser_core.specs.Keeps.{AllKeep}
use Rattle.run_engine.specs.Marks.{AllMarked}
use Rattle.thread_machine.specs.Paired.{pairs_of}
use Rattle.run_engine.proofs.Joining.{lists_are, numbers_are, numbers_done, len_map, keep_done, ends_done, marks_done}

module _ {O : Type 0} (js : List (Job O)) (traces : List (List TraceItem)) (traces_are : traces ≡ map trace_of js) where
  pub lists_so : (s : ReporterView) → s.joined ≡ map joined_of js → lists_of s.joined ≡ pairs_of traces
  lists_so s is = ap lists_of is ∙ lists_are js ∙ ap pairs_of (sym traces_are)

  module _ (account : O → Account) (r : Recorder) (plan : Tree) (options : Options) (identity : ℕ) (tells : Bool) (count : ℕ)
      (all : AllDone account r plan options identity tells count js) (len : length js ≡ count) where
    pub keep_so : AllKeep (numbers_of r).labels (numbers_of r).budget (pairs_of traces)
    keep_so = subst (λ (ts : List (List TraceItem)). AllKeep (numbers_of r).labels (numbers_of r).budget (pairs_of ts)) (sym traces_are) (keep_done account r plan options identity tells count js all len)

    pub marks_so : (s : ReporterView) → s.joined ≡ map joined_of js → AllMarked s.joined traces
    marks_so s is =
        subst (λ (ts : List (List TraceItem)). AllMarked s.joined ts) (sym traces_are)
        (subst (λ (gone : List Joined). AllMarked gone (map trace_of js)) (sym is) (marks_done account r plan options identity tells count js all len))

    pub numbers_so : (s : ReporterView) → s.joined ≡ map joined_of js → numbers_in s.joined ≡ range_with_len 0 count
    numbers_so s is = ap numbers_in is ∙ numbers_are js ∙ numbers_done account r plan options identity tells count js all ∙ ap (λ (n : ℕ). range_with_len 0 n) len

    pub many : length traces ≡ count
    many = ap length traces_are ∙ len_map trace_of js ∙ len

    pub ends_all_so : AllEnd traces
    ends_all_so = subst AllEnd (sym traces_are) (ends_done account r plan options identity tells count js all len)
