-- What the joined workers say together.
use Rattle.std.proofs.Common.{◌≡◌, ◌∙◌, ℕ, zero, suc, ◌+◌, ◌<◌, Bool, List, [], ◌∷◌, length, map, refl, ap, subst, arith, slice_index_or}
use Rattle.jm_base.specs.declared.types.End.{End}
use Rattle.jm_base.specs.Outside.{Account}
use Rattle.element_tree.specs.Tree.{Tree}
use Rattle.jm_meaning.specs.Beginning.{Options}
use Rattle.thread_machine.specs.declared.trace.TraceItem.{TraceItem}
use Rattle.thread_machine.specs.Follows.{IsEndedBy}
use Rattle.phaser_core.specs.declared.view.ReporterView.{ReporterView}
use Rattle.phaser_core.specs.Views.{made_known, AllJoined}
use Rattle.phaser_words.specs.RecorderKinds.{lists_of}
use Rattle.recorder_core.specs.declared.places.Recorder.{Recorder}
use Rattle.recorder_core.specs.RecorderSeats.{writes, numbers_of}
use Rattle.run_engine.specs.declared.job.Job.{Job}
use Rattle.run_engine.specs.Joins.{joined_of, numbers_in, trace_of, number_of, AllDone, AllEnd}
use Rattle.phaser_core.specs.Keeps.{KeepsTo, AllKeep}
use Rattle.run_engine.specs.Made.{made_at}
use Rattle.run_engine.specs.Marks.{IsMarked, AllMarked}
use Rattle.thread_machine.specs.Paired.{pairs, pairs_of}
use Rattle.std.specs.List.{range_with_len}
use Rattle.run_engine.proofs.Seqs.{numbers_from}

module _ {O : Type 0} where
  -- the joined lists are the samples of the traces
  pub lists_are : (js : List (Job O)) → lists_of (map joined_of js) ≡ pairs_of (map trace_of js)
  lists_are [] = refl
  lists_are (j ∷ js) = ap (λ l. l ∷ lists_of (map joined_of js)) j.listed ∙ ap (λ ls. pairs j.worker.trace ∷ ls) (lists_are js)

  -- their writers have the numbers of their threads
  pub numbers_are : (js : List (Job O)) → numbers_in (map joined_of js) ≡ map number_of js
  numbers_are [] = refl
  numbers_are (j ∷ js) = ap (λ (n : ℕ). n ∷ numbers_in (map joined_of js)) j.numbered ∙ ap (λ ns. j.number ∷ ns) (numbers_are js)

  none_made : (js : List (Job O)) → ((i : ℕ) (d : Job O) → i < length js → (writes (slice_index_or js i d).seat).made ≡ 0) → made_known (map joined_of js) ≡ 0
  none_made [] all = refl
  none_made (j ∷ js) all =
      let here : (writes j.seat).made ≡ 0 = all 0 j (omega arith) in
      let later : made_known (map joined_of js) ≡ 0 = none_made js (λ i d low. all (suc i) d (omega arith)) in
      omega arith

  some_made : (js : List (Job O)) (count : ℕ) → 0 < length js → ((i : ℕ) (d : Job O) → i < length js → (writes (slice_index_or js i d).seat).made ≡ made_at count i) → made_known (map joined_of js) ≡ count
  some_made [] count some all = absurd (omega arith)
  some_made (j ∷ js) count some all =
      let here : (writes j.seat).made ≡ count = all 0 j (omega arith) in
      let later : made_known (map joined_of js) ≡ 0 = none_made js (λ i d low. all (suc i) d (omega arith)) in
      omega arith

  pub len_map : {B : Type 0} (f : Job O → B) (js : List (Job O)) → length (map f js) ≡ length js
  len_map f [] = refl
  len_map f (j ∷ js) = let l : length (map f js) ≡ length js = len_map f js in omega arith

  -- all pairs keep to the recorder's numbers
  pub keep_all : (labels budget : ℕ) (js : List (Job O)) → ((i : ℕ) (d : Job O) → i < length js → KeepsTo labels budget (writes (slice_index_or js i d).seat).list) → AllKeep labels budget (pairs_of (map trace_of js))
  keep_all labels budget [] all = tt
  keep_all labels budget (j ∷ js) all =
      (subst (KeepsTo labels budget) j.listed (all 0 j (omega arith)), keep_all labels budget js (λ i d low. all (suc i) d (omega arith)))

  ends_all : (js : List (Job O)) → ((i : ℕ) (d : Job O) → i < length js → (end : End) × IsEndedBy (trace_of (slice_index_or js i d)) end) → AllEnd (map trace_of js)
  ends_all [] all i d low = absurd (omega arith)
  ends_all (j ∷ js) all zero d low = all 0 j (omega arith)
  ends_all (j ∷ js) all (suc i) d low = ends_all js (λ k e l. all (suc k) e (omega arith)) i d (omega arith)

  marked_all : (js : List (Job O)) → ((i : ℕ) (d : Job O) → i < length js → IsMarked (writes (slice_index_or js i d).seat).raised (writes (slice_index_or js i d).seat).saw (trace_of (slice_index_or js i d)))
      → AllMarked (map joined_of js) (map trace_of js)
  marked_all [] all = tt
  marked_all (j ∷ js) all = (all 0 j (omega arith), marked_all js (λ i d low. all (suc i) d (omega arith)))

  module _ (account : O → Account) (r : Recorder) (plan : Tree) (options : Options) (identity : ℕ) (tells : Bool) (count : ℕ) (js : List (Job O))
      (all : AllDone account r plan options identity tells count js) (len : length js ≡ count) where
    pub all_joined : (s : ReporterView) → 0 < count → s.joined ≡ map joined_of js → AllJoined s
    all_joined s some is =
        let made : made_known s.joined ≡ count = ap made_known is ∙ some_made js count (omega arith) (λ i d low. (all i d low).made) in
        let many : length s.joined ≡ length js = ap length is ∙ len_map joined_of js in (omega arith, omega arith)

    pub keep_done : AllKeep (numbers_of r).labels (numbers_of r).budget (pairs_of (map trace_of js))
    keep_done = keep_all (numbers_of r).labels (numbers_of r).budget js (λ i d low. (all i d low).whole.keeps)

    pub ends_done : AllEnd (map trace_of js)
    ends_done = ends_all js (λ i d low. ((all i d low).whole.end, (all i d low).whole.ends))

    pub marks_done : AllMarked (map joined_of js) (map trace_of js)
    marks_done = marked_all js (λ i d low. (all i d low).marked)

  pub numbers_done : (account : O → Account) (r : Recorder) (plan : Tree) (options : Options) (identity : ℕ) (tells : Bool) (count : ℕ) (js : List (Job O)) → AllDone account r plan options identity tells count js → map number_of js ≡ range_with_len 0 (length js)
  numbers_done account r plan options identity tells count js all = numbers_from number_of 0 js (λ i d low. (all i d low).number_is ∙ (let e : i ≡ 0 + i = omega arith in e))

pub pairs_length : (traces : List (List TraceItem)) → length (pairs_of traces) ≡ length traces
pairs_length [] = refl
pairs_length (t ∷ ts) = let l : length (pairs_of ts) ≡ length ts = pairs_length ts in omega arith
