-- From workers before their run, and after it, to workers that can be taken in.
use Rattle.std.proofs.Common.{◌≡◌, ◌∙◌, ℕ, Bool, List, [], Some, ap, subst, arith, slice_index_or}
use Rattle.jm_base.specs.declared.types.End.{End}
use Rattle.jm_base.specs.declared.types.End.TheVariants.{Completed, StopThread, StopTest, Stopped, SampleLimit, RoundLimit, ValueLimit, NoMemory}
use Rattle.jm_base.specs.Outside.{Account}
use Rattle.element_tree.specs.Tree.{Tree}
use Rattle.jm_meaning.specs.Beginning.{Options}
use Rattle.outside_world.specs.Scripted.{told_when}
use Rattle.thread_machine.specs.declared.trace.TraceItem.{TraceItem}
use Rattle.thread_machine.specs.Follows.{IsEndedBy, HasRun}
use Rattle.recorder_core.specs.declared.places.Recorder.{Recorder}
use Rattle.critical_section.specs.declared.places.Sections.{Sections}
use Rattle.run_engine.specs.declared.job.Job.{Job}
use Rattle.run_engine.specs.Followed.{FollowsWhere}
use Rattle.run_engine.specs.JobsRan.{HasEnded, RunsToEnd, JobRan, AllRan, AllAmong}
use Rattle.run_engine.specs.Made.{IsFresh, AllFresh}
use Rattle.run_engine.specs.Joins.{IsDone, AllDone}

module _ (start now : Account) (plan : Tree) (thread : ℕ) (options : Options) (trace : List TraceItem) where
  -- a thread that has run to its end has ended
  pub has_ended : (end : End) → HasRun start now plan thread options trace end → HasEnded start now plan thread options trace end
  has_ended Stopped h = absurd h
  has_ended end h = h

  ends_so : (end : End) → HasEnded start now plan thread options trace end → IsEndedBy trace end
  ends_so Completed h = h.last
  ends_so StopThread h = h.last
  ends_so StopTest h = h.last
  ends_so Stopped h = h.last
  ends_so SampleLimit h = h.last
  ends_so RoundLimit h = h.last
  ends_so ValueLimit h = h.last
  ends_so NoMemory h = h.last

  module _ (nothing : start.told ≡ Some []) where
    follows_so : (end : End) → HasEnded start now plan thread options trace end → FollowsWhere plan thread options now.told trace
    follows_so Completed h = let t = h.told nothing in (t.0, t.1, record { end = Completed; last = h.last; follows = t.2 })
    follows_so StopThread h = let t = h.told nothing in (t.0, t.1, record { end = StopThread; last = h.last; follows = t.2 })
    follows_so StopTest h = let t = h.told nothing in (t.0, t.1, record { end = StopTest; last = h.last; follows = t.2 })
    follows_so Stopped h = let t = h.told nothing in (t.0, t.1, record { end = Stopped; last = h.last; follows = t.2 })
    follows_so SampleLimit h = let t = h.told nothing in (t.0, t.1, record { end = SampleLimit; last = h.last; follows = t.2 })
    follows_so RoundLimit h = let t = h.told nothing in (t.0, t.1, record { end = RoundLimit; last = h.last; follows = t.2 })
    follows_so ValueLimit h = let t = h.told nothing in (t.0, t.1, record { end = ValueLimit; last = h.last; follows = t.2 })
    follows_so NoMemory h = let t = h.told nothing in (t.0, t.1, record { end = NoMemory; last = h.last; follows = t.2 })

module _ {O : Type 0} (account : O → Account) (r : Recorder) (plan : Tree) (options : Options) (identity : ℕ) (tells : Bool) (count : ℕ) where
  one_done : (i : ℕ) (before after : Job O) → IsFresh account r plan options identity tells count i before → JobRan account r before after → IsDone account r plan options identity tells count i after
  one_done i before after f h =
      let thread : before.worker.thread ≡ i = before.thread ∙ f.number_is in
      let runs : RunsToEnd (account before.out) (account after.out) plan i options after.worker.trace =
      subst (λ (t : ℕ). RunsToEnd (account before.out) (account after.out) plan t options after.worker.trace) thread
      (subst (λ (p : Tree). RunsToEnd (account before.out) (account after.out) p before.worker.thread options after.worker.trace) f.plan_is (h.runs options (f.stands (account before.out)))) in
      record {
        seat = h.seat;
        number_is = h.number ∙ f.number_is;
        plan_is = h.plan ∙ f.plan_is;
        origin = h.outside.origin ∙ f.opened.origin;
        made = h.made ∙ f.new.made;
        over = h.over;
        rises = h.rises;
        marked = h.marked;
        whole = record { end = runs.0; ends = ends_so (account before.out) (account after.out) plan i options after.worker.trace runs.0 runs.1; keeps = h.keeps };
        follows = λ told. follows_so (account before.out) (account after.out) plan i options after.worker.trace (f.opened.told ∙ ap (λ (b : Bool). told_when b []) told) runs.0 runs.1;
      }

  pub all_done : (xs ys : List (Job O)) → AllFresh account r plan options identity tells count xs → AllRan account r xs ys → AllDone account r plan options identity tells count ys
  all_done xs ys fresh ran i d low =
      let len = ran.len in
      one_done i (slice_index_or xs i d) (slice_index_or ys i d) (fresh i d (omega arith)) (ran.each i d (omega arith))

-- the locks of each stay
pub all_among : {O : Type 0} (account : O → Account) (r : Recorder) (s : Sections) (xs ys : List (Job O)) → AllAmong s xs → AllRan account r xs ys → AllAmong s ys
all_among account r s xs ys among ran i d low =
    let len = ran.len in (ran.each i d (omega arith)).same_sections ∙ among i d (omega arith)
