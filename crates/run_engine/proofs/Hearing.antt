-- What the outsides were told that were opened, whatever became of the run.
use Rattle.std.proofs.Common.{◌≡◌, ℕ, ◌<◌, true, List, [], ◌∷◌, length, refl, arith, Option, slice_index_or}
use Rattle.std.specs.List.{range_with_len}
use Rattle.std.proofs.lemmas.List.Elements.{All-nil}
use Rattle.jm_base.specs.declared.types.End.TheVariants.{NoMemory}
use Rattle.jm_base.specs.declared.types.Heard.{Heard}
use Rattle.jm_base.specs.Run.{over_value}
use Rattle.jm_base.specs.Outside.{list_form, here}
use Rattle.element_tree.specs.Tree.{Tree}
use Rattle.jm_meaning.specs.Beginning.{Options}
use Rattle.jm_meaning.specs.Meaning.{events}
use Rattle.thread_machine.specs.declared.trace.TraceItem.{TraceItem}
use Rattle.thread_machine.specs.declared.trace.TraceItem.TheVariants.{Ended}
use Rattle.thread_machine.specs.SectionOrder.{IsNoEnd, IsBareNoEnd}
use Rattle.run_engine.specs.Followed.{FollowsTold, AllFollow, AreFollowed}
use Rattle.run_engine.specs.Made.{AreUntold}
use Rattle.run_engine.proofs.Opening.{none_contained}
use Rattle.run_engine.proofs.Seqs.{low_among}

module _ (plan : Tree) (options : Options) (opened : List ℕ) (told : ℕ → Option (List Heard)) where
  -- a thread that was cut before its first event
  cut_at_start : (thread : ℕ) → FollowsTold plan thread options [] (Ended NoMemory ∷ [])
  cut_at_start thread = record {
    end = NoMemory;
    last = ([], refl, All-nil IsNoEnd);
    follows = record {
      given = [];
      more = (over_value list_form (events plan thread options) []).events;
      left = events plan thread options;
      prefix = refl;
      used = here;
      ends = record { no_end = All-nil IsBareNoEnd; items = refl; last = ([], refl, All-nil IsNoEnd) };
    };
  }

  pub untold_follow : AreUntold true opened told → AreFollowed plan options opened told
  untold_follow none i has = (Ended NoMemory ∷ [], ([], none i has, cut_at_start i))

  pub none_follow : opened ≡ [] → AreFollowed plan options opened told
  none_follow none i has = absurd (none_contained opened i none has)

  pub all_follow : (n : ℕ) (traces : List (List TraceItem)) → opened ≡ range_with_len 0 n → length traces ≡ n → AllFollow plan options told traces → AreFollowed plan options opened told
  all_follow n traces is many follow i has =
      let low : i < n = low_among n i opened is has in (slice_index_or traces i [], follow i [] (omega arith))
