-- The outsides of workers before their run.
use Rattle.std.proofs.Common.{◌≡◌, ◌∙◌, ℕ, ◌+◌, ◌<◌, ◌≤◌, Bool, List, [], length, map, sym, ap, arith, Some, slice_index_or}
use Rattle.std.proofs.lemmas.List.{append-nil}
use Rattle.std.specs.Prelude.{Contains, Option}
use Rattle.std.specs.List.{range_with_len}
use Rattle.jm_base.specs.declared.types.Heard.{Heard}
use Rattle.jm_base.specs.Outside.{Account}
use Rattle.element_tree.specs.Tree.{Tree}
use Rattle.jm_meaning.specs.Beginning.{Options}
use Rattle.recorder_core.specs.declared.places.Recorder.{Recorder}
use Rattle.run_engine.specs.declared.job.Job.{Job}
use Rattle.run_engine.specs.Joins.{number_of}
use Rattle.outside_world.specs.Scripted.{told_when}
use Rattle.run_engine.specs.Made.{AllFresh, AllOpened, AreUntold}
use Rattle.run_engine.specs.Served.{AreServed}
use Rattle.run_engine.proofs.Seqs.{numbers_from, low_among, each_number}

module _ {O : Type 0} (account : O → Account) where
  pub opened_fresh : (r : Recorder) (plan : Tree) (options : Options) (identity : ℕ) (tells : Bool) (count : ℕ) (js : List (Job O)) → AllFresh account r plan options identity tells count js → AllOpened account identity js
  opened_fresh r plan options identity tells count js all i d low = ((all i d low).number_is, (all i d low).opened.origin)

  pub numbers_opened : (identity : ℕ) (js : List (Job O)) → AllOpened account identity js → map number_of js ≡ range_with_len 0 (length js)
  numbers_opened identity js all = numbers_from number_of 0 js (λ i d low. (all i d low).0 ∙ (let e : i ≡ 0 + i = omega arith in e))

  pub origin_opened : (identity : ℕ) (js : List (Job O)) → AllOpened account identity js
      → (i : ℕ) (d : Job O) → i < length js → (account (slice_index_or js i d).out).origin ≡ Some (identity, (slice_index_or js i d).number)
  origin_opened identity js all i d low = (all i d low).1 ∙ ap (λ (k : ℕ). Some (identity, k)) (sym (all i d low).0)

  -- the outsides of workers that never ran were told nothing
  pub untold_fresh : (r : Recorder) (plan : Tree) (options : Options) (identity : ℕ) (tells : Bool) (count : ℕ) (js : List (Job O)) → AllFresh account r plan options identity tells count js
      → (opened : List ℕ) (told : ℕ → Option (List Heard)) → opened ≡ range_with_len 0 (length js)
      → ((i : ℕ) (d : Job O) → i < length js → told i ≡ (account (slice_index_or js i d).out).told) → AreUntold tells opened told
  untold_fresh r plan options identity tells count js all opened told is closed i has =
      each_number (λ k. told k ≡ told_when tells []) js (λ k d low. closed k d low ∙ (all k d low).opened.told) i (low_among (length js) i opened is has)

-- none was opened
pub none_contained : (opened : List ℕ) (i : ℕ) → opened ≡ [] → Contains opened i → ⊥
none_contained opened i none has = let low : i < 0 = low_among 0 i opened none has in omega arith

-- nothing was opened, and nothing closed
pub none_served : (most : ℕ) (opened closed : List ℕ) → opened ≡ [] → (n : ℕ) × (n ≤ most) × AreServed n opened closed closed
none_served most opened closed none = (0, omega arith, record { opened_are = none; closed_are = sym (append-nil closed) })
