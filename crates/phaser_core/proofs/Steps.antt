-- Each kind of step keeps the recorder invariant, and what a step may know of the state in which it is done.
use Rattle.std.proofs.Common.{◌≡◌, ◌≢◌, ℕ, ◌+◌, ◌<◌, ◌≤◌, Bool, true, false, List, [], ◌∷◌, ◌++◌, length, get_or, set, sym, refl, ap, ◌∙◌, subst, arith, add-zero, length-append}
use mathlib.Core.Logic.{dite}
use native.Mathlib.Decide.{ℕ_discrete}
use mathlib.Core.Option.{some}
use lib.ListN.{get_elem?}
use Rattle.jm_base.specs.declared.types.Entry.{Entry}
use Rattle.interval_tables.specs.Rows.{sum_of, IsInBounds}
use Rattle.phaser_core.specs.declared.view.Numbers.{Numbers}
use Rattle.phaser_core.specs.declared.view.Stage.TheVariants.{Out, In, On}
use Rattle.phaser_core.specs.declared.view.WriterView.{WriterView}
use Rattle.phaser_core.specs.declared.view.ReporterStage.{ReporterStage}
use Rattle.phaser_core.specs.declared.view.ReporterStage.TheVariants.{Idle, Swapped, Cleared, Waiting, Harvest}
use Rattle.phaser_core.specs.declared.view.ReporterView.{ReporterView}
use Rattle.phaser_core.specs.declared.view.View.{View}
use Rattle.phaser_core.specs.declared.view.View.TheVariants.{Reporter, Writer, Gone}
use Rattle.phaser_core.specs.Cells.{is_odd, end_at, initial, sums, table_cells, cell_at}
use Rattle.phaser_core.specs.Views.{IsSized, writer_zero, first_reading, ready_reading, AllJoined, active, pending, taken_count, joined_at, worth}
use Rattle.phaser_core.specs.Shares.{AllUpTo, SumsOfLists, SumsOfStripes, joined_share}
use Rattle.phaser_core.specs.CoreMoves.{entering, loading, adding, leaving, swapping, clearing, flipping, looking, taking, looking_stop, raising_stop, raising_as_reporter, splitting, split_off, joining, first_words}
use Rattle.phaser_core.specs.Invariant.{RecorderInvariant, Keeps, InTable, LiveFrom, raised_in, saw_in}
use Rattle.phaser_core.proofs.Halves.{AllTimely}
use Rattle.phaser_core.proofs.PhaseSteps.{is_reader, at_front, bound}
use Rattle.phaser_core.proofs.CellSteps.{last_is, before_last}
use Rattle.jm_base.proofs.Totals.{total_at}
use Rattle.phaser_core.proofs.Members.{all_gone}
use Rattle.phaser_core.proofs.Sounds.{enter_sound, load_sound, add_sound, exit_sound, swap_sound, clear_sound, flip_sound, look_sound, take_sound, split_first_sound, split_more_sound, join_sound, opens_sound, raise_sound, look_stop_sound, raise_reporter_sound, look_knows, stop_knows}
use Rattle.phaser_core.proofs.Sharing.{sums_of_lists, joined_low, joined_counts, joined_stripes, taken_sums}
use Rattle.phaser_core.proofs.Whole.{whole, halves, timely}

-- Steps of a writer

module _ (n : Numbers) (ws : List ℕ) (vs : List View) (k : RecorderInvariant n ws vs) (id : ℕ) (w : WriterView) (at : get_elem? vs id ≡ some (Writer w)) where
  pub enter_keeps : w.stage ≡ Out → length w.list < n.budget → Keeps n ws vs id (entering w)
  enter_keeps out room = whole n _ _ (enter_sound n ws vs (halves n ws vs k) id w at out room)

  pub load_keeps : (q : Bool) (e : Entry) → w.stage ≡ In q → e.label < n.labels → e.elapsed < 4294967296 → e.bytes < 4294967296 → Keeps n ws vs id (loading w q e)
  load_keeps q e is label elapsed bytes = whole n _ _ (load_sound n ws vs (halves n ws vs k) id w at q e is label elapsed bytes)

  pub add_keeps : (q : Bool) (m : ℕ) (e : Entry) (d : ℕ) → w.stage ≡ On q m e d → d < sums e → Keeps n ws vs id (adding n.labels w q m e d)
  add_keeps q m e d is more = whole n _ _ (add_sound n ws vs (halves n ws vs k) id w at q m e d is more)

  pub exit_keeps : (q : Bool) (m : ℕ) (e : Entry) → w.stage ≡ On q m e (sums e) → Keeps n ws vs id (leaving w q m e)
  exit_keeps q m e is = whole n _ _ (exit_sound n ws vs (halves n ws vs k) id w at q m e is)

  pub look_stop_keeps : Keeps n ws vs id (looking_stop w)
  look_stop_keeps = whole n _ _ (look_stop_sound n ws vs (halves n ws vs k) id w at)

  pub raise_keeps : Keeps n ws vs id (raising_stop w)
  raise_keeps = whole n _ _ (raise_sound n ws vs (halves n ws vs k) id w at)

  pub split_keeps : 0 < w.made → w.made < n.writers → RecorderInvariant n ws (set vs id (splitting (Writer w)) ++ split_off (Writer w) ∷ [])
  split_keeps some_made room = whole n _ _ (split_more_sound n ws vs (halves n ws vs k) id w at some_made room)

  -- the interval that a load finds is at least all of the list
  pub load_knows : AllUpTo (get_or ws 0 0) w.list
  load_knows = subst (λ (a : ℕ). AllUpTo a w.list) (sym k.active_word) (k.intervals_rise id (Writer w) at).2

  -- the stop word is 0 or 1, and 1 for a writer that raised it or saw it as 1
  pub look_stop_knows : (get_or ws 4 0 ≤ 1) × (w.raised ≡ true → get_or ws 4 0 ≡ 1) × (w.saw ≡ true → get_or ws 4 0 ≡ 1)
  look_stop_knows = stop_knows n ws vs (halves n ws vs k) id w at

-- Steps of the reporter

module _ (n : Numbers) (ws : List ℕ) (vs : List View) (k : RecorderInvariant n ws vs) (id : ℕ) (r : ReporterView) (at : get_elem? vs id ≡ some (Reporter r)) where
  pub reporter_port : id ≡ 0
  reporter_port = at_front n ws vs (halves n ws vs k).phased id r at

  pub reader_is : k.reader ≡ r
  reader_is = is_reader n ws vs (halves n ws vs k).phased id r at

  pub labels_are : r.labels ≡ n.labels
  labels_are = subst (λ (q : ReporterView). q.labels ≡ n.labels) reader_is k.accounts.labels

  pub swap_keeps : r.closing ≡ Idle → r.interval < 16777216 → Keeps n ws vs id (swapping r)
  swap_keeps idle few = whole n _ _ (swap_sound n ws vs (halves n ws vs k) id r at idle few)

  pub clear_keeps : r.closing ≡ Swapped → Keeps n ws vs id (clearing r)
  clear_keeps swapped = whole n _ _ (clear_sound n ws vs (halves n ws vs k) id r at swapped)

  pub flip_keeps : r.closing ≡ Cleared → Keeps n ws vs id (flipping r)
  flip_keeps cleared = whole n _ _ (flip_sound n ws vs (halves n ws vs k) id r at cleared)

  pub look_keeps : (want : ℕ) → r.closing ≡ Waiting want → Keeps n ws vs id (looking r want)
  look_keeps want waiting = whole n _ _ (look_sound n ws vs (halves n ws vs k) id r at want waiting)

  pub take_keeps : (j : ℕ) → r.closing ≡ Harvest j → Keeps n ws vs id (taking r j)
  take_keeps j harvest = whole n _ _ (take_sound n ws vs (halves n ws vs k) id r at j harvest)

  pub raise_as_reporter_keeps : Keeps n ws vs id (raising_as_reporter r)
  raise_as_reporter_keeps = whole n _ _ (raise_reporter_sound n ws vs (halves n ws vs k) id r at)

  -- inside `new` the reporter makes writer 0
  pub split_first_keeps : r.ready ≡ false → RecorderInvariant n ws (set vs id (splitting (Reporter r)) ++ split_off (Reporter r) ∷ [])
  split_first_keeps fresh = whole n _ _ (split_first_sound n ws vs (halves n ws vs k) id r at fresh)

  pub join_keeps : (port : ℕ) (w : WriterView) → (port ≡ id → ⊥) → get_elem? (set vs id (joining (Reporter r) (Writer w))) port ≡ some (Writer w) → w.stage ≡ Out → RecorderInvariant n ws (set (set vs id (joining (Reporter r) (Writer w))) port Gone)
  join_keeps port w apart there out = whole n _ _ (join_sound n ws vs (halves n ws vs k) id r port w at apart there out)

  -- while cells are taken, there is one to take
  pub take_knows : (j : ℕ) → r.closing ≡ Harvest j → j < table_cells n.labels
  take_knows j harvest = subst (InTable (table_cells n.labels)) (ap (λ (q : ReporterView). q.closing) reader_is ∙ harvest) k.cells.in_table

  -- the active word is the interval that closes
  pub swap_finds : r.closing ≡ Idle → get_or ws 0 0 ≡ r.interval
  swap_finds idle = subst (λ (q : ReporterView). get_or ws 0 0 ≡ active q) reader_is k.active_word ∙ ap (λ (p : ℕ). r.interval + p) (ap pending idle) ∙ add-zero r.interval

  -- an end word lies between what its phase begins with and that with all entries
  pub clear_finds : (p : Bool) → (initial p ≤ get_or ws (end_at p) 0) × (get_or ws (end_at p) 0 ≤ initial p + 4194304)
  clear_finds p = let e = k.accounts.ends p in let b = bound n ws vs (halves n ws vs k).phased in let low = e.0 in let high = e.1 in (low, omega arith)

  -- the stop word is 0 or 1, and 1 where the reporter, or a writer that it took in, raised it, or such a writer saw it as 1
  pub stop_finds : (get_or ws 4 0 ≤ 1) × (0 < raised_in (Reporter r) → get_or ws 4 0 ≡ 1) × (0 < saw_in (Reporter r) → get_or ws 4 0 ≡ 1)
  stop_finds = (
    k.stop_word.low,
    (λ h. k.stop_word.raised (let t = total_at raised_in vs id (Reporter r) at in omega arith)),
    (λ h. k.stop_word.seen (let t = total_at saw_in vs id (Reporter r) at in omega arith)),
  )

  -- the cells that are taken sum some entries, with the one that is taken next
  pub take_sums : (j : ℕ) → r.closing ≡ Harvest j → let x : ℕ = get_or ws (cell_at r.labels r.interval j) 0 in SumsOfStripes r.labels (length (r.cells ++ x ∷ [])) (λ i. get_or (r.cells ++ x ∷ []) i 0)
  take_sums j harvest =
      let x : ℕ = get_or ws (cell_at r.labels r.interval j) 0 in let l : List ℕ = r.cells ++ x ∷ [] in
      let q : ReporterView = k.reader in let is = reader_is in
      let low = take_knows j harvest in
      let long : length l ≡ length r.cells + 1 = length-append r.cells (x ∷ []) in
      let now : q.closing ≡ Harvest j = ap (λ (z : ReporterView). z.closing) is ∙ harvest in
      let count : length r.cells ≡ j = subst (λ (z : ReporterView). length z.cells ≡ taken_count z.closing) is k.cells.count ∙ ap taken_count harvest in
      let before : (i : ℕ) → i < length r.cells → get_or r.cells i 0 ≡ worth n.labels q.interval i vs = λ i lt. subst (λ (z : ReporterView). (i : ℕ) → i < length z.cells → get_or z.cells i 0 ≡ worth n.labels q.interval i vs) is k.cells.taken i lt in
      let live : LiveFrom q.closing q.interval q.interval = subst (λ (c : ReporterStage). LiveFrom c q.interval q.interval) (sym now) (omega arith, omega arith) in
      let next : x ≡ worth n.labels q.interval j vs =
      (λ i. get_or ws (cell_at (labels_are i) (sym is i).interval j) 0) ∙ k.cells.live q.interval j live low (λ _. let same : length q.cells ≡ length r.cells = ap (λ (z : ReporterView). length z.cells) is in omega arith) in
      subst (λ (labels : ℕ). SumsOfStripes labels (length l) (λ i. get_or l i 0)) (sym labels_are)
      (taken_sums n ws vs (halves n ws vs k).phased (timely n ws vs k) q.interval j (length l) (λ i. get_or l i 0) now refl
      (λ i lt. dite (ℕ_discrete i (length r.cells))
      (λ e. subst (λ (z : ℕ). get_or l z 0 ≡ worth n.labels q.interval z vs) (sym e) (last_is r.cells x 0 (length r.cells) refl ∙ next ∙ ap (λ (z : ℕ). worth n.labels q.interval z vs) (sym count)))
      (λ ne. before_last r.cells x 0 i (omega arith) ∙ before i (omega arith))))

  -- cells that hold what the joined lists contribute sum some entries
  pub joined_sums : (m : ℕ) → SumsOfStripes n.labels (table_cells n.labels) (λ j. joined_at n.labels m j r.joined)
  joined_sums m = joined_stripes n.labels m (table_cells n.labels) r.joined (λ j. joined_at n.labels m j r.joined) (joined_counts n ws vs (halves n ws vs k) id r at) (λ j low. refl)

  -- the end word that is looked at is at most what is waited for, and is that where every writer is joined
  pub look_finds : (want : ℕ) → r.closing ≡ Waiting want → (get_or ws (end_at (is_odd r.interval)) 0 ≤ want) × (AllJoined r → get_or ws (end_at (is_odd r.interval)) 0 ≡ want)
  look_finds want waiting = look_knows n ws vs (halves n ws vs k) id r want at waiting

  -- each closed report is the sum of some list of entries
  pub reports_sum : SumsOfLists n r
  reports_sum = subst (SumsOfLists n) reader_is (sums_of_lists n ws vs (halves n ws vs k))

  -- what joined writers recorded in an interval sums to rows in bounds
  pub joined_bounds : (m : ℕ) → IsInBounds (sum_of n.labels (joined_share m r.joined))
  joined_bounds m = joined_low n ws vs (halves n ws vs k) id r at m

  pub joined_in_time : AllTimely (active r) r.joined
  joined_in_time = subst (λ (q : ReporterView). AllTimely (active q) r.joined) reader_is (timely n ws vs k id (Reporter r) at)

  -- where every writer is joined there is no other view
  pub others_gone : AllJoined r → (port : ℕ) (v : View) → port ≢ 0 → get_elem? vs port ≡ some v → v ≡ Gone
  others_gone all = all_gone n ws vs (halves n ws vs k).phased id r at all

-- The start

pub opens_keeps : (n : Numbers) → IsSized n → RecorderInvariant n (first_words n.labels) (Reporter (first_reading n.labels) ∷ [])
opens_keeps n sized = whole n _ _ (opens_sound n sized)

pub ready_keeps : (n : Numbers) → IsSized n → RecorderInvariant n (first_words n.labels) (Reporter (ready_reading n.labels) ∷ writer_zero ∷ [])
ready_keeps n sized = split_first_keeps n (first_words n.labels) (Reporter (first_reading n.labels) ∷ []) (opens_keeps n sized) 0 (first_reading n.labels) refl refl
