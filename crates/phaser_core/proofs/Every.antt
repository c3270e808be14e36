-- Every step of the table keeps the recorder invariant, and so does every list of events.
use Rattle.std.proofs.Common.{◌≡◌, ℕ, ◌+◌, ◌<◌, ◌==◌, not, Bool, true, false, ltb, List, [], ◌∷◌, ◌++◌, length, set, sym, refl, ap, ◌∙◌, subst, arith, Some, None, Option, unwrap_or}
use mathlib.Core.Option.{some, none, some-injective, some-ne-none}
use mathlib.Core.Option as maybe
use lib.ListN.{get_elem?}
use Rattle.std.proofs.lemmas.Bool.{eqb-true}
use Rattle.std.proofs.lemmas.Bool.Decides.{nat_tests}
use Rattle.jm_base.specs.SumTotals.{one_if}
use Rattle.phaser_core.specs.declared.view.Numbers.{Numbers}
use Rattle.phaser_core.specs.declared.view.Stage.{Stage}
use Rattle.phaser_core.specs.declared.view.Stage.TheVariants.{Out, In, On}
use Rattle.phaser_core.specs.declared.view.WriterView.{WriterView}
use Rattle.phaser_core.specs.declared.view.ReporterStage.{ReporterStage}
use Rattle.phaser_core.specs.declared.view.ReporterStage.TheVariants.{Idle, Swapped, Cleared, Waiting, Harvest}
use Rattle.phaser_core.specs.declared.view.ReporterView.{ReporterView}
use Rattle.phaser_core.specs.declared.view.View.{View}
use Rattle.phaser_core.specs.declared.view.View.TheVariants.{Reporter, Writer, Gone}
use Rattle.phaser_core.specs.declared.view.Event.{Event}
use Rattle.phaser_core.specs.declared.view.Event.TheVariants as event
use Rattle.phaser_core.specs.Cells.{sums}
use Rattle.phaser_core.specs.Views.{IsSized}
use Rattle.phaser_core.specs.CoreMoves.{Move, entering, loading, adding, leaving, swapping, clearing, flipping, looking, taking, looking_stop, raising_stop, raising_as_reporter, stepped_words, stepped_views, splitting, split_off, joining}
use Rattle.phaser_core.specs.Invariant.{RecorderInvariant, Keeps}
use Rattle.phaser_core.specs.Step.{CoreState, given, port_of, writer_move, reporter_move, move_of, move_at, moved, split_if, split_stage, split_at, join_stage, join_at, core_step, first_state, next_state, after_all, FitsEvent, AllFit}
use Rattle.phaser_core.proofs.Lists.{set_else}
use Rattle.phaser_core.proofs.Steps.{enter_keeps, load_keeps, add_keeps, exit_keeps, swap_keeps, clear_keeps, flip_keeps, look_keeps, take_keeps, raise_keeps, look_stop_keeps, raise_as_reporter_keeps, split_keeps, join_keeps, ready_keeps}

given_some : (b : Bool) (m m' : Move) → given b m ≡ Some m' → (b ≡ true) × (m ≡ m')
given_some true m m' h = (refl, cc)
given_some false m m' h = absurd cc

same_some : (m m' : Move) → Some m ≡ Some m' → m ≡ m'
same_some m m' h = cc

less : (a b : ℕ) → ltb a b ≡ true → a < b
less a b h = grind (arith, nat_tests)

module _ (n : Numbers) (ws : List ℕ) (vs : List View) (k : RecorderInvariant n ws vs) (port : ℕ) where
  abbrev K : Move → Type 0
  K m = Keeps n ws vs port m

  writer_case : (e : Event) (w : WriterView) (s : Stage) (m : Move) → get_elem? vs port ≡ some (Writer w) → w.stage ≡ s → FitsEvent e → writer_move n e w s ≡ Some m → K m
  writer_case (event.Enter x) w Out m at is f h = let g = given_some (ltb (length w.list) n.budget) (entering w) m h in subst K g.1 (enter_keeps n ws vs k port w at is (less (length w.list) n.budget g.0))
  writer_case (event.Load x e) w (In p) m at is f h = let g = given_some (ltb e.label n.labels) (loading w p e) m h in subst K g.1 (load_keeps n ws vs k port w at p e is (less e.label n.labels g.0) f.0 f.1)
  writer_case (event.Add x) w (On p i e d) m at is f h = let g = given_some (ltb d (3 + one_if (not e.ok))) (adding n.labels w p i e d) m h in let l = less d (3 + one_if (not e.ok)) g.0 in subst K g.1 (add_keeps n ws vs k port w at p i e d is (omega arith))
  writer_case (event.Lower x) w (On p i e d) m at is f h = let g = given_some (d == 3 + one_if (not e.ok)) (adding n.labels w p i e d) m h in let l = eqb-true d (3 + one_if (not e.ok)) g.0 in subst K g.1 (add_keeps n ws vs k port w at p i e d is (omega arith))
  writer_case (event.Raise x) w (On p i e d) m at is f h = let g = given_some (d == 4 + one_if (not e.ok)) (adding n.labels w p i e d) m h in let l = eqb-true d (4 + one_if (not e.ok)) g.0 in subst K g.1 (add_keeps n ws vs k port w at p i e d is (omega arith))
  writer_case (event.Exit x) w (On p i e d) m at is f h = let g = given_some (d == sums e) (leaving w p i e) m h in let l = eqb-true d (sums e) g.0 in subst K g.1 (exit_keeps n ws vs k port w at p i e (is ∙ ap (λ (z : ℕ). On p i e z) l))
  writer_case (event.LookStop x) w Out m at is f h = subst K (same_some (looking_stop w) m h) (look_stop_keeps n ws vs k port w at)
  writer_case (event.RaiseStop x) w Out m at is f h = subst K (same_some (raising_stop w) m h) (raise_keeps n ws vs k port w at)
  writer_case e w s m at is f h = absurd cc

  reporter_case : (e : Event) (r : ReporterView) (c : ReporterStage) (m : Move) → get_elem? vs port ≡ some (Reporter r) → r.closing ≡ c → reporter_move e r c ≡ Some m → K m
  reporter_case event.SwapActive r Idle m at is h = let g = given_some (ltb r.interval 16777216) (swapping r) m h in subst K g.1 (swap_keeps n ws vs k port r at is (less r.interval 16777216 g.0))
  reporter_case event.ClearEnd r Swapped m at is h = subst K (same_some (clearing r) m h) (clear_keeps n ws vs k port r at is)
  reporter_case event.Flip r Cleared m at is h = subst K (same_some (flipping r) m h) (flip_keeps n ws vs k port r at is)
  reporter_case event.Look r (Waiting want) m at is h = subst K (same_some (looking r want) m h) (look_keeps n ws vs k port r at want is)
  reporter_case event.Take r (Harvest j) m at is h = subst K (same_some (taking r j) m h) (take_keeps n ws vs k port r at j is)
  reporter_case event.ReporterStop r Idle m at is h = subst K (same_some (raising_as_reporter r) m h) (raise_as_reporter_keeps n ws vs k port r at)
  reporter_case e r c m at is h = absurd cc

  view_case : (e : Event) (v : View) (m : Move) → get_elem? vs port ≡ some v → FitsEvent e → move_of n e v ≡ Some m → K m
  view_case e (Reporter r) m at f h = reporter_case e r r.closing m at refl h
  view_case e (Writer w) m at f h = writer_case e w w.stage m at refl f h
  view_case e Gone m at f h = absurd cc

  found_case : (e : Event) (o : maybe.Option View) (m : Move) → get_elem? vs port ≡ o → FitsEvent e → move_at n e o ≡ Some m → K m
  found_case e none m at f h = absurd cc
  found_case e (some v) m at f h = view_case e v m at f h

  moved_case : (o : Option Move) (s : CoreState) → ((m : Move) → o ≡ Some m → K m) → moved ws vs port o ≡ Some s → RecorderInvariant n s.0 s.1
  moved_case None s f h = absurd cc
  moved_case (Some m) s f h = let same : (stepped_words ws m, stepped_views ws vs port m) ≡ s = cc in subst (λ (z : CoreState). RecorderInvariant n z.0 z.1) same (f m refl)

module _ (n : Numbers) (ws : List ℕ) (vs : List View) (k : RecorderInvariant n ws vs) where
  same_state : (a b : CoreState) → Some a ≡ Some b → a ≡ b
  same_state a b h = cc

  split_if_case : (b : Bool) (w : WriterView) (s : CoreState) → get_elem? vs 1 ≡ some (Writer w) → b ≡ ltb w.made n.writers → split_if b ws vs (Writer w) ≡ Some s → RecorderInvariant n s.0 s.1
  split_if_case true w s at is h =
      let fits = k.accounts.each 1 (Writer w) at in let port = fits.0 in let zero_number : w.number ≡ 0 = omega arith in
      subst (λ (z : CoreState). RecorderInvariant n z.0 z.1) (same_state (ws, set vs 1 (splitting (Writer w)) ++ split_off (Writer w) ∷ []) s h)
      (split_keeps n ws vs k 1 w at (fits.4 zero_number) (less w.made n.writers (sym is)))
  split_if_case false w s at is h = absurd cc

  split_stage_case : (w : WriterView) (g : Stage) (s : CoreState) → get_elem? vs 1 ≡ some (Writer w) → split_stage n ws vs w g ≡ Some s → RecorderInvariant n s.0 s.1
  split_stage_case w Out s at h = split_if_case (ltb w.made n.writers) w s at refl h
  split_stage_case w (In p) s at h = absurd cc
  split_stage_case w (On p m e d) s at h = absurd cc

  split_case : (o : maybe.Option View) (s : CoreState) → get_elem? vs 1 ≡ o → split_at n ws vs o ≡ Some s → RecorderInvariant n s.0 s.1
  split_case none s at h = absurd cc
  split_case (some (Reporter r)) s at h = absurd cc
  split_case (some (Writer w)) s at h = split_stage_case w w.stage s at h
  split_case (some Gone) s at h = absurd cc

  join_stage_case : (port : ℕ) (r : ReporterView) (c : ReporterStage) (w : WriterView) (g : Stage) (s : CoreState) → (port ≡ 0 → ⊥) → get_elem? vs 0 ≡ some (Reporter r) → get_elem? vs port ≡ some (Writer w) → w.stage ≡ g → join_stage ws vs port r c w g ≡ Some s → RecorderInvariant n s.0 s.1
  join_stage_case port r Idle w Out s ne prefix at out h =
      subst (λ (z : CoreState). RecorderInvariant n z.0 z.1) (same_state (ws, set (set vs 0 (joining (Reporter r) (Writer w))) port Gone) s h)
      (join_keeps n ws vs k 0 r prefix port w ne (set_else vs 0 port (joining (Reporter r) (Writer w)) ne ∙ at) out)
  join_stage_case port r c w g s ne prefix at out h = absurd cc

  join_case : (port : ℕ) (o o' : maybe.Option View) (s : CoreState) → (port ≡ 0 → ⊥) → get_elem? vs 0 ≡ o → get_elem? vs port ≡ o' → join_at ws vs port o o' ≡ Some s → RecorderInvariant n s.0 s.1
  join_case port (some (Reporter r)) (some (Writer w)) s ne prefix at h = join_stage_case port r r.closing w w.stage s ne prefix at refl h
  join_case port o o' s ne prefix at h = absurd cc

-- a step of one word
abbrev one_step : Numbers → List ℕ → List View → Event → Option CoreState
one_step n ws vs e = moved ws vs (port_of e) (move_at n e (get_elem? vs (port_of e)))

one_step_keeps : (n : Numbers) (ws : List ℕ) (vs : List View) (e : Event) (s : CoreState) → RecorderInvariant n ws vs → FitsEvent e → one_step n ws vs e ≡ Some s → RecorderInvariant n s.0 s.1
one_step_keeps n ws vs e s k f h = moved_case n ws vs k (port_of e) (move_at n e (get_elem? vs (port_of e))) s (λ m is. found_case n ws vs k (port_of e) e (get_elem? vs (port_of e)) m refl f is) h

-- from a state that meets the invariant every step of the core leads to one
pub core_step_keeps : (n : Numbers) (ws : List ℕ) (vs : List View) (e : Event) (s : CoreState) → RecorderInvariant n ws vs → FitsEvent e → core_step n ws vs e ≡ Some s → RecorderInvariant n s.0 s.1
core_step_keeps n ws vs event.Split s k f h = split_case n ws vs k (get_elem? vs 1) s refl h
core_step_keeps n ws vs (event.Join w) s k f h = join_case n ws vs k (w + 1) (get_elem? vs 0) (get_elem? vs (w + 1)) s (λ e. omega arith) refl refl h
core_step_keeps n ws vs (event.Enter x) s k f h = one_step_keeps n ws vs (event.Enter x) s k f h
core_step_keeps n ws vs (event.Load x e) s k f h = one_step_keeps n ws vs (event.Load x e) s k f h
core_step_keeps n ws vs (event.Add x) s k f h = one_step_keeps n ws vs (event.Add x) s k f h
core_step_keeps n ws vs (event.Lower x) s k f h = one_step_keeps n ws vs (event.Lower x) s k f h
core_step_keeps n ws vs (event.Raise x) s k f h = one_step_keeps n ws vs (event.Raise x) s k f h
core_step_keeps n ws vs (event.Exit x) s k f h = one_step_keeps n ws vs (event.Exit x) s k f h
core_step_keeps n ws vs (event.LookStop x) s k f h = one_step_keeps n ws vs (event.LookStop x) s k f h
core_step_keeps n ws vs (event.RaiseStop x) s k f h = one_step_keeps n ws vs (event.RaiseStop x) s k f h
core_step_keeps n ws vs event.SwapActive s k f h = one_step_keeps n ws vs event.SwapActive s k f h
core_step_keeps n ws vs event.ClearEnd s k f h = one_step_keeps n ws vs event.ClearEnd s k f h
core_step_keeps n ws vs event.Flip s k f h = one_step_keeps n ws vs event.Flip s k f h
core_step_keeps n ws vs event.Look s k f h = one_step_keeps n ws vs event.Look s k f h
core_step_keeps n ws vs event.Take s k f h = one_step_keeps n ws vs event.Take s k f h
core_step_keeps n ws vs event.ReporterStop s k f h = one_step_keeps n ws vs event.ReporterStop s k f h

kept_or : (n : Numbers) (o : Option CoreState) (s : CoreState) → ((t : CoreState) → o ≡ Some t → RecorderInvariant n t.0 t.1) → RecorderInvariant n s.0 s.1 → RecorderInvariant n (unwrap_or o s).0 (unwrap_or o s).1
kept_or n None s f k = k
kept_or n (Some t) s f k = f t refl

pub events_keep : (n : Numbers) (s : CoreState) (es : List Event) → RecorderInvariant n s.0 s.1 → AllFit es → RecorderInvariant n (after_all n s es).0 (after_all n s es).1
events_keep n s [] k f = k
events_keep n s (e ∷ es) k f = events_keep n (next_state n s e) es (kept_or n (core_step n s.0 s.1 e) s (λ t h. core_step_keeps n s.0 s.1 e t k f.0 h) k) f.1

-- from the first state on, whatever the order of the events
pub every_order_keeps : (n : Numbers) (es : List Event) → IsSized n → AllFit es → RecorderInvariant n (after_all n (first_state n) es).0 (after_all n (first_state n) es).1
every_order_keeps n es sized f = events_keep n (first_state n) es (ready_keeps n sized) f
