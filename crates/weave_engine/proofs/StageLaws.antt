-- The stage of each writer goes with what its thread owes.
use Rattle.std.proofs.Common.{◌≡◌, ℕ, zero, suc, ◌+◌, ◌<◌, Bool, true, false, List, [], ◌∷◌, ◌++◌, Option, Some, None, length, drop, append-nil, refl, sym, ap, ◌∙◌, subst, arith}
use Rattle.std.specs.Prelude.{◌==◌, not, nat_lt, slice_index, unwrap_or}
use mathlib.Core.Option.{some}
use lib.ListN.{get_elem?}
use Rattle.jm_base.specs.SumTotals.{one_if, total}
use Rattle.jm_base.specs.declared.types.Entry.{Entry}
use Rattle.phaser_core.specs.declared.view.Event.{Event}
use Rattle.phaser_core.specs.declared.view.Event.TheVariants as event
use Rattle.phaser_core.specs.declared.view.Numbers.{Numbers}
use Rattle.phaser_core.specs.declared.view.Stage.TheVariants.{Out, In, On}
use Rattle.phaser_core.specs.declared.view.WriterView.{WriterView}
use Rattle.phaser_core.specs.declared.view.View.{View}
use Rattle.phaser_core.specs.declared.view.View.TheVariants.{Reporter, Writer, Gone}
use Rattle.phaser_core.specs.declared.view.ReporterStage.{ReporterStage}
use Rattle.phaser_core.specs.declared.view.ReporterStage.TheVariants.{Idle, Swapped, Cleared, Waiting, Harvest}
use Rattle.phaser_core.specs.Views.{inside, stage_inside, other, turned}
use Rattle.phaser_core.specs.Invariant.{RecorderInvariant, InsideBefore}
use Rattle.std.proofs.lemmas.Bool.Decides.{nat_tests}
use Rattle.phaser_core.specs.Cells.{sums, phase, is_odd, end_at}
use Rattle.phaser_core.specs.CoreMoves.{Move, entering, loading, adding, leaving, looking_stop, raising_stop, or, stepped_words, stepped_views}
use Rattle.phaser_core.specs.Step.{CoreState, core_step, next_state, moved, move_at, writer_move, given}
use Rattle.phaser_core.proofs.Lists.{set_here, set_else}
use Rattle.std.proofs.lemmas.List.{length-set}
use Rattle.weave_engine.specs.declared.seat.Owed.{Owed as OwedBy}
use Rattle.weave_engine.specs.declared.seat.Owed.TheVariants as by
use Rattle.weave_engine.specs.Turns.{closing_event, interval_after}
use Rattle.weave_engine.specs.Seats.{RecordStage, Writes, Wrote, owed_then, pair_then, step_count, IsNext}
use Rattle.weave_engine.specs.Steps.{record_steps}
use Rattle.phaser_core.specs.Views.{Pair}

within_at : {A : Type 0} (xs : List A) (i : ℕ) (x : A) → get_elem? xs i ≡ some x → i < length xs
within_at [] zero x h = absurd (cc)
within_at [] (suc i) x h = absurd (cc)
within_at (y ∷ ys) zero x h = omega arith
within_at (y ∷ ys) (suc i) x h = let below = within_at ys i x h in omega (arith, below)

module _ (n : Numbers) (ws : List ℕ) (vs : List View) (d : ℕ) (w : WriterView) (there : get_elem? vs (d + 1) ≡ some (Writer w)) where
  -- a step of its own, which is enabled
  own_step : (e : Event) (m : Move) → core_step n ws vs e ≡ moved ws vs (d + 1) (move_at n e (get_elem? vs (d + 1))) → writer_move n e w w.stage ≡ Some m
      → next_state n (ws, vs) e ≡ (stepped_words ws m, stepped_views ws vs (d + 1) m)
  own_step e m is enabled =
      ap (λ o. unwrap_or o (ws, vs)) (is ∙ ap (λ o. moved ws vs (d + 1) (move_at n e o)) there ∙ ap (moved ws vs (d + 1)) enabled)

  own_view : (e : Event) (m : Move) → core_step n ws vs e ≡ moved ws vs (d + 1) (move_at n e (get_elem? vs (d + 1))) → writer_move n e w w.stage ≡ Some m
      → get_elem? (next_state n (ws, vs) e).1 (d + 1) ≡ some (m.after (slice_index ws m.word))
  own_view e m is enabled =
      ap (λ s. get_elem? s.1 (d + 1)) (own_step e m is enabled) ∙ set_here vs (d + 1) (m.after (slice_index ws m.word)) (within_at vs (d + 1) (Writer w) there)

  other_view : (e : Event) (m : Move) (k : ℕ) → core_step n ws vs e ≡ moved ws vs (d + 1) (move_at n e (get_elem? vs (d + 1))) → writer_move n e w w.stage ≡ Some m → (k ≡ d + 1 → ⊥)
      → get_elem? (next_state n (ws, vs) e).1 k ≡ get_elem? vs k
  other_view e m k is enabled ne = ap (λ s. get_elem? s.1 k) (own_step e m is enabled) ∙ set_else vs (d + 1) k (m.after (slice_index ws m.word)) ne

  module _ (number : w.number ≡ d) where
    pub enters : w.stage ≡ Out → nat_lt (length w.list) n.budget ≡ true → (entry : Entry) (interval : ℕ) → Writes (next_state n (ws, vs) (event.Enter d)).1 d (by.Record entry 1 interval) w.list
    enters stage room entry interval = record {
      writer = record { number = w.number; list = w.list; stage = In (phase (slice_index ws 1)); made = w.made; raised = w.raised; saw = w.saw };
      there = own_view (event.Enter d) (entering w) refl (ap (writer_move n (event.Enter d) w) stage ∙ ap (λ b. given b (entering w)) room);
      number = number;
      stage = (phase (slice_index ws 1), refl);
      list_is = refl;
    }

    pub loads : (p : Bool) (entry : Entry) → w.stage ≡ In p → nat_lt entry.label n.labels ≡ true → Writes (next_state n (ws, vs) (event.Load d entry)).1 d (by.Record entry 2 (slice_index ws 0)) w.list
    loads p entry stage label = record {
      writer = record { number = w.number; list = w.list; stage = On p (slice_index ws 0) entry 0; made = w.made; raised = w.raised; saw = w.saw };
      there = own_view (event.Load d entry) (loading w p entry) refl (ap (writer_move n (event.Load d entry) w) stage ∙ ap (λ b. given b (loading w p entry)) label);
      number = number;
      stage = (p, refl);
      list_is = refl;
    }

    pub adds : (p : Bool) (interval j : ℕ) (entry : Entry) → w.stage ≡ On p interval entry j → nat_lt j (3 + one_if (not entry.ok)) ≡ true
        → Writes (next_state n (ws, vs) (event.Add d)).1 d (by.Record entry (suc (suc (j + 1))) interval) w.list
    adds p interval j entry stage test = record {
      writer = record { number = w.number; list = w.list; stage = On p interval entry (j + 1); made = w.made; raised = w.raised; saw = w.saw };
      there = own_view (event.Add d) (adding n.labels w p interval entry j) refl (ap (writer_move n (event.Add d) w) stage ∙ ap (λ b. given b (adding n.labels w p interval entry j)) test);
      number = number;
      stage = (p, refl);
      list_is = refl;
    }

    pub exits : (p : Bool) (interval j : ℕ) (entry : Entry) → w.stage ≡ On p interval entry j → (j == sums entry) ≡ true → Writes (next_state n (ws, vs) (event.Exit d)).1 d by.Nothing (w.list ++ (interval, entry) ∷ [])
    exits p interval j entry stage test = record {
      writer = record { number = w.number; list = w.list ++ (interval, entry) ∷ []; stage = Out; made = w.made; raised = w.raised; saw = w.saw };
      there = own_view (event.Exit d) (leaving w p interval entry) refl (ap (writer_move n (event.Exit d) w) stage ∙ ap (λ b. given b (leaving w p interval entry)) test);
      number = number;
      stage = refl;
      list_is = refl;
    }

    pub lowers : (p : Bool) (interval j : ℕ) (entry : Entry) → w.stage ≡ On p interval entry j → (j == 3 + one_if (not entry.ok)) ≡ true
        → Writes (next_state n (ws, vs) (event.Lower d)).1 d (by.Record entry (suc (suc (j + 1))) interval) w.list
    lowers p interval j entry stage test = record {
      writer = record { number = w.number; list = w.list; stage = On p interval entry (j + 1); made = w.made; raised = w.raised; saw = w.saw };
      there = own_view (event.Lower d) (adding n.labels w p interval entry j) refl (ap (writer_move n (event.Lower d) w) stage ∙ ap (λ b. given b (adding n.labels w p interval entry j)) test);
      number = number;
      stage = (p, refl);
      list_is = refl;
    }

    pub raises : (p : Bool) (interval j : ℕ) (entry : Entry) → w.stage ≡ On p interval entry j → (j == 4 + one_if (not entry.ok)) ≡ true
        → Writes (next_state n (ws, vs) (event.Raise d)).1 d (by.Record entry (suc (suc (j + 1))) interval) w.list
    raises p interval j entry stage test = record {
      writer = record { number = w.number; list = w.list; stage = On p interval entry (j + 1); made = w.made; raised = w.raised; saw = w.saw };
      there = own_view (event.Raise d) (adding n.labels w p interval entry j) refl (ap (writer_move n (event.Raise d) w) stage ∙ ap (λ b. given b (adding n.labels w p interval entry j)) test);
      number = number;
      stage = (p, refl);
      list_is = refl;
    }

    pub raises_stop : w.stage ≡ Out → Writes (next_state n (ws, vs) (event.RaiseStop d)).1 d by.Nothing w.list
    raises_stop stage = record {
      writer = record { number = w.number; list = w.list; stage = w.stage; made = w.made; raised = true; saw = w.saw };
      there = own_view (event.RaiseStop d) (raising_stop w) refl (ap (writer_move n (event.RaiseStop d) w) stage);
      number = number;
      stage = stage;
      list_is = refl;
    }

    pub looks : w.stage ≡ Out → Writes (next_state n (ws, vs) (event.LookStop d)).1 d by.Nothing w.list
    looks stage = record {
      writer = record { number = w.number; list = w.list; stage = w.stage; made = w.made; raised = w.raised; saw = or w.saw (slice_index ws 4 == 1) };
      there = own_view (event.LookStop d) (looking_stop w) refl (ap (writer_move n (event.LookStop d) w) stage);
      number = number;
      stage = stage;
      list_is = refl;
    }

-- A writer's event leaves the other ports

frame_by : (ws : List ℕ) (vs : List View) (port k : ℕ) (o : Option Move) → (k ≡ port → ⊥) → get_elem? (unwrap_or (moved ws vs port o) (ws, vs)).1 k ≡ get_elem? vs k
frame_by ws vs port k None ne = refl
frame_by ws vs port k (Some m) ne = set_else vs port k (m.after (slice_index ws m.word)) ne

ports_by : (ws : List ℕ) (vs : List View) (port : ℕ) (o : Option Move) → length (unwrap_or (moved ws vs port o) (ws, vs)).1 ≡ length vs
ports_by ws vs port None = refl
ports_by ws vs port (Some m) = length-set vs port (m.after (slice_index ws m.word))

module _ (n : Numbers) (ws : List ℕ) (vs : List View) (d : ℕ) where
  pub wrote : (e : Event) (owed : OwedBy) (list : List Pair) → core_step n ws vs e ≡ moved ws vs (d + 1) (move_at n e (get_elem? vs (d + 1)))
      → Writes (next_state n (ws, vs) e).1 d owed list → Wrote vs (next_state n (ws, vs) e).1 d owed list
  wrote e owed list is writes = record {
    writes = writes;
    others = λ k ne. ap (λ o. get_elem? (unwrap_or {T = CoreState} o (ws, vs)).1 k) is ∙ frame_by ws vs (d + 1) k (move_at n e (get_elem? vs (d + 1))) ne;
    ports = ap (λ o. length (unwrap_or {T = CoreState} o (ws, vs)).1) is ∙ ports_by ws vs (d + 1) (move_at n e (get_elem? vs (d + 1)));
  }

  -- a look at the stop word
  pub looked_out : (list : List Pair) → Writes vs d by.Nothing list → Wrote vs (next_state n (ws, vs) (event.LookStop d)).1 d by.Nothing list
  looked_out list w = wrote (event.LookStop d) by.Nothing list refl
      (subst (Writes (next_state n (ws, vs) (event.LookStop d)).1 d by.Nothing) w.list_is (looks n ws vs d w.writer w.there w.number w.stage))

  pub raised_out : (list : List Pair) → Writes vs d by.Stop list → Wrote vs (next_state n (ws, vs) (event.RaiseStop d)).1 d by.Nothing list
  raised_out list w = wrote (event.RaiseStop d) by.Nothing list refl
      (subst (Writes (next_state n (ws, vs) (event.RaiseStop d)).1 d by.Nothing) w.list_is (raises_stop n ws vs d w.writer w.there w.number w.stage))

-- A step of a record

abbrev pub is_empty : {A : Type 0} → List A → Bool
is_empty [] = true
is_empty (x ∷ xs) = false

next_at : (steps rest : List Event) (e : Event) (last : Bool) → IsNext steps e rest last → (steps ≡ e ∷ rest) × (last ≡ is_empty rest)
next_at steps rest e true h = (h.0, sym (ap is_empty h.1))
next_at steps rest e false h = (h.0, sym (ap is_empty h.1.2))

-- what holds after an event, where the steps that are left are these
abbrev AtStep : Numbers → List ℕ → List View → ℕ → Entry → ℕ → ℕ → List Pair → List Event → Type 0
AtStep n ws vs d entry done interval list [] = Unit {0}
AtStep n ws vs d entry done interval list (e ∷ rest) =
    Wrote vs (next_state n (ws, vs) e).1 d (owed_then (is_empty rest) entry (done + 1) (interval_after e ws interval)) (list ++ pair_then (is_empty rest) entry (interval_after e ws interval))

module _ (n : Numbers) (ws : List ℕ) (vs : List View) (d : ℕ) (w : WriterView) (there : get_elem? vs (d + 1) ≡ some (Writer w)) (number : w.number ≡ d)
    (label elapsed bytes interval : ℕ) (room : nat_lt (length w.list) n.budget ≡ true) (within : nat_lt label n.labels ≡ true) where
  abbrev here : Bool → Entry
  here ok = record { label = label; ok = ok; elapsed = elapsed; bytes = bytes }

  -- a step after which the record goes on
  onward : (e : Event) (owed : OwedBy) → core_step n ws vs e ≡ moved ws vs (d + 1) (move_at n e (get_elem? vs (d + 1)))
      → Writes (next_state n (ws, vs) e).1 d owed w.list → Wrote vs (next_state n (ws, vs) e).1 d owed (w.list ++ [])
  onward e owed is writes = subst (Wrote vs (next_state n (ws, vs) e).1 d owed) (sym (append-nil w.list)) (wrote n ws vs d e owed w.list is writes)

  at_step : (ok : Bool) (done : ℕ) → done < step_count ok → RecordStage (here ok) interval done w.stage → AtStep n ws vs d (here ok) done interval w.list (drop done (record_steps d (here ok)))
  at_step ok zero few stage = onward (event.Enter d) _ refl (enters n ws vs d w there number stage room (here ok) interval)
  at_step ok (suc zero) few stage = onward (event.Load d (here ok)) _ refl (loads n ws vs d w there number stage.0 (here ok) stage.1 within)
  at_step true (suc (suc zero)) few stage = onward (event.Add d) _ refl (adds n ws vs d w there number stage.0 interval 0 (here true) stage.1 refl)
  at_step true (suc (suc (suc zero))) few stage = onward (event.Add d) _ refl (adds n ws vs d w there number stage.0 interval 1 (here true) stage.1 refl)
  at_step true (suc (suc (suc (suc zero)))) few stage = onward (event.Add d) _ refl (adds n ws vs d w there number stage.0 interval 2 (here true) stage.1 refl)
  at_step true (suc (suc (suc (suc (suc zero))))) few stage = onward (event.Lower d) _ refl (lowers n ws vs d w there number stage.0 interval 3 (here true) stage.1 refl)
  at_step true (suc (suc (suc (suc (suc (suc zero)))))) few stage = onward (event.Raise d) _ refl (raises n ws vs d w there number stage.0 interval 4 (here true) stage.1 refl)
  at_step true (suc (suc (suc (suc (suc (suc (suc zero))))))) few stage =
      wrote n ws vs d (event.Exit d) by.Nothing _ refl (exits n ws vs d w there number stage.0 interval 5 (here true) stage.1 refl)
  at_step true (suc (suc (suc (suc (suc (suc (suc (suc more)))))))) few stage = absurd (omega (arith, few))
  at_step false (suc (suc zero)) few stage = onward (event.Add d) _ refl (adds n ws vs d w there number stage.0 interval 0 (here false) stage.1 refl)
  at_step false (suc (suc (suc zero))) few stage = onward (event.Add d) _ refl (adds n ws vs d w there number stage.0 interval 1 (here false) stage.1 refl)
  at_step false (suc (suc (suc (suc zero)))) few stage = onward (event.Add d) _ refl (adds n ws vs d w there number stage.0 interval 2 (here false) stage.1 refl)
  at_step false (suc (suc (suc (suc (suc zero))))) few stage = onward (event.Add d) _ refl (adds n ws vs d w there number stage.0 interval 3 (here false) stage.1 refl)
  at_step false (suc (suc (suc (suc (suc (suc zero)))))) few stage = onward (event.Lower d) _ refl (lowers n ws vs d w there number stage.0 interval 4 (here false) stage.1 refl)
  at_step false (suc (suc (suc (suc (suc (suc (suc zero))))))) few stage = onward (event.Raise d) _ refl (raises n ws vs d w there number stage.0 interval 5 (here false) stage.1 refl)
  at_step false (suc (suc (suc (suc (suc (suc (suc (suc zero)))))))) few stage =
      wrote n ws vs d (event.Exit d) by.Nothing _ refl (exits n ws vs d w there number stage.0 interval 6 (here false) stage.1 refl)
  at_step false (suc (suc (suc (suc (suc (suc (suc (suc (suc more))))))))) few stage = absurd (omega (arith, few))

-- a step of the record of a writer, whatever it is
pub record_wrote : (n : Numbers) (state : CoreState) (d : ℕ) (entry : Entry) (done interval : ℕ) (list : List Pair) (e : Event) (rest : List Event) (last : Bool)
    → Writes state.1 d (by.Record entry done interval) list → done < step_count entry.ok → length list < n.budget → entry.label < n.labels
    → IsNext (drop done (record_steps d entry)) e rest last
    → Wrote state.1 (next_state n state e).1 d (owed_then last entry (done + 1) (interval_after e state.0 interval)) (list ++ pair_then last entry (interval_after e state.0 interval))
record_wrote n state d entry done interval list e rest last w few room within next =
    let h = next_at (drop done (record_steps d entry)) rest e last next in
    let lists : length w.writer.list ≡ length list = ap length w.list_is in
    let one = at_step n state.0 state.1 d w.writer w.there w.number entry.label entry.elapsed entry.bytes interval (grind (nat_tests, arith, lists, room)) (grind (nat_tests, arith, within)) entry.ok done few w.stage in
    let two : AtStep n state.0 state.1 d entry done interval w.writer.list (e ∷ rest) = subst (AtStep n state.0 state.1 d entry done interval w.writer.list) h.0 one in
    subst (λ b. Wrote state.1 (next_state n state e).1 d (owed_then b entry (done + 1) (interval_after e state.0 interval)) (list ++ pair_then b entry (interval_after e state.0 interval))) (sym h.1)
    (subst (λ l. Wrote state.1 (next_state n state e).1 d (owed_then (is_empty rest) entry (done + 1) (interval_after e state.0 interval)) (l ++ pair_then (is_empty rest) entry (interval_after e state.0 interval))) w.list_is two)

-- The reporter's events leave the writers' ports

after_reporter : (n : Numbers) (ws : List ℕ) (vs : List View) (k : ℕ) (o : Option Move) → (k ≡ 0 → ⊥) → get_elem? (unwrap_or (moved ws vs 0 o) (ws, vs)).1 k ≡ get_elem? vs k
after_reporter n ws vs k None ne = refl
after_reporter n ws vs k (Some m) ne = set_else vs 0 k (m.after (slice_index ws m.word)) ne

pub reporter_leaves : (n : Numbers) (ws : List ℕ) (vs : List View) (k : ℕ) (c : ReporterStage) → (k ≡ 0 → ⊥) → get_elem? (next_state n (ws, vs) (closing_event c)).1 k ≡ get_elem? vs k
reporter_leaves n ws vs k Idle ne = after_reporter n ws vs k (move_at n event.SwapActive (get_elem? vs 0)) ne
reporter_leaves n ws vs k Swapped ne = after_reporter n ws vs k (move_at n event.ClearEnd (get_elem? vs 0)) ne
reporter_leaves n ws vs k Cleared ne = after_reporter n ws vs k (move_at n event.Flip (get_elem? vs 0)) ne
reporter_leaves n ws vs k (Waiting want) ne = after_reporter n ws vs k (move_at n event.Look (get_elem? vs 0)) ne
reporter_leaves n ws vs k (Harvest j) ne = after_reporter n ws vs k (move_at n event.Take (get_elem? vs 0)) ne

-- An open closing, once all writers are out

odd_next : (k : ℕ) → not (is_odd (k + 1)) ≡ is_odd k
odd_next k = grind (arith, nat_tests)

abbrev pub IsQuiet : View → Type 0
IsQuiet (Reporter r) = ⊥
IsQuiet (Writer w) = w.stage ≡ Out
IsQuiet Gone = Unit {0}

abbrev pub AllQuiet : List View → Type 0
AllQuiet [] = Unit {0}
AllQuiet (v ∷ vs) = IsQuiet v × AllQuiet vs

none_inside : (p : Bool) (vs : List View) → AllQuiet vs → total (inside p) vs ≡ 0
none_inside p [] h = refl
none_inside p (Reporter r ∷ vs) h = absurd h.0
none_inside p (Writer w ∷ vs) h = let one : stage_inside p w.stage ≡ 0 = ap (stage_inside p) h.0 in let more = none_inside p vs h.1 in omega (arith, one, more)
none_inside p (Gone ∷ vs) h = let more = none_inside p vs h.1 in omega (arith, more)

-- a look finds what is waited for
look_by : (c : ReporterStage) (want x e i t : ℕ) → c ≡ Waiting want → InsideBefore c x e i t → x ≡ 0 → e ≡ want
look_by c want x e i t is h outside = let k = (subst (λ c. InsideBefore c x e i t) is h).0 in omega (arith, k, outside)

pub look_settles : (n : Numbers) (ws : List ℕ) (vs : List View) (k : RecorderInvariant n ws vs) (want : ℕ) → k.reader.closing ≡ Waiting want
    → ((p : Bool) → total (inside p) vs ≡ 0) → slice_index ws (end_at (is_odd k.reader.interval)) ≡ want
look_settles n ws vs k want waits outside =
    let found = look_by k.reader.closing want (total (inside (other k.reader)) vs) (slice_index ws (end_at (other k.reader))) _ _ waits k.inside_before (outside (other k.reader)) in
    let parity : other k.reader ≡ is_odd k.reader.interval = ap (λ c. not (is_odd (k.reader.interval + turned c))) waits ∙ odd_next k.reader.interval in
    subst (λ p. slice_index ws (end_at p) ≡ want) parity found

pub reporter_ports : (n : Numbers) (ws : List ℕ) (vs : List View) (c : ReporterStage) → length (next_state n (ws, vs) (closing_event c)).1 ≡ length vs
reporter_ports n ws vs Idle = ports_by ws vs 0 (move_at n event.SwapActive (get_elem? vs 0))
reporter_ports n ws vs Swapped = ports_by ws vs 0 (move_at n event.ClearEnd (get_elem? vs 0))
reporter_ports n ws vs Cleared = ports_by ws vs 0 (move_at n event.Flip (get_elem? vs 0))
reporter_ports n ws vs (Waiting want) = ports_by ws vs 0 (move_at n event.Look (get_elem? vs 0))
reporter_ports n ws vs (Harvest j) = ports_by ws vs 0 (move_at n event.Take (get_elem? vs 0))
