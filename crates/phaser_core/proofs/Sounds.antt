-- Each step keeps the whole rule.
use Rattle.std.proofs.Common.{◌≡◌, ◌≢◌, ℕ, zero, suc, ◌+◌, ◌*◌, ◌%◌, ◌<◌, ◌≤◌, ◌==◌, not, Bool, true, false, List, [], ◌∷◌, ◌++◌, length, get_or, set, sym, refl, ap, ◌∙◌, subst, ⊎_elim, arith, get_or-set_same, get_or-set_other, eq-eqb, ne_eqb, add-zero, one-mul}
use mathlib.Core.Logic.{dite}
use mathlib.Core.Option.{some}
use native.Mathlib.Decide.{ℕ_discrete}
use lib.ListN.{get_elem?}
use Rattle.std.proofs.lemmas.List.{set-get_or}
use Rattle.phaser_core.specs.declared.view.Numbers.{Numbers}
use Rattle.jm_base.specs.declared.types.Entry.{Entry}
use Rattle.phaser_core.specs.declared.view.Stage.{Stage}
use Rattle.phaser_core.specs.declared.view.Stage.TheVariants.{Out, In, On}
use Rattle.phaser_core.specs.declared.view.WriterView.{WriterView}
use Rattle.phaser_core.specs.declared.view.Joined.{Joined}
use Rattle.phaser_core.specs.declared.view.ReporterStage.{ReporterStage}
use Rattle.phaser_core.specs.declared.view.ReporterStage.TheVariants.{Idle, Swapped, Cleared, Waiting, Harvest}
use Rattle.phaser_core.specs.declared.view.ReporterView.{ReporterView}
use Rattle.phaser_core.specs.declared.view.View.{View}
use Rattle.phaser_core.specs.declared.view.View.TheVariants.{Reporter, Writer, Gone}
use Rattle.jm_base.specs.SumTotals.{one_if, total}
use Rattle.phaser_core.proofs.Halves.{Phased, Sound, StaysSound, judging, TimelyStage, Timely, Counted}
use Rattle.phaser_core.specs.Cells.{is_odd, end_at, initial, phase, combine, vacant, gather, folded, part, column, sums, place, cell_at, table_cells, no_report, report_from, rows_in, row_at}
use Rattle.phaser_core.specs.Invariant.{InsideBefore, raised_in, saw_in, ShowsStop, InTable}
use Rattle.phaser_core.specs.CoreMoves.{Move, add_one, entering, leaving, clearing, flipping, settled, with_seen, looking, splitting, split_off, taking_in, joining, first_words, first_cells, marked, or, looking_stop, raising_stop, reporter_raised, raising_as_reporter, loading, adding, swapping, gathered, taking, gathered_if}
use Rattle.phaser_core.specs.Views.{inside, uses, at_stage, writer_zero, turned, current, other, at_closing, left_of, further, first_reading, IsSized, AllJoined, active, worth, entry_at, stage_at, value, taken_count, list_at, joined_at}
use Rattle.phaser_core.proofs.PhaseSteps.{same_total, each_set, is_reader, at_front, not_front, odd_next, not_not, settled_none, end_low, end_some, enter_phases, load_phases, add_phases, exit_phases, mark_phases, raise_front, swap_front, clear_front, flip_front, judge_front, see_front, take_front}
use Rattle.phaser_core.proofs.CellSteps.{enter_counts, load_counts, add_counts, exit_counts, mark_counts, raise_counts, swap_counts, clear_counts, flip_counts, settle_counts, see_counts, take_counts, timely_snoc, place_cell, report_same}
use Rattle.phaser_core.proofs.Members.{split_first, split_more, join_phases, opens, cells_long, at_end, summed, at_one, all_gone}
use Rattle.phaser_core.proofs.Folds.{combine_comm, vacant_vacant, gather_more, gather_same, gather_snoc, gather_unit, gather_cap, gather_moved, set_back, here as here_after}
use Rattle.jm_base.proofs.Totals.{total_set, total_snoc, total_at}
use Rattle.phaser_core.proofs.Lists.{at_set, set_again, set_twice, set_else, set_here, at_longer}

-- the stop word and all marks stay
stop_totals : (ws ws' : List ℕ) (vs us : List View) → get_or ws' 4 0 ≡ get_or ws 4 0 → total raised_in us ≡ total raised_in vs → total saw_in us ≡ total saw_in vs → ShowsStop ws vs → ShowsStop ws' us
stop_totals ws ws' vs us word up seen s = let low = s.low in record {
  low = omega arith;
  quiet = λ h. word ∙ s.quiet (sym up ∙ h);
  raised = λ h. word ∙ s.raised (omega arith);
  seen = λ h. word ∙ s.seen (omega arith);
}

stop_same : (ws ws' : List ℕ) (vs : List View) (id : ℕ) (v u : View) → get_elem? vs id ≡ some v → get_or ws' 4 0 ≡ get_or ws 4 0 → raised_in u ≡ raised_in v → saw_in u ≡ saw_in v → ShowsStop ws vs → ShowsStop ws' (set vs id u)
stop_same ws ws' vs id v u at word up seen s = stop_totals ws ws' vs (set vs id u) word (same_total raised_in vs id v u at up) (same_total saw_in vs id v u at seen) s

end_four' : (p : Bool) → 4 ≢ end_at p
end_four' true = λ h. omega arith
end_four' false = λ h. omega arith

raised_gathered : (r : ReporterView) (l : List ℕ) (j : ℕ) (b : Bool) → raised_in (Reporter (gathered_if b r l j)) ≡ raised_in (Reporter r)
raised_gathered r l j true = refl
raised_gathered r l j false = refl

saw_gathered : (r : ReporterView) (l : List ℕ) (j : ℕ) (b : Bool) → saw_in (Reporter (gathered_if b r l j)) ≡ saw_in (Reporter r)
saw_gathered r l j true = refl
saw_gathered r l j false = refl

raised_settled : (r : ReporterView) (b : Bool) → raised_in (Reporter (settled r b)) ≡ raised_in (Reporter r)
raised_settled r true = raised_gathered r [] 0 (0 == table_cells r.labels)
raised_settled r false = refl

saw_settled : (r : ReporterView) (b : Bool) → saw_in (Reporter (settled r b)) ≡ saw_in (Reporter r)
saw_settled r true = saw_gathered r [] 0 (0 == table_cells r.labels)
saw_settled r false = refl

-- the reader of the rule is the view at port 0
sound : (n : Numbers) (ws : List ℕ) (vs : List View) (p : Phased n ws vs) (r : ReporterView) → get_elem? vs 0 ≡ some (Reporter r) → Counted n ws vs r → ShowsStop ws vs → Sound n ws vs
sound n ws vs p r prefix c stopped =
    let e : some (Reporter p.reader) ≡ some (Reporter r) = sym p.prefix ∙ prefix in
    let is : p.reader ≡ r = cc in
    record { phased = p; counted = subst (Counted n ws vs) (sym is) c; stopped = stopped }

module _ (n : Numbers) (ws : List ℕ) (vs : List View) (k : Sound n ws vs) (id : ℕ) (w : WriterView) (at : get_elem? vs id ≡ some (Writer w)) where
  still : (u : View) → get_elem? (set vs id u) 0 ≡ some (Reporter k.phased.reader)
  still u = set_else vs id 0 u (λ e. not_front n ws vs id w k.phased at (sym e)) ∙ k.phased.prefix

  -- a step beside the stop word that leaves the marks
  quiet : (i x : ℕ) (w' : WriterView) → 4 ≢ i → raised_in (Writer w') ≡ raised_in (Writer w) → saw_in (Writer w') ≡ saw_in (Writer w) → ShowsStop (set ws i x) (set vs id (Writer w'))
  quiet i x w' ne up seen = stop_same ws (set ws i x) vs id (Writer w) (Writer w') at (get_or-set_other ws i 4 x 0 ne) up seen k.stopped

  pub enter_sound : w.stage ≡ Out → length w.list < n.budget → StaysSound n ws vs id (entering w)
  enter_sound out room = let x : ℕ = get_or ws 1 0 in
      sound n _ _ (enter_phases n ws vs id w k.phased at out room) k.phased.reader (still _) (enter_counts n ws vs k.phased k.counted id w at (add_one x) (phase x) out) (quiet 1 (add_one x) (at_stage w (In (phase x)) w.list) (λ h. omega arith) refl refl)

  pub load_sound : (q : Bool) (e : Entry) → w.stage ≡ In q → e.label < n.labels → e.elapsed < 4294967296 → e.bytes < 4294967296 → StaysSound n ws vs id (loading w q e)
  load_sound q e is label small small' = sound n _ _ (load_phases n ws vs id w k.phased at q e is) k.phased.reader (still _) (load_counts n ws vs k.phased k.counted id w at q e is label small small') (quiet 0 (get_or ws 0 0) (at_stage w (On q (get_or ws 0 0) e 0) w.list) (λ h. omega arith) refl refl)

  -- the word that the layout gives is the cell's
  pub add_sound : (q : Bool) (m : ℕ) (e : Entry) (d : ℕ) → w.stage ≡ On q m e d → d < sums e → StaysSound n ws vs id (adding n.labels w q m e d)
  add_sound q m e d is more =
      let c : ℕ = column e d in let y : ℕ = part c e in let i0 : ℕ = place n.labels (m % 2) w.number e.label c in let w' : WriterView = at_stage w (On q m e (d + 1)) w.list in
      let same : cell_at n.labels m (6 * row_at n.labels w.number e.label + c) ≡ i0 = sym (place_cell n.labels m w.number e.label c) in
      sound n _ _ (add_phases n ws vs id w k.phased at q m e d is) k.phased.reader (still _)
      (subst (λ (z : ℕ). Counted n (set ws z (folded c (get_or ws z 0) y)) (set vs id (Writer w')) k.phased.reader) same (add_counts n ws vs k.phased k.counted id w at q m e d is more))
      (quiet i0 (folded c (get_or ws i0 0) y) w' (λ h. omega arith) refl refl)

  pub exit_sound : (q : Bool) (m : ℕ) (e : Entry) → w.stage ≡ On q m e (sums e) → StaysSound n ws vs id (leaving w q m e)
  exit_sound q m e is =
      let timely = k.counted.timely id (Writer w) at in
      let was : TimelyStage n k.phased.reader w.list (On q m e (sums e)) = subst (TimelyStage n k.phased.reader w.list) is timely.0 in
      sound n _ _ (exit_phases n ws vs id w k.phased at q m e (sums e) is was.3) k.phased.reader (still _) (exit_counts n ws vs k.phased k.counted id w at q m e (add_one (get_or ws (end_at q) 0)) is) (quiet (end_at q) (add_one (get_or ws (end_at q) 0)) (at_stage w Out (w.list ++ (m, e) ∷ [])) (end_four' q) refl refl)

module _ (n : Numbers) (ws : List ℕ) (vs : List View) (k : Sound n ws vs) where
  abbrev R : ReporterView
  R = k.phased.reader

  here : (r : ReporterView) → get_elem? (set vs 0 (Reporter r)) 0 ≡ some (Reporter r)
  here r = set_here vs 0 (Reporter r) (let p = k.phased.ports in omega arith)

  quiet_front : (i x : ℕ) (r' : ReporterView) → 4 ≢ i → raised_in (Reporter r') ≡ raised_in (Reporter R) → saw_in (Reporter r') ≡ saw_in (Reporter R) → ShowsStop (set ws i x) (set vs 0 (Reporter r'))
  quiet_front i x r' ne up seen = stop_same ws (set ws i x) vs 0 (Reporter R) (Reporter r') k.phased.prefix (get_or-set_other ws i 4 x 0 ne) up seen k.stopped

  swap_first : R.closing ≡ Idle → R.interval < 16777216 → StaysSound n ws vs 0 (swapping R)
  swap_first idle few = sound n _ _ (swap_front n ws vs k.phased idle few) (at_closing R Swapped) (here _) (swap_counts n ws vs k.phased k.counted idle) (quiet_front 0 (R.interval + 1) (at_closing R Swapped) (λ h. omega arith) refl refl)

  clear_first : R.closing ≡ Swapped → StaysSound n ws vs 0 (clearing R)
  clear_first swapped = let o : Bool = is_odd (R.interval + 1) in
      sound n _ _ (clear_front n ws vs k.phased swapped) (at_closing R Cleared) (here _) (clear_counts n ws vs k.phased k.counted (end_at o) (initial o) swapped (end_low o) (let e = end_some o in omega arith)) (quiet_front (end_at o) (initial o) (at_closing R Cleared) (end_four' o) refl refl)

  flip_first : R.closing ≡ Cleared → StaysSound n ws vs 0 (flipping R)
  flip_first cleared = sound n _ _ (flip_front n ws vs k.phased cleared) (at_closing R (Waiting (get_or ws 1 0))) (here _) (flip_counts n ws vs k.phased k.counted (initial (is_odd (R.interval + 1))) (get_or ws 1 0) cleared) (quiet_front 1 (initial (is_odd (R.interval + 1))) (at_closing R (Waiting (get_or ws 1 0))) (λ h. omega arith) refl refl)

  take_first : (j : ℕ) → R.closing ≡ Harvest j → j < table_cells n.labels → StaysSound n ws vs 0 (taking R j)
  take_first j harvest low =
      let i0 : ℕ = cell_at R.labels R.interval j in let l : List ℕ = R.cells ++ get_or ws i0 0 ∷ [] in
      sound n _ _ (take_front n ws vs k.phased j harvest low) (gathered R l (j + 1)) (here _)
      (subst (λ (z : ℕ). let x : ℕ = get_or ws (cell_at z R.interval j) 0 in Counted n (set ws (cell_at z R.interval j) (vacant (j % 6))) (set vs 0 (Reporter (gathered R (R.cells ++ x ∷ []) (j + 1)))) (gathered R (R.cells ++ x ∷ []) (j + 1)))
      (sym k.phased.labels) (take_counts n ws vs k.phased k.counted j harvest low))
      (quiet_front i0 (vacant (j % 6)) (gathered R l (j + 1)) (λ h. omega arith) (raised_gathered R l (j + 1) (j + 1 == table_cells R.labels)) (saw_gathered R l (j + 1) (j + 1 == table_cells R.labels)))

  judge_first : (want : ℕ) → R.closing ≡ Waiting want → StaysSound n ws vs 0 (judging R want)
  judge_first want waiting =
      let i : ℕ = end_at (is_odd R.interval) in let found : ℕ = get_or ws i 0 in
      sound n _ _ (judge_front n ws vs k.phased want waiting) (settled R (found == want)) (here _)
      (subst (λ (xs : List ℕ). Counted n xs (set vs 0 (Reporter (settled R (found == want)))) (settled R (found == want))) (sym (set-get_or ws i 0))
      (dite (ℕ_discrete found want)
      (λ hit. subst (λ (b : Bool). Counted n ws (set vs 0 (Reporter (settled R b))) (settled R b)) (sym (eq-eqb found want hit))
      (settle_counts n ws vs k.phased k.counted want waiting (settled_none n ws vs k.phased want waiting hit)))
      (λ miss. subst (λ (b : Bool). Counted n ws (set vs 0 (Reporter (settled R b))) (settled R b)) (sym (ne_eqb found want miss))
      (subst (λ (us : List View). Counted n ws us R) (sym (set_again vs 0 (Reporter R) k.phased.prefix)) k.counted))))
      (quiet_front i found (settled R (found == want)) (end_four' (is_odd R.interval)) (raised_settled R (found == want)) (saw_settled R (found == want)))

  -- a number that is kept as the last one seen
  see_first : (x : ℕ) → Sound n ws (set vs 0 (Reporter (with_seen R x)))
  see_first x = sound n ws _ (see_front n ws vs k.phased x) (with_seen R x) (here _) (see_counts n ws vs k.phased k.counted x) (stop_same ws ws vs 0 (Reporter R) (Reporter (with_seen R x)) k.phased.prefix refl refl refl k.stopped)

module _ (n : Numbers) (ws : List ℕ) (vs : List View) (k : Sound n ws vs) (id : ℕ) (r : ReporterView) (at : get_elem? vs id ≡ some (Reporter r)) where
  is : k.phased.reader ≡ r
  is = is_reader n ws vs k.phased id r at

  as_first : (F : ReporterView → Move) → StaysSound n ws vs 0 (F k.phased.reader) → StaysSound n ws vs id (F r)
  as_first F h = subst (λ (z : ℕ × ReporterView). StaysSound n ws vs z.0 (F z.1)) (λ i. (sym (at_front n ws vs k.phased id r at) i, is i)) h

  pub swap_sound : r.closing ≡ Idle → r.interval < 16777216 → StaysSound n ws vs id (swapping r)
  swap_sound idle few = as_first swapping (swap_first n ws vs k (ap (λ (q : ReporterView). q.closing) is ∙ idle) (subst (λ (q : ReporterView). q.interval < 16777216) (sym is) few))

  pub clear_sound : r.closing ≡ Swapped → StaysSound n ws vs id (clearing r)
  clear_sound swapped = as_first clearing (clear_first n ws vs k (ap (λ (q : ReporterView). q.closing) is ∙ swapped))

  pub flip_sound : r.closing ≡ Cleared → StaysSound n ws vs id (flipping r)
  flip_sound cleared = as_first flipping (flip_first n ws vs k (ap (λ (q : ReporterView). q.closing) is ∙ cleared))

  judge_sound : (want : ℕ) → r.closing ≡ Waiting want → StaysSound n ws vs id (judging r want)
  judge_sound want waiting = as_first (λ q. judging q want) (judge_first n ws vs k want (ap (λ (q : ReporterView). q.closing) is ∙ waiting))

  pub take_sound : (j : ℕ) → r.closing ≡ Harvest j → StaysSound n ws vs id (taking r j)
  take_sound j harvest =
      let h : k.phased.reader.closing ≡ Harvest j = ap (λ (q : ReporterView). q.closing) is ∙ harvest in
      as_first (λ q. taking q j) (take_first n ws vs k j h (subst (InTable (table_cells n.labels)) h k.counted.within))

-- a look keeps what it found, and then settles or does not
look_first : (n : Numbers) (ws : List ℕ) (vs : List View) (k : Sound n ws vs) (want : ℕ) → k.phased.reader.closing ≡ Waiting want → StaysSound n ws vs 0 (looking k.phased.reader want)
look_first n ws vs k want waiting =
    let r : ReporterView = k.phased.reader in let found : ℕ = get_or ws (end_at (is_odd r.interval)) 0 in let q : ReporterView = with_seen r found in
    subst (λ (us : List View). Sound n (set ws (end_at (is_odd r.interval)) found) us) (set_twice vs 0 (Reporter q) (Reporter (settled q (found == want))))
    (judge_sound n ws (set vs 0 (Reporter q)) (see_first n ws vs k found) 0 q (here n ws vs k q) want waiting)

pub look_sound : (n : Numbers) (ws : List ℕ) (vs : List View) (k : Sound n ws vs) (id : ℕ) (r : ReporterView) → get_elem? vs id ≡ some (Reporter r) → (want : ℕ) → r.closing ≡ Waiting want → StaysSound n ws vs id (looking r want)
look_sound n ws vs k id r at want waiting =
    as_first n ws vs k id r at (λ q. looking q want) (look_first n ws vs k want (ap (λ (q : ReporterView). q.closing) (is n ws vs k id r at) ∙ waiting))

-- the reader with other joined writers
abbrev with_joined : ReporterView → List Joined → Bool → ReporterView
with_joined r js b = record r { joined = js; ready = b }

stage_with : (n : Numbers) (r : ReporterView) (js : List Joined) (b : Bool) (l : List (ℕ × Entry)) (s : Stage) → TimelyStage n r l s → TimelyStage n (with_joined r js b) l s
stage_with n r js b l Out h = tt
stage_with n r js b l (In p) h = tt
stage_with n r js b l (On p m e d) h = h

timely_with : (n : Numbers) (r : ReporterView) (js : List Joined) (b : Bool) (v : View) → Timely n r v → Timely n (with_joined r js b) v
timely_with n r js b (Reporter q) h = h
timely_with n r js b (Writer w) h = (stage_with n r js b w.list w.stage h.0, h.1, h.2, h.3)
timely_with n r js b Gone h = tt

-- where other views have the same worth
regroup_counts : (n : Numbers) (ws : List ℕ) (vs us : List View) (r : ReporterView) (js : List Joined) (b : Bool) → Counted n ws vs r → ((i j : ℕ) → worth n.labels i j us ≡ worth n.labels i j vs)
    → ((id : ℕ) (v : View) → get_elem? us id ≡ some v → Timely n r v) → Counted n ws us (with_joined r js b)
regroup_counts n ws vs us r js b c same_worth timely = record {
  now_active = c.now_active;
  timely = λ id v e. timely_with n r js b v (timely id v e);
  taken = c.taken;
  within = c.within;
  cells = λ i j live low whole. c.cells i j live low whole ∙ sym (same_worth i j);
  emptied = λ j low. ((c.emptied j low).0, (c.emptied j low).1 ∙ sym (same_worth r.interval j));
  reports = c.reports;
  sums_are = λ m old. c.sums_are m old ∙ report_same n.labels m (λ j. worth n.labels m j vs) (λ j. worth n.labels m j us) (λ j low. sym (same_worth m j));
}

-- one view as before in worth, and one more that has none
grown : (n : Numbers) (i j id : ℕ) (vs : List View) (v left new : View) → get_elem? vs id ≡ some v → value n.labels i j left ≡ value n.labels i j v → value n.labels i j new ≡ vacant (j % 6) → worth n.labels i j (set vs id left ++ new ∷ []) ≡ worth n.labels i j vs
grown n i j id vs v left new at same_value none =
    gather_snoc (j % 6) (value n.labels i j) (set vs id left) new ∙ (λ t. combine (j % 6) (gather_same (j % 6) (value n.labels i j) vs id v left at same_value t) (none t)) ∙ gather_cap (j % 6) (value n.labels i j) vs

pub split_first_sound : (n : Numbers) (ws : List ℕ) (vs : List View) (k : Sound n ws vs) (id : ℕ) (r : ReporterView) → get_elem? vs id ≡ some (Reporter r) → r.ready ≡ false → Sound n ws (set vs id (splitting (Reporter r)) ++ writer_zero ∷ [])
split_first_sound n ws vs k id r at fresh =
    let left : View = splitting (Reporter r) in let us : List View = set vs id left ++ writer_zero ∷ [] in
    let is = is_reader n ws vs k.phased id r at in let zero_port = at_front n ws vs k.phased id r at in let ports = k.phased.ports in
    let c : Counted n ws vs r = subst (Counted n ws vs) is k.counted in
    sound n ws us (split_first n ws vs k.phased id r at fresh) (with_joined r r.joined true)
    (at_longer (set vs id left) (writer_zero ∷ []) 0 left (subst (λ (i : ℕ). get_elem? (set vs i left) 0 ≡ some left) (sym zero_port) (set_here vs 0 left (omega arith))))
    (regroup_counts n ws vs us r r.joined true c (λ i j. grown n i j id vs (Reporter r) left writer_zero at refl (vacant_vacant (j % 6)))
    (λ j u e. ⊎_elim
    (λ (a : (get_elem? (set vs id left) j ≡ some u) × (j < length (set vs id left))). each_set (λ _ v. Timely n r v) vs id left (c.timely id (Reporter r) at) (λ i x _ b. c.timely i x b) j u a.0)
    (λ (b : (writer_zero ≡ u) × (j ≡ length (set vs id left))). subst (Timely n r) b.0 (tt, tt, tt, tt))
    (at_end (set vs id left) writer_zero u j e)))
    (stop_totals ws ws vs us refl (summed vs id (Reporter r) left writer_zero at raised_in refl ∙ add-zero (total raised_in vs)) (summed vs id (Reporter r) left writer_zero at saw_in refl ∙ add-zero (total saw_in vs)) k.stopped)

pub split_more_sound : (n : Numbers) (ws : List ℕ) (vs : List View) (k : Sound n ws vs) (id : ℕ) (w : WriterView) → get_elem? vs id ≡ some (Writer w) → 0 < w.made → w.made < n.writers
    → Sound n ws (set vs id (splitting (Writer w)) ++ split_off (Writer w) ∷ [])
split_more_sound n ws vs k id w at some_made room =
    let left : View = splitting (Writer w) in let new : View = further w.made in let us : List View = set vs id left ++ new ∷ [] in
    let r : ReporterView = k.phased.reader in let c = k.counted in
    sound n ws us (split_more n ws vs k.phased id w at some_made room) r
    (at_longer (set vs id left) (new ∷ []) 0 (Reporter r) (set_else vs id 0 left (λ e. not_front n ws vs id w k.phased at (sym e)) ∙ k.phased.prefix))
    (regroup_counts n ws vs us r r.joined r.ready c (λ i j. grown n i j id vs (Writer w) left new at refl (vacant_vacant (j % 6)))
    (λ j u e. ⊎_elim
    (λ (a : (get_elem? (set vs id left) j ≡ some u) × (j < length (set vs id left))). each_set (λ _ v. Timely n r v) vs id left (c.timely id (Writer w) at) (λ i x _ b. c.timely i x b) j u a.0)
    (λ (b : (new ≡ u) × (j ≡ length (set vs id left))). subst (Timely n r) b.0 (tt, tt, tt, tt))
    (at_end (set vs id left) new u j e)))
    (stop_totals ws ws vs us refl (summed vs id (Writer w) left new at raised_in refl ∙ add-zero (total raised_in vs)) (summed vs id (Writer w) left new at saw_in refl ∙ add-zero (total saw_in vs)) k.stopped)

pub join_sound : (n : Numbers) (ws : List ℕ) (vs : List View) (k : Sound n ws vs) (id : ℕ) (r : ReporterView) (port : ℕ) (w : WriterView) → get_elem? vs id ≡ some (Reporter r) → (port ≡ id → ⊥)
    → get_elem? (set vs id (joining (Reporter r) (Writer w))) port ≡ some (Writer w) → w.stage ≡ Out → Sound n ws (set (set vs id (joining (Reporter r) (Writer w))) port Gone)
join_sound n ws vs k id r port w at two at' out =
    let js : List Joined = r.joined ++ left_of w ∷ [] in let both : View = joining (Reporter r) (Writer w) in let vs' : List View = set vs id both in let us : List View = set vs' port Gone in
    let was : get_elem? vs port ≡ some (Writer w) = ⊎_elim (λ x. absurd (two x.0)) (λ x. x.1) (at_set vs id port both (Writer w) at') in
    let is = is_reader n ws vs k.phased id r at in let zero_port = at_front n ws vs k.phased id r at in let ports = k.phased.ports in
    let c : Counted n ws vs r = subst (Counted n ws vs) is k.counted in
    let mine = c.timely id (Reporter r) at in let theirs = c.timely port (Writer w) was in
    sound n ws us (join_phases n ws vs k.phased id r port w at two at' out) (taking_in r w)
    (set_else vs' port 0 Gone (λ e. two (sym e ∙ sym zero_port)) ∙ subst (λ (i : ℕ). get_elem? (set vs i both) 0 ≡ some both) (sym zero_port) (set_here vs 0 both (omega arith)))
    (regroup_counts n ws vs us r js r.ready c
    (λ i j. gather_moved (j % 6) (value n.labels i j) vs id port (Reporter r) both (Writer w) Gone (gather (j % 6) (entry_at n.labels w.number i j) w.list) two at was
    (gather_snoc (j % 6) (λ (z : Joined). list_at n.labels z.number i j z.list) r.joined (left_of w))
    (ap (λ (z : ℕ). combine (j % 6) (gather (j % 6) (entry_at n.labels w.number i j) w.list) z) (ap (stage_at n.labels w.number i j) out)) refl)
    (each_set (λ _ v. Timely n r v) vs' port Gone tt (λ j u _ e. each_set (λ _ v. Timely n r v) vs id both (timely_snoc (active r) r.joined (left_of w) mine (theirs.1, theirs.2, theirs.3)) (λ i x _ b. c.timely i x b) j u e)))
    (stop_totals ws ws vs us refl
    (let x = total_set raised_in vs id (Reporter r) both at in let y = total_set raised_in vs' port (Writer w) Gone at' in let t = total_snoc (λ (z : Joined). one_if z.raised) r.joined (left_of w) in omega arith)
    (let x = total_set saw_in vs id (Reporter r) both at in let y = total_set saw_in vs' port (Writer w) Gone at' in let t = total_snoc (λ (z : Joined). one_if z.saw) r.joined (left_of w) in omega arith) k.stopped)

-- The start

read_five : (a b c d e x : ℕ) (l : List ℕ) → get_or (a ∷ b ∷ c ∷ d ∷ e ∷ l) (5 + x) 0 ≡ get_or l x 0
read_five a b c d e x l = let s : 5 + x ≡ suc (suc (suc (suc (suc x)))) = omega arith in ap (λ (i : ℕ). get_or (a ∷ b ∷ c ∷ d ∷ e ∷ l) i 0) s

first_cell : (l j : ℕ) → j < 6 * l → get_or (first_cells l) j 0 ≡ vacant (j % 6)
first_cell zero j h = absurd (omega arith)
first_cell (suc l) zero h = refl
first_cell (suc l) (suc zero) h = refl
first_cell (suc l) (suc (suc zero)) h = refl
first_cell (suc l) (suc (suc (suc zero))) h = refl
first_cell (suc l) (suc (suc (suc (suc zero)))) h = refl
first_cell (suc l) (suc (suc (suc (suc (suc zero))))) h = refl
first_cell (suc l) (suc (suc (suc (suc (suc (suc j)))))) h = first_cell l j (omega arith) ∙ ap vacant (omega arith)

read_front : (l m : List ℕ) (i : ℕ) → i < length l → get_or (l ++ m) i 0 ≡ get_or l i 0
read_front [] m i h = absurd (omega arith)
read_front (x ∷ xs) m zero h = refl
read_front (x ∷ xs) m (suc i) h = read_front xs m i (omega arith)

read_back : (l m : List ℕ) (i : ℕ) → get_or (l ++ m) (length l + i) 0 ≡ get_or m i 0
read_back [] m i = ap (λ (k : ℕ). get_or m k 0) (omega arith)
read_back (x ∷ xs) m i = let s : length (x ∷ xs) + i ≡ suc (length xs + i) = omega arith in ap (λ (k : ℕ). get_or (x ∷ (xs ++ m)) k 0) s ∙ read_back xs m i

first_place : (n : Numbers) (t j : ℕ) → t < 2 → j < table_cells n.labels → get_or (first_words n.labels) (5 + (t * table_cells n.labels + j)) 0 ≡ vacant (j % 6)
first_place n zero j low h = let l = cells_long (rows_in n.labels) in
    read_five 0 0 0 9223372036854775808 0 (0 * (table_cells n.labels) + j) (first_cells (rows_in n.labels) ++ first_cells (rows_in n.labels)) ∙ ap (λ (k : ℕ). get_or (first_cells (rows_in n.labels) ++ first_cells (rows_in n.labels)) k 0) (omega arith)
    ∙ read_front (first_cells (rows_in n.labels)) (first_cells (rows_in n.labels)) j (omega arith) ∙ first_cell (rows_in n.labels) j h
first_place n (suc zero) j low h = let l = cells_long (rows_in n.labels) in let o = one-mul (table_cells n.labels) in
    read_five 0 0 0 9223372036854775808 0 (1 * (table_cells n.labels) + j) (first_cells (rows_in n.labels) ++ first_cells (rows_in n.labels)) ∙ ap (λ (k : ℕ). get_or (first_cells (rows_in n.labels) ++ first_cells (rows_in n.labels)) k 0) (omega arith)
    ∙ read_back (first_cells (rows_in n.labels)) (first_cells (rows_in n.labels)) j ∙ first_cell (rows_in n.labels) j h
first_place n (suc (suc t)) j low h = absurd (omega arith)

pub opens_sound : (n : Numbers) → IsSized n → Sound n (first_words n.labels) (Reporter (first_reading n.labels) ∷ [])
opens_sound n s = sound n (first_words n.labels) (Reporter (first_reading n.labels) ∷ []) (opens n s) (first_reading n.labels) refl (record {
  now_active = refl;
  timely = at_one (λ _ v. Timely n (first_reading n.labels) v) (Reporter (first_reading n.labels)) tt;
  taken = refl;
  within = tt;
  cells = λ i j live low whole. first_place n (i % 2) j (omega arith) low ∙ sym (vacant_vacant (j % 6));
  emptied = λ j low. absurd (omega arith);
  reports = refl;
  sums_are = λ m old. absurd (omega arith);
}) (record { low = omega arith; quiet = λ _. refl; raised = λ h. absurd (omega arith); seen = λ h. absurd (omega arith) })

-- The end: what all views contribute is what the joined lists do

worth_alone : (n : Numbers) (i j : ℕ) (vs : List View) (id : ℕ) (r : ReporterView) → get_elem? vs id ≡ some (Reporter r) → ((port : ℕ) (u : View) → port ≢ id → get_elem? vs port ≡ some u → u ≡ Gone) → worth n.labels i j vs ≡ joined_at n.labels i j r.joined
worth_alone n i j vs id r at others =
    let c : ℕ = j % 6 in let f : View → ℕ = value n.labels i j in let us : List View = set vs id Gone in let mine : ℕ = joined_at n.labels i j r.joined in
    let none : gather c f us ≡ vacant c = gather_unit c f us (each_set (λ _ u. f u ≡ vacant c) vs id Gone refl (λ k u ne e. ap f (others k u ne e))) in
    let cap : combine c (vacant c) mine ≡ mine = combine_comm c (vacant c) mine ∙ gather_cap c (λ (x : Joined). list_at n.labels x.number i j x.list) r.joined in
    sym (ap (gather c f) (set_back vs id Gone (Reporter r) at)) ∙ gather_more c f us id Gone (Reporter r) mine (here_after vs id Gone (Reporter r) at) (sym cap) ∙ ap (λ (z : ℕ). combine c z mine) none ∙ cap

-- where there is no other view, each closed report and the cells of the open interval are made of the joined lists
pub ends_sums : (n : Numbers) (ws : List ℕ) (vs : List View) (k : Sound n ws vs) (r : ReporterView) → get_elem? vs 0 ≡ some (Reporter r) → r.closing ≡ Idle → ((j : ℕ) (u : View) → j ≢ 0 → get_elem? vs j ≡ some u → u ≡ Gone)
    → ((m : ℕ) → m < r.interval → get_or r.closed m no_report ≡ report_from n.labels m (λ j. joined_at n.labels m j r.joined))
    × ((j : ℕ) → j < table_cells n.labels → get_or ws (cell_at n.labels r.interval j) 0 ≡ joined_at n.labels r.interval j r.joined)
ends_sums n ws vs k r prefix idle others =
    let is = is_reader n ws vs k.phased 0 r prefix in let c : Counted n ws vs r = subst (Counted n ws vs) is k.counted in
    let none : length r.cells ≡ 0 = c.taken ∙ ap taken_count idle in (
      (λ m old. c.sums_are m old ∙ report_same n.labels m (λ j. worth n.labels m j vs) (λ j. joined_at n.labels m j r.joined) (λ j low. worth_alone n m j vs 0 r prefix others)),
      λ j low. c.cells r.interval j (omega arith, omega arith) low (λ _. omega arith) ∙ worth_alone n r.interval j vs 0 r prefix others,
    )

-- A look

total_nothing : (f : View → ℕ) (l : List View) → ((id : ℕ) (v : View) → get_elem? l id ≡ some v → f v ≡ 0) → total f l ≡ 0
total_nothing f [] h = refl
total_nothing f (x ∷ xs) h = let a = h 0 x refl in let r = total_nothing f xs (λ i v e. h (suc i) v e) in omega arith

total_alone : (f : View → ℕ) (l : List View) (i : ℕ) (v : View) → get_elem? l i ≡ some v → f Gone ≡ 0 → ((j : ℕ) (u : View) → j ≢ i → get_elem? l j ≡ some u → u ≡ Gone) → total f l ≡ f v
total_alone f l i v at z others =
    let t = total_set f l i v Gone at in
    let none = total_nothing f (set l i Gone) (each_set (λ _ u. f u ≡ 0) l i Gone z (λ j u ne e. ap f (others j u ne e) ∙ z)) in omega arith

-- the end word that is looked at is at most what is waited for, and is that where every writer is joined
pub look_knows : (n : Numbers) (ws : List ℕ) (vs : List View) (k : Sound n ws vs) (id : ℕ) (r : ReporterView) (want : ℕ) → get_elem? vs id ≡ some (Reporter r) → r.closing ≡ Waiting want
    → (get_or ws (end_at (is_odd r.interval)) 0 ≤ want) × (AllJoined r → get_or ws (end_at (is_odd r.interval)) 0 ≡ want)
look_knows n ws vs k id r want at waiting =
    let p = k.phased in let is = is_reader n ws vs p id r at in let zero_port = at_front n ws vs p id r at in
    let turn : current r ≡ is_odd (r.interval + 1) = ap (λ (t : ℕ). is_odd (r.interval + t)) (ap turned waiting) in
    let far : other r ≡ is_odd r.interval = ap not (turn ∙ odd_next r.interval) ∙ not_not (is_odd r.interval) in
    let old : (total (inside (other r)) vs + get_or ws (end_at (other r)) 0 ≡ want) × (want ≤ initial (other r) + total uses vs) =
    subst (λ (q : ReporterStage). InsideBefore q (total (inside (other r)) vs) (get_or ws (end_at (other r)) 0) (initial (other r)) (total uses vs)) waiting
    (subst (λ (q : ReporterView). InsideBefore q.closing (total (inside (other q)) vs) (get_or ws (end_at (other q)) 0) (initial (other q)) (total uses vs)) is p.behind) in
    let read : get_or ws (end_at (other r)) 0 ≡ get_or ws (end_at (is_odd r.interval)) 0 = ap (λ (q : Bool). get_or ws (end_at q) 0) far in (
      omega arith,
      λ all.
          let none : total (inside (other r)) vs ≡ 0 = total_alone (inside (other r)) vs id (Reporter r) at refl (λ j u ne e. all_gone n ws vs p id r at all j u (λ z. ne (z ∙ sym zero_port)) e) in omega arith,
    )

-- The stop word

or_false : (b : Bool) → or b false ≡ b
or_false true = refl
or_false false = refl

module _ (n : Numbers) (ws : List ℕ) (vs : List View) (k : Sound n ws vs) (id : ℕ) (w : WriterView) (at : get_elem? vs id ≡ some (Writer w)) where
  still' : (u : View) → get_elem? (set vs id u) 0 ≡ some (Reporter k.phased.reader)
  still' u = set_else vs id 0 u (λ e. not_front n ws vs id w k.phased at (sym e)) ∙ k.phased.prefix

  pub raise_sound : StaysSound n ws vs id (raising_stop w)
  raise_sound =
      let word : get_or (set ws 4 1) 4 0 ≡ 1 = get_or-set_same ws 4 1 0 (let wide = k.phased.wide in omega arith) in
      let up : 1 ≤ total raised_in (set vs id (Writer (marked w true w.saw))) = total_at raised_in (set vs id (Writer (marked w true w.saw))) id (Writer (marked w true w.saw)) (here_after vs id (Writer (marked w true w.saw)) (Writer w) at) in
      sound n _ _ (mark_phases n ws vs id w k.phased at 1 true w.saw) k.phased.reader (still' _) (mark_counts n ws vs k.phased k.counted id w at 1 true w.saw)
      (record { low = omega arith; quiet = λ h. absurd (omega arith); raised = λ _. word; seen = λ _. word })

  pub look_stop_sound : StaysSound n ws vs id (looking_stop w)
  look_stop_sound =
      let x : ℕ = get_or ws 4 0 in
      sound n _ _ (mark_phases n ws vs id w k.phased at x w.raised (or w.saw (x == 1))) k.phased.reader (still' _) (mark_counts n ws vs k.phased k.counted id w at x w.raised (or w.saw (x == 1)))
      (subst (λ (xs : List ℕ). ShowsStop xs (set vs id (Writer (marked w w.raised (or w.saw (x == 1)))))) (sym (set-get_or ws 4 0))
      (dite (ℕ_discrete x 1)
      (λ hit. let r = same_total raised_in vs id (Writer w) (Writer (marked w w.raised (or w.saw (x == 1)))) at refl in let s = k.stopped in let low = s.low in
      record { low = low; quiet = λ h. s.quiet (sym r ∙ h); raised = λ _. hit; seen = λ _. hit })
      (λ miss. subst (λ (b : Bool). ShowsStop ws (set vs id (Writer (marked w w.raised (or w.saw b))))) (sym (ne_eqb x 1 miss))
      (stop_same ws ws vs id (Writer w) (Writer (marked w w.raised (or w.saw false))) at refl refl (ap one_if (or_false w.saw)) k.stopped))))

pub raise_reporter_sound : (n : Numbers) (ws : List ℕ) (vs : List View) (k : Sound n ws vs) (id : ℕ) (r : ReporterView) → get_elem? vs id ≡ some (Reporter r) → StaysSound n ws vs id (raising_as_reporter r)
raise_reporter_sound n ws vs k id r at =
    let R : ReporterView = k.phased.reader in let r' : ReporterView = reporter_raised R in
    let word : get_or (set ws 4 1) 4 0 ≡ 1 = get_or-set_same ws 4 1 0 (let wide = k.phased.wide in omega arith) in
    let prefix : get_elem? (set vs 0 (Reporter r')) 0 ≡ some (Reporter r') = here_after vs 0 (Reporter r') (Reporter R) k.phased.prefix in
    let up : 1 + total (λ (j : Joined). one_if j.raised) R.joined ≤ total raised_in (set vs 0 (Reporter r')) = total_at raised_in (set vs 0 (Reporter r')) 0 (Reporter r') prefix in
    as_first n ws vs k id r at raising_as_reporter
    (sound n _ _ (raise_front n ws vs k.phased) r' prefix (raise_counts n ws vs k.phased k.counted)
    (record { low = omega arith; quiet = λ h. absurd (omega arith); raised = λ _. word; seen = λ _. word }))

-- what a look at the stop word tells: it is 0 or 1, and 1 where the seat raised or saw stop before
pub stop_knows : (n : Numbers) (ws : List ℕ) (vs : List View) (k : Sound n ws vs) (id : ℕ) (w : WriterView) → get_elem? vs id ≡ some (Writer w) → (get_or ws 4 0 ≤ 1) × (w.raised ≡ true → get_or ws 4 0 ≡ 1) × (w.saw ≡ true → get_or ws 4 0 ≡ 1)
stop_knows n ws vs k id w at = (
  k.stopped.low,
  (λ h. k.stopped.raised (let t = total_at raised_in vs id (Writer w) at in let o : one_if w.raised ≡ 1 = ap one_if h in omega arith)),
  (λ h. k.stopped.seen (let t = total_at saw_in vs id (Writer w) at in let o : one_if w.saw ≡ 1 = ap one_if h in omega arith)),
)
