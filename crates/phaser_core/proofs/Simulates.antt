-- What the core does is the step of every state that it may stand for.
use Rattle.std.proofs.Common.{◌≡◌, ℕ, zero, suc, ◌+◌, ◌%◌, ◌==◌, ◌&&◌, not, Bool, true, false, ltb, List, [], ◌∷◌, ◌++◌, length, get_or, set, map, sym, refl, ap, ◌∙◌, subst, Some, None, Option, length-append, add-one}
use mathlib.Core.Option.{some, none}
use mathlib.Core.Option as maybe
use lib.ListN.{get_elem?}
use lib.Seq.{map-set}
use Rattle.std.proofs.lemmas.List.{set-get_or}
use Rattle.jm_base.specs.declared.types.Entry.{Entry}
use Rattle.jm_base.specs.SumTotals.{one_if}
use Rattle.phaser_core.specs.declared.view.Numbers.{Numbers}
use Rattle.phaser_core.specs.declared.view.Stage.{Stage}
use Rattle.phaser_core.specs.declared.view.Stage.TheVariants.{Out, In, On}
use Rattle.phaser_core.specs.declared.view.WriterView.{WriterView}
use Rattle.phaser_core.specs.declared.view.ReporterStage.{ReporterStage}
use Rattle.phaser_core.specs.declared.view.ReporterStage.TheVariants.{Idle, Swapped, Cleared, Waiting, Harvest}
use Rattle.phaser_core.specs.declared.view.ReporterView.{ReporterView}
use Rattle.phaser_core.specs.declared.view.View.{View}
use Rattle.phaser_core.specs.declared.view.View.TheVariants as view
use Rattle.phaser_core.specs.declared.view.Event.{Event}
use Rattle.phaser_core.specs.declared.view.Event.TheVariants as event
use Rattle.phaser_core.specs.declared.step.Change.{Change}
use Rattle.phaser_core.specs.declared.step.Change.TheVariants.{Load, Add, Swap}
use Rattle.phaser_core.specs.declared.step.Step.{Step}
use Rattle.phaser_core.specs.declared.writer.WriterState.{WriterState}
use Rattle.phaser_core.specs.declared.writer.WriterState.TheVariants.{Live, Gone}
use Rattle.phaser_core.specs.declared.applied.Applied.{Applied}
use Rattle.phaser_core.specs.declared.applied.Applied.TheVariants.{Old}
use Rattle.phaser_core.specs.Cells.{is_odd, end_at, place, folded, part, column, sums, table_cells, cell_at, vacant, report_of}
use Rattle.phaser_core.specs.CoreMoves.{Move, entering, loading, adding, leaving, swapping, clearing, flipping, looking, taking, raising_as_reporter, gathered_if, gathered, settled, with_seen, stepped_words, taking_in}
use Rattle.phaser_core.specs.Step.{CoreState, given, writer_move, reporter_move, move_at, moved, split_if, split_stage, split_at, join_stage, join_at}
use Rattle.phaser_core.specs.Plain.{changed, cell_change, step_if, stage_step, writer_step, writer_after, writer_at, step_answer, words_after, writers_after, closing_step, closing_if, Parts, gathered_parts_if, gathered_parts, with_taken, with_closing, looked, look_result, look_parts, take_result, take_words, take_parts, split_if as pair_if, split_of, pair_result, pair_writers, is_idle, is_out, old_if, gone_if}
use Rattle.phaser_core.specs.CoreShape.{Shape, kept_of, parts_of, ShowsViews, Shows, found_by, answer_of, Answered}

-- the shape of a state
abbrev pub shape_of : Numbers → List ℕ → ReporterView → List View → Shape
shape_of n ws r os = record { numbers = n; words = ws; writers = map kept_of os; reporter = parts_of r }

pub shape_is : (s : Shape) (r : ReporterView) (os : List View) → ShowsViews s r os → shape_of s.numbers s.words r os ≡ s
shape_is s r os h = λ i. record { numbers = s.numbers; words = s.words; writers = h.writers i; reporter = h.reporter i }

-- Writers

-- the step on what is kept is that of the view
abbrev Matches : Event → WriterState → Option Move → Option Step → Type 0
Matches e k None None = Unit {0}
Matches e k (Some m) (Some s) = (m.word ≡ s.word) × ((x : ℕ) → m.change x ≡ changed s.change x) × ((x : ℕ) → kept_of (m.after x) ≡ writer_after e x k)
Matches e k None (Some s) = ⊥
Matches e k (Some m) None = ⊥

match_if : (b : Bool) (e : Event) (k : WriterState) (m : Move) (word : ℕ) (c : Change) → m.word ≡ word → ((x : ℕ) → m.change x ≡ changed c x) → ((x : ℕ) → kept_of (m.after x) ≡ writer_after e x k) → Matches e k (given b m) (step_if b word c)
match_if true e k m word c at change after = (at, change, after)
match_if false e k m word c at change after = tt

folds_as : (c : ℕ) (e : Entry) (x : ℕ) → folded c x (part c e) ≡ changed (cell_change c e) x
folds_as zero e x = refl
folds_as (suc zero) e x = refl
folds_as (suc (suc zero)) e x = refl
folds_as (suc (suc (suc zero))) e x = refl
folds_as (suc (suc (suc (suc zero)))) e x = refl
folds_as (suc (suc (suc (suc (suc c))))) e x = refl

module _ (n : Numbers) (w : WriterView) where
  abbrev kept : Stage → WriterState
  kept g = Live w.number g (length w.list) w.made

  out_matches : (e : Event) → w.stage ≡ Out → Matches e (kept (Out)) (writer_move n e w (Out)) (stage_step n w.number (length w.list) e (Out))
  out_matches (event.Enter x) is = match_if (ltb (length w.list) n.budget) (event.Enter x) (kept Out) (entering w) 1 (Add 1) refl (λ y. refl) (λ y. refl)
  out_matches (event.LookStop x) is = (refl, (λ y. refl), λ y. ap kept is)
  out_matches (event.RaiseStop x) is = (refl, (λ y. refl), λ y. ap kept is)
  out_matches e is = tt

  in_matches : (e : Event) (p : Bool) → w.stage ≡ In p → Matches e (kept (In p)) (writer_move n e w (In p)) (stage_step n w.number (length w.list) e (In p))
  in_matches (event.Load x e) p is = match_if (ltb e.label n.labels) (event.Load x e) (kept (In p)) (loading w p e) 0 Load refl (λ y. refl) (λ y. refl)
  in_matches e p is = tt

  on_matches : (e : Event) (p : Bool) (m : ℕ) (x : Entry) (d : ℕ) → w.stage ≡ On p m x d → Matches e (kept (On p m x d)) (writer_move n e w (On p m x d)) (stage_step n w.number (length w.list) e (On p m x d))
  on_matches (event.Add x) p m e d is = match_if (ltb d (3 + one_if (not e.ok))) (event.Add x) (kept (On p m e d)) (adding n.labels w p m e d) (place n.labels (m % 2) w.number e.label (column e d)) (cell_change (column e d) e) refl (folds_as (column e d) e) (λ y. refl)
  on_matches (event.Lower x) p m e d is = match_if (d == 3 + one_if (not e.ok)) (event.Lower x) (kept (On p m e d)) (adding n.labels w p m e d) (place n.labels (m % 2) w.number e.label (column e d)) (cell_change (column e d) e) refl (folds_as (column e d) e) (λ y. refl)
  on_matches (event.Raise x) p m e d is = match_if (d == 4 + one_if (not e.ok)) (event.Raise x) (kept (On p m e d)) (adding n.labels w p m e d) (place n.labels (m % 2) w.number e.label (column e d)) (cell_change (column e d) e) refl (folds_as (column e d) e) (λ y. refl)
  on_matches (event.Exit x) p m e d is = match_if (d == sums e) (event.Exit x) (kept (On p m e d)) (leaving w p m e) (end_at p) (Add 1) refl (λ y. refl) (λ y. ap (λ (z : ℕ). Live w.number Out z w.made) (length-append w.list ((m, e) ∷ [])))
  on_matches e p m x d is = tt

  stage_matches : (e : Event) (g : Stage) → w.stage ≡ g → Matches e (kept g) (writer_move n e w g) (stage_step n w.number (length w.list) e g)
  stage_matches e Out is = out_matches e is
  stage_matches e (In p) is = in_matches e p is
  stage_matches e (On p m x d) is = on_matches e p m x d is

-- what is kept of a view that may not be there
abbrev kept_or : maybe.Option View → WriterState
kept_or none = Gone
kept_or (some v) = kept_of v

kept_at : (os : List View) (i : ℕ) → kept_or (get_elem? os i) ≡ writer_at (map kept_of os) i
kept_at [] i = refl
kept_at (v ∷ vs) zero = refl
kept_at (v ∷ vs) (suc i) = kept_at vs i

-- an event of a writer moves no reporter
abbrev Quiet : Event → Type 0
Quiet e = (r : ReporterView) → reporter_move e r r.closing ≡ None

found_matches : (n : Numbers) (e : Event) (o : maybe.Option View) → Quiet e → Matches e (kept_or o) (move_at n e o) (writer_step n e (kept_or o))
found_matches n e none quiet = tt
found_matches n e (some (view.Writer w)) quiet = stage_matches n w e w.stage refl
found_matches n e (some (view.Reporter r)) quiet = subst (λ (o : Option Move). Matches e Gone o None) (sym (quiet r)) tt
found_matches n e (some view.Gone) quiet = tt

set_next : (v : View) (os : List View) (i : ℕ) (u : View) → set (v ∷ os) (i + 1) u ≡ v ∷ set os i u
set_next v os i u = ap (λ (j : ℕ). set (v ∷ os) j u) (add-one i)

get_next : (v : View) (os : List View) (i : ℕ) → get_elem? (v ∷ os) (i + 1) ≡ get_elem? os i
get_next v os i = ap (get_elem? (v ∷ os)) (add-one i)

map_snoc : (os : List View) (v : View) → map kept_of (os ++ v ∷ []) ≡ map kept_of os ++ kept_of v ∷ []
map_snoc [] v = refl
map_snoc (o ∷ os) v = ap (λ (l : List WriterState). kept_of o ∷ l) (map_snoc os v)

module _ (n : Numbers) (ws : List ℕ) (r : ReporterView) (os : List View) (named : r.labels ≡ n.labels) where
  abbrev S : Shape
  S = shape_of n ws r os

  abbrev after_writer : Event → ℕ → Option Step → Shape
  after_writer e i st = record { numbers = n; words = words_after st ws; writers = writers_after st e i ws (map kept_of os); reporter = parts_of r }

  writer_moves : (e : Event) (i : ℕ) (mo : Option Move) (st : Option Step) → ((f : ℕ) → answer_of e r.closing f ≡ Old f) → Matches e (writer_at (map kept_of os) i) mo st
      → Answered S e (found_by ws mo) (moved ws (view.Reporter r ∷ os) (i + 1) mo) (step_answer st ws) (after_writer e i st)
  writer_moves e i None None plain h = (refl, refl)
  writer_moves e i None (Some s) plain h = absurd h
  writer_moves e i (Some m) None plain h = absurd h
  writer_moves e i (Some m) (Some s) plain h =
      let found : get_or ws m.word 0 ≡ get_or ws s.word 0 = ap (λ (z : ℕ). get_or ws z 0) h.0 in
      let x : ℕ = get_or ws s.word 0 in let state : WriterState = writer_at (map kept_of os) i in
      let words : set ws s.word (changed s.change x) ≡ stepped_words ws m = (λ t. set ws (sym h.0 t) (changed s.change (sym found t))) ∙ ap (λ (z : ℕ). set ws m.word z) (sym (h.1 (get_or ws m.word 0))) in
      let u : View = m.after (get_or ws m.word 0) in
      let writers : map kept_of (set os i u) ≡ set (map kept_of os) i (writer_after e x state) = map-set kept_of os i u ∙ ap (λ (z : WriterState). set (map kept_of os) i z) (h.2 (get_or ws m.word 0) ∙ ap (λ (z : ℕ). writer_after e z state) found) in
      let shows : Shows (after_writer e i (Some s)) (view.Reporter r ∷ set os i u) = record { labels = named; reporter = refl; writers = writers } in
      (ap Old (sym found) ∙ sym (plain (get_or ws m.word 0)), refl, words, subst (Shows (after_writer e i (Some s))) (sym (set_next (view.Reporter r) os i u)) shows)

  -- a step of a writer
  pub writer_answers : (e : Event) (i : ℕ) → Quiet e → ((f : ℕ) → answer_of e r.closing f ≡ Old f)
      → let mo : Option Move = move_at n e (get_elem? (view.Reporter r ∷ os) (i + 1)) in let st : Option Step = writer_step n e (writer_at (map kept_of os) i) in
      Answered S e (found_by ws mo) (moved ws (view.Reporter r ∷ os) (i + 1) mo) (step_answer st ws) (after_writer e i st)
  writer_answers e i quiet plain =
      let st : Option Step = writer_step n e (writer_at (map kept_of os) i) in
      let there : Matches e (writer_at (map kept_of os) i) (move_at n e (get_elem? os i)) st = subst (λ (k : WriterState). Matches e k (move_at n e (get_elem? os i)) (writer_step n e k)) (kept_at os i) (found_matches n e (get_elem? os i) quiet) in
      subst (λ (o : maybe.Option View). Answered S e (found_by ws (move_at n e o)) (moved ws (view.Reporter r ∷ os) (i + 1) (move_at n e o)) (step_answer st ws) (after_writer e i st)) (sym (get_next (view.Reporter r) os i))
      (writer_moves e i (move_at n e (get_elem? os i)) st plain there)

  -- The reporter

  abbrev after_reporter : List ℕ → Parts → Shape
  after_reporter words p = record { numbers = n; words = words; writers = map kept_of os; reporter = p }

  -- a step of the reporter, from what its move does
  reporter_moves : (e : Event) (m : Move) (q : ReporterView) (a : Applied) (words : List ℕ) (p : Parts) → m.after (get_or ws m.word 0) ≡ view.Reporter q → q.labels ≡ r.labels → parts_of q ≡ p → a ≡ answer_of e r.closing (get_or ws m.word 0) → words ≡ stepped_words ws m
      → Answered S e (found_by ws (Some m)) (moved ws (view.Reporter r ∷ os) 0 (Some m)) a (after_reporter words p)
  reporter_moves e m q a words p after labels parts answer is =
      (answer, refl, is, subst (λ (v : View). Shows (after_reporter words p) (v ∷ os)) (sym after) (record { labels = labels ∙ named; reporter = parts; writers = refl }))

  abbrev ClosingAnswers : Event → Option Move → Option Step → Type 0
  ClosingAnswers e mo st = Answered S e (found_by ws mo) (moved ws (view.Reporter r ∷ os) 0 mo) (step_answer st ws) (after_reporter (words_after st ws) (with_closing (parts_of r) (closing_if st e ws r.closing)))

  swap_if : (b : Bool) → ClosingAnswers event.SwapActive (given b (swapping r)) (step_if b 0 (Swap (r.interval + 1)))
  swap_if true = reporter_moves event.SwapActive (swapping r) _ _ _ _ refl refl refl refl refl
  swap_if false = (refl, refl)

  pub swap_answers : (c : ReporterStage) → r.closing ≡ c → ClosingAnswers event.SwapActive (reporter_move event.SwapActive r c) (closing_step r.interval event.SwapActive c)
  swap_answers Idle is = swap_if (ltb r.interval 16777216)
  swap_answers Swapped is = (refl, refl)
  swap_answers Cleared is = (refl, refl)
  swap_answers (Waiting want) is = (refl, refl)
  swap_answers (Harvest j) is = (refl, refl)

  pub clear_answers : (c : ReporterStage) → r.closing ≡ c → ClosingAnswers event.ClearEnd (reporter_move event.ClearEnd r c) (closing_step r.interval event.ClearEnd c)
  clear_answers Swapped is = reporter_moves event.ClearEnd (clearing r) _ _ _ _ refl refl refl refl refl
  clear_answers Idle is = (refl, refl)
  clear_answers Cleared is = (refl, refl)
  clear_answers (Waiting want) is = (refl, refl)
  clear_answers (Harvest j) is = (refl, refl)

  pub flip_answers : (c : ReporterStage) → r.closing ≡ c → ClosingAnswers event.Flip (reporter_move event.Flip r c) (closing_step r.interval event.Flip c)
  flip_answers Cleared is = reporter_moves event.Flip (flipping r) _ _ _ _ refl refl refl refl refl
  flip_answers Idle is = (refl, refl)
  flip_answers Swapped is = (refl, refl)
  flip_answers (Waiting want) is = (refl, refl)
  flip_answers (Harvest j) is = (refl, refl)

  pub stop_answers : (c : ReporterStage) → r.closing ≡ c → ClosingAnswers event.ReporterStop (reporter_move event.ReporterStop r c) (closing_step r.interval event.ReporterStop c)
  stop_answers Idle is = reporter_moves event.ReporterStop (raising_as_reporter r) _ _ _ _ refl refl refl refl refl
  stop_answers Swapped is = (refl, refl)
  stop_answers Cleared is = (refl, refl)
  stop_answers (Waiting want) is = (refl, refl)
  stop_answers (Harvest j) is = (refl, refl)

  -- A look, a take

  gathered_as : (b : Bool) (labels j : ℕ) (cells : List ℕ) → r.labels ≡ labels → parts_of (gathered_if b r cells j) ≡ gathered_parts_if b labels j (with_taken (parts_of r) cells)
  gathered_as true labels j cells e = λ i. record { interval = r.interval + 1; closing = Idle; taken = []; closed = r.closed ++ report_of (e i) r.interval cells ∷ [] }
  gathered_as false labels j cells e = refl

  gathered_labels : (b : Bool) (j : ℕ) (cells : List ℕ) → (gathered_if b r cells j).labels ≡ r.labels
  gathered_labels true j cells = refl
  gathered_labels false j cells = refl

  gathered_is : (j : ℕ) (cells : List ℕ) → parts_of (gathered r cells j) ≡ gathered_parts n.labels j (with_taken (parts_of r) cells)
  gathered_is j cells = gathered_as (j == table_cells r.labels) n.labels j cells named ∙ ap (λ (l : ℕ). gathered_parts_if (j == table_cells l) n.labels j (with_taken (parts_of r) cells)) named

  -- what a look found is no part of it
  seen_gathered : (b : Bool) (x j : ℕ) (cells : List ℕ) → parts_of (gathered_if b (with_seen r x) cells j) ≡ parts_of (gathered_if b r cells j)
  seen_gathered true x j cells = refl
  seen_gathered false x j cells = refl

  seen_gathered_labels : (b : Bool) (x j : ℕ) (cells : List ℕ) → (gathered_if b (with_seen r x) cells j).labels ≡ r.labels
  seen_gathered_labels true x j cells = refl
  seen_gathered_labels false x j cells = refl

  seen_settled : (b : Bool) (x : ℕ) → parts_of (settled (with_seen r x) b) ≡ looked b n.labels (parts_of r)
  seen_settled true x = seen_gathered (0 == table_cells r.labels) x 0 [] ∙ gathered_is 0 []
  seen_settled false x = refl

  seen_labels : (b : Bool) (x : ℕ) → (settled (with_seen r x) b).labels ≡ r.labels
  seen_labels true x = seen_gathered_labels (0 == table_cells r.labels) x 0 []
  seen_labels false x = refl

  abbrev looked_at : ℕ
  looked_at = get_or ws (end_at (is_odd r.interval)) 0

  pub look_answers : (c : ReporterStage) → r.closing ≡ c → Answered S event.Look (found_by ws (reporter_move event.Look r c)) (moved ws (view.Reporter r ∷ os) 0 (reporter_move event.Look r c)) (look_result c looked_at) (after_reporter ws (look_parts c looked_at n.labels (parts_of r)))
  look_answers (Waiting want) is = reporter_moves event.Look (looking r want) (settled (with_seen r looked_at) (looked_at == want)) (look_result (Waiting want) looked_at) ws (looked (looked_at == want) n.labels (parts_of r))
      refl (seen_labels (looked_at == want) looked_at) (seen_settled (looked_at == want) looked_at) (ap (λ (c : ReporterStage). answer_of event.Look c looked_at) (sym is)) (sym (set-get_or ws (end_at (is_odd r.interval)) 0))
  look_answers Idle is = (refl, refl)
  look_answers Swapped is = (refl, refl)
  look_answers Cleared is = (refl, refl)
  look_answers (Harvest j) is = (refl, refl)

  pub take_answers : (c : ReporterStage) → r.closing ≡ c → Answered S event.Take (found_by ws (reporter_move event.Take r c)) (moved ws (view.Reporter r ∷ os) 0 (reporter_move event.Take r c)) (take_result c n.labels ws (parts_of r)) (after_reporter (take_words c n.labels ws (parts_of r)) (take_parts c n.labels ws (parts_of r)))
  take_answers (Harvest j) is =
      let at : (labels : ℕ) → ℕ = λ labels. get_or ws (cell_at labels r.interval j) 0 in
      reporter_moves event.Take (taking r j) (gathered r (r.cells ++ at r.labels ∷ []) (j + 1)) (Old (at n.labels)) (set ws (cell_at n.labels r.interval j) (vacant (j % 6))) (gathered_parts n.labels (j + 1) (with_taken (parts_of r) (r.cells ++ at n.labels ∷ [])))
      refl (gathered_labels (j + 1 == table_cells r.labels) (j + 1) (r.cells ++ at r.labels ∷ []))
      (gathered_is (j + 1) (r.cells ++ at r.labels ∷ []) ∙ ap (λ (l : ℕ). gathered_parts n.labels (j + 1) (with_taken (parts_of r) (r.cells ++ at l ∷ []))) named)
      (ap (λ (l : ℕ). Old (at l)) (sym named)) (ap (λ (l : ℕ). set ws (cell_at l r.interval j) (vacant (j % 6))) (sym named))
  take_answers Idle is = (refl, refl)
  take_answers Swapped is = (refl, refl)
  take_answers Cleared is = (refl, refl)
  take_answers (Waiting want) is = (refl, refl)

  -- A split, a join

  abbrev after_writers : List WriterState → Shape
  after_writers wr = record { numbers = n; words = ws; writers = wr; reporter = parts_of r }

  split_answer_if : (b : Bool) (w : WriterView) (rest : List View) → w.stage ≡ Out → let st : Option (WriterState × WriterState) = pair_if b w.number (length w.list) w.made in
      Answered (shape_of n ws r (view.Writer w ∷ rest)) event.Split (get_or ws 0 0) (split_if b ws (view.Reporter r ∷ view.Writer w ∷ rest) (view.Writer w)) (pair_result st ws) (record { numbers = n; words = ws; writers = pair_writers st (kept_of (view.Writer w) ∷ map kept_of rest); reporter = parts_of r })
  split_answer_if true w rest out = (
    refl,
    refl,
    refl,
    record {
      labels = named;
      reporter = refl;
      writers = (λ i. Live w.number (out i) (length w.list) (w.made + 1) ∷ map_snoc rest (view.Writer record { number = w.made; list = []; stage = Out; made = 0; raised = false; saw = false }) i);
    },
  )
  split_answer_if false w rest out = (refl, refl)

  split_stage_answer : (w : WriterView) (rest : List View) (g : Stage) → w.stage ≡ g → let st : Option (WriterState × WriterState) = split_of n (Live w.number g (length w.list) w.made) in
      Answered (shape_of n ws r (view.Writer w ∷ rest)) event.Split (get_or ws 0 0) (split_stage n ws (view.Reporter r ∷ view.Writer w ∷ rest) w g) (pair_result st ws) (record { numbers = n; words = ws; writers = pair_writers st (kept_of (view.Writer w) ∷ map kept_of rest); reporter = parts_of r })
  split_stage_answer w rest Out is = split_answer_if (ltb w.made n.writers) w rest is
  split_stage_answer w rest (In p) is = (refl, refl)
  split_stage_answer w rest (On p m e d) is = (refl, refl)

-- a further writer
pub split_answers : (n : Numbers) (ws : List ℕ) (r : ReporterView) (os : List View) → r.labels ≡ n.labels → let st : Option (WriterState × WriterState) = split_of n (writer_at (map kept_of os) 0) in
    Answered (shape_of n ws r os) event.Split (get_or ws 0 0) (split_at n ws (view.Reporter r ∷ os) (get_elem? (view.Reporter r ∷ os) 1)) (pair_result st ws) (record { numbers = n; words = ws; writers = pair_writers st (map kept_of os); reporter = parts_of r })
split_answers n ws r [] named = (refl, refl)
split_answers n ws r (view.Writer w ∷ rest) named = split_stage_answer n ws r [] named w rest w.stage refl
split_answers n ws r (view.Reporter q ∷ rest) named = (refl, refl)
split_answers n ws r (view.Gone ∷ rest) named = (refl, refl)

module _ (n : Numbers) (ws : List ℕ) (r : ReporterView) (os : List View) (named : r.labels ≡ n.labels) (i : ℕ) where
  abbrev J : Bool → Applied × Shape
  J b = (old_if b ws, record { numbers = n; words = ws; writers = gone_if b i (map kept_of os); reporter = parts_of r })

  abbrev JoinAnswered : Option CoreState → Bool → Type 0
  JoinAnswered o b = Answered (shape_of n ws r os) (event.Join i) (get_or ws 0 0) o (J b).0 (J b).1

  join_now : (w : WriterView) → JoinAnswered (join_stage ws (view.Reporter r ∷ os) (i + 1) r Idle w Out) true
  join_now w = (refl, refl, refl, subst (Shows (J true).1) (sym (set_next (view.Reporter (taking_in r w)) os i view.Gone)) (record { labels = named; reporter = refl; writers = map-set kept_of os i view.Gone }))

  join_stage_answer : (c : ReporterStage) (w : WriterView) (g : Stage) → JoinAnswered (join_stage ws (view.Reporter r ∷ os) (i + 1) r c w g) (is_idle c && is_out (Live w.number g (length w.list) w.made))
  join_stage_answer Idle w Out = join_now w
  join_stage_answer Idle w (In p) = (refl, refl)
  join_stage_answer Idle w (On p m e d) = (refl, refl)
  join_stage_answer Swapped w g = (refl, refl)
  join_stage_answer Cleared w g = (refl, refl)
  join_stage_answer (Waiting want) w g = (refl, refl)
  join_stage_answer (Harvest j) w g = (refl, refl)

  not_out : (c : ReporterStage) → (is_idle c && is_out Gone) ≡ false
  not_out Idle = refl
  not_out Swapped = refl
  not_out Cleared = refl
  not_out (Waiting want) = refl
  not_out (Harvest j) = refl

  join_found : (o : maybe.Option View) → JoinAnswered (join_at ws (view.Reporter r ∷ os) (i + 1) (some (view.Reporter r)) o) (is_idle r.closing && is_out (kept_or o))
  join_found none = subst (JoinAnswered None) (sym (not_out r.closing)) (refl, refl)
  join_found (some (view.Writer w)) = join_stage_answer r.closing w w.stage
  join_found (some (view.Reporter q)) = subst (JoinAnswered None) (sym (not_out r.closing)) (refl, refl)
  join_found (some view.Gone) = subst (JoinAnswered None) (sym (not_out r.closing)) (refl, refl)

  -- a writer that is joined
  pub join_answers : JoinAnswered (join_at ws (view.Reporter r ∷ os) (i + 1) (get_elem? (view.Reporter r ∷ os) 0) (get_elem? (view.Reporter r ∷ os) (i + 1))) (is_idle r.closing && is_out (writer_at (map kept_of os) i))
  join_answers =
      subst (λ (o : maybe.Option View). JoinAnswered (join_at ws (view.Reporter r ∷ os) (i + 1) (some (view.Reporter r)) o) (is_idle r.closing && is_out (writer_at (map kept_of os) i))) (sym (get_next (view.Reporter r) os i))
      (subst (λ (k : WriterState). JoinAnswered (join_at ws (view.Reporter r ∷ os) (i + 1) (some (view.Reporter r)) (get_elem? os i)) (is_idle r.closing && is_out k)) (kept_at os i) (join_found (get_elem? os i)))
