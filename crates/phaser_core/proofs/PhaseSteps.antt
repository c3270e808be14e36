-- Each step keeps what holds of the words and the views.
use Rattle.std.proofs.Common.{◌≡◌, ◌≢◌, ℕ, ◌+◌, ◌*◌, ◌%◌, ◌<◌, ◌≤◌, ◌==◌, not, Bool, true, false, true≢false, List, [], ◌∷◌, ◌++◌, length, get_or, set, sym, refl, ap, ◌∙◌, subst, ⊎_elim, arith, length-set, get_or-set_same, get_or-set_other, length-append, eq-eqb, ne_eqb, mul-le-mul_left, mul-add, mul_comm, add-zero}
use mathlib.Core.Logic.{dite}
use mathlib.Core.Option.{some}
use native.Mathlib.Decide.{ℕ_discrete}
use lib.ListN.{get_elem?}
use Rattle.std.proofs.lemmas.List.{set-get_or}
use Rattle.std.proofs.lemmas.Bool.Decides.{nat_tests}
use Rattle.phaser_core.specs.declared.view.Numbers.{Numbers}
use Rattle.jm_base.specs.declared.types.Entry.{Entry}
use Rattle.phaser_core.specs.declared.view.Stage.{Stage}
use Rattle.phaser_core.specs.declared.view.Stage.TheVariants.{Out, In, On}
use Rattle.phaser_core.specs.declared.view.WriterView.{WriterView}
use Rattle.phaser_core.specs.declared.view.Joined.{Joined}
use Rattle.phaser_core.specs.declared.view.ReporterStage.{ReporterStage}
use Rattle.phaser_core.specs.declared.view.ReporterStage.TheVariants.{Idle, Swapped, Cleared, Waiting, Harvest}
use Rattle.phaser_core.specs.declared.view.ReporterView.{ReporterView}
use Rattle.phaser_core.specs.declared.view.View.{View}
use Rattle.phaser_core.specs.declared.view.View.TheVariants.{Reporter, Writer, Gone}
use Rattle.jm_base.specs.SumTotals.{one_if, total}
use Rattle.phaser_core.proofs.Halves.{Phased, StaysPhased, judging}
use Rattle.phaser_core.specs.Cells.{is_odd, same, end_at, initial, phase, part, column, place, folded, vacant, cell_at, table_cells}
use Rattle.phaser_core.specs.Invariant.{InsideBefore, AllKept, Fits}
use Rattle.phaser_core.specs.CoreMoves.{Move, add_one, entering, leaving, clearing, flipping, settled, with_seen, marked, reporter_raised, loading, adding, swapping, taking, closed_with, holding, gathered_if}
use Rattle.phaser_core.specs.Shares.{AllInRange}
use Rattle.phaser_core.specs.Views.{stage_inside, inside, busy, uses, holders, heads, at_stage, turned, pending, current, other, at_closing}
use Rattle.jm_base.proofs.Totals.{total_set, total_le, total_times}
use Rattle.phaser_core.proofs.Lists.{at_set, set_again, set_else, set_here}

pub same_total : (f : View → ℕ) (l : List View) (i : ℕ) (v w : View) → get_elem? l i ≡ some v → f w ≡ f v → total f (set l i w) ≡ total f l
same_total f l i v w at is = let r = total_set f l i v w at in omega arith

pub each_set : (F : ℕ → View → Type 0) (views : List View) (id : ℕ) (w : View) → F id w → ((j : ℕ) (u : View) → j ≢ id → get_elem? views j ≡ some u → F j u)
    → (j : ℕ) (u : View) → get_elem? (set views id w) j ≡ some u → F j u
each_set F views id w mine others j u e = ⊎_elim (λ (x : (j ≡ id) × (w ≡ u)). subst (λ (y : ℕ × View). F y.0 y.1) (λ i. (sym x.0 i, x.1 i)) mine)
    (λ (x : (j ≢ id) × (get_elem? views j ≡ some u)). others j u x.0 x.1) (at_set views id j w u e)

-- what all have entered is bounded
kept_length : (n : Numbers) (made : ℕ) (js : List Joined) → AllKept n made js → total (λ (j : Joined). length j.list) js ≤ n.budget * length js
kept_length n made [] h = omega arith
kept_length n made (j ∷ js) h = let r = kept_length n made js h.4 in let a = h.0 in let m : n.budget * (length js + 1) ≡ n.budget * length js + n.budget * 1 = mul-add n.budget (length js) 1 in omega arith

uses_heads : (n : Numbers) (made id : ℕ) (v : View) → Fits n made id v → uses v ≤ n.budget * heads v
uses_heads n made id (Reporter r) f = kept_length n made r.joined f.1
uses_heads n made id (Writer w) f = let a = f.1 in omega arith
uses_heads n made id Gone f = omega arith

pub bound : (n : Numbers) (ws : List ℕ) (vs : List View) (k : Phased n ws vs) → total uses vs ≤ 4194304
bound n ws vs k =
    let per : total uses vs ≤ total (λ v. n.budget * heads v) vs = total_le uses (λ v. n.budget * heads v) vs (λ i v e. uses_heads n k.made i v (k.each i v e)) in
    let scaled : total (λ v. n.budget * heads v) vs ≡ n.budget * total heads vs = total_times n.budget heads vs in
    let people = k.people in let few = k.few in
    let more : n.budget * total heads vs ≤ n.budget * n.writers = mul-le-mul_left n.budget (omega arith) in
    let turn : n.budget * n.writers ≡ n.writers * n.budget = mul_comm n.budget n.writers in
    let size = k.sizes.3 in omega arith

pub bound_exact : (n : Numbers) (ws : List ℕ) (vs : List View) (k : Phased n ws vs) → total uses vs ≤ n.writers * n.budget
bound_exact n ws vs k =
    let per : total uses vs ≤ total (λ v. n.budget * heads v) vs = total_le uses (λ v. n.budget * heads v) vs (λ i v e. uses_heads n k.made i v (k.each i v e)) in
    let scaled : total (λ v. n.budget * heads v) vs ≡ n.budget * total heads vs = total_times n.budget heads vs in
    let people = k.people in let few = k.few in
    let more : n.budget * total heads vs ≤ n.budget * n.writers = mul-le-mul_left n.budget (omega arith) in
    let turn : n.budget * n.writers ≡ n.writers * n.budget = mul_comm n.budget n.writers in
    omega arith

behind_more : (c : ReporterStage) (x e i t u : ℕ) → InsideBefore c x e i t → t ≤ u → InsideBefore c x e i u
behind_more Idle x e i t u b h = b
behind_more Swapped x e i t u b h = b
behind_more Cleared x e i t u b h = b
behind_more (Waiting want) x e i t u b h = (b.0, omega arith)
behind_more (Harvest j) x e i t u b h = b

initial_small : (p : Bool) → initial p ≤ 9223372036854775808
initial_small true = omega arith
initial_small false = omega arith

end_apart : (p : Bool) → end_at p ≢ 1
end_apart true = λ e. omega arith
end_apart false = λ e. omega arith

pub end_low : (p : Bool) → end_at p < 5
end_low true = omega arith
end_low false = omega arith

pub end_some : (p : Bool) → 2 ≤ end_at p
end_some true = omega arith
end_some false = omega arith

end_four : (p : Bool) → end_at p ≡ 4 → ⊥
end_four true h = omega arith
end_four false h = omega arith

ends_apart : (p q : Bool) → same p q ≡ false → end_at p ≢ end_at q
ends_apart true true e = absurd (true≢false e)
ends_apart true false e = λ h. omega arith
ends_apart false true e = λ h. omega arith
ends_apart false false e = absurd (true≢false e)

pub same_self : (p : Bool) → same p p ≡ true
same_self true = refl
same_self false = refl

same_not : (p : Bool) → same (not p) p ≡ false
same_not true = refl
same_not false = refl

not_same : (p : Bool) → same p (not p) ≡ false
not_same true = refl
not_same false = refl

-- one more in the start word leaves its parity
phase_next : (x t : ℕ) (c : Bool) → phase x ≡ c → x ≤ initial c + t → t ≤ 4194304 → phase (x + 1) ≡ c
phase_next x t true e h s = grind (arith, nat_tests)
phase_next x t false e h s = grind (arith, nat_tests)

behind_leave : (c : ReporterStage) (x x' e e' i t u d : ℕ) → InsideBefore c x e i t → x' + d ≡ x → e' ≡ e + d → t ≤ u → InsideBefore c x' e' i u
behind_leave Idle x x' e e' i t u d b a z h = omega arith
behind_leave Swapped x x' e e' i t u d b a z h = omega arith
behind_leave Cleared x x' e e' i t u d b a z h = (omega arith, omega arith)
behind_leave (Waiting want) x x' e e' i t u d b a z h = (omega arith, omega arith)
behind_leave (Harvest j) x x' e e' i t u d b a z h = omega arith

behind_room : (c : ReporterStage) (x x' e i t d : ℕ) → InsideBefore c x e i t → x' + d ≡ x → e ≤ i + t → e + d ≤ i + t
behind_room Idle x x' e i t d b a h = omega arith
behind_room Swapped x x' e i t d b a h = omega arith
behind_room Cleared x x' e i t d b a h = omega arith
behind_room (Waiting want) x x' e i t d b a h = omega arith
behind_room (Harvest j) x x' e i t d b a h = omega arith

pub which : (c q : Bool) (F : Bool → Type 0) → F c → F (not c) → F q
which true true F a b = a
which true false F a b = b
which false true F a b = b
which false false F a b = a

-- what an end word is after one more at the end word of p
end_after : (ws : List ℕ) (p q : Bool) (m : ℕ) → end_at p < length ws → m ≡ get_or ws (end_at p) 0 + 1 → get_or (set ws (end_at p) m) (end_at q) 0 ≡ get_or ws (end_at q) 0 + one_if (same q p)
end_after ws true true m low is = get_or-set_same ws 3 m 0 low ∙ is
end_after ws true false m low is = get_or-set_other ws 3 2 m 0 (λ h. omega arith) ∙ sym (add-zero (get_or ws 2 0))
end_after ws false true m low is = get_or-set_other ws 2 3 m 0 (λ h. omega arith) ∙ sym (add-zero (get_or ws 3 0))
end_after ws false false m low is = get_or-set_same ws 2 m 0 low ∙ is

in_range_snoc : (labels : ℕ) (l : List (ℕ × Entry)) (x : ℕ × Entry) → AllInRange labels l → x.1.label < labels → AllInRange labels (l ++ x ∷ [])
in_range_snoc labels [] x h b = (b, tt)
in_range_snoc labels (y ∷ ys) x h b = (h.0, in_range_snoc labels ys x h.1 b)

module _ (n : Numbers) (ws : List ℕ) (vs : List View) (id : ℕ) (w : WriterView) (k : Phased n ws vs) (at : get_elem? vs id ≡ some (Writer w)) where
  pub not_front : id ≢ 0
  not_front = let f = (k.each id (Writer w) at).0 in λ e. omega arith

  -- a step of a writer, from what it does to numbers
  writer_phases : (vs' : List ℕ) (w' : WriterView) → w'.number ≡ w.number → length vs' ≡ length ws
      → phase (get_or vs' 1 0) ≡ current k.reader
      → total (inside (current k.reader)) (set vs id (Writer w')) + get_or vs' (end_at (current k.reader)) 0 ≡ get_or vs' 1 0
      → InsideBefore k.reader.closing (total (inside (other k.reader)) (set vs id (Writer w'))) (get_or vs' (end_at (other k.reader)) 0) (initial (other k.reader)) (total uses (set vs id (Writer w')))
      → get_or vs' 1 0 ≤ initial (current k.reader) + total uses (set vs id (Writer w'))
      → ((p : Bool) → (initial p ≤ get_or vs' (end_at p) 0) × (get_or vs' (end_at p) 0 ≤ initial p + total uses (set vs id (Writer w'))))
      → Fits n k.made id (Writer w')
      → Phased n vs' (set vs id (Writer w'))
  writer_phases vs' w' number long parity now behind started ends mine = record {
    wide = long ∙ k.wide;
    sizes = k.sizes;
    labels = k.labels;
    reader = k.reader;
    prefix = set_else vs id 0 (Writer w') (λ e. not_front (sym e)) ∙ k.prefix;
    made = k.made;
    ports = length-set vs id (Writer w') ∙ k.ports;
    few = k.few;
    closed = k.closed;
    parity = parity;
    now = now;
    behind = behind;
    started = started;
    ends = ends;
    people = same_total heads vs id (Writer w) (Writer w') at refl ∙ k.people;
    numbers = λ q. same_total (holders q) vs id (Writer w) (Writer w') at (ap (λ (m : ℕ). one_if (m == q)) number) ∙ k.numbers q;
    each = each_set (Fits n k.made) vs id (Writer w') mine (λ j u _ e. k.each j u e);
  }

  -- a step on a word beside start and the end words, by a writer that stays inside
  stay_phases : (i x : ℕ) (s : Stage) → i ≢ 1 → ((p : Bool) → end_at p ≢ i) → ((p : Bool) → stage_inside p s ≡ stage_inside p w.stage) → busy s ≡ busy w.stage → Phased n (set ws i x) (set vs id (Writer (at_stage w s w.list)))
  stay_phases i x s ne ne' same_in same_busy =
      let w' : WriterView = at_stage w s w.list in
      let mine = k.each id (Writer w) at in
      let start : get_or (set ws i x) 1 0 ≡ get_or ws 1 0 = get_or-set_other ws i 1 x 0 (λ h. ne (sym h)) in
      let apart : (p : Bool) → get_or (set ws i x) (end_at p) 0 ≡ get_or ws (end_at p) 0 = λ p. get_or-set_other ws i (end_at p) x 0 (ne' p) in
      let used : total uses (set vs id (Writer w')) ≡ total uses vs = same_total uses vs id (Writer w) (Writer w') at (ap (λ (b : ℕ). length w.list + b) same_busy) in
      let within : (p : Bool) → total (inside p) (set vs id (Writer w')) ≡ total (inside p) vs = λ p. same_total (inside p) vs id (Writer w) (Writer w') at (same_in p) in
      let c : Bool = current k.reader in let o : Bool = other k.reader in let ac = apart c in let wc = within c in let now = k.now in let started = k.started in
      writer_phases (set ws i x) w' refl (length-set ws i x) (ap phase start ∙ k.parity) (omega arith)
      (subst (λ (z : ℕ × ℕ). InsideBefore k.reader.closing z.0 z.1 (initial o) (total uses (set vs id (Writer w')))) (λ j. (sym (within o) j, sym (apart o) j))
      (behind_more k.reader.closing (total (inside o) vs) (get_or ws (end_at o) 0) (initial o) (total uses vs) (total uses (set vs id (Writer w'))) k.behind (omega arith)))
      (omega arith)
      (λ p. let a = apart p in let e = k.ends p in (omega arith, omega arith))
      (mine.0, omega arith, mine.2, mine.3, mine.4)

  -- a step on the stop word, which changes only the marks
  pub mark_phases : (x : ℕ) (a b : Bool) → Phased n (set ws 4 x) (set vs id (Writer (marked w a b)))
  mark_phases x a b =
      let w' : WriterView = marked w a b in
      let mine = k.each id (Writer w) at in
      let start : get_or (set ws 4 x) 1 0 ≡ get_or ws 1 0 = get_or-set_other ws 4 1 x 0 (λ h. omega arith) in
      let apart : (p : Bool) → get_or (set ws 4 x) (end_at p) 0 ≡ get_or ws (end_at p) 0 = λ p. get_or-set_other ws 4 (end_at p) x 0 (λ h. end_four p h) in
      let used : total uses (set vs id (Writer w')) ≡ total uses vs = same_total uses vs id (Writer w) (Writer w') at refl in
      let within : (p : Bool) → total (inside p) (set vs id (Writer w')) ≡ total (inside p) vs = λ p. same_total (inside p) vs id (Writer w) (Writer w') at refl in
      let c : Bool = current k.reader in let o : Bool = other k.reader in let ac = apart c in let wc = within c in let now = k.now in let started = k.started in
      writer_phases (set ws 4 x) w' refl (length-set ws 4 x) (ap phase start ∙ k.parity) (omega arith)
      (subst (λ (z : ℕ × ℕ). InsideBefore k.reader.closing z.0 z.1 (initial o) (total uses (set vs id (Writer w')))) (λ j. (sym (within o) j, sym (apart o) j))
      (behind_more k.reader.closing (total (inside o) vs) (get_or ws (end_at o) 0) (initial o) (total uses vs) (total uses (set vs id (Writer w'))) k.behind (omega arith)))
      (omega arith)
      (λ p. let a = apart p in let e = k.ends p in (omega arith, omega arith))
      mine

  pub load_phases : (p : Bool) (e : Entry) → w.stage ≡ In p → StaysPhased n ws vs id (loading w p e)
  load_phases p e is = stay_phases 0 (get_or ws 0 0) (On p (get_or ws 0 0) e 0) (λ h. omega arith) (λ q h. let s = end_some q in omega arith) (λ q. sym (ap (stage_inside q) is)) (sym (ap busy is))

  pub add_phases : (p : Bool) (m : ℕ) (e : Entry) (d : ℕ) → w.stage ≡ On p m e d → StaysPhased n ws vs id (adding n.labels w p m e d)
  add_phases p m e d is = let i : ℕ = place n.labels (m % 2) w.number e.label (column e d) in
      stay_phases i (folded (column e d) (get_or ws i 0) (part (column e d) e)) (On p m e (d + 1)) (λ h. omega arith) (λ q h. let l = end_low q in omega arith) (λ q. sym (ap (stage_inside q) is)) (sym (ap busy is))

  pub enter_phases : w.stage ≡ Out → length w.list < n.budget → StaysPhased n ws vs id (entering w)
  enter_phases out room =
      let x : ℕ = get_or ws 1 0 in let c : Bool = current k.reader in
      let w' : WriterView = at_stage w (In (phase x)) w.list in
      let most = bound n ws vs k in let wide = k.wide in let started = k.started in
      let small = initial_small c in
      let next : add_one x ≡ x + 1 = omega arith in
      let mine = k.each id (Writer w) at in
      let free : busy w.stage ≡ 0 = ap busy out in
      let more : total uses (set vs id (Writer w')) ≡ total uses vs + 1 = let t = total_set uses vs id (Writer w) (Writer w') at in omega arith in
      let word : get_or (set ws 1 (add_one x)) 1 0 ≡ x + 1 = get_or-set_same ws 1 (add_one x) 0 (omega arith) ∙ next in
      let apart : (p : Bool) → get_or (set ws 1 (add_one x)) (end_at p) 0 ≡ get_or ws (end_at p) 0 = λ p. get_or-set_other ws 1 (end_at p) (add_one x) 0 (end_apart p) in
      let within : (p : Bool) → total (inside p) (set vs id (Writer w')) ≡ total (inside p) vs + one_if (same p c) = λ p.
      let t : total (inside p) (set vs id (Writer w')) + inside p (Writer w) ≡ total (inside p) vs + inside p (Writer w') = total_set (inside p) vs id (Writer w) (Writer w') at in
      let z : inside p (Writer w) ≡ 0 = ap (stage_inside p) out in
      let i : inside p (Writer w') ≡ one_if (same p c) = ap (λ b. one_if (same p b)) k.parity in omega arith in
      let same_behind : total (inside (other k.reader)) (set vs id (Writer w')) ≡ total (inside (other k.reader)) vs =
      let i = within (other k.reader) in let none : one_if (same (not c) c) ≡ 0 = ap one_if (same_not c) in omega arith in
      writer_phases (set ws 1 (add_one x)) w' refl (length-set ws 1 (add_one x))
      (ap phase word ∙ phase_next x (total uses vs) c k.parity k.started most)
      (let i = within c in let one : one_if (same c c) ≡ 1 = ap one_if (same_self c) in let a = apart c in let now = k.now in omega arith)
      (subst (λ (z : ℕ × ℕ). InsideBefore k.reader.closing z.0 z.1 (initial (other k.reader)) (total uses (set vs id (Writer w')))) (λ j. (sym same_behind j, sym (apart (other k.reader)) j))
      (behind_more k.reader.closing (total (inside (other k.reader)) vs) (get_or ws (end_at (other k.reader)) 0) (initial (other k.reader)) (total uses vs) (total uses (set vs id (Writer w'))) k.behind (omega arith)))
      (omega arith)
      (λ p. let a = apart p in let e = k.ends p in (omega arith, omega arith))
      (mine.0, omega arith, mine.2, mine.3, mine.4)

  -- where the writer is inside with the parity p, an end word that it adds to stays in its bounds
  pub exit_phases : (p : Bool) (m : ℕ) (e : Entry) (d : ℕ) → w.stage ≡ On p m e d → e.label < n.labels → StaysPhased n ws vs id (leaving w p m e)
  exit_phases p m e d is label =
      let c : Bool = current k.reader in
      let w' : WriterView = at_stage w Out (w.list ++ (m, e) ∷ []) in
      let y : ℕ = get_or ws (end_at p) 0 in let ws' : List ℕ = set ws (end_at p) (add_one y) in
      let most = bound n ws vs k in let wide = k.wide in
      let mine = k.each id (Writer w) at in
      let held : busy w.stage ≡ 1 = ap busy is in
      let len : length w'.list ≡ length w.list + 1 = length-append w.list ((m, e) ∷ []) in
      let more : total uses (set vs id (Writer w')) ≡ total uses vs = let t = total_set uses vs id (Writer w) (Writer w') at in omega arith in
      let low = end_low p in let small = initial_small p in let bounds = k.ends p in
      let next : add_one y ≡ y + 1 = omega arith in
      let word : get_or ws' (end_at p) 0 ≡ y + 1 = get_or-set_same ws (end_at p) (add_one y) 0 (omega arith) ∙ next in
      let start : get_or ws' 1 0 ≡ get_or ws 1 0 = get_or-set_other ws (end_at p) 1 (add_one y) 0 (λ h. end_apart p (sym h)) in
      let within : (q : Bool) → total (inside q) (set vs id (Writer w')) + one_if (same q p) ≡ total (inside q) vs = λ q.
      let t : total (inside q) (set vs id (Writer w')) + inside q (Writer w) ≡ total (inside q) vs + inside q (Writer w') = total_set (inside q) vs id (Writer w) (Writer w') at in
      let z : inside q (Writer w) ≡ one_if (same q p) = ap (stage_inside q) is in omega arith in
      let ends' : (q : Bool) → get_or ws' (end_at q) 0 ≡ get_or ws (end_at q) 0 + one_if (same q p) = λ q. end_after ws p q (add_one y) (omega arith) (omega arith) in
      let now = k.now in let nw = within c in let ne = ends' c in let started = k.started in
      let o : Bool = other k.reader in let wo = within o in let eo = ends' o in let bo = k.ends o in let bc = k.ends c in
      let room = behind_room k.reader.closing (total (inside o) vs) (total (inside o) (set vs id (Writer w'))) (get_or ws (end_at o) 0) (initial o) (total uses vs) (one_if (same o p)) k.behind wo bo.1 in
      writer_phases ws' w' refl (length-set ws (end_at p) (add_one y))
      (ap phase start ∙ k.parity)
      (omega arith)
      (behind_leave k.reader.closing (total (inside o) vs) (total (inside o) (set vs id (Writer w'))) (get_or ws (end_at o) 0) (get_or ws' (end_at o) 0) (initial o) (total uses vs) (total uses (set vs id (Writer w'))) (one_if (same o p)) k.behind wo eo (omega arith))
      (omega arith)
      (λ q. which c q (λ r. (initial r ≤ get_or ws' (end_at r) 0) × (get_or ws' (end_at r) 0 ≤ initial r + total uses (set vs id (Writer w')))) (omega arith, omega arith) (omega arith, omega arith))
      (mine.0, omega arith, in_range_snoc n.labels w.list (m, e) mine.2 label, mine.3, mine.4)

pub odd_next : (m : ℕ) → is_odd (m + 1) ≡ not (is_odd m)
odd_next m = grind (arith, nat_tests)

pub not_not : (b : Bool) → not (not b) ≡ b
not_not true = refl
not_not false = refl

phase_initial : (p : Bool) → phase (initial p) ≡ p
phase_initial true = refl
phase_initial false = refl

module _ (n : Numbers) (ws : List ℕ) (vs : List View) (k : Phased n ws vs) where
  abbrev R : ReporterView
  R = k.reader

  -- a step of the reporter, from what it does to numbers; c is the parity of start after it
  reporter_phases : (vs' : List ℕ) (r' : ReporterView) (c : Bool) → r'.labels ≡ R.labels → r'.joined ≡ R.joined → r'.ready ≡ R.ready → length vs' ≡ length ws → r'.interval + pending r'.closing ≤ 16777216 → c ≡ current r'
      → phase (get_or vs' 1 0) ≡ c
      → total (inside c) vs + get_or vs' (end_at c) 0 ≡ get_or vs' 1 0
      → InsideBefore r'.closing (total (inside (not c)) vs) (get_or vs' (end_at (not c)) 0) (initial (not c)) (total uses vs)
      → get_or vs' 1 0 ≤ initial c + total uses vs
      → ((p : Bool) → (initial p ≤ get_or vs' (end_at p) 0) × (get_or vs' (end_at p) 0 ≤ initial p + total uses vs))
      → Phased n vs' (set vs 0 (Reporter r'))
  reporter_phases vs' r' c labels joined ready long closed is parity now behind started ends =
      let us : List View = set vs 0 (Reporter r') in
      let at = k.prefix in
      let used : total uses us ≡ total uses vs = same_total uses vs 0 (Reporter R) (Reporter r') at (ap (λ (l : List Joined). total (λ (j : Joined). length j.list) l) joined) in
      let within : (p : Bool) → total (inside p) us ≡ total (inside p) vs = λ p. same_total (inside p) vs 0 (Reporter R) (Reporter r') at refl in
      let mine = k.each 0 (Reporter R) at in
      let ports = k.ports in
      record {
        wide = long ∙ k.wide;
        sizes = k.sizes;
        labels = labels ∙ k.labels;
        reader = r';
        prefix = set_here vs 0 (Reporter r') (omega arith);
        made = k.made;
        ports = length-set vs 0 (Reporter r') ∙ k.ports;
        few = k.few;
        closed = closed;
        parity = parity ∙ is;
        now = subst (λ (q : Bool). total (inside q) us + get_or vs' (end_at q) 0 ≡ get_or vs' 1 0) is (ap (λ (x : ℕ). x + get_or vs' (end_at c) 0) (within c) ∙ now);
        behind = subst (λ (q : Bool). InsideBefore r'.closing (total (inside (not q)) us) (get_or vs' (end_at (not q)) 0) (initial (not q)) (total uses us)) is
            (subst (λ (z : ℕ × ℕ). InsideBefore r'.closing z.0 (get_or vs' (end_at (not c)) 0) (initial (not c)) z.1) (λ i. (sym (within (not c)) i, sym used i)) behind);
        started = subst (λ (q : Bool). get_or vs' 1 0 ≤ initial q + total uses us) is (omega arith);
        ends = λ p. let e = ends p in (e.0, omega arith);
        people = same_total heads vs 0 (Reporter R) (Reporter r') at (ap (λ (l : List Joined). length l) joined) ∙ k.people;
        numbers = λ q. same_total (holders q) vs 0 (Reporter R) (Reporter r') at (ap (λ (l : List Joined). total (λ (j : Joined). one_if (j.number == q)) l) joined) ∙ k.numbers q;
        each = each_set (Fits n k.made) vs 0 (Reporter r') (refl, subst (AllKept n k.made) (sym joined) mine.1, λ e. mine.2 (sym ready ∙ e)) (λ j u _ e. k.each j u e);
      }

  pub clear_front : R.closing ≡ Swapped → StaysPhased n ws vs 0 (clearing R)
  clear_front idle =
      let c : Bool = current R in let o : Bool = is_odd (R.interval + 1) in
      let still : c ≡ is_odd R.interval = ap (λ (t : ℕ). is_odd (R.interval + t)) (ap turned idle) ∙ ap is_odd (add-zero R.interval) in
      let far : not c ≡ o = ap not still ∙ sym (odd_next R.interval) in
      let wide = k.wide in let low = end_low o in
      let ws' : List ℕ = set ws (end_at o) (initial o) in
      let start : get_or ws' 1 0 ≡ get_or ws 1 0 = get_or-set_other ws (end_at o) 1 (initial o) 0 (λ h. end_apart o (sym h)) in
      let here : get_or ws' (end_at o) 0 ≡ initial o = get_or-set_same ws (end_at o) (initial o) 0 (omega arith) in
      let there : get_or ws' (end_at c) 0 ≡ get_or ws (end_at c) 0 = get_or-set_other ws (end_at o) (end_at c) (initial o) 0 (ends_apart c o (ap (same c) (sym far) ∙ not_same c)) in
      let none : total (inside (not c)) vs ≡ 0 = subst (λ (q : ReporterStage). InsideBefore q (total (inside (other R)) vs) (get_or ws (end_at (other R)) 0) (initial (other R)) (total uses vs)) idle k.behind in
      let now = k.now in let started = k.started in let ec = k.ends c in let pend : pending R.closing ≡ 1 = ap pending idle in let few = k.closed in
      reporter_phases ws' (at_closing R Cleared) c refl refl refl (length-set ws (end_at o) (initial o)) (omega arith) (still ∙ sym (ap is_odd (add-zero R.interval)))
      (ap phase start ∙ k.parity)
      (omega arith)
      (none, ap (λ (q : Bool). get_or ws' (end_at q) 0) far ∙ here ∙ ap initial (sym far))
      (omega arith)
      (λ q. which c q (λ r. (initial r ≤ get_or ws' (end_at r) 0) × (get_or ws' (end_at r) 0 ≤ initial r + total uses vs)) (omega arith, omega arith)
      (subst (λ (r : Bool). (initial r ≤ get_or ws' (end_at r) 0) × (get_or ws' (end_at r) 0 ≤ initial r + total uses vs)) (sym far) (omega arith, omega arith)))

  pub flip_front : R.closing ≡ Cleared → StaysPhased n ws vs 0 (flipping R)
  flip_front cleared =
      let c : Bool = current R in let o : Bool = is_odd (R.interval + 1) in let x : ℕ = get_or ws 1 0 in
      let still : c ≡ is_odd R.interval = ap (λ (t : ℕ). is_odd (R.interval + t)) (ap turned cleared) ∙ ap is_odd (add-zero R.interval) in
      let far : not c ≡ o = ap not still ∙ sym (odd_next R.interval) in
      let near : c ≡ not o = sym (not_not c) ∙ ap not far in
      let wide = k.wide in
      let ws' : List ℕ = set ws 1 (initial o) in
      let start : get_or ws' 1 0 ≡ initial o = get_or-set_same ws 1 (initial o) 0 (omega arith) in
      let apart : (p : Bool) → get_or ws' (end_at p) 0 ≡ get_or ws (end_at p) 0 = λ p. get_or-set_other ws 1 (end_at p) (initial o) 0 (end_apart p) in
      let old : (total (inside (not c)) vs ≡ 0) × (get_or ws (end_at (not c)) 0 ≡ initial (not c)) =
      subst (λ (q : ReporterStage). InsideBefore q (total (inside (other R)) vs) (get_or ws (end_at (other R)) 0) (initial (other R)) (total uses vs)) cleared k.behind in
      let none : total (inside o) vs ≡ 0 = subst (λ (q : Bool). total (inside q) vs ≡ 0) far old.0 in
      let clean : get_or ws (end_at o) 0 ≡ initial o = subst (λ (q : Bool). get_or ws (end_at q) 0 ≡ initial q) far old.1 in
      let now = k.now in let started = k.started in let ac = apart c in let ao = apart o in
      let held : (total (inside c) vs + get_or ws' (end_at c) 0 ≡ x) × (x ≤ initial c + total uses vs) = (omega arith, omega arith) in
      let pend : pending R.closing ≡ 1 = ap pending cleared in let closed = k.closed in
      reporter_phases ws' (at_closing R (Waiting x)) o refl refl refl (length-set ws 1 (initial o)) (omega arith) refl
      (ap phase start ∙ phase_initial o)
      (omega arith)
      (subst (λ (q : Bool). (total (inside q) vs + get_or ws' (end_at q) 0 ≡ x) × (x ≤ initial q + total uses vs)) near held)
      (omega arith)
      (λ q. let a = apart q in let e = k.ends q in (omega arith, omega arith))

  -- the interval that is closing ends, with these cells
  close_front : (l : List ℕ) → turned R.closing ≡ 1 → pending R.closing ≡ 1 → total (inside (other R)) vs ≡ 0 → (vs' : List ℕ) → length vs' ≡ length ws → get_or vs' 1 0 ≡ get_or ws 1 0
      → ((p : Bool) → get_or vs' (end_at p) 0 ≡ get_or ws (end_at p) 0) → Phased n vs' (set vs 0 (Reporter (closed_with R l)))
  close_front l turn pend none vs' long start ends' =
      let c : Bool = current R in let closed = k.closed in
      let is : c ≡ is_odd (R.interval + 1) = ap (λ (t : ℕ). is_odd (R.interval + t)) turn in
      let ec = ends' c in let now = k.now in let started = k.started in
      reporter_phases vs' (closed_with R l) c refl refl refl long (omega arith) (is ∙ sym (ap is_odd (add-zero (R.interval + 1)))) (ap phase start ∙ k.parity) (omega arith) none (omega arith) (λ p. let a = ends' p in let e = k.ends p in (omega arith, omega arith))

  -- the closing goes on to Harvest
  hold_front : (l : List ℕ) (j : ℕ) → turned R.closing ≡ 1 → pending R.closing ≡ 1 → total (inside (other R)) vs ≡ 0 → (vs' : List ℕ) → length vs' ≡ length ws → get_or vs' 1 0 ≡ get_or ws 1 0
      → ((p : Bool) → get_or vs' (end_at p) 0 ≡ get_or ws (end_at p) 0) → Phased n vs' (set vs 0 (Reporter (holding R l j)))
  hold_front l j turn pend none vs' long start ends' =
      let c : Bool = current R in let closed = k.closed in
      let is : c ≡ is_odd (R.interval + 1) = ap (λ (t : ℕ). is_odd (R.interval + t)) turn in
      let ec = ends' c in let now = k.now in let started = k.started in
      reporter_phases vs' (holding R l j) c refl refl refl long (omega arith) is (ap phase start ∙ k.parity) (omega arith) none (omega arith) (λ p. let a = ends' p in let e = k.ends p in (omega arith, omega arith))

  gather_front : (l : List ℕ) (j : ℕ) (b : Bool) → turned R.closing ≡ 1 → pending R.closing ≡ 1 → total (inside (other R)) vs ≡ 0 → (vs' : List ℕ) → length vs' ≡ length ws → get_or vs' 1 0 ≡ get_or ws 1 0
      → ((p : Bool) → get_or vs' (end_at p) 0 ≡ get_or ws (end_at p) 0) → Phased n vs' (set vs 0 (Reporter (gathered_if b R l j)))
  gather_front l j true turn pend none vs' long start ends' = close_front l turn pend none vs' long start ends'
  gather_front l j false turn pend none vs' long start ends' = hold_front l j turn pend none vs' long start ends'

  -- where the word that was waited for is there, no writer is inside with the other parity
  pub settled_none : (want : ℕ) → R.closing ≡ Waiting want → get_or ws (end_at (is_odd R.interval)) 0 ≡ want → total (inside (other R)) vs ≡ 0
  settled_none want waiting hit =
      let c : Bool = current R in
      let turn : c ≡ is_odd (R.interval + 1) = ap (λ (t : ℕ). is_odd (R.interval + t)) (ap turned waiting) in
      let far : not c ≡ is_odd R.interval = ap not (turn ∙ odd_next R.interval) ∙ not_not (is_odd R.interval) in
      let old : (total (inside (not c)) vs + get_or ws (end_at (not c)) 0 ≡ want) × (want ≤ initial (not c) + total uses vs) =
      subst (λ (q : ReporterStage). InsideBefore q (total (inside (other R)) vs) (get_or ws (end_at (other R)) 0) (initial (other R)) (total uses vs)) waiting k.behind in
      let read : get_or ws (end_at (not c)) 0 ≡ get_or ws (end_at (is_odd R.interval)) 0 = ap (λ (q : Bool). get_or ws (end_at q) 0) far in omega arith

  pub judge_front : (want : ℕ) → R.closing ≡ Waiting want → StaysPhased n ws vs 0 (judging R want)
  judge_front want waiting =
      let i : ℕ = end_at (is_odd R.interval) in let found : ℕ = get_or ws i 0 in
      subst (λ (xs : List ℕ). Phased n xs (set vs 0 (Reporter (settled R (found == want))))) (sym (set-get_or ws i 0))
      (dite (ℕ_discrete found want)
      (λ hit. subst (λ (b : Bool). Phased n ws (set vs 0 (Reporter (settled R b)))) (sym (eq-eqb found want hit))
      (gather_front [] 0 (0 == table_cells R.labels) (ap turned waiting) (ap pending waiting) (settled_none want waiting hit) ws refl refl (λ _. refl)))
      (λ miss. subst (λ (b : Bool). Phased n ws (set vs 0 (Reporter (settled R b)))) (sym (ne_eqb found want miss))
      (subst (Phased n ws) (sym (set_again vs 0 (Reporter R) k.prefix)) k)))

  pub swap_front : R.closing ≡ Idle → R.interval < 16777216 → StaysPhased n ws vs 0 (swapping R)
  swap_front idle few =
      let c : Bool = current R in
      let still : c ≡ is_odd (R.interval + 0) = ap (λ (t : ℕ). is_odd (R.interval + t)) (ap turned idle) in
      let none : total (inside (not c)) vs ≡ 0 = subst (λ (q : ReporterStage). InsideBefore q (total (inside (other R)) vs) (get_or ws (end_at (other R)) 0) (initial (other R)) (total uses vs)) idle k.behind in
      let start : get_or (set ws 0 (R.interval + 1)) 1 0 ≡ get_or ws 1 0 = get_or-set_other ws 0 1 (R.interval + 1) 0 (λ h. omega arith) in
      let apart : (p : Bool) → get_or (set ws 0 (R.interval + 1)) (end_at p) 0 ≡ get_or ws (end_at p) 0 = λ p. get_or-set_other ws 0 (end_at p) (R.interval + 1) 0 (λ h. let e = end_some p in omega arith) in
      let ec = apart c in let now = k.now in let started = k.started in
      reporter_phases (set ws 0 (R.interval + 1)) (at_closing R Swapped) c refl refl refl (length-set ws 0 (R.interval + 1)) (omega arith) still (ap phase start ∙ k.parity) (omega arith) none (omega arith) (λ p. let a = apart p in let e = k.ends p in (omega arith, omega arith))

  pub raise_front : Phased n (set ws 4 1) (set vs 0 (Reporter (reporter_raised R)))
  raise_front =
      let start : get_or (set ws 4 1) 1 0 ≡ get_or ws 1 0 = get_or-set_other ws 4 1 1 0 (λ h. omega arith) in
      let apart : (p : Bool) → get_or (set ws 4 1) (end_at p) 0 ≡ get_or ws (end_at p) 0 = λ p. get_or-set_other ws 4 (end_at p) 1 0 (λ h. end_four p h) in
      let c : Bool = current R in let ac = apart c in let ao = apart (not c) in let now = k.now in let started = k.started in
      reporter_phases (set ws 4 1) (reporter_raised R) c refl refl refl (length-set ws 4 1) k.closed refl (ap phase start ∙ k.parity) (omega arith)
      (subst (λ (z : ℕ). InsideBefore R.closing (total (inside (not c)) vs) z (initial (not c)) (total uses vs)) (sym ao) k.behind) (omega arith) (λ p. let a = apart p in let e = k.ends p in (omega arith, omega arith))

  -- a number that is kept as the last one seen
  pub see_front : (x : ℕ) → Phased n ws (set vs 0 (Reporter (with_seen R x)))
  see_front x = reporter_phases ws (with_seen R x) (current R) refl refl refl refl k.closed refl k.parity k.now k.behind k.started k.ends

  pub take_front : (j : ℕ) → R.closing ≡ Harvest j → j < table_cells n.labels → StaysPhased n ws vs 0 (taking R j)
  take_front j harvest inside_table =
      let i : ℕ = cell_at R.labels R.interval j in let x : ℕ = get_or ws i 0 in
      let none : total (inside (other R)) vs ≡ 0 = subst (λ (q : ReporterStage). InsideBefore q (total (inside (other R)) vs) (get_or ws (end_at (other R)) 0) (initial (other R)) (total uses vs)) harvest k.behind in
      gather_front (R.cells ++ x ∷ []) (j + 1) (j + 1 == table_cells R.labels) (ap turned harvest) (ap pending harvest) none (set ws i (vacant (j % 6))) (length-set ws i (vacant (j % 6)))
      (get_or-set_other ws i 1 (vacant (j % 6)) 0 (λ h. omega arith)) (λ p. get_or-set_other ws i (end_at p) (vacant (j % 6)) 0 (λ h. let e = end_low p in omega arith))

-- the reporter's port is 0, and its view is the reader of the rule
module _ (n : Numbers) (ws : List ℕ) (vs : List View) (k : Phased n ws vs) (id : ℕ) (r : ReporterView) (at : get_elem? vs id ≡ some (Reporter r)) where
  pub at_front : id ≡ 0
  at_front = (k.each id (Reporter r) at).0

  pub is_reader : k.reader ≡ r
  is_reader = let e : some (Reporter k.reader) ≡ some (Reporter r) = sym k.prefix ∙ subst (λ (j : ℕ). get_elem? vs j ≡ some (Reporter r)) at_front at in cc

  as_front : (F : ReporterView → Move) → StaysPhased n ws vs 0 (F k.reader) → StaysPhased n ws vs id (F r)
  as_front F h = subst (λ (z : ℕ × ReporterView). StaysPhased n ws vs z.0 (F z.1)) (λ i. (sym at_front i, is_reader i)) h

  pub clear_phases : r.closing ≡ Swapped → StaysPhased n ws vs id (clearing r)
  clear_phases swapped = as_front clearing (clear_front n ws vs k (subst (λ (q : ReporterView). q.closing ≡ Swapped) (sym is_reader) swapped))

  pub flip_phases : r.closing ≡ Cleared → StaysPhased n ws vs id (flipping r)
  flip_phases cleared = as_front flipping (flip_front n ws vs k (subst (λ (q : ReporterView). q.closing ≡ Cleared) (sym is_reader) cleared))

  pub swap_phases : r.closing ≡ Idle → r.interval < 16777216 → StaysPhased n ws vs id (swapping r)
  swap_phases idle few = as_front swapping (swap_front n ws vs k (subst (λ (q : ReporterView). q.closing ≡ Idle) (sym is_reader) idle) (subst (λ (q : ReporterView). q.interval < 16777216) (sym is_reader) few))

  pub take_phases : (j : ℕ) → r.closing ≡ Harvest j → j < table_cells n.labels → StaysPhased n ws vs id (taking r j)
  take_phases j harvest low = as_front (λ q. taking q j) (take_front n ws vs k j (subst (λ (q : ReporterView). q.closing ≡ Harvest j) (sym is_reader) harvest) low)
