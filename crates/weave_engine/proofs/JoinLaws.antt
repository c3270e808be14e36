-- The writers are joined, in their order.
use Rattle.std.proofs.Common.{◌≡◌, inl, inr, ℕ, suc, ◌+◌, ◌<◌, true, List, [], ◌∷◌, ◌++◌, length, map, set, take, refl, sym, ap, ◌∙◌, subst, arith}
use Rattle.std.specs.Prelude.{unwrap_or, IsTrue}
use Rattle.std.proofs.lemmas.List.{length-set, take_more, take_all, map-append}
use Rattle.std.proofs.lemmas.Option.{get_or_from_slice_get}
use lib.ListN.{get_elem?}
use mathlib.Core.Option.{some}
use Rattle.jm_base.specs.SumTotals.{total}
use Rattle.phaser_core.specs.declared.view.Numbers.{Numbers}
use Rattle.phaser_core.specs.declared.view.ReporterStage.{ReporterStage}
use Rattle.phaser_core.specs.declared.view.ReporterStage.TheVariants.{Idle, Swapped, Cleared, Waiting, Harvest}
use Rattle.phaser_core.specs.declared.view.Event.TheVariants.{Join}
use Rattle.phaser_core.specs.declared.view.Joined.{Joined}
use Rattle.phaser_core.specs.declared.view.ReporterView.{ReporterView}
use Rattle.phaser_core.specs.declared.view.WriterView.{WriterView}
use Rattle.phaser_core.specs.declared.view.View.{View}
use Rattle.phaser_core.specs.declared.view.View.TheVariants.{Reporter, Writer, Gone}
use Rattle.phaser_core.specs.Invariant.{RecorderInvariant}
use Rattle.phaser_core.specs.CoreMoves.{taking_in}
use Rattle.phaser_core.specs.Plain.{is_idle as idle_parts}
use Rattle.phaser_core.specs.CoreShape.{Shape, Shows, IsDone, all_gone, kept_of, joined_lists}
use Rattle.phaser_core.specs.Step.{CoreState, next_state, join_at, join_stage}
use Rattle.phaser_core.specs.Views.{heads, left_of}
use Rattle.phaser_core.proofs.Lists.{set_here, set_else}
use Rattle.weave_engine.specs.declared.seat.Seat.{Seat}
use Rattle.weave_engine.specs.Turns.{Weave, is_idle, closing_in}
use Rattle.weave_engine.specs.Seats.{Runs, StageOf, all_seats_settled, lists_of, JoinsTo, IsJoined}
use Rattle.thread_machine.specs.Paired.{pairs}
use Rattle.weave_engine.proofs.ReporterLaws.{closing_is, settled_owes, some_seat, reporter_there}
use Rattle.weave_engine.proofs.StartLaws.{below_or}

idle_is : (c : ReporterStage) → is_idle c ≡ true → c ≡ Idle
idle_is Idle h = refl
idle_is Swapped h = absurd (cc)
idle_is Cleared h = absurd (cc)
idle_is (Waiting want) h = absurd (cc)
idle_is (Harvest j) h = absurd (cc)

no_items : {A : Type 0} (xs : List A) → length xs ≡ 0 → xs ≡ []
no_items [] h = refl
no_items (x ∷ xs) h = absurd (omega (arith, h))

some_same : {a b : View} → some a ≡ some b → a ≡ b
some_same h = cc

heads_by : (vs : List View) → ((k : ℕ) → k < length vs → (w : WriterView) × (get_elem? vs k ≡ some (Writer w))) → total heads vs ≡ length vs
heads_by [] h = refl
heads_by (v ∷ vs) h =
    let w = h 0 (omega arith) in
    let one : heads v ≡ 1 = ap heads (some_same w.1) in
    let more = heads_by vs (λ k less. h (suc k) (omega (arith, less))) in
    omega (arith, one, more)

-- before the first join nothing is joined
none_joined : (n : Numbers) (ws : List ℕ) (vs : List View) (count : ℕ) (r : ReporterView) → RecorderInvariant n ws vs → get_elem? vs 0 ≡ some (Reporter r) → length vs ≡ count + 1
    → ((k : ℕ) → k < count → (w : WriterView) × (get_elem? vs (k + 1) ≡ some (Writer w))) → r.joined ≡ []
none_joined n ws [] count r k there ports each = absurd (omega (arith, ports))
none_joined n ws (v ∷ vs) count r k there ports each =
    let first : heads v ≡ length r.joined = ap heads (some_same there) in
    let others : total heads vs ≡ length vs =
    heads_by vs (λ i less. (let w = each i (omega (arith, less, ports)) in (w.0, subst (λ j. get_elem? (v ∷ vs) j ≡ some (Writer w.0)) (let e : i + 1 ≡ suc i = omega arith in e) w.1))) in
    let people = k.accounts.people in
    let made = k.accounts.ports in
    no_items r.joined (omega (arith, first, others, people, made))

pub joins_none : (n : Numbers) (seats : List Seat) (core : Shape) (s : Weave) → Runs n seats core s → all_seats_settled seats ≡ true → is_idle core.reporter.closing ≡ true → JoinsTo 0 seats s.core.1
joins_none n seats core s runs quiet idle =
    let r = reporter_there core s.core.1 runs.core_is.shows in
    let closing : r.0.closing ≡ core.reporter.closing = ap closing_in (sym r.1) ∙ closing_is n seats core s runs in
    let none : r.0.joined ≡ [] =
    none_joined n s.core.0 s.core.1 (length seats) r.0 runs.core_is.invariant r.1 runs.writers.ports
    (λ k less. (let x = some_seat seats k less in let w = (runs.writers.each k x.0 x.1).1 in (w.writer, w.there))) in
    record {
      ports = runs.writers.ports;
      reader = r.0;
      reporter = r.1;
      idle = closing ∙ idle_is core.reporter.closing idle;
      joined = ap (map (λ (j : Joined). j.list)) none;
      gone = λ j less. absurd (omega (arith, less));
      out = λ j x low there.
          let w = (runs.writers.each j x there).1 in
          (w.writer, w.there, subst (λ o. StageOf o w.writer.stage) (settled_owes seats j x quiet there) w.stage, w.list_is);
    }

-- One more

lists_push : (xs : List Seat) (x : Seat) → lists_of (xs ++ x ∷ []) ≡ lists_of xs ++ pairs x.worker.trace ∷ []
lists_push [] x = refl
lists_push (y ∷ ys) x = ap (λ l. pairs y.worker.trace ∷ l) (lists_push ys x)

pub joins_more : (n : Numbers) (k : ℕ) (seats : List Seat) (state : CoreState) → k < length seats → JoinsTo k seats state.1 → JoinsTo (k + 1) seats (next_state n state (Join k)).1
joins_more n k seats state within h =
    let ws = state.0 in
    let vs = state.1 in
    let x = some_seat seats k within in
    let o = h.out k x.0 (omega arith) x.1 in
    let w = o.0 in
    let r = h.reader in
    let ports = h.ports in
    let first = Reporter (taking_in r w) in
    let one = set vs 0 first in
    let after = set one (k + 1) Gone in
    let is : (next_state n state (Join k)).1 ≡ after =
    ap (λ v. (unwrap_or {T = CoreState} (join_at ws vs (k + 1) v (get_elem? vs (k + 1))) state).1) h.reporter
    ∙ ap (λ v. (unwrap_or {T = CoreState} (join_at ws vs (k + 1) (some (Reporter r)) v) state).1) o.1
    ∙ ap (λ c. (unwrap_or {T = CoreState} (join_stage ws vs (k + 1) r c w w.stage) state).1) h.idle
    ∙ ap (λ c. (unwrap_or {T = CoreState} (join_stage ws vs (k + 1) r Idle w c) state).1) o.2 in
    let once : length one ≡ length vs = length-set vs 0 first in
    let twice : length after ≡ length one = length-set one (k + 1) Gone in
    subst (JoinsTo (k + 1) seats) (sym is) (record {
      ports = twice ∙ once ∙ ports;
      reader = taking_in r w;
      reporter = set_else one (k + 1) 0 Gone (λ e. omega (arith, e)) ∙ set_here vs 0 first (omega (arith, ports));
      idle = h.idle;
      joined = map-append (λ (j : Joined). j.list) r.joined (left_of w ∷ []) ∙ ap (λ l. l ++ w.list ∷ []) h.joined ∙ ap (λ l. lists_of (take k seats) ++ l ∷ []) o.3
          ∙ sym (ap lists_of (take_more seats k x.0 within ∙ ap (λ (y : Seat). take k seats ++ y ∷ []) (get_or_from_slice_get seats k x.0 x.0 x.1)) ∙ lists_push (take k seats) x.0);
      gone = λ j less. elim (below_or j k (omega (arith, less))) [
        | inl e ↦ subst (λ i. get_elem? after (i + 1) ≡ some Gone) (sym e) (set_here one (k + 1) Gone (omega (arith, once, ports, within)))
        | inr below ↦ set_else one (k + 1) (j + 1) Gone (λ e. omega (arith, e, below)) ∙ set_else vs 0 (j + 1) first (λ e. omega (arith, e)) ∙ h.gone j below
      ];
      out = λ j y low there.
          let p = h.out j y (omega (arith, low)) there in
          (p.0, set_else one (k + 1) (j + 1) Gone (λ e. omega (arith, e, low)) ∙ set_else vs 0 (j + 1) first (λ e. omega (arith, e)) ∙ p.1, p.2, p.3);
    })

-- All

gone_all : (vs : List View) → ((k : ℕ) → k < length vs → get_elem? vs k ≡ some Gone) → all_gone (map kept_of vs) ≡ true
gone_all [] h = refl
gone_all (v ∷ vs) h = ap (λ (u : View). all_gone (kept_of u ∷ map kept_of vs)) (some_same (h 0 (omega arith))) ∙ gone_all vs (λ k less. h (suc k) (omega (arith, less)))

done_by : (core : Shape) (seats : List Seat) (vs : List View) → Shows core vs → JoinsTo (length seats) seats vs → IsDone core
done_by core seats [] shows h = absurd shows
done_by core seats (Writer w ∷ others) shows h = absurd shows
done_by core seats (Gone ∷ others) shows h = absurd shows
done_by core seats (Reporter r ∷ others) shows h =
    let ports = h.ports in
    let idle : core.reporter.closing ≡ Idle = ap (λ p. p.closing) (sym shows.reporter) ∙ ap closing_in h.reporter ∙ h.idle in
    let gone : all_gone core.writers ≡ true = ap all_gone (sym shows.writers)
    ∙ gone_all others (λ k less. subst (λ j. get_elem? (Reporter r ∷ others) j ≡ some Gone) (let e : k + 1 ≡ suc k = omega arith in e) (h.gone k (omega (arith, less, ports)))) in
    (subst (λ c. IsTrue (idle_parts c)) (sym idle) refl, subst (λ b. IsTrue b) (sym gone) refl)

pub joined_done : (n : Numbers) (seats : List Seat) (core : Shape) (state : CoreState) → IsJoined n seats core state → IsDone core
joined_done n seats core state j = done_by core seats state.1 j.core_is.shows j.joins

lists_by : (core : Shape) (seats : List Seat) (vs : List View) → Shows core vs → JoinsTo (length seats) seats vs → joined_lists vs ≡ lists_of seats
lists_by core seats [] shows h = absurd shows
lists_by core seats (Writer w ∷ others) shows h = absurd shows
lists_by core seats (Gone ∷ others) shows h = absurd shows
lists_by core seats (Reporter r ∷ others) shows h =
    ap (λ (q : ReporterView). map (λ (j : Joined). j.list) q.joined) (reader_same (some_same h.reporter)) ∙ h.joined ∙ ap lists_of (take_all (length seats) seats (omega arith)) where
      reader_same : {a b : ReporterView} → Reporter a ≡ Reporter b → a ≡ b
      reader_same h = cc

-- the lists of the joined writers are those of the traces
pub joined_as : (n : Numbers) (seats : List Seat) (core : Shape) (state : CoreState) → IsJoined n seats core state → joined_lists state.1 ≡ lists_of seats
joined_as n seats core state j = lists_by core seats state.1 j.core_is.shows j.joins
