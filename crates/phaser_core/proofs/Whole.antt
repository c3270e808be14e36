-- The recorder invariant, item by item, and the form in which steps are proved to keep it, say the same.
use Rattle.std.proofs.Common.{◌≡◌, ℕ, ◌+◌, ◌<◌, ◌≤◌, List, [], ◌∷◌, get_or, sym, refl, ap, ◌∙◌, ◌⊎◌, inl, inr, ⊎_elim, arith}
use mathlib.Core.Logic.{dite}
use mathlib.Core.Option.{some}
use native.Mathlib.Decide.{ℕ_discrete}
use lib.ListN.{get_elem?}
use Rattle.phaser_core.specs.declared.view.Numbers.{Numbers}
use Rattle.phaser_core.specs.declared.view.Stage.{Stage}
use Rattle.phaser_core.specs.declared.view.Stage.TheVariants.{Out, In, On}
use Rattle.phaser_core.specs.declared.view.Joined.{Joined}
use Rattle.phaser_core.specs.declared.view.ReporterStage.{ReporterStage}
use Rattle.phaser_core.specs.declared.view.ReporterStage.TheVariants.{Idle, Swapped, Cleared, Waiting, Harvest}
use Rattle.phaser_core.specs.declared.view.ReporterView.{ReporterView}
use Rattle.phaser_core.specs.declared.view.View.{View}
use Rattle.phaser_core.specs.declared.view.View.TheVariants.{Reporter, Writer, Gone}
use Rattle.phaser_core.specs.Cells.{cell_at}
use Rattle.phaser_core.specs.Views.{Pair, pending, active}
use Rattle.phaser_core.specs.Invariant.{StageCounts, ViewCounts, LiveFrom, StageRises, AllRise, ViewRises, AllLow, StageLow, ViewLow, RecorderInvariant}
use Rattle.phaser_core.proofs.Halves.{TimelyStage, AllTimely, Timely, Phased, Sound}
use Rattle.phaser_core.proofs.CellSteps.{later_none}
use Rattle.phaser_core.proofs.Sharing.{worth_share}

-- A view in time

stage_timely : (n : Numbers) (r : ReporterView) (l : List Pair) (s : Stage) → StageCounts r s → StageRises l s → StageLow n.labels s → TimelyStage n r l s
stage_timely n r l Out a b c = tt
stage_timely n r l (In p) a b c = tt
stage_timely n r l (On p m e d) a b c = (a, b, c.0, c.1, c.2, c.3)

joined_timely : (a : ℕ) (js : List Joined) → AllRise a js → AllLow js → AllTimely a js
joined_timely a [] h k = tt
joined_timely a (j ∷ js) h k = ((h.0.0, h.0.1, k.0), joined_timely a js h.1 k.1)

view_timely : (n : Numbers) (r : ReporterView) (v : View) → ViewCounts r v → ViewRises r v → ViewLow n.labels v → Timely n r v
view_timely n r (Reporter q) a b c = joined_timely (active r) q.joined b c
view_timely n r (Writer w) a b c = (stage_timely n r w.list w.stage a b.0 c.0, b.1, b.2, c.1)
view_timely n r Gone a b c = tt

stage_counts : (n : Numbers) (r : ReporterView) (l : List Pair) (s : Stage) → TimelyStage n r l s → StageCounts r s × StageRises l s × StageLow n.labels s
stage_counts n r l Out h = (tt, tt, tt)
stage_counts n r l (In p) h = (tt, tt, tt)
stage_counts n r l (On p m e d) h = (h.0, h.1, (h.2, h.3, h.4, h.5))

joined_rise : (a : ℕ) (js : List Joined) → AllTimely a js → AllRise a js × AllLow js
joined_rise a [] h = (tt, tt)
joined_rise a (j ∷ js) h = let r = joined_rise a js h.1 in (((h.0.0, h.0.1), r.0), (h.0.2, r.1))

view_counts : (n : Numbers) (r : ReporterView) (v : View) → Timely n r v → ViewCounts r v × ViewRises r v × ViewLow n.labels v
view_counts n r (Reporter q) h = let j = joined_rise (active r) q.joined h in (tt, j.0, j.1)
view_counts n r (Writer w) h = let s = stage_counts n r w.list w.stage h.0 in (s.0, (s.1, h.1, h.2), (s.2, h.3))
view_counts n r Gone h = (tt, tt, tt)

-- The live intervals

live_low : (c : ReporterStage) (k i : ℕ) → LiveFrom c k i → (k ≤ i) × (i ≤ k + 1)
live_low Idle k i h = (omega arith, omega arith)
live_low Swapped k i h = h
live_low Cleared k i h = h
live_low (Waiting want) k i h = h
live_low (Harvest j) k i h = h

-- in Idle the next interval is not live yet
pub live_from : (c : ReporterStage) (k i : ℕ) → (k ≤ i) × (i ≤ k + 1) → LiveFrom c k i ⊎ ((c ≡ Idle) × (i ≡ k + 1))
live_from Idle k i h = let a = h.0 in let b = h.1 in dite (ℕ_discrete i k) (λ e. inl e) (λ ne. inr (refl, omega arith))
live_from Swapped k i h = inl h
live_from Cleared k i h = inl h
live_from (Waiting want) k i h = inl h
live_from (Harvest j) k i h = inl h

pub next_above : (k i p : ℕ) → p ≡ 0 → i ≡ k + 1 → k + p < i
next_above k i p z e = omega arith

module _ (n : Numbers) (ws : List ℕ) (vs : List View) where
  pub whole : Sound n ws vs → RecorderInvariant n ws vs
  whole k =
      let p = k.phased in let c = k.counted in let r : ReporterView = p.reader in
      record {
        reader = r;
        reporter = p.prefix;
        active_word = c.now_active;
        start_parity = p.parity;
        inside_now = p.now;
        inside_before = p.behind;
        stage_intervals = λ id v e. (view_counts n r v (c.timely id v e)).0;
        cells = record {
          live = λ i j live low later. c.cells i j (live_low r.closing r.interval i live) low later;
          vacant_table = λ idle j low. let none : pending r.closing ≡ 0 = ap pending idle in
              c.cells (r.interval + 1) j (omega arith, omega arith) low (λ e. absurd (omega arith)) ∙ later_none n vs r c.timely (r.interval + 1) j (omega arith);
          count = c.taken;
          in_table = c.within;
          emptied = λ j low. (c.emptied j low).0;
          taken = λ j low. (c.emptied j low).1;
        };
        closed_reports = record { count = c.reports; each = λ m old. c.sums_are m old ∙ worth_share n ws vs p c.timely m old };
        intervals_rise = λ id v e. (view_counts n r v (c.timely id v e)).1;
        stop_word = k.stopped;
        accounts = record {
          wide = p.wide;
          sizes = p.sizes;
          labels = p.labels;
          made = p.made;
          ports = p.ports;
          few = p.few;
          room = p.closed;
          started = p.started;
          ends = p.ends;
          people = p.people;
          numbers = p.numbers;
          each = p.each;
          low = λ id v e. (view_counts n r v (c.timely id v e)).2;
        };
      }

  pub timely : (k : RecorderInvariant n ws vs) (id : ℕ) (v : View) → get_elem? vs id ≡ some v → Timely n k.reader v
  timely k id v e = view_timely n k.reader v (k.stage_intervals id v e) (k.intervals_rise id v e) (k.accounts.low id v e)

  abbrev phased_of : RecorderInvariant n ws vs → Phased n ws vs
  phased_of k =
      let r : ReporterView = k.reader in let a = k.accounts in
      record {
        wide = a.wide;
        sizes = a.sizes;
        reader = r;
        labels = a.labels;
        prefix = k.reporter;
        made = a.made;
        ports = a.ports;
        few = a.few;
        closed = a.room;
        parity = k.start_parity;
        now = k.inside_now;
        behind = k.inside_before;
        started = a.started;
        ends = a.ends;
        people = a.people;
        numbers = a.numbers;
        each = a.each;
      }

  abbrev pub halves : RecorderInvariant n ws vs → Sound n ws vs
  halves k =
      let r : ReporterView = k.reader in let a = k.accounts in
      record {
        phased = phased_of k;
        counted = record {
          now_active = k.active_word;
          timely = timely k;
          taken = k.cells.count;
          within = k.cells.in_table;
          cells = λ i j live low later. ⊎_elim
              (λ (h : LiveFrom r.closing r.interval i). k.cells.live i j h low later)
              (λ (h : (r.closing ≡ Idle) × (i ≡ r.interval + 1)). let none : pending r.closing ≡ 0 = ap pending h.0 in let next = h.1 in
              ap (λ (z : ℕ). get_or ws (cell_at n.labels z j) 0) h.1 ∙ k.cells.vacant_table h.0 j low ∙ sym (later_none n vs r (timely k) i j (next_above r.interval i (pending r.closing) none h.1)))
              (live_from r.closing r.interval i live);
          emptied = λ j low. (k.cells.emptied j low, k.cells.taken j low);
          reports = k.closed_reports.count;
          sums_are = λ m old. k.closed_reports.each m old ∙ sym (worth_share n ws vs (phased_of k) (timely k) m old);
        };
        stopped = k.stop_word;
      }
