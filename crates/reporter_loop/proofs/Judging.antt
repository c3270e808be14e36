-- One more report.
use Rattle.std.proofs.Common.{◌≡◌, ◌∙◌, ℕ, ◌+◌, ◌-◌, ◌^◌, ◌<◌, ◌≤◌, Bool, true, false, nat_lt, List, [], ◌∷◌, ◌++◌, length, refl, ap, sym, subst, arith, length-append, Option}
use Rattle.std.proofs.lemmas.Bool.Decides.{nat_tests}
use Rattle.std.specs.Io.KnownBytes.{Appends}
use Rattle.std.proofs.KnownBytes.{Appends-nil}
use Rattle.interval_tables.specs.declared.report.Report.{Report}
use Rattle.interval_tables.specs.Rows.{IsInBounds}
use Rattle.phaser_core.specs.declared.view.ReporterView.{ReporterView}
use Rattle.phaser_core.specs.CoreMoves.{or}
use Rattle.recorder_core.specs.Stands.{closed_as}
use Rattle.interval_reporter.specs.Judged.{errors_of}
use Rattle.reporter_loop.specs.Reported.{raised_if, judged, any_over, AllInBounds, Reported, EndsUnjudged}
use Rattle.reporter_loop.specs.ReportsWritten.{texts_of, AreNumbered, AppendsPrefix, WritesPrefix}
use Rattle.reporter_loop.proofs.Numbers.{numbers_more}
use Rattle.reporter_loop.proofs.Texts.{written_more, prefix_more}

or_assoc : (a b c : Bool) → or (or a b) c ≡ or a (or b c)
or_assoc true b c = refl
or_assoc false b c = refl

or_false : (a : Bool) → or a false ≡ a
or_false true = refl
or_false false = refl

or_comm : (a b : Bool) → or a b ≡ or b a
or_comm true true = refl
or_comm true false = refl
or_comm false true = refl
or_comm false false = refl

any_snoc : (limit : ℕ) (xs : List Report) (x : Report) → any_over limit (xs ++ x ∷ []) ≡ or (any_over limit xs) (nat_lt limit (errors_of x))
any_snoc limit [] x = or_false (nat_lt limit (errors_of x))
any_snoc limit (y ∷ xs) x = ap (or (nat_lt limit (errors_of y))) (any_snoc limit xs x) ∙ sym (or_assoc (nat_lt limit (errors_of y)) (any_over limit xs) (nat_lt limit (errors_of x)))

bounds_snoc : (xs : List Report) (x : Report) → AllInBounds xs → IsInBounds x.rows → AllInBounds (xs ++ x ∷ [])
bounds_snoc [] x h low = (low, tt)
bounds_snoc (y ∷ xs) x h low = (h.0, bounds_snoc xs x h.1 low)

-- no report in bounds has more errors than 2^64 - 1
not_over : (b : Bool) (limit errors : ℕ) → b ≡ nat_lt limit errors → errors ≤ 4194304 → limit ≡ 2 ^ 64 - 1 → b ≡ false
not_over b limit errors is few most = grind (arith, nat_tests)

pub quiet : (limit : ℕ) (xs : List Report) → limit ≡ 2 ^ 64 - 1 → AllInBounds xs → any_over limit xs ≡ false
quiet limit [] most all = refl
quiet limit (x ∷ xs) most all = ap (λ b. or b (any_over limit xs)) (not_over (nat_lt limit (errors_of x)) limit (errors_of x) refl all.0.errors most) ∙ quiet limit xs most all.1

module _ (text : Report → List ℕ) (limit : ℕ) (r : ReporterView) (x : Report) (old new after : Option (List ℕ)) (h : Reported text limit r old new) (number : x.interval ≡ r.interval) where
  count_more : length (r.closed ++ x ∷ []) ≡ r.interval + 1
  count_more = let l : length (r.closed ++ x ∷ []) ≡ length r.closed + 1 = length-append r.closed (x ∷ []) in let c : length r.closed ≡ r.interval = h.count in omega arith

  number_is : x.interval ≡ length r.closed
  number_is = number ∙ sym h.count

  -- a report of which a prefix was written
  pub cut_after : AppendsPrefix new after (text x) → WritesPrefix text old after
  cut_after more = prefix_more text r.closed x old new after h.written h.numbered number_is more

  module _ (few : r.interval < 16777216) (bounds : IsInBounds x.rows) (w : Appends new after (text x)) where
    more_if : (b : Bool) → nat_lt limit (errors_of x) ≡ b → Reported text limit (raised_if b (closed_as r x)) old after
    more_if true is = record {
      written = written_more text r.closed x old new after h.written w;
      numbered = numbers_more (λ (q : Report). q.interval) r.closed x h.numbered number_is;
      bounds = bounds_snoc r.closed x h.bounds bounds;
      count = count_more;
      few = omega arith;
      raised = sym (any_snoc limit r.closed x ∙ or_comm (any_over limit r.closed) (nat_lt limit (errors_of x)) ∙ ap (λ b. or b (any_over limit r.closed)) is);
    }
    more_if false is = record {
      written = written_more text r.closed x old new after h.written w;
      numbered = numbers_more (λ (q : Report). q.interval) r.closed x h.numbered number_is;
      bounds = bounds_snoc r.closed x h.bounds bounds;
      count = count_more;
      few = omega arith;
      raised = h.raised ∙ sym (any_snoc limit r.closed x ∙ or_comm (any_over limit r.closed) (nat_lt limit (errors_of x)) ∙ ap (λ b. or b (any_over limit r.closed)) is);
    }

    pub reported_more : (s : ReporterView) → s ≡ judged limit r x → Reported text limit s old after
    reported_more s is = subst (λ (q : ReporterView). Reported text limit q old after) (sym is) (more_if (nat_lt limit (errors_of x)) refl)

interval_if : (b : Bool) (r : ReporterView) (x : Report) → (raised_if b (closed_as r x)).interval ≡ r.interval + 1
interval_if true r x = refl
interval_if false r x = refl

pub interval_more : (limit : ℕ) (r s : ReporterView) (x : Report) → s ≡ judged limit r x → s.interval ≡ r.interval + 1
interval_more limit r s x is = ap (λ (q : ReporterView). q.interval) is ∙ interval_if (nat_lt limit (errors_of x)) r x

pub reported_none : (text : Report → List ℕ) (limit : ℕ) (r : ReporterView) (old : Option (List ℕ)) → r.closed ≡ [] → r.interval ≡ 0 → r.raised ≡ false → Reported text limit r old old
reported_none text limit r old none first unraised = record {
  written = subst (λ (l : List Report). Appends old old (texts_of text l)) (sym none) (Appends-nil old);
  numbered = subst AreNumbered (sym none) refl;
  bounds = subst AllInBounds (sym none) tt;
  count = ap length none ∙ sym first;
  few = omega arith;
  raised = unraised ∙ sym (ap (any_over limit) none);
}

-- what a test of the errors gives
pub over_is : (limit errors : ℕ) → limit < errors → nat_lt limit errors ≡ true
over_is limit errors low = grind (arith, nat_tests)

pub not_over_is : (limit errors : ℕ) → (limit < errors → ⊥) → nat_lt limit errors ≡ false
not_over_is limit errors low = grind (arith, nat_tests)

-- the same reports, interval and mark
pub reported_same : (text : Report → List ℕ) (limit : ℕ) (r s : ReporterView) (old new : Option (List ℕ)) → s.interval ≡ r.interval → s.closed ≡ r.closed → s.raised ≡ r.raised → Reported text limit r old new → Reported text limit s old new
reported_same text limit r s old new interval closed raised h = record {
  written = subst (λ (rs : List Report). Appends old new (texts_of text rs)) (sym closed) h.written;
  numbered = subst AreNumbered (sym closed) h.numbered;
  bounds = subst AllInBounds (sym closed) h.bounds;
  count = ap length closed ∙ h.count ∙ sym interval;
  few = (let few = h.few in omega (arith, interval));
  raised = raised ∙ h.raised ∙ sym (ap (any_over limit) closed);
}

-- one report more, of which the hook was not asked
pub unjudged_after : (text : Report → List ℕ) (limit : ℕ) (r s : ReporterView) (x : Report) (old new : Option (List ℕ)) → Reported text limit r old new → s ≡ closed_as r x → EndsUnjudged limit s
unjudged_after text limit r s x old new h is = record { before = r.closed; last = x; closed_are = ap (λ (q : ReporterView). q.closed) is; raised = ap (λ (q : ReporterView). q.raised) is ∙ h.raised }
