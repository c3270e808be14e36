-- How many writers the reporter has taken in, and how many it knows were made.
use Rattle.std.proofs.Common.{◌≡◌, ℕ, ◌<◌, ◌≤◌, ◌==◌, Bool, true, false, ltb, List, [], ◌∷◌, length, refl, ap, arith, eq-eqb}
use mathlib.Core.Logic.{dite}
use mathlib.Core.Option.{some}
use native.Mathlib.Decide.{ℕ_discrete}
use lib.ListN.{get_elem?}
use Rattle.jm_base.specs.SumTotals.{total, one_if}
use Rattle.phaser_core.specs.declared.view.Numbers.{Numbers}
use Rattle.phaser_core.specs.declared.view.Joined.{Joined}
use Rattle.phaser_core.specs.declared.view.ReporterView.{ReporterView}
use Rattle.phaser_core.specs.declared.view.View.{View}
use Rattle.phaser_core.specs.declared.view.View.TheVariants.{Reporter}
use Rattle.phaser_core.specs.Views.{holders, heads, made_known}
use Rattle.phaser_core.specs.Invariant.{AllKept, RecorderInvariant}
use Rattle.jm_base.proofs.Totals.{total_at}
use Rattle.phaser_words.specs.RecorderKinds.{CountsWriters}

low_test : (b : Bool) → one_if b ≤ 1
low_test true = omega arith
low_test false = omega arith

-- where writer 0 is not among them, none of them knows how many were made
none_known : (n : Numbers) (made : ℕ) (js : List Joined) → AllKept n made js → total (λ (j : Joined). one_if (j.number == 0)) js ≡ 0 → made_known js ≡ 0
none_known n made [] kept none = refl
none_known n made (j ∷ js) kept none =
    let rest = none_known n made js kept.4 (omega arith) in
    let here : j.made ≡ 0 = dite (ℕ_discrete j.made 0) (λ e. e) (λ ne. absurd (let one : one_if (j.number == 0) ≡ 1 = ap one_if (eq-eqb j.number 0 (kept.2 (omega arith)).0) in omega arith)) in omega arith

-- where it is, once, what they know is how many were made
all_known : (n : Numbers) (made : ℕ) (js : List Joined) → AllKept n made js → total (λ (j : Joined). one_if (j.number == 0)) js ≤ 1 → 0 < made_known js → made_known js ≡ made
all_known n made [] kept once known = absurd (omega arith)
all_known n made (j ∷ js) kept once known = dite (ℕ_discrete j.made 0)
    (λ e. let rest = all_known n made js kept.4 (omega arith) (omega arith) in omega arith)
    (λ ne. let f = kept.2 (omega arith) in let one : one_if (j.number == 0) ≡ 1 = ap one_if (eq-eqb j.number 0 f.0) in let is = f.1 in let none = none_known n made js kept.4 (omega arith) in omega arith)

pub writers_counted : (n : Numbers) (ws : List ℕ) (vs : List View) (k : RecorderInvariant n ws vs) (id : ℕ) (r : ReporterView) → get_elem? vs id ≡ some (Reporter r) → CountsWriters n r
writers_counted n ws vs k id r at =
    let a = k.accounts in let mine = a.each id (Reporter r) at in
    let people = a.people in let few = a.few in let sizes = a.sizes in
    let heads_low : length r.joined ≤ total heads vs = total_at heads vs id (Reporter r) at in
    let zero_low : holders 0 (Reporter r) ≤ total (holders 0) vs = total_at (holders 0) vs id (Reporter r) at in
    let zero = a.numbers 0 in let test = low_test (ltb 0 a.made) in
    let is : 0 < made_known r.joined → made_known r.joined ≡ a.made = all_known n a.made r.joined mine.1 (omega arith) in
    record {
      joined = omega arith;
      made = dite (ℕ_discrete (made_known r.joined) 0) (λ e. omega arith) (λ ne. let e = is (omega arith) in omega arith);
      order = λ known. let e = is known in omega arith;
    }
