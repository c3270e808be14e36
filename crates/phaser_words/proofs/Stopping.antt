-- Who raised stop, once every writer was joined.
use Rattle.std.proofs.Common.{◌≡◌, ◌≢◌, ℕ, suc, ◌≤◌, List, [], ◌∷◌, get_or, sym, refl, ap, ◌∙◌, arith}
use mathlib.Core.Logic.{dite}
use mathlib.Core.Option.{some, some-injective, some-ne-none}
use native.Mathlib.Decide.{ℕ_discrete}
use lib.ListN.{get_elem?}
use Rattle.jm_base.specs.SumTotals.{total}
use Rattle.jm_base.proofs.Totals.{total_at}
use Rattle.phaser_core.specs.declared.view.Numbers.{Numbers}
use Rattle.phaser_core.specs.declared.view.ReporterView.{ReporterView}
use Rattle.phaser_core.specs.declared.view.View.{View}
use Rattle.phaser_core.specs.declared.view.View.TheVariants.{Reporter, Gone}
use Rattle.phaser_core.specs.Views.{AllJoined}
use Rattle.phaser_core.specs.Invariant.{RecorderInvariant, raised_in, saw_in}
use Rattle.phaser_core.proofs.Steps.{others_gone}
use Rattle.phaser_words.specs.RecorderKinds.{StopWasRaised}

none_of : (f : View → ℕ) (vs : List View) → f Gone ≡ 0 → ((port : ℕ) (u : View) → get_elem? vs port ≡ some u → u ≡ Gone) → total f vs ≡ 0
none_of f [] z gone = refl
none_of f (v ∷ vs) z gone =
    let here : f v ≡ 0 = ap f (gone 0 v refl) ∙ z in
    let rest : total f vs ≡ 0 = none_of f vs z (λ port u at. gone (suc port) u at) in omega (arith, here, rest)

-- a sum over all views is that of the first where every other one is gone
alone : (f : View → ℕ) (vs : List View) (v : View) → get_elem? vs 0 ≡ some v → f Gone ≡ 0 → ((port : ℕ) (u : View) → port ≢ 0 → get_elem? vs port ≡ some u → u ≡ Gone) → total f vs ≡ f v
alone f [] v at z gone = absurd (some-ne-none v (sym at))
alone f (x ∷ vs) v at z gone =
    let here : f x ≡ f v = ap f (some-injective x v at) in
    let rest : total f vs ≡ 0 = none_of f vs z (λ port u e. gone (suc port) u (λ h. omega (arith, h)) e) in omega (arith, here, rest)

-- where every writer was joined and one of them saw stop raised, the reporter or one of them raised it
pub stop_was_raised : (n : Numbers) (ws : List ℕ) (vs : List View) (k : RecorderInvariant n ws vs) (r : ReporterView) → get_elem? vs 0 ≡ some (Reporter r) → AllJoined r → StopWasRaised r
stop_was_raised n ws vs k r at all saw =
    let most : saw_in (Reporter r) ≤ total saw_in vs = total_at saw_in vs 0 (Reporter r) at in
    let seen : get_or ws 4 0 ≡ 1 = k.stop_word.seen (omega (arith, most, saw)) in
    let mine : total raised_in vs ≡ raised_in (Reporter r) = alone raised_in vs (Reporter r) at refl (others_gone n ws vs k 0 r at all) in
    dite (ℕ_discrete (raised_in (Reporter r)) 0)
    (λ none. let quiet : get_or ws 4 0 ≡ 0 = k.stop_word.quiet (mine ∙ none) in absurd (omega (arith, seen, quiet)))
    (λ some. omega (arith, some))
