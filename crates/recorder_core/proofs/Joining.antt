-- How many writers are joined, and are known to be made, after one more.
use Rattle.std.proofs.Common.{◌≡◌, ℕ, ◌+◌, ◌<◌, ◌≤◌, List, [], ◌∷◌, ◌++◌, length, ap, ◌∙◌, arith, length-append}
use Rattle.phaser_core.specs.declared.view.Numbers.{Numbers}
use Rattle.phaser_core.specs.declared.view.Joined.{Joined}
use Rattle.phaser_core.specs.declared.view.ReporterView.{ReporterView}
use Rattle.phaser_core.specs.Views.{made_known}
use Rattle.jm_base.proofs.Totals.{total_snoc}
use Rattle.phaser_words.specs.RecorderKinds.{CountsWriters}

pub record OneMore (r : ReporterView) (j m : ℕ) : Type 0 where
  pub joined : length r.joined ≡ j
  pub made : made_known r.joined ≡ m
  pub low : m < 65536
  pub order : 0 < m → j ≤ m

pub one_more : (n : Numbers) (r : ReporterView) (js : List Joined) (x : Joined) (j m : ℕ) → r.joined ≡ js ++ x ∷ [] → length js ≡ j → made_known js ≡ m → CountsWriters n r → n.writers ≤ 64 → OneMore r (j + 1) (m + x.made)
one_more n r js x j m is joined made counts few =
    let long : length r.joined ≡ length js + 1 = ap (λ (l : List Joined). length l) is ∙ length-append js (x ∷ []) in
    let sum : made_known r.joined ≡ made_known js + x.made = ap made_known is ∙ total_snoc (λ (y : Joined). y.made) js x in
    let most = counts.made in
    record { joined = omega arith; made = omega arith; low = omega arith; order = λ some. (let o = counts.order (omega arith) in omega arith) }
