-- Lists that keep to a recorder's numbers.
use Rattle.std.specs.Prelude.{ℕ, ◌≤◌, List, [], ◌∷◌, ◌++◌, length, map}
use Rattle.jm_base.specs.declared.types.Entry.{Entry}
use Rattle.phaser_core.specs.Views.{Pair}
use Rattle.phaser_core.specs.Shares.{AllInRange}
use Rattle.phaser_core.specs.Invariant.{AllSmall}

-- the entries keep to the budget, to the labels, and to numbers of 32 bits
pub record KeepsTo (labels budget : ℕ) (list : List Pair) : Type 0 where
  pub few : length list ≤ budget
  pub in_range : AllInRange labels list
  pub small : AllSmall list

-- each list does
abbrev pub AllKeep : ℕ → ℕ → List (List Pair) → Type 0
AllKeep labels budget [] = Unit {0}
AllKeep labels budget (list ∷ lists) = KeepsTo labels budget list × AllKeep labels budget lists

-- all entries of the lists, in their order
abbrev pub all_entries : List (List Pair) → List Entry
all_entries [] = []
all_entries (list ∷ lists) = map (λ (x : Pair). x.1) list ++ all_entries lists
