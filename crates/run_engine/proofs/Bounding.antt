-- Sums of entries that keep to a recorder's numbers are in bounds.
use Rattle.std.proofs.Common.{◌≡◌, ℕ, suc, ◌+◌, ◌*◌, ◌<◌, ◌≤◌, ◌==◌, Bool, true, false, cond, List, [], ◌∷◌, ◌++◌, length, map, filter, arith, length-append}
use Rattle.jm_base.specs.declared.types.Entry.{Entry}
use Rattle.interval_tables.specs.Rows.{sum_of, AllLabels, IsInBounds}
use Rattle.interval_tables.proofs.Bounds.{AllSmall as AllSmallEntries, sum_in_bounds}
use Rattle.phaser_core.specs.Views.{Pair}
use Rattle.phaser_core.specs.Shares.{entries_of, entries_in, AllInRange}
use Rattle.phaser_core.specs.Invariant.{AllSmall}
use Rattle.phaser_core.specs.Keeps.{AllKeep, all_entries}

-- these entries can be counted: their labels are in range, their numbers have 32 bits, and there are at most this many
pub record CanCount (labels most : ℕ) (es : List Entry) : Type 0 where
  pub labelled : AllLabels labels es
  pub small : AllSmallEntries es
  pub few : length es ≤ most

pub no_entries : (labels : ℕ) → CanCount labels 0 []
no_entries labels = record { labelled = tt; small = tt; few = omega arith }

pub counts_in_bounds : (labels most : ℕ) (es : List Entry) → CanCount labels most es → most ≤ 4194304 → IsInBounds (sum_of labels es)
counts_in_bounds labels most es c low = let few = c.few in sum_in_bounds labels es c.labelled c.small (omega arith)

labels_append : (labels : ℕ) (l m : List Entry) → AllLabels labels l → AllLabels labels m → AllLabels labels (l ++ m)
labels_append labels [] m a b = b
labels_append labels (x ∷ xs) m a b = (a.0, labels_append labels xs m a.1 b)

small_append : (l m : List Entry) → AllSmallEntries l → AllSmallEntries m → AllSmallEntries (l ++ m)
small_append [] m a b = b
small_append (x ∷ xs) m a b = (a.0, a.1, small_append xs m a.2 b)

pub counts_append : (labels a b : ℕ) (l m : List Entry) → CanCount labels a l → CanCount labels b m → CanCount labels (a + b) (l ++ m)
counts_append labels a b l m c d =
    let few_l = c.few in let few_m = d.few in
    let long : length (l ++ m) ≡ length l + length m = length-append l m in
    record { labelled = labels_append labels l m c.labelled d.labelled; small = small_append l m c.small d.small; few = omega arith }

-- the entries of a list

pub counts_list : (labels : ℕ) (l : List Pair) → AllInRange labels l → AllSmall l → CanCount labels (length l) (map (λ (x : Pair). x.1) l)
counts_list labels [] range small = no_entries labels
counts_list labels (x ∷ xs) range small =
    let rest = counts_list labels xs range.1 small.2 in let few : length (map (λ (y : Pair). y.1) xs) ≤ length xs = rest.few in
    record { labelled = (range.0, rest.labelled); small = (small.0, small.1, rest.small); few = omega arith }

counts_kept : (labels most : ℕ) (b : Bool) (x : Pair) (l : List Pair) → x.1.label < labels → x.1.elapsed < 4294967296 → x.1.bytes < 4294967296
    → CanCount labels most (map (λ (y : Pair). y.1) l) → CanCount labels (suc most) (map (λ (y : Pair). y.1) (cond b (x ∷ l) l))
counts_kept labels most true x l label elapsed bytes c = let few = c.few in record { labelled = (label, c.labelled); small = (elapsed, bytes, c.small); few = omega arith }
counts_kept labels most false x l label elapsed bytes c = let few = c.few in record { labelled = c.labelled; small = c.small; few = omega arith }

counts_share : (labels m : ℕ) (l : List Pair) → AllInRange labels l → AllSmall l → CanCount labels (length l) (entries_of m l)
counts_share labels m [] range small = no_entries labels
counts_share labels m (x ∷ xs) range small =
    counts_kept labels (length xs) (x.0 == m) x (filter (λ (y : Pair). y.0 == m) xs) range.0 small.0 small.1 (counts_share labels m xs range.1 small.2)

pub more_fits : (labels a b : ℕ) (es : List Entry) → CanCount labels a es → a ≤ b → CanCount labels b es
more_fits labels a b es c le = let few = c.few in record { labelled = c.labelled; small = c.small; few = omega arith }

-- the entries of several lists

pub counts_shares : (labels budget m : ℕ) (lists : List (List Pair)) → AllKeep labels budget lists → CanCount labels (length lists * budget) (entries_in m lists)
counts_shares labels budget m [] keep = more_fits labels 0 (0 * budget) [] (no_entries labels) (omega arith)
counts_shares labels budget m (l ∷ ls) keep =
    more_fits labels (budget + length ls * budget) (suc (length ls) * budget) (entries_in m (l ∷ ls))
    (counts_append labels budget (length ls * budget) (entries_of m l) (entries_in m ls)
    (more_fits labels (length l) budget (entries_of m l) (counts_share labels m l keep.0.in_range keep.0.small) keep.0.few) (counts_shares labels budget m ls keep.1)) (omega arith)

pub counts_lists : (labels budget : ℕ) (lists : List (List Pair)) → AllKeep labels budget lists → CanCount labels (length lists * budget) (all_entries lists)
counts_lists labels budget [] keep = more_fits labels 0 (0 * budget) [] (no_entries labels) (omega arith)
counts_lists labels budget (l ∷ ls) keep =
    more_fits labels (budget + length ls * budget) (suc (length ls) * budget) (all_entries (l ∷ ls))
    (counts_append labels budget (length ls * budget) (map (λ (x : Pair). x.1) l) (all_entries ls)
    (more_fits labels (length l) budget (map (λ (x : Pair). x.1) l) (counts_list labels l keep.0.in_range keep.0.small) keep.0.few) (counts_lists labels budget ls keep.1)) (omega arith)

-- one pair more

pub in_range_snoc : (labels : ℕ) (l : List Pair) (x : Pair) → AllInRange labels l → x.1.label < labels → AllInRange labels (l ++ x ∷ [])
in_range_snoc labels [] x h low = (low, tt)
in_range_snoc labels (y ∷ l) x h low = (h.0, in_range_snoc labels l x h.1 low)

pub small_snoc : (l : List Pair) (x : Pair) → AllSmall l → x.1.elapsed < 4294967296 → x.1.bytes < 4294967296 → AllSmall (l ++ x ∷ [])
small_snoc [] x h elapsed bytes = (elapsed, bytes, tt)
small_snoc (y ∷ l) x h elapsed bytes = (h.0, h.1, small_snoc l x h.2 elapsed bytes)
