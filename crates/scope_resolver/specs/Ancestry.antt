-- A tree whose elements are numbered from 0, the root, in tree order, by the parent of each. The root is its own.
use Rattle.std.specs.Prelude.{◌≡◌, ◌⊎◌, ℕ, zero, suc, ◌<◌, Bool, ◌&&◌, nat_lt, nat_eq, List, [], ◌∷◌, ◌++◌, length}
use Rattle.std.specs.List.{filter, flat_map, range_with_len}

-- the element that many levels above this one
unfoldable pub above : (ℕ → ℕ) → ℕ → ℕ → ℕ
above parent zero n = n
above parent (suc levels) n = above parent levels (parent n)

-- an element and all above it, from the root down to it, in at most that many steps
unfoldable pub line : (ℕ → ℕ) → ℕ → ℕ → List ℕ
line parent zero n = n ∷ []
line parent (suc steps) zero = zero ∷ []
line parent (suc steps) (suc n) = line parent steps (parent (suc n)) ++ suc n ∷ []

-- how deep an element nests, the root counting as 1
abbrev pub depth_by : (ℕ → ℕ) → ℕ → ℕ
depth_by parent n = length (line parent n n)

-- whether the element n hangs directly on this one
abbrev pub hangs_by : (ℕ → ℕ) → ℕ → ℕ → Bool
hangs_by parent level n = nat_lt 0 n && nat_eq (parent n) level

-- what hangs directly on this one, in tree order, of that many elements
unfoldable pub hanging_by : (ℕ → ℕ) → ℕ → ℕ → List ℕ
hanging_by parent count level = filter (hangs_by parent level) (range_with_len 0 count)

-- what hangs on an element or on one above it: level by level, from the root down to the element
unfoldable pub applying_by : (ℕ → ℕ) → ℕ → ℕ → List ℕ
applying_by parent count s = flat_map (hanging_by parent count) (line parent s s)

-- the element n hangs directly on s, or on an element above s
pub record Applies (parent : ℕ → ℕ) (count n s : ℕ) : Type 0 where
  pub there : n < count
  pub below_root : 0 < n
  pub levels : ℕ
  pub hangs : parent n ≡ above parent levels s

-- of two elements this one is the less deep, or, where both are as deep, the earlier in tree order
abbrev pub Precedes : (ℕ → ℕ) → ℕ → ℕ → Type 0
Precedes parent m n = (depth_by parent m < depth_by parent n) ⊎ ((depth_by parent m ≡ depth_by parent n) × (m < n))
