-- The outsides that a world gave to a run.
use Rattle.std.specs.Prelude.{◌≡◌, ℕ, List, ◌++◌}
use Rattle.std.specs.List.{range_with_len}

-- the outsides of the numbers 0 to n - 1 are those that were opened, and each was closed
pub record AreServed (n : ℕ) (opened closed_before closed : List ℕ) : Type 0 where
  pub opened_are : opened ≡ range_with_len 0 n
  pub closed_are : closed ≡ closed_before ++ range_with_len 0 n
