-- Which outsides a world has opened and closed.
use Rattle.std.specs.Prelude.{ℕ, nat_eq, List, [], ◌∷◌, ◌++◌, Option, None, if◌then◌else◌}
use Rattle.std.specs.Option.{option_map}
use Rattle.jm_base.specs.declared.types.Heard.{Heard}
use Rattle.outside_world.specs.declared.closed.Closed.{Closed, Empty, More'}
use Rattle.outside_world.specs.declared.script.Opening.{Opening}

-- which world opened an outside, and for which number
abbrev pub origin_of : Option Opening → Option (ℕ × ℕ)
origin_of opening = option_map (λ (o : Opening). (o.identity, o.number)) opening

-- an outside that was closed: its number, and what it was told, where it told
pub record ClosedOutside : Type 0 where
  pub number : ℕ
  pub told : Option (List Heard)

-- the outsides that were closed, the last one first
abbrev pub closed_of : Closed → List ClosedOutside
closed_of Empty = []
closed_of (More' number told p before) = record { number = number; told = told } ∷ closed_of before

-- their numbers, in the order in which they were closed
abbrev pub numbers_of : List ClosedOutside → List ℕ
numbers_of [] = []
numbers_of (c ∷ before) = numbers_of before ++ c.number ∷ []

-- what the outside was told that was closed last under a number
abbrev pub told_under : List ClosedOutside → ℕ → Option (List Heard)
told_under [] n = None
told_under (c ∷ before) n = if nat_eq c.number n then c.told else told_under before n

-- a world of script outsides: which world it is, the numbers that it opened, and the outsides that were closed, the last one first
pub record WorldBook : Type 0 where
  pub identity : ℕ
  pub opened : List ℕ
  pub closed : List ClosedOutside
