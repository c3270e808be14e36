-- Which outsides a world over sockets has opened and closed.
use Rattle.std.specs.Prelude.{ℕ, List, [], ◌∷◌, ◌++◌, Option}
use Rattle.std.specs.Option.{option_map}
use Rattle.http_sampler.specs.declared.opening.Closed.{Closed, Empty, More'}
use Rattle.http_sampler.specs.declared.opening.Opening.{Opening}

-- which world opened an outside, and for which number
abbrev pub origin_of : Option Opening → Option (ℕ × ℕ)
origin_of opening = option_map (λ (o : Opening). (o.identity, o.number)) opening

-- the numbers that were closed, in order
abbrev pub closed_of : Closed → List ℕ
closed_of Empty = []
closed_of (More' number p before) = closed_of before ++ number ∷ []

-- a world over sockets: which world it is, and the numbers that it opened and closed
pub record SocketBook : Type 0 where
  pub identity : ℕ
  pub opened : List ℕ
  pub closed : List ℕ
