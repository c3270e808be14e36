-- What contracts see of a package: the numbers of the elements that apply to a sampler.
use Rattle.std.specs.Prelude.{ℕ, List}

pub record Scope : Type 0 where
  pub config : List ℕ
  pub pre : List ℕ
  pub timers : List ℕ
  pub post : List ℕ
  pub assertions : List ℕ
  pub listeners : List ℕ
