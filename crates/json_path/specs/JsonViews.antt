-- What references to values show.
use Rattle.std.specs.Prelude.{List, map}
use Rattle.std.specs.Borrow.{Bor}
use Rattle.serde_json.specs.Data.{Data}
use Rattle.serde_json.specs.View.{view}
use Rattle.serde_json.specs.declared.value.Value.{Value}

abbrev pub data_of : List (Bor Value) → List Data
data_of rs = map (λ r. view r.now) rs
