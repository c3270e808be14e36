-- How a parser holds a state.
use Rattle.std.specs.Prelude.{◌≡◌, ◌≤◌, Bool, true, false, length, Option, Some, None}
use Rattle.std.specs.List.{list_all}
use Rattle.std.specs.Char.{is_ascii_digit}
use Rattle.std.specs.Str.Parse.{digits_value}
use Rattle.json_path.specs.declared.parse.Parser.{Parser}
use Rattle.json_path.specs.PathMachine.{State}

pub record Holds (parser : Parser) (s : State) : Type 0 where
  pub place_is : parser.place ≡ s.place
  pub steps_are : parser.steps.items ≡ s.steps
  pub name_is : parser.name.items ≡ s.name
  pub index_is : parser.index ≡ digits_value 10 s.digits
  pub digits_are : parser.digits ≡ length s.digits
  pub each : list_all is_ascii_digit s.digits ≡ true
  pub few : length s.digits ≤ 9

-- whether a byte stands, and the state after it
abbrev pub Takes : Bool → Option State → Parser → Type 0
Takes true (Some s) parser = Holds parser s
Takes true None parser = ⊥
Takes false (Some s) parser = ⊥
Takes false None parser = Unit {0}
