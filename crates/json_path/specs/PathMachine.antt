-- How a path is read, byte by byte.
use Rattle.std.specs.Prelude.{ℕ, ◌+◌, ◌&&◌, ◌==◌, nat_lt, List, [], ◌∷◌, ◌++◌, length, Option, Some, None, Result, Ok, Err, if◌then◌else◌}
use Rattle.std.specs.Char.{is_ascii_digit}
use Rattle.std.specs.Str.Parse.{digits_value}
use Rattle.json_path.specs.declared.path.Step.{Step}
use Rattle.json_path.specs.declared.path.Step.TheVariants.{Name, Index, All}
use Rattle.json_path.specs.declared.parse.Place.{Place}
use Rattle.json_path.specs.declared.parse.Place.TheVariants.{Start, Between, AfterDot, InName, AfterBracket, InQuotes, AfterQuote, InIndex, AfterStar}
use Rattle.json_path.specs.PathGrammar.{is_name_byte}

-- where the reading stands, the steps so far, and the name or the digits of the step that is being read
pub record State : Type 0 where
  pub place : Place
  pub steps : List Step
  pub name : List ℕ
  pub digits : List ℕ

abbrev pub start : State
start = record { place = Start; steps = []; name = []; digits = [] }

-- the step that was read
abbrev pub with_name : State → State
with_name s = record { place = Between; steps = s.steps ++ Name s.name ∷ []; name = []; digits = s.digits }

abbrev pub with_index : State → State
with_index s = record { place = Between; steps = s.steps ++ Index (digits_value 10 s.digits) ∷ []; name = s.name; digits = [] }

abbrev pub with_all : State → State
with_all s = record s { place = Between; steps = s.steps ++ All ∷ [] }

abbrev pub begin_step : ℕ → State → Option State
begin_step b s = if b == 46 then Some (record s { place = AfterDot }) else if b == 91 then Some (record s { place = AfterBracket }) else None

-- the state after a byte, where it can stand at this place
abbrev pub next_at : Place → ℕ → State → Option State
next_at Start b s = if b == 36 then Some (record s { place = Between }) else None
next_at Between b s = begin_step b s
next_at AfterDot b s = if is_name_byte b then Some (record s { place = InName; name = s.name ++ b ∷ [] }) else None
next_at InName b s = if is_name_byte b then Some (record s { name = s.name ++ b ∷ [] }) else begin_step b (with_name s)
next_at AfterBracket b s =
    if b == 39 then Some (record s { place = InQuotes }) else if b == 42 then Some (record s { place = AfterStar })
    else if is_ascii_digit b then Some (record s { place = InIndex; digits = b ∷ [] }) else None
next_at InQuotes b s = if b == 39 then Some (record s { place = AfterQuote }) else Some (record s { name = s.name ++ b ∷ [] })
next_at AfterQuote b s = if b == 93 then Some (with_name s) else None
next_at InIndex b s = if b == 93 then Some (with_index s) else if is_ascii_digit b && nat_lt (length s.digits) 9 then Some (record s { digits = s.digits ++ b ∷ [] }) else None
next_at AfterStar b s = if b == 93 then Some (with_all s) else None

abbrev pub next : ℕ → State → Option State
next b s = next_at s.place b s

abbrev pub state_or_fault : ℕ → Option State → (State → Result State ℕ) → Result State ℕ
state_or_fault at None go = Err at
state_or_fault at (Some s) go = go s

-- the state after bytes from a place on, or the place of the first that can't stand
unfoldable pub run : ℕ → List ℕ → State → Result State ℕ
run at [] s = Ok s
run at (b ∷ bs) s = state_or_fault at (next b s) (run (at + 1) bs)

-- the steps, where the path may end at this place
abbrev pub finish_at : Place → ℕ → State → Result (List Step) ℕ
finish_at Start end s = Err end
finish_at Between end s = Ok s.steps
finish_at AfterDot end s = Err end
finish_at InName end s = Ok (s.steps ++ Name s.name ∷ [])
finish_at AfterBracket end s = Err end
finish_at InQuotes end s = Err end
finish_at AfterQuote end s = Err end
finish_at InIndex end s = Err end
finish_at AfterStar end s = Err end

abbrev pub finish : ℕ → State → Result (List Step) ℕ
finish end s = finish_at s.place end s

abbrev pub or_else_fault : {A B : Type 0} → Result A ℕ → (A → Result B ℕ) → Result B ℕ
or_else_fault (Ok x) go = go x
or_else_fault (Err at) go = Err at

-- The steps of a path, or the place of its fault.
abbrev pub path_of : List ℕ → Result (List Step) ℕ
path_of text = or_else_fault (run 0 text start) (finish (length text))
