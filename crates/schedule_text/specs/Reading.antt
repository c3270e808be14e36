-- How a schedule is read, byte after byte.
use Rattle.std.specs.Prelude.{◌≡◌, ℕ, suc, ◌+◌, ◌-◌, ◌*◌, ◌<◌, ◌==◌, Bool, true, false, List, [], ◌∷◌, ◌++◌, Option, Some, None, Result, Ok, Err, if◌then◌else◌}
use Rattle.std.specs.Char.{is_ascii_digit}
use Rattle.schedule_text.specs.declared.token.Token.{Token}
use Rattle.schedule_text.specs.declared.token.Token.TheVariants.{Turn, Turns, Reporter, Reporters}
use Rattle.schedule_text.specs.declared.parse.Mark.{Mark}
use Rattle.schedule_text.specs.declared.parse.Mark.TheVariants as mark
use Rattle.schedule_text.specs.declared.parse.Place.{Place}
use Rattle.schedule_text.specs.declared.parse.Place.TheVariants.{Start, Comma, Digit, Digits, Whole}
use Rattle.schedule_text.specs.declared.schedule.ScheduleError.{ScheduleError}
use Rattle.schedule_text.specs.declared.schedule.ScheduleError.TheVariants.{BadSchedule, NoMemory}

-- what a byte says
abbrev pub mark_of : ℕ → Mark
mark_of b =
    if is_ascii_digit b then mark.Digit (b - 48) else if b == 44 then mark.Comma else if b == 120 then mark.Times
    else if b == 114 then mark.One else if b == 82 then mark.Many else mark.Other

-- where a token may begin
abbrev pub first : Mark → Option Place
first (mark.Digit d) = Some (Digit d)
first mark.Comma = None
first mark.Times = None
first mark.One = Some (Whole Reporter)
first mark.Many = Some (Whole Reporters)
first mark.Other = None

abbrev pub after_digit : ℕ → Mark → Option Place
after_digit t (mark.Digit d) = Some (Digits (10 * t + d))
after_digit t mark.Comma = Some Comma
after_digit t mark.Times = Some (Whole (Turns t))
after_digit t mark.One = None
after_digit t mark.Many = None
after_digit t mark.Other = None

abbrev pub after_digits : ℕ → Mark → Option Place
after_digits n (mark.Digit d) = None
after_digits n mark.Comma = Some Comma
after_digits n mark.Times = Some (Whole (Turns n))
after_digits n mark.One = None
after_digits n mark.Many = None
after_digits n mark.Other = None

abbrev pub after_whole : Mark → Option Place
after_whole (mark.Digit d) = None
after_whole mark.Comma = Some Comma
after_whole mark.Times = None
after_whole mark.One = None
after_whole mark.Many = None
after_whole mark.Other = None

-- the place after a byte that says this, if it can stand
abbrev pub after : Place → Mark → Option Place
after Start m = first m
after Comma m = first m
after (Digit d) m = after_digit d m
after (Digits n) m = after_digits n m
after (Whole t) m = after_whole m

-- the token that ends at a place
abbrev pub tokens_at : Place → List Token
tokens_at Start = []
tokens_at Comma = []
tokens_at (Digit d) = Turn d ∷ []
tokens_at (Digits n) = Turn n ∷ []
tokens_at (Whole t) = t ∷ []

-- a text may end at any place but after a comma
abbrev pub ended_at : Place → Bool
ended_at Start = true
ended_at Comma = false
ended_at (Digit d) = true
ended_at (Digits n) = true
ended_at (Whole t) = true

-- a comma ends a token
abbrev pub given_at : Place → Mark → List Token
given_at p (mark.Digit d) = []
given_at p mark.Comma = tokens_at p
given_at p mark.Times = []
given_at p mark.One = []
given_at p mark.Many = []
given_at p mark.Other = []

abbrev pub after_given : List Token → Result (List Token) ℕ → Result (List Token) ℕ
after_given ts (Ok us) = Ok (ts ++ us)
after_given ts (Err at) = Err at

abbrev pub go_on : ℕ → Option Place → (Place → Result (List Token) ℕ) → Result (List Token) ℕ
go_on at None go = Err at
go_on at (Some p) go = go p

-- from a place on: the tokens, or the place of the first byte that can't stand
unfoldable pub run : Place → ℕ → List ℕ → Result (List Token) ℕ
run p at [] = if ended_at p then Ok (tokens_at p) else Err at
run p at (b ∷ bs) = after_given (given_at p (mark_of b)) (go_on at (after p (mark_of b)) (λ q. run q (at + 1) bs))

abbrev pub reading_of : List ℕ → Result (List Token) ℕ
reading_of text = run Start 0 text

-- a digit is below 10, and a number of one digit too
abbrev pub IsLowMark : Mark → Type 0
IsLowMark (mark.Digit d) = d < 10
IsLowMark mark.Comma = Unit {0}
IsLowMark mark.Times = Unit {0}
IsLowMark mark.One = Unit {0}
IsLowMark mark.Many = Unit {0}
IsLowMark mark.Other = Unit {0}

abbrev pub IsLow : Place → Type 0
IsLow (Digit d) = d < 10
IsLow Start = Unit {0}
IsLow Comma = Unit {0}
IsLow (Digits n) = Unit {0}
IsLow (Whole t) = Unit {0}

-- the tokens, or the place of the fault; out of memory may stand in place of either
abbrev pub Gives : Result (List Token) ScheduleError → Result (List Token) ℕ → Type 0
Gives (Ok ts) answer = answer ≡ Ok ts
Gives (Err (BadSchedule at)) answer = answer ≡ Err at
Gives (Err NoMemory) answer = Unit {0}
