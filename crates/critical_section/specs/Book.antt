-- The rule of the locks' words, over the words and the views of all seats, and what each step does to a view.
use Rattle.std.specs.Prelude.{◌≡◌, ◌≢◌, ◌⊎◌, ℕ, ◌+◌, ◌*◌, ◌/◌, ◌%◌, ◌<◌, ◌≤◌, ◌==◌, ◌&&◌, Bool, List, [], ◌∷◌, ◌++◌, length, slice_index, Option, Some, None}
use Rattle.std.specs.Prelude.{nat_lt}
use mathlib.Core.Option.{some}
use lib.ListN.{get_elem?}
use Rattle.atomic_table.specs.Table.{State, Me, Step}
use Rattle.jm_base.specs.SumTotals.{total, one_if}
use Rattle.critical_section.specs.declared.rule.SeatView.{SeatView}
use Rattle.critical_section.specs.declared.rule.Limits.{Limits}
use Rattle.critical_section.specs.declared.rule.TheConstants.{MOST_SEATS, MOST_SECTIONS}

-- a section: its lock and its place
abbrev pub Section : Type 0
Section = ℕ × ℕ

abbrev pub is_at : ℕ → ℕ → Section → Bool
is_at lock place x = (x.0 == lock) && (x.1 == place)

-- how often the section of this lock at this place stands in the list
abbrev pub times : ℕ → ℕ → List Section → ℕ
times lock place xs = total (λ x. one_if (is_at lock place x)) xs

-- the same of a section that may be open
abbrev pub in_open : ℕ → ℕ → Option Section → ℕ
in_open lock place None = 0
in_open lock place (Some x) = one_if (is_at lock place x)

abbrev pub count_open : Option Section → ℕ
count_open None = 0
count_open (Some x) = 1

-- how often it stands in the closed lists of a view, its own and the joined ones
abbrev pub closed_in : ℕ → ℕ → SeatView → ℕ
closed_in lock place v = times lock place v.own + total (times lock place) v.joined

-- 1 where the view has it open, else 0
abbrev pub open_in : ℕ → ℕ → SeatView → ℕ
open_in lock place v = in_open lock place v.inside

-- how many sections a view has entered, with those of the joined seats
abbrev pub entered : SeatView → ℕ
entered v = length v.own + count_open v.inside + total length v.joined

abbrev pub seats_of : SeatView → ℕ
seats_of v = v.seats

abbrev pub counted_of : SeatView → ℕ
counted_of v = v.counted

-- a view without a seat, whatever it remembers
abbrev pub gone : ℕ → List (List Section) → SeatView
gone counted remembered = record { counted = counted; seats = 0; made = 0; inside = None; own = []; joined = []; found = []; remembered = remembered }

-- what is left of a joined seat
abbrev pub spent : SeatView
spent = gone 1 []

-- a view that stands for no seat, and remembers the lists of one
abbrev pub telling : SeatView → SeatView
telling v = gone 0 (v.own ∷ v.joined)

abbrev pub itself : SeatView → SeatView
itself v = v

-- the first seat's view at the start, and a further seat's
abbrev pub opening_view : SeatView
opening_view = record { counted = 1; seats = 1; made = 1; inside = None; own = []; joined = []; found = []; remembered = [] }

abbrev pub further_view : SeatView
further_view = record { counted = 1; seats = 1; made = 0; inside = None; own = []; joined = []; found = []; remembered = [] }

-- the first seat after one more seat was made
abbrev pub one_more : SeatView → SeatView
one_more v = record v { made = v.made + 1 }

-- the seat after a try whose steps found these words
abbrev pub tried : SeatView → List (ℕ × ℕ) → SeatView
tried v words = record v { found = words }

-- the seat with this section open
abbrev pub opened : SeatView → Section → SeatView
opened v x = record v { inside = Some x }

abbrev pub closed_list : List Section → Option Section → List Section
closed_list xs None = xs
closed_list xs (Some x) = xs ++ x ∷ []

-- the seat with its section closed, as the last of its own list
abbrev pub closed : SeatView → SeatView
closed v = record v { inside = None; own = closed_list v.own v.inside }

-- the first seat with the lists of another after the lists that it has
abbrev pub taking : SeatView → SeatView → SeatView
taking v w = record v { seats = v.seats + w.seats; joined = v.joined ++ w.own ∷ w.joined }

-- what one view alone has to meet; `people` is how many seats were made
pub record FitsView (people id : ℕ) (v : SeatView) : Type 0 where
  pub first : 0 < v.made → (id ≡ 0) × (v.made ≡ people)
  pub few : v.seats ≢ 0 → (length v.own + count_open v.inside ≤ MOST_SECTIONS) × (total length v.joined + MOST_SECTIONS ≤ MOST_SECTIONS * v.seats)
  pub one : v.seats ≢ 0 → v.counted ≡ 1
  pub left : v.seats ≡ 0 → v ≡ gone v.counted v.remembered

-- Each place below half of a lock's word stands once in the closed lists, and no other place does.
-- Where the word is 2 p + 1, one seat has the section p open, and no other section of the lock is open; where it is even, none is.
pub record SectionInvariant (n : Limits) (words : List ℕ) (views : List SeatView) : Type 0 where
  pub wide : length words ≡ n.locks
  pub most : n.seats ≤ MOST_SEATS
  pub made : total counted_of views ≤ n.seats
  pub people : total seats_of views ≡ total counted_of views
  pub closed_once : (lock place : ℕ) → lock < n.locks → total (closed_in lock place) views ≡ one_if (nat_lt place (slice_index words lock / 2))
  pub open_once : (lock place : ℕ) → lock < n.locks → total (open_in lock place) views ≡ one_if (slice_index words lock == 2 * place + 1)
  pub bounded : (lock : ℕ) → lock < n.locks → slice_index words lock ≤ 2 * total entered views
  pub each : (id : ℕ) (v : SeatView) → get_elem? views id ≡ some v → FitsView (total counted_of views) id v

abbrev pub holds_of : Limits → State (Unit {0}) SeatView → Type 0
holds_of n s = SectionInvariant n s.words s.views

abbrev Sat : Type 0
Sat = Me (Unit {0}) SeatView

-- every place of the lock in the list is below n
abbrev pub IsPast : ℕ → ℕ → List Section → Type 0
IsPast lock n xs = (place : ℕ) → n ≤ place → times lock place xs ≡ 0

-- the seat has a section of this lock open
abbrev pub HasOpen : ℕ → SeatView → Type 0
HasOpen lock v = (place : ℕ) × (v.inside ≡ Some (lock, place))

-- the seat is the first: it makes the others, takes them in, and ends the book
abbrev pub IsFirst : SeatView → Type 0
IsFirst v = 0 < v.made

-- the seat stands for all that were made
abbrev pub HasAllJoined : SeatView → Type 0
HasAllJoined v = v.made ≡ v.seats

-- no other seat is out, and no section is open
abbrev pub IsAlone : SeatView → Type 0
IsAlone v = IsFirst v × HasAllJoined v × (v.inside ≡ None)

-- what such a seat knows of a lock's word: it is even, and its half is how many sections of that lock the seat's lists have
abbrev pub Knows : ℕ → SeatView → ℕ → Type 0
Knows lock v found = IsAlone v → (found % 2 ≡ 0) × ((place : ℕ) → closed_in lock place v ≡ one_if (nat_lt place (found / 2)))

-- a load begins a try, and tells what a seat that is alone knows of the word
abbrev pub loads : Step (Unit {0}) → Sat → ℕ → Sat → Type 0
loads st m found m' = (m' ≡ (tried m.0 ((st.word, found) ∷ []), m.1)) × Knows st.word m.0 found

-- an exchange goes on with it: where the word was the one expected, the seat has the section open, which comes after all of its own
abbrev pub exchanges : Step (Unit {0}) → Sat → ℕ → Sat → Type 0
exchanges st m found m' =
    let v : SeatView = tried m.0 (m.0.found ++ (st.word, found) ∷ []) in
    (m'.1 ≡ m.1)
    × (found ≡ st.first → (m'.0 ≡ opened v (st.word, found / 2)) × IsPast st.word (found / 2) m.0.own)
    × (found ≢ st.first → m'.0 ≡ v)
    × Knows st.word m.0 found

abbrev pub leaves : Step (Unit {0}) → Sat → ℕ → Sat → Type 0
leaves st m found m' = m' ≡ (closed m.0, m.1)

-- The try loaded the word 2 place, found it again at the exchange for 2 place + 1, and so opened the section of this place.
-- The place comes after all of the seat's own.
abbrev pub Enters : ℕ → ℕ → SeatView → SeatView → Type 0
Enters lock place v w =
    (w ≡ opened (tried v ((lock, 2 * place) ∷ (lock, 2 * place) ∷ [])) (lock, place)) × IsPast lock place v.own

-- The load found the odd word `seen`; or it found an even word, and the exchange found `seen` in its place. Nothing else changed.
abbrev pub FindsBusy : ℕ → ℕ → SeatView → SeatView → Type 0
FindsBusy lock seen v w =
    ((seen % 2 ≡ 1) × (w ≡ tried v ((lock, seen) ∷ [])))
    ⊎ ((loaded : ℕ) × (loaded % 2 ≡ 0) × (seen ≢ loaded) × (w ≡ tried v ((lock, loaded) ∷ (lock, seen) ∷ [])))

-- of this lock, the places below n stand once each in the lists, and no other does
abbrev pub HasPlacesBelow : ℕ → ℕ → List (List Section) → Type 0
HasPlacesBelow lock n lists = (place : ℕ) → total (times lock place) lists ≡ one_if (nat_lt place n)

-- the same of each lock, for half of its word
abbrev pub IsNumbered : ℕ → List ℕ → List (List Section) → Type 0
IsNumbered locks words lists = (lock : ℕ) → lock < locks → HasPlacesBelow lock (slice_index words lock / 2) lists

-- in no state has a lock a section open in two seats
abbrev pub OneSeatALock : Type 0
OneSeatALock =
    (n : Limits) (words : List ℕ) (views : List SeatView) (lock : ℕ) (a b : ℕ) (v w : SeatView) → SectionInvariant n words views → lock < n.locks
    → get_elem? views a ≡ some v → HasOpen lock v → get_elem? views b ≡ some w → HasOpen lock w → a ≡ b
