-- What a contract says of locks, seats and books.
use Rattle.std.specs.Prelude.{◌≡◌, ℕ, List}
use Rattle.critical_section.specs.declared.rule.SeatView.{SeatView}
use Rattle.critical_section.specs.declared.places.Sections.{Sections}
use Rattle.critical_section.specs.declared.places.SectionSeat.{SectionSeat}
use Rattle.critical_section.specs.declared.places.SectionBook.{SectionBook}
use Rattle.critical_section.specs.declared.sections.Try.{Try}
use Rattle.critical_section.specs.declared.sections.Try.TheVariants.{Entered, Busy}
use Rattle.std.specs.Slots.{slots_len}
use Rattle.critical_section.specs.Book.{Section}

-- what the seat knows
abbrev pub view_of : SectionSeat → SeatView
view_of s = s.seat.me.0

-- the seat was made by these sections
abbrev pub IsSeatOf : Sections → SectionSeat → Type 0
IsSeatOf s t = t.seat.table_id ≡ s.table.shared.table_id

-- how many locks there are, and how many seats may be made
abbrev pub locks_of : Sections → ℕ
locks_of s = s.table.shared.key.locks

abbrev pub seats_of : Sections → ℕ
seats_of s = s.table.shared.key.seats

-- every seat's list, the first seat's before the joined ones
abbrev pub book_lists : SectionBook → List (List Section)
book_lists b = b.lists.me.0.remembered

abbrev pub book_locks : SectionBook → ℕ
book_locks b = slots_len b.closed.words

-- a fact of the place of a try that entered, and of the word of one that did not
abbrev pub IfEntered : Try → (ℕ → Type 0) → Type 0
IfEntered (Entered place) P = P place
IfEntered (Busy seen) P = Unit {0}

abbrev pub IfBusy : Try → (ℕ → Type 0) → Type 0
IfBusy (Entered place) P = Unit {0}
IfBusy (Busy seen) P = P seen
