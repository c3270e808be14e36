use Rattle.std.proofs.Common.{◌≡◌, []}
use Rattle.critical_section.specs.Book.{tried}
use Rattle.critical_section.specs.SectionSeats.{view_of, IsSeatOf}
use Rattle.critical_section.proofs.places.Sections.enter.Given as goal

-- a try that did not enter changes nothing but the words that were found
abbrev pub invariant-loop : goal.invariant-loop
invariant-loop g l = IsSeatOf l.self l.seat × (tried (view_of l.seat) [] ≡ tried (view_of l.initial.seat) [])
