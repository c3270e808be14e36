-- What an open element makes of the run in it: it goes on as that run goes; at the end a transaction gives its sample, and a
-- section is left.
use Rattle.std.proofs.Common.{◌≡◌, ℕ, false, [], refl, ap}
use Rattle.jm_base.specs.declared.types.End.{End}
use Rattle.jm_base.specs.declared.types.Sample.{Sample}
use Rattle.jm_base.specs.Run.{Run, over, give, Event, Left, Sampled, Sampler}
use Rattle.jm_base.specs.Outside.{Account, Goes}
use Rattle.jm_base.proofs.RunLaws.{goes-bind}
use Rattle.jm_meaning.specs.declared.signal.Signal.TheVariants.{Stop}
use Rattle.jm_meaning.specs.declared.transaction.Tally.{Tally}
use Rattle.jm_meaning.specs.State.{State, Ending, stopped}
use Rattle.jm_meaning.specs.Transactions.{gives_sample, summed, transaction_from, counting, counted, tallied}
use Rattle.jm_meaning.proofs.TransactionLaws.{goes-inside}
use Rattle.open_elements.specs.declared.cursor.Cursor.{Cursor}
use Rattle.open_elements.specs.declared.cursor.Cursor.TheVariants.{Transaction}
use Rattle.open_elements.specs.Cursors.{Shut, Plain, Summing, Leaving, shut_of}
use Rattle.open_elements.specs.Closing.{closing}
use Rattle.open_elements.specs.Hearing.{hearing}

-- nothing more is counted where nothing is given
pub goes_closing : (label : ℕ) (o : Shut) {a b : Account} {x y : Run Ending} → Goes a x [] y b → Goes a (closing label o x) [] (closing label o y) b
unfolding counted
goes_closing label Plain g = g
goes_closing label (Summing tally) g = goes-inside label tally g
goes_closing label (Leaving lock) g = goes-bind _ g

-- an event that no transaction counts is given in the whole
pub closing_gives : (label : ℕ) (o : Shut) (e : Event) (x : Run Ending) → ((t : Tally) → counting t e ≡ t) → closing label o (give e x) ≡ give e (closing label o x)
unfolding tallied
closing_gives label Plain e x none = refl
closing_gives label (Summing tally) e x none = ap (λ t. give e (transaction_from label t x)) (none tally)
closing_gives label (Leaving lock) e x none = refl

-- and so is a sampler's sample, which a transaction counts
pub closing_hears : (label : ℕ) (sample : Sample) (c : Cursor) (x : Run Ending)
    → closing label (shut_of c) (give (Sampled Sampler sample) x) ≡ give (Sampled Sampler sample) (closing label (shut_of (hearing sample c)) x)
unfolding tallied
closing_hears label sample (Transaction c) x = refl
closing_hears label sample c x = refl

-- a transaction whose part has ended gives its sample, or none
pub ends_so : (label : ℕ) (tally : Tally) (e : Ending) → transaction_from label tally (over e) ≡ summed label tally e
unfolding tallied
ends_so label tally e = refl

-- a section is left there, where the element is one
abbrev pub left_there : Shut → Run Ending → Run Ending
left_there Plain run = run
left_there (Summing tally) run = run
left_there (Leaving lock) run = give (Left lock) run

-- an end by a limit leaves a section, and gives no sample of a transaction
pub stop_closing : (label : ℕ) (o : Shut) (end : End) (s : State) → gives_sample (Stop end) ≡ false → closing label o (over (stopped end s)) ≡ left_there o (over (stopped end s))
unfolding tallied
stop_closing label Plain end s limit = refl
stop_closing label (Summing tally) end s limit = rw limit refl
stop_closing label (Leaving lock) end s limit = refl
