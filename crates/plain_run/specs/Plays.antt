-- What it is that a thread runs a part of its plan.
use Rattle.std.specs.Prelude.{◌≡◌, ◌≤◌, ℕ, zero, suc, List, [], ◌∷◌, ◌++◌, Result, Ok, Err}
use Rattle.jm_base.specs.declared.errors.NoMemory.{NoMemory}
use Rattle.jm_base.specs.Run.{Run, Event, over}
use Rattle.jm_base.specs.Outside.{Account, Goes}
use Rattle.element_tree.specs.Tree.{Tree}
use Rattle.jm_meaning.specs.declared.item.Item.{Item}
use Rattle.jm_meaning.specs.declared.item.Item.TheVariants.{Paused}
use Rattle.jm_meaning.specs.declared.signal.Signal.{Signal}
use Rattle.jm_meaning.specs.declared.signal.Signal.TheVariants.{Normal, NextLoop, Stop}
use Rattle.jm_meaning.specs.declared.transaction.Tally.{Tally}
use Rattle.jm_meaning.specs.State.{State, Ending, Part, state_of}
use Rattle.jm_meaning.specs.Transactions.{counted}
use Rattle.jm_meaning.specs.Meaning.{Here}
use Rattle.jm_meaning.specs.TraceShown.{Shows}
use Rattle.plain_run.specs.declared.progress.Progress.{Progress}

-- the state of a thread that has come so far
abbrev pub state_in : Progress → State
state_in p = state_of p.user (record { units = p.units; rounds = p.rounds; places = p.places; config = p.config.places })

-- what a trace shows with a pause of that many milliseconds, if it was any
abbrev pub with_pause : List Item → ℕ → List Item
with_pause items zero = items
with_pause items (suc ms) = items ++ Paused (suc ms) ∷ []

-- a part that has ended so
abbrev pub ended : Progress → Signal → Ending
ended p signal = record { state = state_in p; signal = signal }

-- Between two moments of its outside the run has given what the new items show, and goes on as the rest, and the tally has
-- counted what it gave.
pub record Tells {A : Type 0} (before : Account) (old : List Item) (first : Tally) (run rest : Run A) (new : List Item) (last : Tally) (after : Account) : Type 0 where
  pub shows : Shows before old run rest new after
  pub counts : last ≡ counted first shows.events

-- Between two moments of its outside the thread has run the part: it shows and counts what the part gives, and the part has
-- ended so. No rounds came to those left, and what is kept of Counters and data sets is of the same elements.
pub record Plays (before : Account) (old : Progress) (part : Part) (signal : Signal) (new : Progress) (after : Account) : Type 0 where
  pub tells : Tells before old.items.items old.tally (part (state_in old)) (over (ended new signal)) new.items.items new.tally after
  pub fewer : new.rounds ≤ old.rounds
  pub feeds : new.config.feeds ≡ old.config.feeds

-- Between two moments of its outside the run has come some way: it has given some events, and some rest of it is left.
abbrev pub IsUnderWay : {A : Type 0} → Account → Run A → Account → Type 0
IsUnderWay {A} before run after = (events : List Event) × (rest : Run A) × Goes before run events rest after

-- What becomes of a part that a thread runs: it is run, and has ended with this signal; or, out of memory, its outside has
-- been asked for what it does up to somewhere on its way, and for nothing else.
abbrev pub Runs : Account → Progress → Part → Result Signal NoMemory → Progress → Account → Type 0
Runs before old part (Ok signal) new after = Plays before old part signal new after
Runs before old part (Err e) new after = IsUnderWay before (part (state_in old)) after

-- what the run of a thread is over, by its plan and what a failed sample leads to
abbrev pub here_of : Tree → Signal → Here
here_of plan at_failure = record { plan = plan; at_failure = at_failure }

-- the signal after a round of a thread group: there NextLoop ends the round alone
abbrev pub caught_signal : Signal → Signal
caught_signal Normal = Normal
caught_signal NextLoop = Normal
caught_signal (Stop end) = Stop end
