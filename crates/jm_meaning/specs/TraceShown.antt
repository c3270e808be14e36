-- What a trace shows of events: who gave a sample is left out.
use Rattle.std.specs.Prelude.{◌≡◌, List, map, ◌++◌}
use Rattle.jm_base.specs.Run.{Run, Event, Waited, Sampled, Nothing, Entered, Left, Ended}
use Rattle.jm_base.specs.Outside.{Account, Goes}
use Rattle.jm_meaning.specs.declared.item.Item.{Item}
use Rattle.jm_meaning.specs.declared.item.Item.TheVariants.{Paused, Sampled as SampledItem, Null, Entered as EnteredItem, Left as LeftItem, Ended as EndedItem}

abbrev pub shown : Event → Item
shown (Waited ms) = Paused ms
shown (Sampled giver sample) = SampledItem sample
shown (Nothing sampler) = Null sampler
shown (Entered lock) = EnteredItem lock
shown (Left lock) = LeftItem lock
shown (Ended end) = EndedItem end

-- Between two moments of its outside the run has given what the new items show, and goes on as the rest.
pub record Shows {A : Type 0} (before : Account) (old : List Item) (run : Run A) (rest : Run A) (new : List Item) (after : Account) : Type 0 where
  pub events : List Event
  pub goes : Goes before run events rest after
  pub items : new ≡ old ++ map shown events
