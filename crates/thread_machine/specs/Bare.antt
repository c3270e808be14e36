-- Traces without their interval numbers and places, and the labels of their samples.
use Rattle.std.specs.Prelude.{◌≡◌, ℕ, ◌<◌, List, map}
use Rattle.jm_meaning.specs.declared.item.Item.{Item}
use Rattle.jm_meaning.specs.declared.item.Item.TheVariants.{Paused, Sampled, Null, Entered, Left, Ended}
use Rattle.thread_machine.specs.declared.trace.TraceItem.{TraceItem}
use Rattle.thread_machine.specs.declared.trace.TraceItem.TheVariants.{Paused as PausedItem, Sampled as SampledItem, Null as NullItem, Entered as EnteredItem, Left as LeftItem, Ended as EndedItem}

-- an item without its interval number or place
abbrev pub bare_item : TraceItem → Item
bare_item (PausedItem ms) = Paused ms
bare_item (SampledItem sample interval) = Sampled sample
bare_item (NullItem sampler) = Null sampler
bare_item (EnteredItem lock place) = Entered lock
bare_item (LeftItem lock) = Left lock
bare_item (EndedItem end) = Ended end

-- a trace without its interval numbers and places
abbrev pub bare : List TraceItem → List Item
bare trace = map bare_item trace

-- a sample was counted in this interval
abbrev pub IsCountedIn : ℕ → TraceItem → Type 0
IsCountedIn k (SampledItem sample interval) = interval ≡ k
IsCountedIn k item = Unit {0}

-- a sample's label is one of this many labels
abbrev pub IsLabelled : ℕ → TraceItem → Type 0
IsLabelled labels (SampledItem sample interval) = sample.label < labels
IsLabelled labels item = Unit {0}
