-- How an open element is closed.
use Rattle.std.specs.Prelude.{◌≡◌, ℕ, List}
use Rattle.jm_base.specs.Run.{Run}
use Rattle.element_tree.specs.declared.kinds.Element.{Element}
use Rattle.element_tree.specs.declared.kinds.Kind.{Kind}
use Rattle.element_tree.specs.declared.kinds.Kind.TheVariants.{CriticalSection}
use Rattle.element_tree.specs.Names.{lock_of}
use Rattle.jm_meaning.specs.State.{Ending}
use Rattle.jm_meaning.specs.Transactions.{transaction_from}
use Rattle.jm_meaning.specs.Sections.{leaving}
use Rattle.open_elements.specs.Cursors.{Shut, Plain, Summing, Leaving}

-- what an open element makes of the run in it: a transaction counts the samples, and gives its own after them; a section is
-- left after it
abbrev pub closing : ℕ → Shut → Run Ending → Run Ending
closing label Plain inner = inner
closing label (Summing tally) inner = transaction_from label tally inner
closing label (Leaving lock) inner = leaving lock inner

-- a section keeps the lock of its element
abbrev pub KeepsLock : List Element → Kind → Shut → Type 0
KeepsLock elements k Plain = Unit {0}
KeepsLock elements k (Summing tally) = Unit {0}
KeepsLock elements k (Leaving lock) = (name : List ℕ) × (k ≡ CriticalSection name) × (lock ≡ lock_of elements name)
