-- What an open element hears of a sampler's sample.
use Rattle.jm_base.specs.declared.types.Sample.{Sample}
use Rattle.jm_meaning.specs.Transactions.{with_sample}
use Rattle.open_elements.specs.declared.cursor.Cursor.{Cursor}
use Rattle.open_elements.specs.declared.cursor.Cursor.TheVariants.{Transaction}

-- a transaction counts the sample
abbrev pub hearing : Sample → Cursor → Cursor
hearing sample (Transaction c) = Transaction (record { children = c.children; tally = with_sample c.tally sample })
hearing sample c = c
