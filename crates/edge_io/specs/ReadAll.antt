-- How a reading to the end is told of.
use Rattle.std.specs.Prelude.{ℕ, List, codes}
use Rattle.edge_io.specs.declared.source.ReadError.{ReadError}
use Rattle.edge_io.specs.declared.source.ReadError.TheVariants.{ReadFault, TooLong, NoMemory}

-- what a failed reading is called
abbrev pub read_error_text : ReadError → List ℕ
read_error_text ReadFault = codes "a read failed"
read_error_text TooLong = codes "the input is too long"
read_error_text NoMemory = codes "out of memory"
