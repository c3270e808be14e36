use Rattle.phaser_words.specs.RecorderKinds.{no_entry, no_numbers}
use Rattle.phaser_words.proofs.places.Words.read.Given as goal

abbrev pub ghosts-read_with : goal.ghosts-read_with
ghosts-read_with a = record { entry = no_entry; numbers = no_numbers; cell = a.cell }
