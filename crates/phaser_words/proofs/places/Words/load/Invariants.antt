use Rattle.phaser_words.specs.RecorderKinds.{no_numbers}
use Rattle.phaser_words.proofs.places.Words.load.Given as goal

abbrev pub ghosts-load_with : goal.ghosts-load_with
ghosts-load_with g a = record { entry = a.entry; numbers = no_numbers; cell = 0 }
