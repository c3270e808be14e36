use Rattle.phaser_words.specs.RecorderKinds.{no_entry}
use Rattle.phaser_words.proofs.places.Words.recall.Given as goal

abbrev pub ghosts-recall_with : goal.ghosts-recall_with
ghosts-recall_with a = record { entry = no_entry; numbers = a.self.now.table.shared.key; cell = 0 }
