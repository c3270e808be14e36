use Rattle.recorder_tests.proofs.recorder.record.Given as goal

abbrev pub ghosts-record_one : goal.ghosts-record_one
ghosts-record_one a = record { name = a.blank.name; parts = a.blank.parts }
