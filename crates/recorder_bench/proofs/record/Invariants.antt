use Rattle.recorder_bench.proofs.record.Given as goal

abbrev pub ghosts-record_all : goal.ghosts-record_all
ghosts-record_all a = record { name = a.blank.name; parts = a.blank.parts }
