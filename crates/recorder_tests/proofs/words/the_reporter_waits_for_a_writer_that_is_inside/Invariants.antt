use Rattle.recorder_tests.proofs.words.the_reporter_waits_for_a_writer_that_is_inside.Given as goal

abbrev pub ghosts-a_slow_writer : goal.ghosts-a_slow_writer
ghosts-a_slow_writer g a = record { name = a.blank.name; parts = a.blank.parts }
