-- What the elements of a level of a plan mean.
use Rattle.jm_meaning.specs.Meaning.{meaning}
use Rattle.jm_meaning.specs.Children.{Below}
use Rattle.plain_run.specs.declared.elements.Level.{Level}
use Rattle.plain_run.specs.Plays.{here_of}

-- what an element of this level means, by its number, in a round of its nearest looping ancestor
abbrev pub at_level : Level → Below
at_level level = meaning (here_of level.plan.now level.at_failure) level.depth
