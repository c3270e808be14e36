use Rattle.outside_world.specs.Scripted.{scripts}
use Rattle.outside_world.proofs.ScriptLaws.{goes_reading}
use Rattle.outside_world.proofs.script.ScriptOutsideOutside.now.Goals as goal

pub returns-clause-ok : goal.returns-clause-ok
returns-clause-ok c = rw (← c.self.view_is)
    (goes_reading _ (scripts c.self.inside.replies c.self.inside.clock c.self.inside.places.items) _ _ c.self.inside.faults (c.in_ok-note.ensures.ok c.self.inside.replies))
