use Rattle.std.proofs.Common.{ap}
use Rattle.outside_world.specs.Scripted.{scripts}
use Rattle.outside_world.proofs.ScriptLaws.{goes_pause}
use Rattle.outside_world.proofs.script.ScriptOutsideOutside.pause.Goals as goal

pub returns-clause-ok : goal.returns-clause-ok
returns-clause-ok c = rw (← c.self.view_is)
    (goes_pause _ (scripts c.self.inside.replies c.self.inside.clock c.self.inside.places.items) _ _ _ c.self.inside.faults c.args.ms
    (ap (λ clock. scripts c.self.inside.replies clock c.self.inside.places.items) c.later-self-inside.ensures) (c.in_ok-note.ensures.ok c.self.inside.replies))
