use Rattle.std.proofs.Common.{sym, refl, Some, None}
use Rattle.jm_base.specs.declared.types.Outcome.TheVariants.{Null}
use Rattle.outside_world.specs.Scripted.{scripts}
use Rattle.outside_world.proofs.ScriptLaws.{goes_asking, told_asked, asked_none, asked_some}
use Rattle.outside_world.proofs.script.ScriptOutsideOutside.ask.Goals as goal

pub returns-in_default-clause-ok : goal.returns-in_default-clause-ok
returns-in_default-clause-ok c = rw (← c.self.view_is)
    (goes_asking _ (scripts c.self.inside.replies c.self.inside.clock c.self.inside.places.items) _ _ _ c.self.inside.faults c.self.inside.faults c.args.sampler c.args.request.now _
    (asked_none _ c.args.sampler c.args.request.now (rw (← c.replies_at-replies.ensures, ← c.place_of-place.ensures) (sym c.in_default.ensures)))
    (told_asked c.self.inside.replies c.args.sampler c.place_of-place.result c.args.request.now Null None _ _ (c.in_ok-note_asked.ensures.ok c.self.inside.replies)
    (rw (← c.replies_at-replies.ensures) (sym c.in_default.ensures)) refl) refl)

pub returns-clause-ok : goal.returns-clause-ok
returns-clause-ok c = rw (← c.self.view_is)
    (goes_asking _ (scripts c.self.inside.replies c.self.inside.clock c.self.inside.places.items) _ _ _ c.self.inside.faults c.faults_after-self-inside.result c.args.sampler c.args.request.now _
    (asked_some (scripts c.self.inside.replies c.self.inside.clock c.self.inside.places.items) c.args.sampler c.later-self-inside.result c.set_place.new.places.items c.args.request.now
    c.in-Some.reply.now c.in_ok-outcome.outcome
    (rw (← c.replies_at-replies.ensures, ← c.place_of-place.ensures) (sym c.in-Some.ensures)) c.in_ok-outcome.ensures c.later-self-inside.ensures
    (rw (← c.replies_at-replies.ensures, ← c.place_of-place.ensures, ← c.place_after.ensures) c.set_place.ensures))
    (told_asked c.self.inside.replies c.args.sampler c.place_of-place.result c.args.request.now c.in_ok-outcome.outcome (Some c.in-Some.reply.now) _ _ (c.in_ok-note_asked-2.ensures.ok c.self.inside.replies)
    (rw (← c.replies_at-replies.ensures) (sym c.in-Some.ensures)) c.in_ok-outcome.ensures) c.faults_after-self-inside.ensures)
