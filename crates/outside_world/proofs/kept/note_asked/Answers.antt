use Rattle.std.proofs.Common.{ap, ◌∙◌}
use Rattle.jm_base.specs.declared.types.Heard.TheVariants.{Asked}
use Rattle.outside_world.specs.Scripted.{told_when, told_after}
use Rattle.outside_world.specs.Told.{outcome_at, told_of}
use Rattle.outside_world.proofs.kept.note_asked.Goals as goal

pub returns-in_ok-note-clause-ok : goal.returns-in_ok-note-clause-ok
returns-in_ok-note-clause-ok c replies = c.in_ok-note.ensures.ok replies
    ∙ ap (λ q. told_after (told_when c.args.keep (told_of replies c.args.calls.now.items)) (Asked c.args.sampler q (outcome_at replies c.args.sampler c.args.place q)))
    (c.in_ok-new.ensures.ok ∙ c.in_ok-copy_request.ensures)
