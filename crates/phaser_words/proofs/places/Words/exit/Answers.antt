use Rattle.std.proofs.Common.{rules, ◌∙◌, subst}
use Rattle.phaser_words.specs.RecorderKinds.{HasAll}
use Rattle.phaser_words.proofs.SlotSteps.{exit_on_slot, slot_inside, end_word_low}
use Rattle.phaser_words.proofs.places.Words.exit.Goals as goal

pub fetch_add-found-requires : goal.fetch_add-found-requires
fetch_add-found-requires g c =
    let on = c.args.seat.now.staged ∙ c.in-On.is in (
      search rules,
      slot_inside _ _ _ _ c.args.self.now.wide (end_word_low c.in-On.odd _) c.end_slot.ensures,
      exit_on_slot _ _ _ _ _ _ _ _ _ c.args.seat.now.writes on (subst HasAll on c.requires.all) c.end_slot.ensures,
    )
