use Rattle.std.proofs.Common.{rules, sym, subst, ◌<◌, arith}
use Rattle.jm_base.specs.declared.types.Entry.{Entry}
use Rattle.phaser_words.specs.WordSeats.{numbers}
use Rattle.phaser_words.proofs.SlotSteps.{load_on_slot}
use Rattle.phaser_words.proofs.places.Words.load_with.Goals as goal

pub load-found-requires : goal.load-found-requires
load-found-requires g c = (
  search rules,
  search rules,
  load_on_slot _ _ _ _ _ _ c.args.seat.now.writes c.requires.inside (subst (λ (e : Entry). e.label < (numbers c.args.self.now).labels) (sym c.requires.handed) c.requires.label)
      (subst (λ (e : Entry). e.elapsed < 4294967296) (sym c.requires.handed) (omega arith)) (subst (λ (e : Entry). e.bytes < 4294967296) (sym c.requires.handed) (omega arith)),
)
