use Rattle.std.proofs.Common.{rules, not, ◌<◌, ℕ, ◌∙◌, subst, arith}
use Rattle.jm_base.specs.declared.types.Entry.{Entry}
use Rattle.phaser_core.specs.Cells.{sums}
use Rattle.phaser_words.specs.RecorderKinds.{HasLeast}
use Rattle.phaser_words.specs.WordSeats.{numbers, writing}
use Rattle.phaser_words.proofs.Allowed.{later_column}
use Rattle.phaser_words.proofs.SlotSteps.{least_on_slot, slot_inside, place_low}
use Rattle.phaser_words.proofs.places.Words.lower.Goals as goal

pub next_part-slot-requires-clause-left : goal.next_part-slot-requires-clause-left
next_part-slot-requires-clause-left g c = let more = (subst (HasLeast (numbers c.args.self.now).labels) (c.args.seat.now.staged ∙ c.in-On.is) c.requires.more).0 in omega arith

pub next_part-slot-requires-clause-label : goal.next_part-slot-requires-clause-label
next_part-slot-requires-clause-label g c = (subst (HasLeast (numbers c.args.self.now).labels) (c.args.seat.now.staged ∙ c.in-On.is) c.requires.more).1

pub fetch_min-found-requires : goal.fetch_min-found-requires
fetch_min-found-requires g c =
    let e : Entry = c.in-On.entry in let w : ℕ = (writing c.args.seat.now).number in
    let on = c.args.seat.now.staged ∙ c.in-On.is in
    let more = subst (HasLeast (numbers c.args.self.now).labels) on c.requires.more in
    let left : c.in-On.done < sums e = (let m = more.0 in omega arith) in (
      search rules,
      slot_inside _ _ _ _ c.args.self.now.wide (place_low (numbers c.args.self.now) c.in-On.interval w e c.in-On.done more.1 left) c.next_part-slot.ensures.slot,
      least_on_slot _ _ _ _ _ _ _ _ _ _ c.args.seat.now.writes on left (later_column (not e.ok) c.in-On.done 3 (omega arith) more.0) more.1 c.next_part-slot.ensures.slot c.next_part-slot.ensures.amount,
    )
