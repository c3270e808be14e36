use Rattle.std.proofs.Common.{◌≡◌, false, sym, ◌∙◌}
use Rattle.thread_machine.proofs.Sound.{owing_goes, sound_noted}
use Rattle.thread_machine.proofs.worker.Worker.noted.Goals as goal

pub invariant_of-self : goal.invariant_of-self
invariant_of-self c =
    let is = sym c.take.ensures.value ∙ c.in-Some.is in
    let going : c.self.inside.ended ≡ false = owing_goes c.self.inside.runner c.self.inside.ended c.in-Some.sample c.self.invariant is in
    rw (going, c.take.ensures.after)
    (sound_noted c.self.inside.runner c.put.new.self c.in-Some.sample c.args.interval (rw going at c.self.invariant) is c.put.ensures.items c.put.ensures.room)
