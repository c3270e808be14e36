use Rattle.std.proofs.Common.{◌≡◌, reverse, sym, ap, ◌∙◌}
use Rattle.control_machine.specs.Hearing.{frame_hearing, all_hearing}
use Rattle.control_machine.proofs.HearingLaws.{map-reverse}
use Rattle.control_machine.proofs.stack.Stack.hear.Goals as goal

pub returns : goal.returns
returns c =
    let prefix : reverse c.hear_all.new.frames.items ≡ all_hearing c.args.sample.now (reverse c.self.inside.frames.items) =
    ap reverse c.hear_all.ensures ∙ sym (map-reverse (frame_hearing c.args.sample.now) c.self.inside.frames.items) in
    rw (← c.self.view_is) (λ k. record { frames = prefix k })
