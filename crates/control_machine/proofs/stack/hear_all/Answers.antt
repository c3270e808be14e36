use Rattle.std.proofs.Common.{◌≡◌, ◌+◌, ◌<◌, ◌++◌, take, drop, length, sym, subst}
use Rattle.std.specs.Prelude.{slice_set, slice_index_or}
use Rattle.control_machine.specs.Hearing.{frame_hearing, all_hearing}
use Rattle.control_machine.proofs.HearingLaws.{one_more_hears}
use Rattle.control_machine.proofs.stack.hear_all.Goals as goal

pub loop-frame-preserved : goal.loop-frame-preserved
loop-frame-preserved c =
    let sample = c.args.sample.now in
    let init = c.args.frames.now.items in
    let i = c.loop-frame.frame-index in
    let within : i < length init = rw (sym c.deref_mut-frame-items.ensures.value) c.loop-frame-test.true in
    rw c.hear.ensures
    (subst (λ xs. slice_set xs i (frame_hearing sample (slice_index_or xs i c.frame-item.result)) ≡ all_hearing sample (take (i + 1) init) ++ drop (i + 1) init)
    (sym c.loop-frame.invariant) (one_more_hears sample init i c.frame-item.result within))
