use Rattle.std.proofs.Common.{sym, arith}
use Rattle.std.proofs.lemmas.List.{length-take-le, take_all}
use Rattle.sampler_pipeline.proofs.run.message_of.Goals as goal

pub slice_bounds-new-end : goal.slice_bounds-new-end
slice_bounds-new-end c =
    sym (length-take-le 256 c.bytes-then-bytes-gt256.result.now (rw (c.bytes-then-bytes-gt256.ensures, ← c.bytes.ensures) (omega (arith, c.if-bytes-gt256.true))))

pub returns-else-bytes-gt256 : goal.returns-else-bytes-gt256
returns-else-bytes-gt256 c = sym (take_all 256 c.args.message (rw (← c.bytes.ensures) (omega (arith, c.if-bytes-gt256.false))))
