use Rattle.std.proofs.Common.{◌≡◌, ◌+◌, length, arith, refl}
use Rattle.std.proofs.lemmas.List.{length-take}
use Rattle.edge_io.proofs.EdgeLaws.{TookCount-more}
use Rattle.edge_io.proofs.source.read_all.Goals as goal

pub returns-then-len-count-clause-long : goal.returns-then-len-count-clause-long
returns-then-len-count-clause-long g c =
    let given : length c.pieces.bytes.items + c.in-Ok.count ≡ c.args.limit + 1 = omega (arith, c.in-Ok.ensures.bound, c.min-want.ensures, c.pieces.bytes.ok.0, length-take c.min-want.result c.pieces.buffer) in
    λ _. TookCount-more _ _ _ c.pieces.bytes.items c.read.new.into c.in-Ok.count _ c.pieces.invariant.took c.in-Ok.ensures.bytes c.in-Ok.ensures.bound given

pub returns-then-is_err-clause-memory_took : goal.returns-then-is_err-clause-memory_took
returns-then-is_err-clause-memory_took g c = λ _. (
  length c.pieces.bytes.items + c.in-Ok.count,
  omega (arith, c.pieces.bytes.ok.0),
  TookCount-more _ _ _ c.pieces.bytes.items c.read.new.into c.in-Ok.count _ c.pieces.invariant.took c.in-Ok.ensures.bytes c.in-Ok.ensures.bound refl,
)
