use Rattle.std.proofs.Common.{Some, None, sym, arith}
use Rattle.mirror_server.proofs.ReadingLaws.{end-later, scanned-later, long-open}
use Rattle.mirror_server.proofs.look.look_for_head.Goals as goal

pub look_at_head-requires-clause-ends : goal.look_at_head-requires-clause-ends
look_at_head-requires-clause-ends c =
    end-later c.args.scan c.args.bytes.now c.args.before (Some c.in-Some.count) c.requires.within c.requires.stands (sym c.in-Some.ensures.found)

pub returns-in-None : goal.returns-in-None
returns-in-None c = (
  scanned-later c.args.scan c.find_end.new.self c.args.bytes.now c.args.before c.requires.stands c.in-None.ensures.open,
  end-later c.args.scan c.args.bytes.now c.args.before None c.requires.within c.requires.stands (sym c.in-None.ensures.found),
  omega (arith, c.if-bytes-lt-HEAD_LIMIT.true),
)

pub returns-in-None-2 : goal.returns-in-None-2
returns-in-None-2 c =
    long-open c.args.bytes.now (end-later c.args.scan c.args.bytes.now c.args.before None c.requires.within c.requires.stands (sym c.in-None.ensures.found))
    (omega (arith, c.if-bytes-lt-HEAD_LIMIT.false))
