use Rattle.std.proofs.Common.{take, subst, arith}
use Rattle.mirror_server.specs.RequestGrammar as grammar
use Rattle.mirror_server.specs.RequestGrammar.{Says}
use Rattle.mirror_server.proofs.ReadingLaws.{long-at}
use Rattle.mirror_server.proofs.look.look_at_head.Goals as goal

pub returns-then-head-gt-HEAD_LIMIT : goal.returns-then-head-gt-HEAD_LIMIT
returns-then-head-gt-HEAD_LIMIT c = long-at c.args.bytes.now c.args.head c.requires.ends c.requires.within (omega (arith, c.if-head-gt-HEAD_LIMIT.true))

pub returns-in-None : goal.returns-in-None
returns-in-None c =
    grammar.bad_head {n = c.args.head} c.requires.ends (omega (arith, c.if-head-gt-HEAD_LIMIT.false)) c.in-None.ensures

pub returns-then-said-room : goal.returns-then-said-room
returns-then-said-room c =
    grammar.long_request {n = c.args.head} {size = c.in-Some.said.size} {coded = c.in-Some.said.coded} c.requires.ends (omega (arith, c.if-head-gt-HEAD_LIMIT.false))
    c.in-Some.ensures
    (omega (arith, c.if-head-gt-HEAD_LIMIT.false, c.if-said-room.true))

pub returns-then-said : goal.returns-then-said
returns-then-said c =
    grammar.coded_body {n = c.args.head} {size = c.in-Some.said.size} c.requires.ends (omega (arith, c.if-head-gt-HEAD_LIMIT.false))
    (subst (λ coded. Says (take c.args.head c.args.bytes.now) c.in-Some.said.size coded) c.if-said.true
    c.in-Some.ensures)
    (omega (arith, c.if-head-gt-HEAD_LIMIT.false, c.if-said-room.false))
