use Rattle.std.proofs.Common.{rules, refl}
use Rattle.cond_expr.specs.declared.parse.Parser.{Parser}
use Rattle.cond_expr.proofs.ParserLaws.{close_takes}
use Rattle.cond_expr.proofs.parse.Parser.close.Goals as goal

pub returns-in_ok-settle-in-Some-Group : goal.returns-in_ok-settle-in-Some-Group
returns-in_ok-settle-in-Some-Group c =
    let out : Parser = record { steps = c.settle.new.self.steps; pending = c.pop.new.self; depth = c.saturating_sub-self.result; awaiting = c.settle.new.self.awaiting } in
    close_takes c.args.self.now c.settle.new.self out c.settle-in-Some-Group.new.self c.pop.new.self.items c.if-self.false c.in_ok-settle.ensures (search rules) refl refl (search rules) refl c.in_ok-settle-in-Some-Group.ensures
