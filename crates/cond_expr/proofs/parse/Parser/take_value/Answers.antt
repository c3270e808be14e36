use Rattle.std.proofs.Common.{false, rules, refl}
use Rattle.cond_expr.specs.declared.parse.Parser.{Parser}
use Rattle.cond_expr.proofs.ParserLaws.{value_takes}
use Rattle.cond_expr.proofs.parse.Parser.take_value.Goals as goal

pub returns : goal.returns
returns c =
    let mid : Parser = record { steps = c.push.new.self; pending = c.args.self.now.pending; depth = c.args.self.now.depth; awaiting = false } in
    value_takes c.args.self.now mid c.settle.new.self c.args.value c.if-not-self.false (search rules) refl refl refl c.in_ok-settle.ensures
