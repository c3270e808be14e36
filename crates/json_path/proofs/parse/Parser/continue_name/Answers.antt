use Rattle.std.proofs.Common.{sym, ◌∙◌}
use Rattle.json_path.proofs.ParserLaws.{name_ends}
use Rattle.json_path.proofs.parse.Parser.continue_name.Goals as goal

pub returns : goal.returns
returns c =
    name_ends c.args.self.now c.end_name.new.self c.begin_step.new.self c.args.byte c.begin_step.result (sym c.is_name_byte.ensures ∙ c.if-is_name_byte.false) c.in_ok-end_name.ensures c.begin_step.ensures
