use Rattle.std.specs.Prelude.{map, string_bytes}
use Rattle.command_words.specs.Commands.{command_of}
use Rattle.jm_command.proofs.StatusLaws.{start_ends}
use Rattle.jm_command.proofs.running.start.Goals as goal

pub returns-clause-ends : goal.returns-clause-ends
returns-clause-ends g c =
    start_ends (command_of (map string_bytes c.args.words.now.items)) _ _ c.start_words.result _ c.number.ensures _ _ c.start_words.ensures.says
