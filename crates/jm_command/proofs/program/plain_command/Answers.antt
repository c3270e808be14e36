use Rattle.std.specs.Prelude.{map, string_bytes}
use Rattle.command_words.specs.Commands.{command_of}
use Rattle.jm_command.proofs.StatusLaws.{plain_ends}
use Rattle.jm_command.proofs.program.plain_command.Goals as goal

pub returns : goal.returns
returns g c = plain_ends (command_of (map string_bytes c.args.words.now.items)) _ _ c.run_words.result _ c.number.ensures c.run_words.ensures
