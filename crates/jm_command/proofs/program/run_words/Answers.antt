use Rattle.std.specs.Prelude.{map, string_bytes}
use Rattle.command_words.specs.Commands.{command_of}
use Rattle.jm_command.proofs.WordLaws.{in_range}
use Rattle.jm_command.proofs.ProgramLaws.{cut_at_start}
use Rattle.jm_command.proofs.program.run_words.Goals as goal

pub run_command-requires : goal.run_command-requires
run_command-requires g c = rw c.in-Ok.ensures (in_range (map string_bytes c.args.words.now.items) c.requires)

pub returns-in-Ok : goal.returns-in-Ok
returns-in-Ok g c = rw (← c.in-Ok.ensures) c.run_command.ensures

pub returns-in-Err : goal.returns-in-Err
returns-in-Err g c = cut_at_start (command_of (map string_bytes c.args.words.now.items)) _
