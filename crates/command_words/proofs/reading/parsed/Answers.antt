use Rattle.std.proofs.Common.{rules, map, string_bytes}
use Rattle.clap.specs.Words.{app_of, subcommand_rows_of}
use Rattle.command_words.proofs.ProgramLaws.{taken, refused}
use Rattle.command_words.proofs.reading.parsed.Goals as goal

pub returns-in-Ok-parse-clause-ok : goal.returns-in-Ok-parse-clause-ok
returns-in-Ok-parse-clause-ok c =
    taken (app_of c.in-Ok.command) (map string_bytes c.args.words.now) (subcommand_rows_of c.in-Ok-parse.matches) c.in-Ok.ensures c.in-Ok-parse.ensures.ok

pub returns-in-Err-BadWords-clause-bad : goal.returns-in-Err-BadWords-clause-bad
returns-in-Err-BadWords-clause-bad c = λ _. refused (app_of c.in-Ok.command) (map string_bytes c.args.words.now) c.in-Ok.ensures (c.in-Err-BadWords.ensures.bad (search rules))
