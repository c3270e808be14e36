use Rattle.std.proofs.Common.{map, string_bytes, rules}
use Rattle.command_words.proofs.ReadingLaws.{shows_reading, not_asked}
use Rattle.command_words.proofs.reading.asked.Goals as goal

pub returns-in-Ok-clause-ok : goal.returns-in-Ok-clause-ok
returns-in-Ok-clause-ok c = shows_reading c.in-Ok.matches (map string_bytes c.args.words.now) c.requires c.in-Ok.ensures.ok

pub returns-in-Err-BadWords-clause-bad : goal.returns-in-Err-BadWords-clause-bad
returns-in-Err-BadWords-clause-bad c = λ _. not_asked (map string_bytes c.args.words.now) c.requires (c.in-Err-BadWords.ensures.bad (search rules))
