use Rattle.std.proofs.Common.{◌≡◌, true, map, string_bytes, rules, Some, None}
use Rattle.std.specs.List.{list_all}
use Rattle.command_words.specs.CommandGrammar.{is_word}
use Rattle.command_words.specs.Commands.{command_of}
use Rattle.command_words.proofs.ReadingLaws.{answer_is, no_answer, is_some_not_none, is_none_not_some}
use Rattle.command_words.proofs.SpellingLaws.{answered_is_line, none_is_no_line}
use Rattle.command_words.proofs.reading.read_words.Goals as goal

pub returns-in-Ok-command-clause-command : goal.returns-in-Ok-command-clause-command
returns-in-Ok-command-clause-command c =
    let words = map string_bytes c.args.words.now in
    let are : list_all is_word words ≡ true = search rules in
    let shown = c.in-Ok.ensures.ok in
    answer_is c.in-Ok.matches words (Some c.in-Ok-command.command) are shown (c.in-Ok-command.ensures.ok shown.0 shown.2)

pub returns-in-Err-BadWords-command-clause-bad_words : goal.returns-in-Err-BadWords-command-clause-bad_words
returns-in-Err-BadWords-command-clause-bad_words c = λ _.
    let words = map string_bytes c.args.words.now in
    let are : list_all is_word words ≡ true = search rules in
    let shown = c.in-Ok.ensures.ok in
    answer_is c.in-Ok.matches words None are shown (c.in-Err-BadWords-command.ensures.bad (search rules) shown.0 shown.2)

pub returns-in-Ok-command-clause-not_taken : goal.returns-in-Ok-command-clause-not_taken
returns-in-Ok-command-clause-not_taken c = is_some_not_none c.in-Ok-command.command _ (returns-in-Ok-command-clause-command c)

pub returns-in-Err-BadWords-command-clause-not_refused : goal.returns-in-Err-BadWords-command-clause-not_refused
returns-in-Err-BadWords-command-clause-not_refused c = λ some _. is_none_not_some _ (returns-in-Err-BadWords-command-clause-bad_words c (search rules)) some

pub returns-in-Ok-command-clause-spelled : goal.returns-in-Ok-command-clause-spelled
returns-in-Ok-command-clause-spelled c = answered_is_line _ c.in-Ok-command.command (returns-in-Ok-command-clause-command c)

pub returns-in-Err-BadWords-command-clause-not_spelled : goal.returns-in-Err-BadWords-command-clause-not_spelled
returns-in-Err-BadWords-command-clause-not_spelled c = λ _. none_is_no_line _ (returns-in-Err-BadWords-command-clause-bad_words c (search rules))

pub returns-then-not-are_words-clause-not_spelled : goal.returns-then-not-are_words-clause-not_spelled
returns-then-not-are_words-clause-not_spelled c = λ _.
    let words = map string_bytes c.args.words.now in
    let none : command_of words ≡ None = search rules in
    none_is_no_line words none

pub returns-in-Err-BadWords-clause-not_spelled : goal.returns-in-Err-BadWords-clause-not_spelled
returns-in-Err-BadWords-clause-not_spelled c = λ _.
    let words = map string_bytes c.args.words.now in
    let are : list_all is_word words ≡ true = search rules in
    none_is_no_line words (no_answer words are (c.in-Err-BadWords.ensures.bad (search rules)))
