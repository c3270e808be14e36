use Rattle.std.proofs.Common.{sym, refl, ◌∙◌}
use Rattle.std.specs.Prelude.{map, string_bytes}
use Rattle.command_words.specs.Commands.{command_of}
use Rattle.jm_command.proofs.ProgramLaws.{usage_said}
use Rattle.jm_command.proofs.StartLaws.{plain_start, none_served, cut_start, never_another, not_another}
use Rattle.jm_command.proofs.running.start_words.Goals as goal

pub returns-then-not-names_run-clause-says : goal.returns-then-not-names_run-clause-says
returns-then-not-names_run-clause-says g c =
    plain_start (map string_bytes c.args.words.now.items) _ _ _ _ (c.requires.opened, refl) (sym (rw c.deref.ensures.value at c.if-not-names_run.ensures)) _ refl c.run_words.result c.run_words.ensures

pub returns-then-not-names_run-clause-served : goal.returns-then-not-names_run-clause-served
returns-then-not-names_run-clause-served g c = none_served _ _ c.requires.opened

pub returns-in-Ok-None-clause-says : goal.returns-in-Ok-None-clause-says
returns-in-Ok-None-clause-says g c =
    rw (← c.in-Ok-None.ensures, c.in-Ok-None.field-0-is) (usage_said _ _ _ _ _ _ _ _ _ c.say.result c.say.ensures, (c.requires.opened, refl))

pub returns-in-Err-clause-says : goal.returns-in-Err-clause-says
returns-in-Err-clause-says g c = cut_start (command_of (map string_bytes c.args.words.now.items)) _ _ _ (c.requires.opened, refl)

pub unreachable-requires : goal.unreachable-requires
unreachable-requires g c =
    not_another c.in-Ok-Some.command
    (never_another (map string_bytes c.args.words.now.items) (sym (rw c.deref.ensures.value at c.if-not-names_run.ensures)) c.in-Ok-Some.command
    (sym c.in-Ok-Some.ensures ∙ c.in-Ok-Some.field-0-is))
    c.in-Check.is
