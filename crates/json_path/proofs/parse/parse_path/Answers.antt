use Rattle.std.proofs.Common.{Ok, ap, sym, ◌∙◌}
use Rattle.json_path.proofs.ReadLaws.{gives_steps, gives_only, gives_refused, gives_place, same_error}
use Rattle.json_path.proofs.parse.parse_path.Goals as goal

pub returns-in-Ok-clause-steps : goal.returns-in-Ok-clause-steps
returns-in-Ok-clause-steps c = gives_steps c.args.text.now c.of.result (c.in-Ok.ensures ∙ ap (λ ss. Ok ss) (sym c.of.ensures))

pub returns-in-Ok-clause-only : goal.returns-in-Ok-clause-only
returns-in-Ok-clause-only c = gives_only c.args.text.now c.of.result (c.in-Ok.ensures ∙ ap (λ ss. Ok ss) (sym c.of.ensures))

pub returns-in-Err-clause-refused : goal.returns-in-Err-clause-refused
returns-in-Err-clause-refused c = λ at e. gives_refused c.args.text.now c.in-Err.error at c.in-Err.ensures (same_error c.in-Err.error at e)

pub returns-in-Err-clause-place : goal.returns-in-Err-clause-place
returns-in-Err-clause-place c = λ at e. gives_place c.args.text.now c.in-Err.error at c.in-Err.ensures (same_error c.in-Err.error at e)
