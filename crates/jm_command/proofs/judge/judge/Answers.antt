use Rattle.std.proofs.Common.{sym, ◌∙◌, inr}
use Rattle.jm_command.proofs.AskedLaws.{goes_some}
use Rattle.jm_command.proofs.judge.judge.Goals as goal

pub returns-in-Ok-None : goal.returns-in-Ok-None
returns-in-Ok-None g c = record {
  tree = _;
  is_plan = record { shape = c.in-Ok.ensures.exact; built = c.in-Ok-build.ensures.reading };
  fit = sym c.in-Ok-None.ensures ∙ c.in-Ok-None.field-0-is;
}

pub returns-in-Ok-Some : goal.returns-in-Ok-Some
returns-in-Ok-Some g c = record {
  tree = _;
  plan = _;
  is_plan = record { shape = c.in-Ok.ensures.exact; built = c.in-Ok-build.ensures.reading };
  unfit = sym c.in-Ok-Some.ensures ∙ c.in-Ok-Some.field-0-is;
}

pub returns : goal.returns
returns g c = inr (record { tree = _; shape = c.in-Ok.ensures.exact; asks = goes_some c.in-Ok-build.ensures.reading })
