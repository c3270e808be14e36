use Rattle.std.proofs.Common.{ap, sym, rules}
use Rattle.std.specs.Option.{option_map}
use Rattle.http_settings.specs.Targets.{http_request}
use Rattle.http_settings.proofs.TargetLaws.{target-is, target-none}
use Rattle.http_settings.proofs.target.request_of.Goals as goal

pub returns-in-Ok : goal.returns-in-Ok
returns-in-Ok c = sym (ap (option_map http_request) (target-is c.args.settings.now c.in-Ok.target c.in-Ok.ensures.ok))

pub returns-in-Err-BadTarget : goal.returns-in-Err-BadTarget
returns-in-Err-BadTarget c = sym (ap (option_map http_request) (target-none c.args.settings.now (c.in-Err-BadTarget.ensures.bad (search rules))))
