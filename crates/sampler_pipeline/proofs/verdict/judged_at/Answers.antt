use Rattle.std.proofs.Common.{sym}
use Rattle.sampler_pipeline.proofs.StageLaws.{patterns_kept}
use Rattle.sampler_pipeline.proofs.verdict.judged_at.Goals as goal

pub judged_by-requires : goal.judged_by-requires
judged_by-requires c = record { patterns = patterns_kept c.in-Some.element.now.kind c.in-Some-assertion_in.assertion.now (c.elements-elements.ensures.plan.patterns c.args.number c.in-Some.element.now (sym c.in-Some.ensures)) c.in-Some-assertion_in.ensures }
