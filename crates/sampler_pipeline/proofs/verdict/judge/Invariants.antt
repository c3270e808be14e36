use Rattle.std.proofs.Common.{◌≡◌, drop}
use Rattle.sampler_pipeline.specs.SamplerPipeline.{judged, at_first}
use Rattle.sampler_pipeline.proofs.verdict.judge.Given as goal

abbrev pub invariant-numbers : goal.invariant-numbers
invariant-numbers l = judged l.plan.elements l.answer (drop l.number-index l.numbers) l.verdict ≡ judged l.plan.elements l.answer l.numbers (at_first l.answer)
