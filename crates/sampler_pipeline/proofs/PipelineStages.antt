-- What is left of a sampler after each of its stages.
use Rattle.std.proofs.Common.{ℕ, List, Option}
use Rattle.jm_base.specs.declared.types.Sample.{Sample}
use Rattle.element_tree.specs.declared.kinds.Element.{Element}
use Rattle.element_tree.specs.Scope.{Scope}
use Rattle.trials.specs.Tried.{Try, giving, ◌>=>◌}
use Rattle.config_elements.specs.TimerDelay.{delay}
use Rattle.sampler_pipeline.specs.declared.run.Done.{Done}
use Rattle.sampler_pipeline.specs.SamplerPipeline.{pausing, asking}

module _ (es : List Element) (sc : Scope) (n : ℕ) where
  abbrev pub after_request : ℕ → Option Sample → Try Done
  after_request ms sample = giving (record { sample = sample; paused = ms })

  abbrev pub after_pause : ℕ → Try Done
  after_pause ms = asking es sc n >=> after_request ms

  abbrev pub after_delay : ℕ → Try Done
  after_delay ms = pausing ms >=> λ u. after_pause ms

  abbrev pub after_pre : Try Done
  after_pre = delay es sc.timers >=> after_delay
