-- A sampler in a thread's run: its pause and its sample as events, and what follows from a failed one.
use Rattle.std.specs.Prelude.{ℕ, zero, suc, Bool, true, false, List, Option, Some, None}
use Rattle.jm_base.specs.declared.types.Sample.{Sample}
use Rattle.jm_base.specs.Run.{Run, over, give, Waited, Sampled, Nothing, Sampler}
use Rattle.element_tree.specs.declared.kinds.Element.{Element}
use Rattle.scope_resolver.specs.Scoping.{scope_of}
pub use Rattle.sampler_pipeline.specs.Exchanges.{capped}
pub use Rattle.sampler_pipeline.specs.declared.run.Done.{Done}
pub use Rattle.sampler_pipeline.specs.SamplerPipeline.{pipeline}
use Rattle.jm_meaning.specs.State.{Part, normal, tried}
use Rattle.jm_meaning.specs.declared.signal.Signal.{Signal}
use Rattle.jm_meaning.specs.declared.signal.Signal.TheVariants.{Normal}

-- the signal after a sample
abbrev pub after_sample : Bool → Signal → Signal
after_sample true at_failure = Normal
after_sample false at_failure = at_failure

-- gives the sample, or says that there is none
abbrev pub given_sample : ℕ → Signal → Option Sample → Part
given_sample number at_failure None s = give (Nothing number) (over (normal s))
given_sample number at_failure (Some sample) s =
    give (Sampled Sampler sample) (over (record { state = s; signal = after_sample sample.ok at_failure }))

-- says that a pause was made, if it was any
abbrev pub after_waited : {A : Type 0} → ℕ → Run A → Run A
after_waited zero run = run
after_waited (suc ms) run = give (Waited (suc ms)) run

-- the pause and the sample are given together, when both are there
abbrev pub given : ℕ → Signal → Done → Part
given number at_failure done s = after_waited done.paused (given_sample number at_failure done.sample s)

-- a sampler's part of the run, after the unit that it uses: its pipeline with its package
abbrev pub sampling : List Element → ℕ → Signal → Part
sampling elements number at_failure s = tried (pipeline elements (scope_of elements number) number) s (given number at_failure)
