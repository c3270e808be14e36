-- Transactions: what they count of the samples in them, and the sample that they give.
use Rattle.std.specs.Prelude.{ℕ, ◌+◌, ◌==◌, Bool, true, false, ◌&&◌, nat_lt, List, [], ◌∷◌, ◌++◌, length, codes, decimal, if◌then◌else◌}
use Rattle.jm_base.specs.declared.types.End.TheVariants.{StopThread, StopTest}
use Rattle.jm_base.specs.declared.types.Sample.{Sample}
use Rattle.jm_base.specs.Run.{Run, over, give, read, wait, ask, ◌>>=◌, Event, Sampled, Sampler, Transaction}
use Rattle.jm_meaning.specs.declared.signal.Signal.{Signal}
use Rattle.jm_meaning.specs.declared.signal.Signal.TheVariants.{Normal, NextLoop, Stop}
use Rattle.jm_meaning.specs.declared.transaction.Tally.{Tally}
use Rattle.jm_meaning.specs.State.{Ending, Part, with_unit}
use Rattle.jm_meaning.specs.Sampling.{capped}

-- ---- what is heard

-- what a run has come to, and the samples that samplers gave in it
pub record Heard (A : Type 0) : Type 0 where
  pub samples : List Sample
  pub came_to : A

-- one event more: a sampler's sample counts, and nothing else
abbrev pub with_event : List Sample → Event → List Sample
with_event samples (Sampled Sampler sample) = samples ++ sample ∷ []
with_event samples event = samples

-- a run, with the samples of its samplers after these
unfoldable pub heard : {A : Type 0} → List Sample → Run A → Run (Heard A)
heard samples (over x) = over (record { samples = samples; came_to = x })
heard samples (give event run) = give event (heard (with_event samples event) run)
heard samples (read next) = read (λ time. heard samples (next time))
heard samples (wait ms run) = wait ms (heard samples run)
heard samples (ask sampler request next) = ask sampler request (λ outcome. heard samples (next outcome))

-- ---- what is counted of it

abbrev pub first_stamp : List Sample → ℕ
first_stamp [] = 0
first_stamp (sample ∷ samples) = sample.stamp

abbrev pub sum_over : (Sample → ℕ) → List Sample → ℕ
sum_over part [] = 0
sum_over part (sample ∷ samples) = part sample + sum_over part samples

-- 1 where the sample failed
abbrev pub failure_count : Sample → ℕ
failure_count sample = if sample.ok then 0 else 1

-- the stamp of the first, how many there are and how many failed, and the sums of elapsed times and bytes
abbrev pub tally_of : List Sample → Tally
tally_of samples = record {
  stamp = first_stamp samples;
  samples = capped (length samples);
  failed = capped (sum_over failure_count samples);
  elapsed = capped (sum_over (λ s. s.elapsed) samples);
  bytes = capped (sum_over (λ s. s.bytes) samples);
}

-- ---- the sample that is given

abbrev pub message_of : Tally → List ℕ
message_of tally =
    codes "Number of samples in transaction : " ++ decimal tally.samples ++ codes ", number of failing samples : " ++ decimal tally.failed

-- it succeeds where no sample failed
abbrev pub sample_by : ℕ → Tally → Sample
sample_by label tally = record {
  stamp = tally.stamp;
  elapsed = tally.elapsed;
  label = label;
  code = if tally.failed == 0 then 200 else 0;
  message = message_of tally;
  ok = tally.failed == 0;
  failure = [];
  bytes = tally.bytes;
  listeners = 0;
}

-- whether a transaction that ends so gives its sample: not at the end by a limit
abbrev pub gives_sample : Signal → Bool
gives_sample Normal = true
gives_sample NextLoop = true
gives_sample (Stop StopThread) = true
gives_sample (Stop StopTest) = true
gives_sample (Stop end) = false

-- the sample uses a unit, and the signal stays
abbrev pub with_own_sample : ℕ → Tally → Ending → Run Ending
with_own_sample label tally e =
    with_unit e.state (λ s. give (Sampled Transaction (sample_by label tally)) (over (record { state = s; signal = e.signal })))

-- after a transaction that has ended so: its sample, where there is one
abbrev pub summed : ℕ → Tally → Ending → Run Ending
summed label tally e = if gives_sample e.signal && nat_lt 0 tally.samples then with_own_sample label tally e else over e

-- A transaction is its children's part, and then its sample.
abbrev pub transaction : ℕ → Part → Part
transaction label part s = heard [] (part s) >>= λ h. summed label (tally_of h.samples) h.came_to

-- ---- the same with a tally in place of the list

abbrev pub with_sample : Tally → Sample → Tally
with_sample tally sample = record {
  stamp = if tally.samples == 0 then sample.stamp else tally.stamp;
  samples = capped (tally.samples + 1);
  failed = capped (tally.failed + failure_count sample);
  elapsed = capped (tally.elapsed + sample.elapsed);
  bytes = capped (tally.bytes + sample.bytes);
}

abbrev pub counting : Tally → Event → Tally
counting tally (Sampled Sampler sample) = with_sample tally sample
counting tally event = tally

-- what a run has come to, and the tally then
pub record Tallied (A : Type 0) : Type 0 where
  pub tally : Tally
  pub came_to : A

unfoldable pub tallied : {A : Type 0} → Tally → Run A → Run (Tallied A)
tallied tally (over x) = over (record { tally = tally; came_to = x })
tallied tally (give event run) = give event (tallied (counting tally event) run)
tallied tally (read next) = read (λ time. tallied tally (next time))
tallied tally (wait ms run) = wait ms (tallied tally run)
tallied tally (ask sampler request next) = ask sampler request (λ outcome. tallied tally (next outcome))

-- a transaction's part from a tally on
abbrev pub transaction_from : ℕ → Tally → Run Ending → Run Ending
transaction_from label tally run = tallied tally run >>= λ t. summed label t.tally t.came_to

-- after these events
unfoldable pub counted : Tally → List Event → Tally
counted tally [] = tally
counted tally (event ∷ events) = counted (counting tally event) events
