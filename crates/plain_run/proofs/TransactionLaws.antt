-- What is counted over two parts of a run.
use Rattle.std.proofs.Common.{◌≡◌, ℕ, zero, suc, ◌+◌, ◌≤◌, Bool, true, false, List, [], ◌∷◌, refl, ap, ◌∙◌, arith}
use Rattle.std.specs.Prelude.{◌==◌, ◌&&◌, nat_lt, ◌^◌, ◌-◌, if◌then◌else◌}
use Rattle.std.proofs.lemmas.Bool.Decides.{nat_tests}
use Rattle.jm_base.specs.declared.types.Sample.{Sample}
use Rattle.jm_base.specs.Run.{Event, Waited, Sampled, Nothing, Entered, Left, Ended, Sampler, Transaction}
use Rattle.jm_meaning.specs.declared.transaction.Tally.{Tally}
use Rattle.jm_meaning.specs.Sampling.{capped}
use Rattle.jm_meaning.specs.Transactions.{failure_count, tally_of, with_sample, counting, counted}

-- the tally of two parts, the second after the first
abbrev pub joined : Tally → Tally → Tally
joined first second = record {
  stamp = if first.samples == 0 && nat_lt 0 second.samples then second.stamp else first.stamp;
  samples = capped (first.samples + second.samples);
  failed = capped (first.failed + second.failed);
  elapsed = capped (first.elapsed + second.elapsed);
  bytes = capped (first.bytes + second.bytes);
}

-- a tally that fits 32 bits, but for its stamp
pub record Fits (t : Tally) : Type 0 where
  pub samples : t.samples ≤ 2 ^ 32 - 1
  pub failed : t.failed ≤ 2 ^ 32 - 1
  pub elapsed : t.elapsed ≤ 2 ^ 32 - 1
  pub bytes : t.bytes ≤ 2 ^ 32 - 1

capped-more : (m n k : ℕ) → capped (m + capped (n + k)) ≡ capped (capped (m + n) + k)
capped-more m n k = omega arith

capped-none : (n : ℕ) → n ≤ 2 ^ 32 - 1 → capped (n + 0) ≡ n
capped-none n fits = omega (arith, fits)

-- the stamp with one more sample, which has the last of these
stamp-more : (m n x y z : ℕ) → (if m == 0 && nat_lt 0 (capped (n + 1)) then (if n == 0 then z else y) else x)
    ≡ (if capped (m + n) == 0 then z else if m == 0 && nat_lt 0 n then y else x)
stamp-more zero zero x y z = refl
stamp-more zero (suc n) x y z = grind (arith, nat_tests)
stamp-more (suc m) zero x y z = grind (arith, nat_tests)
stamp-more (suc m) (suc n) x y z = grind (arith, nat_tests)

joined-sample : (t u : Tally) (x : Sample) → joined t (with_sample u x) ≡ with_sample (joined t u) x
joined-sample t u x =
    rw (
      stamp-more t.samples u.samples t.stamp u.stamp x.stamp,
      capped-more t.samples u.samples 1,
      capped-more t.failed u.failed (failure_count x),
      capped-more t.elapsed u.elapsed x.elapsed,
      capped-more t.bytes u.bytes x.bytes,
    ) refl

joined-event : (t u : Tally) (event : Event) → joined t (counting u event) ≡ counting (joined t u) event
joined-event t u (Waited ms) = refl
joined-event t u (Sampled Sampler x) = joined-sample t u x
joined-event t u (Sampled Transaction x) = refl
joined-event t u (Nothing sampler) = refl
joined-event t u (Entered lock) = refl
joined-event t u (Left lock) = refl
joined-event t u (Ended end) = refl

joined-all : (t u : Tally) (events : List Event) → joined t (counted u events) ≡ counted (joined t u) events
unfolding counted
joined-all t u [] = refl
joined-all t u (event ∷ events) = joined-all t (counting u event) events ∙ ap (λ v. counted v events) (joined-event t u event)

stamp-none : (b : Bool) (x y : ℕ) → (if b && false then y else x) ≡ x
stamp-none true x y = refl
stamp-none false x y = refl

joined-none : (t : Tally) → Fits t → joined t (tally_of []) ≡ t
joined-none t fits =
    rw (
      stamp-none (t.samples == 0) t.stamp 0,
      capped-none t.samples fits.samples,
      capped-none t.failed fits.failed,
      capped-none t.elapsed fits.elapsed,
      capped-none t.bytes fits.bytes,
    ) refl

-- what is counted from nothing on, after what was counted before
pub joined-counts : (t u : Tally) (events : List Event) → Fits t → u ≡ counted (tally_of []) events → joined t u ≡ counted t events
joined-counts t u events fits is =
    ap (λ v. joined t v) is ∙ joined-all t (tally_of []) events ∙ ap (λ v. counted v events) (joined-none t fits)
