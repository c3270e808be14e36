-- A tally stands for the samples that a transaction has heard.
use Rattle.std.proofs.Common.{◌≡◌, ℕ, suc, ◌+◌, false, List, [], ◌∷◌, ◌++◌, length, refl, sym, ap, ◌∙◌, arith, length-append}
use mathlib.Core.Path.{fun_ext}
use Rattle.std.specs.Prelude.{◌==◌, if◌then◌else◌}
use Rattle.jm_base.specs.declared.types.Sample.{Sample}
use Rattle.jm_base.specs.Run.{Run, over, give, read, wait, ask, ◌>>=◌, Event, Waited, Sampled, Nothing, Entered, Left, Ended, Sampler, Transaction}
use Rattle.jm_base.specs.declared.types.Heard.{Heard as HeardItem}
use Rattle.jm_base.specs.Outside.{Account, Goes, Path, here, giving, reads, waits, asks}
use Rattle.jm_base.proofs.RunLaws.{goes-bind}
use Rattle.jm_meaning.specs.declared.transaction.Tally.{Tally}
use Rattle.jm_meaning.specs.State.{Ending, Part, State}
use Rattle.jm_meaning.specs.Sampling.{capped}
use Rattle.jm_meaning.specs.Transactions.{with_event, heard, first_stamp, sum_over, failure_count, tally_of, summed, transaction, with_sample, counting, tallied, transaction_from, counted}

sum-snoc : (part : Sample → ℕ) (xs : List Sample) (x : Sample) → sum_over part (xs ++ x ∷ []) ≡ sum_over part xs + part x
sum-snoc part [] x = omega arith
sum-snoc part (y ∷ ys) x = let h = sum-snoc part ys x in omega (arith, h)

capped-sum : (m n k : ℕ) → k ≡ m + n → capped (capped m + n) ≡ capped k
capped-sum m n k is = omega (arith, is)

stamp-snoc : (xs : List Sample) (x : Sample) → (if capped (length xs) == 0 then x.stamp else first_stamp xs) ≡ first_stamp (xs ++ x ∷ [])
stamp-snoc [] x = refl
stamp-snoc (y ∷ ys) x = rw (some (length ys)) refl where
  some : (n : ℕ) → (capped (suc n) == 0) ≡ false
  some n = grind arith

-- one more sample
tally-snoc : (xs : List Sample) (x : Sample) → with_sample (tally_of xs) x ≡ tally_of (xs ++ x ∷ [])
tally-snoc xs x =
    rw (
      stamp-snoc xs x,
      capped-sum (length xs) 1 (length (xs ++ x ∷ [])) (length-append xs (x ∷ [])),
      capped-sum (sum_over failure_count xs) (failure_count x) (sum_over failure_count (xs ++ x ∷ [])) (sum-snoc failure_count xs x),
      capped-sum (sum_over (λ s. s.elapsed) xs) x.elapsed (sum_over (λ s. s.elapsed) (xs ++ x ∷ [])) (sum-snoc (λ s. s.elapsed) xs x),
      capped-sum (sum_over (λ s. s.bytes) xs) x.bytes (sum_over (λ s. s.bytes) (xs ++ x ∷ [])) (sum-snoc (λ s. s.bytes) xs x),
    ) refl

-- one event more
tally-event : (xs : List Sample) (event : Event) → counting (tally_of xs) event ≡ tally_of (with_event xs event)
tally-event xs (Waited ms) = refl
tally-event xs (Sampled Sampler x) = tally-snoc xs x
tally-event xs (Sampled Transaction x) = refl
tally-event xs (Nothing sampler) = refl
tally-event xs (Entered lock) = refl
tally-event xs (Left lock) = refl
tally-event xs (Ended end) = refl

heard-tallied : (label : ℕ) (xs : List Sample) (run : Run Ending)
    → (heard xs run >>= λ h. summed label (tally_of h.samples) h.came_to) ≡ transaction_from label (tally_of xs) run
unfolding heard tallied
heard-tallied label xs (over x) = refl
heard-tallied label xs (give event run) =
    ap (give event) (heard-tallied label (with_event xs event) run ∙ ap (λ t. transaction_from label t run) (sym (tally-event xs event)))
heard-tallied label xs (read next) = ap read (fun_ext λ time. heard-tallied label xs (next time))
heard-tallied label xs (wait ms run) = ap (wait ms) (heard-tallied label xs run)
heard-tallied label xs (ask sampler request next) = ap (ask sampler request) (fun_ext λ outcome. heard-tallied label xs (next outcome))

-- what a transaction means, with a tally
pub by-tally : (label : ℕ) (part : Part) (s : State) → transaction label part s ≡ transaction_from label (tally_of []) (part s)
by-tally label part s = heard-tallied label [] (part s)

path-tallied : {A : Type 0} {r s : Run A} {told : List HeardItem} {events : List Event} (tally : Tally) → Path r told events s
    → Path (tallied tally r) told events (tallied (counted tally events) s)
unfolding tallied counted
path-tallied tally here = here
path-tallied tally (giving p) = giving (path-tallied _ p)
path-tallied tally (reads p) = reads (path-tallied tally p)
path-tallied tally (waits p) = waits (path-tallied tally p)
path-tallied tally (asks p) = asks (path-tallied tally p)

-- what goes on inside a transaction goes on in the whole, and the transaction counts it
pub goes-inside : {a b : Account} {x y : Run Ending} {events : List Event} (label : ℕ) (tally : Tally) → Goes a x events y b
    → Goes a (transaction_from label tally x) events (transaction_from label (counted tally events) y) b
goes-inside label tally g = goes-bind _ (record { heard = g.heard; hears = g.hears; path = path-tallied tally g.path })
