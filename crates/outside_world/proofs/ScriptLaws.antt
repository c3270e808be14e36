-- How an outside that answers from a plan's replies goes on with each call.
use Rattle.std.proofs.Common.{◌≡◌, ℕ, ◌+◌, ◌%◌, List, [], ◌∷◌, length, Option, Some, None, refl, sym, ap, ◌∙◌}
use Rattle.std.specs.Prelude.{unwrap_or, slice_get, slice_index, slice_set}
use Rattle.jm_base.specs.declared.types.ScriptReply.{ScriptReply}
use Rattle.jm_base.specs.declared.types.Request.{Request}
use Rattle.jm_base.specs.declared.types.Outcome.{Outcome}
use Rattle.jm_base.specs.declared.types.Outcome.TheVariants.{Null}
use Rattle.jm_base.specs.declared.types.Heard.{Heard}
use Rattle.jm_base.specs.declared.types.Heard.TheVariants.{Reading, Paused, Asked}
use Rattle.jm_base.specs.Run.{over, reading, wait, outcome_of}
use Rattle.jm_base.specs.Outside.{Scripts, script_form, scripted_ask, later, replies_of, outcome_of_reply, Replays, at_end, by_reading, by_pause, by_asking, fault_count, faults_after, Account, Hears, Goes, here, reads, waits, asks}
use Rattle.outside_world.specs.Scripted.{scripts, told_after}
use Rattle.outside_world.specs.Told.{reply_outcome, outcome_at}

abbrev at : Option (ℕ × ℕ) → Scripts → Option (List Heard) → ℕ → Account
at origin v told faults = record { origin = origin; value = Some v; told = told; faults = faults }

one_heard : (origin : Option (ℕ × ℕ)) (v w : Scripts) (old new : Option (List Heard)) (m n : ℕ) (item : Heard) → Replays script_form v (item ∷ []) w → new ≡ told_after old item → n ≡ faults_after (item ∷ []) m
    → Hears (at origin v old m) (item ∷ []) (at origin w new n)
one_heard origin v w old new m n item replays told faults = record { origin = refl; told = told; value = (w, refl, replays); faults = faults }

pub goes_reading : (origin : Option (ℕ × ℕ)) (v : Scripts) (old new : Option (List Heard)) (n : ℕ) → new ≡ told_after old (Reading v.clock)
    → Goes (at origin v old n) reading [] (over v.clock) (at origin v new n)
goes_reading origin v old new n told =
    record { heard = Reading v.clock ∷ []; hears = one_heard origin v v old new n n _ (by_reading refl at_end) told refl; path = reads here }

pub goes_pause : (origin : Option (ℕ × ℕ)) (v w : Scripts) (old new : Option (List Heard)) (n ms : ℕ) → w ≡ record v { clock = later v.clock ms } → new ≡ told_after old (Paused ms)
    → Goes {A = Unit {0}} (at origin v old n) (wait ms (over tt)) [] (over tt) (at origin w new n)
goes_pause origin v w old new n ms is told =
    record { heard = Paused ms ∷ []; hears = one_heard origin v w old new n n _ (by_pause (ap Some (sym is)) at_end) told refl; path = waits here }

pub goes_asking : (origin : Option (ℕ × ℕ)) (v w : Scripts) (old new : Option (List Heard)) (m n s : ℕ) (q : Request) (a : Outcome) → (a, w) ≡ scripted_ask s q v
    → new ≡ told_after old (Asked s q a) → n ≡ fault_count m a
    → Goes (at origin v old m) (outcome_of s q) [] (over a) (at origin w new n)
goes_asking origin v w old new m n s q a is told faults =
    record { heard = Asked s q a ∷ []; hears = one_heard origin v w old new m n _ (by_asking (ap Some (sym is)) at_end) told faults; path = asks here }

-- a kept ask tells what the reply at the sampler's place answers
pub told_asked : (replies : List (List ScriptReply)) (s place : ℕ) (q : Request) (a : Outcome) (r : Option ScriptReply) (old new : Option (List Heard))
    → new ≡ told_after old (Asked s q (outcome_at replies s place q)) → slice_get (unwrap_or (slice_get replies s) []) place ≡ r → a ≡ reply_outcome q r → new ≡ told_after old (Asked s q a)
told_asked replies s place q a r old new told reply is = told ∙ ap (λ a. told_after old (Asked s q a)) (ap (reply_outcome q) reply ∙ sym is)

-- no reply is there
pub asked_none : (v : Scripts) (s : ℕ) (q : Request) → slice_get (replies_of v s) (slice_index v.places s) ≡ None → (Null, v) ≡ scripted_ask s q v
asked_none v s q none = rw none refl

-- the reply at the sampler's place
pub asked_some : (v : Scripts) (s clock : ℕ) (places : List ℕ) (q : Request) (r : ScriptReply) (a : Outcome) → slice_get (replies_of v s) (slice_index v.places s) ≡ Some r
    → a ≡ outcome_of_reply q r → clock ≡ later v.clock r.ms → places ≡ slice_set v.places s ((slice_index v.places s + 1) % length (replies_of v s))
    → (a, scripts v.replies clock places) ≡ scripted_ask s q v
asked_some v s clock places q r a some is clock_is places_are = rw (some, is, clock_is, places_are) refl
