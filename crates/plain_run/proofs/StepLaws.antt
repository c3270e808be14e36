-- The steps of a thread that are no recursion.
use Rattle.std.proofs.Common.{◌≡◌, ℕ, zero, suc, ◌-◌, ◌<◌, Bool, true, false, List, [], ◌∷◌, ◌++◌, Option, Some, None, refl, sym, ap, ◌∙◌, subst, arith}
use Rattle.std.specs.Prelude.{Result, Ok, Err, IfOk, MatchResult}
use Rattle.jm_base.specs.declared.errors.NoMemory.{NoMemory}
use Rattle.jm_base.specs.declared.types.Sample.{Sample}
use Rattle.jm_base.specs.declared.types.End.TheVariants.{ValueLimit as PastValueLimit, RoundLimit, SampleLimit, StopThread}
use Rattle.jm_base.specs.Run.{Run, over, give, Waited, Sampled, Nothing, Sampler}
use Rattle.jm_base.specs.Outside.{Account, Goes}
use Rattle.jm_base.proofs.RunLaws.{goes-bind}
use Rattle.thread_vars.specs.declared.error.VarError.{VarError}
use Rattle.thread_vars.specs.declared.error.VarError.TheVariants.{ValueLimit, NoMemory as NoMemoryLeft}
use Rattle.var_functions.specs.declared.state.UserState.{UserState}
use Rattle.var_functions.specs.Came.{Refused, by_limit, by_memory}
use Rattle.jm_meaning.specs.declared.item.Item.TheVariants.{Null, Sampled as SampledItem}
use Rattle.jm_meaning.specs.declared.signal.Signal.{Signal}
use Rattle.jm_meaning.specs.declared.signal.Signal.TheVariants.{Normal, Stop}
use Rattle.element_tree.specs.declared.kinds.Element.{Element}
use Rattle.cursor_steps.specs.CursorStep.{Step, answers, past_limit as step_past_limit}
use Rattle.scope_resolver.specs.Scoping.{scope_of}
use Rattle.config_elements.specs.RoundStart.{begin_round}
use Rattle.jm_meaning.specs.State.{Own, Part, Try, state_of, at_config, normal, stopped, and_then, with_round, with_unit, fine, past_limit}
use Rattle.jm_meaning.specs.Rounds.{where_fed, on_fed, round_start}
use Rattle.sampler_pipeline.specs.declared.run.Done.{Done}
use Rattle.sampler_pipeline.specs.SamplerPipeline.{pipeline}
use Rattle.jm_meaning.specs.Sampling.{given_sample, after_waited, given, after_sample, sampling}
use Rattle.jm_meaning.specs.Transactions.{with_sample}
use Rattle.jm_meaning.proofs.PartLaws.{no-rounds, one-round, no-units, one-unit}
use Rattle.plain_run.specs.declared.progress.Progress.{Progress}
use Rattle.plain_run.specs.Plays.{state_in, with_pause, Plays, IsUnderWay, Runs}
use Rattle.plain_run.proofs.Ways.{OnWay, way-start, way-silent, way-move, way-give, way-over, way-then, way-stop, way-tried, way-past}
use Rattle.plain_run.proofs.UnderWay.{where-left, in-bind, on-way-tried, way-runs, way-shows}
use Rattle.plain_run.proofs.RoundWays.{split}

-- a refusal past a limit has come to the limit
pub at-limit : {A : Type 0} {a b : Account} {run limit : Run A} {error : VarError} → Refused a run b limit error → error ≡ ValueLimit → Goes a run [] limit b
at-limit (by_limit goes) is = goes
at-limit (by_memory left) is = absurd (cc)

-- what a refusal makes of a step
pub refused-so : (res : Result Signal NoMemory) (error : VarError) (Q : Signal → Type 0)
    → MatchResult res (λ signal. (error ≡ ValueLimit) × (signal ≡ Stop PastValueLimit)) (λ e. error ≡ NoMemoryLeft)
    → (error ≡ ValueLimit → Q (Stop PastValueLimit)) → IfOk res Q
refused-so (Ok signal) error Q h q = subst Q (sym h.1) (q h.0)
refused-so (Err e) error Q h q = tt

-- out of memory it has come somewhere on its way
pub at-memory : {A : Type 0} {a b : Account} {run limit : Run A} {error : VarError} → Refused a run b limit error → error ≡ NoMemoryLeft → IsUnderWay a run b
at-memory (by_limit goes) is = absurd (cc)
at-memory (by_memory left) is = where-left left

-- what a refusal makes of a part
pub refused-runs : {a b : Account} {p q : Progress} {part : Part} (res : Result Signal NoMemory) (error : VarError)
    → MatchResult res (λ signal. (error ≡ ValueLimit) × (signal ≡ Stop PastValueLimit)) (λ e. error ≡ NoMemoryLeft)
    → (error ≡ ValueLimit → Plays a p part (Stop PastValueLimit) q b) → (error ≡ NoMemoryLeft → IsUnderWay a (part (state_in p)) b) → Runs a p part res q b
refused-runs {a} {b} {p} {q} {part} (Ok signal) error h past cut = subst (λ s. Plays a p part s q b) (sym h.1) (past h.0)
refused-runs (Err e) error h past cut = cut h

-- a part that only variables and functions come from
pub silent-plays : {a b : Account} (part : Part) (p : Progress) (user : UserState) (signal : Signal)
    → Goes a (part (state_in p)) [] (over (record { state = state_of user (record { units = p.units; rounds = p.rounds; places = p.places; config = p.config.places }); signal = signal })) b
    → Plays a p part signal (record p { user = user }) b
silent-plays {a} part p user signal goes =
    way-over signal (way-silent (λ s. over (record { state = s; signal = signal })) (record p { user = user }) (way-start a p part) goes refl refl (omega arith) refl) refl

-- ---- a round is taken

pub none-taken : (a : Account) (p : Progress) → p.rounds ≡ 0 → Plays a p (λ s. with_round s (λ s. over (normal s))) (Stop RoundLimit) p a
none-taken a p none = way-over (Stop RoundLimit) (way-start a p (λ s. with_round s (λ s. over (normal s)))) (no-rounds (state_in p) (λ s. over (normal s)) none)

pub one-taken : (a : Account) (p : Progress) → (p.rounds ≡ 0 → ⊥) → Plays a p (λ s. with_round s (λ s. over (normal s))) Normal (record p { rounds = p.rounds - 1 }) a
one-taken a p some =
    let is : p.rounds ≡ suc (p.rounds - 1) = omega arith in
    way-over Normal (way-move (λ s. over (normal s)) (record p { rounds = p.rounds - 1 }) (way-start a p (λ s. with_round s (λ s. over (normal s))))
    (one-round (state_in p) (λ s. over (normal s)) (p.rounds - 1) is) refl refl (omega arith) refl) refl

-- what is done with a round that was taken
pub taken-goes : {a b : Account} {p q : Progress} {first : Signal} (f g : Part) (c : Account) (r : Progress) (result : Result Signal NoMemory) → Plays a p (λ s. with_round s f) first q b → first ≡ Normal → Runs b q g result r c
    → Runs a p (λ s. with_round s (λ s. and_then (f s) g)) result r c
taken-goes {a} {p = p} f g c r result plays normal runs =
    way-runs c r result (way-then (λ s. with_round s f) g (way-start a p (λ s. with_round s (λ s. and_then (f s) g))) (split p.rounds (state_in p) f g) plays normal) runs

-- what comes next gives no round back
pub still-taken : (result : Result Signal NoMemory) (old : ℕ) (p q : Progress) → q ≡ record p { user = q.user; config = q.config } → p.rounds < old → IfOk result (λ signal. signal ≡ Normal → q.rounds < old)
still-taken (Ok signal) old p q same less = λ h. subst (λ n. n < old) (sym (ap (λ r. r.rounds) same)) less
still-taken (Err e) old p q same less = tt

pub not-taken : {a b : Account} {p q : Progress} {signal : Signal} (f g : Part) → Plays a p (λ s. with_round s f) signal q b → (signal ≡ Normal → ⊥)
    → Plays a p (λ s. with_round s (λ s. and_then (f s) g)) signal q b
not-taken {a} {p = p} f g plays other =
    way-stop (λ s. with_round s f) g (way-start a p (λ s. with_round s (λ s. and_then (f s) g))) (split p.rounds (state_in p) f g) plays other

-- ---- a sampler

-- a pause is shown, if it was any
pub pause-shown : {a b : Account} {p0 p : Progress} {whole : Part} (q : Progress) (ms : ℕ) (rest : Part) → OnWay a p0 whole (λ s. after_waited ms (rest s)) p b
    → q ≡ record p { items = q.items } → q.items.items ≡ with_pause p.items.items ms → OnWay a p0 whole rest q b
pause-shown q zero rest way same items =
    way-move rest q way (ap (λ (r : Progress). rest (state_in r)) (sym same)) items (ap (λ r. r.tally) same) (let k = ap (λ r. r.rounds) same in omega (arith, k)) (ap (λ r. r.config.feeds) same)
pause-shown q (suc ms) rest way same items =
    way-give rest q (Waited (suc ms)) way (ap (λ (r : Progress). give (Waited (suc ms)) (rest (state_in r))) (sym same)) items (ap (λ r. r.tally) same)
    (let k = ap (λ r. r.rounds) same in omega (arith, k)) (ap (λ r. r.config.feeds) same)

-- after its pause a sampler shows its sample, or that there is none
module _ (a : Account) (p mid q : Progress) (number : ℕ) (at_failure : Signal) (paused : ℕ) (sample : Option Sample)
    (same : mid ≡ record p { items = mid.items }) (items_are : mid.items.items ≡ with_pause p.items.items paused) where
  abbrev done : Done
  done = record { sample = sample; paused = paused }

  at_sample : OnWay a p (given number at_failure done) (given_sample number at_failure sample) mid a
  at_sample = pause-shown mid paused (given_sample number at_failure sample) (way-start a p (given number at_failure done)) same items_are

  pub none-shown : sample ≡ None → q ≡ record mid { items = q.items } → q.items.items ≡ mid.items.items ++ Null number ∷ [] → Plays a p (given number at_failure done) Normal q a
  none-shown none is items =
      way-over Normal (way-give (λ s. over (normal s)) q (Nothing number) at_sample
      (ap (λ o. given_sample number at_failure o (state_in mid)) none ∙ ap (λ (r : Progress). give (Nothing number) (over (normal (state_in r)))) (sym is))
      items (ap (λ r. r.tally) is) (let k = ap (λ r. r.rounds) is in omega (arith, k)) (ap (λ r. r.config.feeds) is)) refl

  pub one-shown : (x : Sample) → sample ≡ Some x → q ≡ record mid { items = q.items; tally = q.tally } → q.items.items ≡ mid.items.items ++ SampledItem x ∷ []
      → q.tally ≡ with_sample mid.tally x → (signal : Signal) → signal ≡ after_sample x.ok at_failure → Plays a p (given number at_failure done) signal q a
  one-shown x some is items tally signal so =
      way-over signal (way-give (λ s. over (record { state = s; signal = signal })) q (Sampled Sampler x) at_sample
      (ap (λ o. given_sample number at_failure o (state_in mid)) some
      ∙ ap (λ (r : Progress). give (Sampled Sampler x) (over (record { state = state_in r; signal = after_sample x.ok at_failure }))) (sym is)
      ∙ ap (λ y. give (Sampled Sampler x) (over (record { state = state_in q; signal = y }))) (sym so))
      items tally (let k = ap (λ r. r.rounds) is in omega (arith, k)) (ap (λ r. r.config.feeds) is)) refl

module _ (a b : Account) (p : Progress) (elements : List Element) (number : ℕ) (at_failure : Signal) where
  pub no-unit : p.units ≡ 0 → Plays a p (λ s. with_unit s (sampling elements number at_failure)) (Stop SampleLimit) p a
  no-unit none = way-over (Stop SampleLimit) (way-start a p (λ s. with_unit s (sampling elements number at_failure)))
      (no-units (state_in p) (sampling elements number at_failure) none)

  -- its pipeline, with its package
  abbrev piped : Try Done
  piped = pipeline elements (scope_of elements number) number

  module _ (some : p.units ≡ 0 → ⊥) (user : UserState) where
    in_unit : OnWay a p (λ s. with_unit s (sampling elements number at_failure)) (sampling elements number at_failure) (record p { units = p.units - 1 }) a
    in_unit =
        let is : p.units ≡ suc (p.units - 1) = omega arith in
        way-move (sampling elements number at_failure) (record p { units = p.units - 1 }) (way-start a p (λ s. with_unit s (sampling elements number at_failure)))
        (one-unit (state_in p) (sampling elements number at_failure) (p.units - 1) is) refl refl (omega arith) refl

    pub sampler-runs : (done : Done) → Goes a (piped p.user) [] (over (fine done user)) b
        → (q : Progress) (result : Result Signal NoMemory) → IfOk result (λ signal. (c : Account) → Plays c (record p { units = p.units - 1; user = user }) (given number at_failure done) signal q c)
        → Runs a p (λ s. with_unit s (sampling elements number at_failure)) result q b
    sampler-runs done goes q result shows =
        way-shows q result (way-tried (record p { units = p.units - 1; user = user }) piped (given number at_failure) done in_unit refl goes refl) shows

    pub sampler-cut : (error : VarError) → Refused a (piped p.user) b (over (past_limit user)) error → error ≡ NoMemoryLeft → IsUnderWay a (with_unit (state_in p) (sampling elements number at_failure)) b
    sampler-cut error refused is = on-way-tried piped (given number at_failure) in_unit refl (at-memory refused is)

    pub sampler-refused : (error : VarError) → Refused a (piped p.user) b (over (past_limit user)) error → error ≡ ValueLimit
        → Plays a p (λ s. with_unit s (sampling elements number at_failure)) (Stop PastValueLimit) (record p { units = p.units - 1; user = user }) b
    sampler-refused error refused is =
        way-past (record p { units = p.units - 1; user = user }) piped (given number at_failure) in_unit refl (at-limit refused is) refl

-- ---- the start of a round of a group

module _ (a b : Account) (elements : List Element) (group : ℕ) (p q : Progress) (same : q ≡ record p { user = q.user; config = q.config }) (kept : q.config.feeds ≡ p.config.feeds) where
  abbrev before : Own
  before = record { units = p.units; rounds = p.rounds; places = p.places; config = p.config.places }

  abbrev starting : Run (Step Bool (List ℕ))
  starting = begin_round elements group p.config.places p.user

  came_to : (rest : Part) → Goes a (round_start elements group (state_in p)) [] (rest (state_of q.user (at_config before q.config.places))) b → OnWay a p (round_start elements group) rest q b
  came_to rest goes =
      way-silent rest q (way-start a p (round_start elements group))
      (subst (λ s. Goes a (round_start elements group (state_in p)) [] (rest s) b) (ap (λ (r : Progress). state_in r) (sym same)) goes)
      (ap (λ r. r.items.items) same) (ap (λ r. r.tally) same) (let k = ap (λ r. r.rounds) same in omega (arith, k)) kept

  -- the round goes on
  pub round-fed : (ok : Bool) → ok ≡ true → Goes a starting [] (answers ok q.config.places q.user) b → Plays a p (round_start elements group) Normal q b
  round-fed ok is goes = way-over Normal (came_to (where_fed ok) (goes-bind (on_fed before) goes)) (ap (λ x. where_fed x (state_in q)) is)

  -- or the thread stops
  pub round-out : (ok : Bool) → ok ≡ false → Goes a starting [] (answers ok q.config.places q.user) b → Plays a p (round_start elements group) (Stop StopThread) q b
  round-out ok is goes = way-over (Stop StopThread) (came_to (where_fed ok) (goes-bind (on_fed before) goes)) (ap (λ x. where_fed x (state_in q)) is)

  pub round-cut : (error : VarError) → Refused a starting b (step_past_limit q.config.places q.user) error → error ≡ NoMemoryLeft → IsUnderWay a (round_start elements group (state_in p)) b
  round-cut error refused is = in-bind (on_fed before) (at-memory refused is)

  pub round-refused : (error : VarError) → Refused a starting b (step_past_limit q.config.places q.user) error → error ≡ ValueLimit
      → Plays a p (round_start elements group) (Stop PastValueLimit) q b
  round-refused error refused is =
      way-over (Stop PastValueLimit) (came_to (λ s. over (stopped PastValueLimit s)) (goes-bind (on_fed before) (at-limit refused is))) refl
