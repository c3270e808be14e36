-- What a sampler makes of a thread.
use Rattle.std.proofs.Common.{◌≡◌, ℕ, ◌-◌, suc, true, false, [], ◌∷◌, ◌++◌, List, Option, Some, None, zero, refl, sym, ap, ◌∙◌, subst, arith}
use Rattle.std.specs.Prelude.{slice_get, unwrap_or, Result, Ok, Err, IfSome}
use Rattle.std.specs.Option.{option_map}
use Rattle.jm_base.specs.declared.types.End.TheVariants.{SampleLimit}
use Rattle.jm_base.specs.declared.types.Sample.{Sample}
use Rattle.jm_base.specs.Run.{Run, over, give, Event, Waited, Sampled, Nothing, Ended, Sampler}
use Rattle.jm_base.specs.Outside.{Account, Goes}
use Rattle.jm_base.proofs.RunLaws.{goes-append, goes-bind, goes-give, goes-nothing}
use Rattle.thread_vars.specs.declared.error.VarError.{VarError}
use Rattle.var_functions.specs.declared.state.UserState.{UserState}
use Rattle.var_functions.specs.Came.{CameTo}
use Rattle.var_functions.proofs.CameLaws.{came-bind}
use Rattle.element_tree.specs.declared.kinds.Element.{Element}
use Rattle.element_tree.specs.declared.kinds.Kind.{Kind}
use Rattle.element_tree.specs.declared.kinds.Kind.TheVariants.{Script, Http}
use Rattle.element_tree.specs.Names.{label_of}
use Rattle.element_tree.specs.Tree.{Tree}
use Rattle.jm_meaning.specs.declared.signal.Signal.{Signal}
use Rattle.jm_meaning.specs.declared.signal.Signal.TheVariants.{Normal}
use Rattle.jm_meaning.specs.State.{State, Own, Ending, Try, state_of, normal, stopped, with_unit, fine, past_limit, on_came}
use Rattle.scope_resolver.specs.Scoping.{scope_of}
use Rattle.sampler_pipeline.specs.declared.run.Done.{Done}
use Rattle.sampler_pipeline.specs.SamplerPipeline.{pipeline, label_at}
use Rattle.jm_meaning.specs.Sampling.{sampling, given_sample, given, after_waited, after_sample}
use Rattle.jm_meaning.specs.Sections.{leaving_open}
use Rattle.jm_meaning.specs.Meaning.{Here, and_end, end_of}
use Rattle.jm_meaning.proofs.PartLaws.{no-units, one-unit}
use Rattle.open_elements.specs.Moves.{past}
use Rattle.open_elements.specs.Entering.{kind_part, IsSamplerKind}
use Rattle.control_machine.specs.declared.position.Position.{Position}
use Rattle.control_machine.specs.declared.moves.Move.TheVariants.{RunSampler}
use Rattle.control_machine.specs.Opened.{Opened}
use Rattle.control_machine.specs.Hearing.{told}
use Rattle.control_machine.specs.Left.{here_in, left_in, left_after, left_of, moved, sampler_part, open_lock, IsSampler, IsLock, StandsIn}
use Rattle.thread_machine.specs.declared.trace.TraceItem.TheVariants.{Null as NullItem}
use Rattle.thread_machine.specs.declared.runner.Runner.{Runner}
use Rattle.thread_machine.specs.declared.step.Step.{Step}
use Rattle.thread_machine.specs.declared.step.Step.TheVariants.{Sampled as SampledStep}
use Rattle.thread_machine.specs.Recorded.{Recorded}
use Rattle.thread_machine.specs.Standing.{state_in, rest}
use Rattle.thread_machine.specs.Stepped.{entry_of, trace_paused, events_paused, events_waited, IsGiver, GivesSample, GivesNone, Gives}
use Rattle.thread_machine.specs.Inside.{standing_of}
use Rattle.thread_machine.specs.Ran.{is_end, IsRefusedAt, EndsBy}
use Rattle.control_machine.proofs.StackLaws.{left_gives, left_hears, stop_through}
use Rattle.thread_machine.proofs.StackLaws.{came_left}
use Rattle.thread_machine.proofs.Labels.{sampler_class}
use Rattle.thread_machine.proofs.Steps.{rest_on, left_on, same_self, limit_ends, limit_gives}

module _ (here : Here) (number : ℕ) (s : State) (e : Element) where
  by_kind : (k : Kind) → IsSamplerKind k → kind_part here number e k s ≡ with_unit s (sampling here.plan.elements number here.at_failure)
  by_kind (Script replies request) is = refl
  by_kind (Http body host method params path port replies) is = refl
  by_kind k is = absurd is

  sampler-is : slice_get here.plan.elements number ≡ Some e → IsSamplerKind e.kind
      → sampler_part here number (slice_get here.plan.elements number) s ≡ with_unit s (sampling here.plan.elements number here.at_failure)
  sampler-is there is = ap (λ o. sampler_part here number o s) there ∙ by_kind e.kind is

-- a sampler's event, and the machine after it
abbrev event_of : ℕ → Option Sample → Event
event_of number None = Nothing number
event_of number (Some sample) = Sampled Sampler sample

abbrev stack_behind : Position → Option Sample → Opened
stack_behind m None = m.stack
stack_behind m (Some sample) = (told sample m).stack

abbrev signal_after : Signal → Option Sample → Signal
signal_after failure None = Normal
signal_after failure (Some sample) = after_sample sample.ok failure

abbrev machine_behind : Position → Option Sample → Position
machine_behind m o = record m { stack = stack_behind m o; signal = signal_after m.at_failure o }

-- the sample is given, or that there is none
given_at : (plan : Tree) (m : Position) (number : ℕ) (s : State) (o : Option Sample)
    → left_after plan m (given_sample number m.at_failure o s) ≡ give (event_of number o) (left_of plan (machine_behind m o) s)
given_at plan m number s None = left_gives (here_in plan m) m.group m.stack.frames (Nothing number) (over (normal s)) (λ t. refl)
given_at plan m number s (Some sample) =
    left_hears (here_in plan m) sample m.group m.stack.frames (over (record { state = s; signal = after_sample sample.ok m.at_failure }))

-- after the pause
given_all : (a : Account) (plan : Tree) (m : Position) (number : ℕ) (s : State) (o : Option Sample) (ms : ℕ)
    → Goes a (left_after plan m (after_waited ms (given_sample number m.at_failure o s))) (events_waited ms) (give (event_of number o) (left_of plan (machine_behind m o) s)) a
given_all a plan m number s o zero =
    subst (λ k. Goes a (left_after plan m (given_sample number m.at_failure o s)) [] k a) (given_at plan m number s o) (goes-nothing a (left_after plan m (given_sample number m.at_failure o s)))
given_all a plan m number s o (suc ms) =
    let waited : left_after plan m (give (Waited (suc ms)) (given_sample number m.at_failure o s)) ≡ give (Waited (suc ms)) (give (event_of number o) (left_of plan (machine_behind m o) s)) =
    left_gives (here_in plan m) m.group m.stack.frames (Waited (suc ms)) (given_sample number m.at_failure o s) (λ t. refl) ∙ ap (give (Waited (suc ms))) (given_at plan m number s o) in
    subst (λ k. Goes a k (Waited (suc ms) ∷ []) (give (event_of number o) (left_of plan (machine_behind m o) s)) a) (sym waited)
    (goes-give a (Waited (suc ms)) (give (event_of number o) (left_of plan (machine_behind m o) s)))

-- an event after a pause, and then what is left
paused_goes : {A : Type 0} {a b : Account} (ms : ℕ) (e : Event) (run left : Run A) → Goes a run (events_waited ms) (give e left) b → Goes a run (events_paused ms (e ∷ [])) left b
paused_goes {b = b} zero e run left g = goes-append g (goes-give b e left)
paused_goes {b = b} (suc ms) e run left g = goes-append g (goes-give b e left)

at_some : {X : Type 0} (o : Option X) (x : X) (P : X → Type 0) → o ≡ Some x → IfSome o P → P x
at_some o x P is h = subst (λ o. IfSome o P) is h

-- the machine is told of a sample, which is owed
pub told_owed : (w : Runner) (sample : Sample) (owed : Option Sample) (machine : Position) → owed ≡ Some sample → machine ≡ told sample w.machine
    → record w { owed = owed; machine = machine } ≡ record w { owed = Some sample; machine = told sample w.machine }
told_owed w sample owed machine owed_is machine_is = ap (λ o. record w { owed = o; machine = machine }) owed_is ∙ ap (λ m. record w { owed = Some sample; machine = m }) machine_is

module _ (w : Runner) (number : ℕ) (r : IsSampler w.plan.now.elements number) where
  abbrev sampler_run : Run Ending
  sampler_run = moved w.plan.now w.machine (state_in (standing_of w false)) (RunSampler number)

  -- no unit is left
  pub unit_wanting : (a : Account) (new : Runner) (step : Step) → w.units ≡ 0 → StandsIn w.plan.now w.machine → w.section ≡ open_lock w.machine.stack.frames → IfSome w.section (IsLock w.plan.now.elements)
      → EndsBy w.section w new SampleLimit step → Gives a a (and_end sampler_run) (standing_of w false) (standing_of new (is_end step)) step
  unit_wanting a new step none stands lock known ends =
      let s : State = state_in (standing_of w false) in
      let here : Here = here_in w.plan.now w.machine in
      let part : sampler_part here number (slice_get w.plan.now.elements number) s ≡ over (stopped SampleLimit s) =
      sampler-is here number s r.element r.there r.of_kind ∙ no-units s (sampling w.plan.now.elements number w.machine.at_failure) none in
      let all : sampler_run ≡ leaving_open w.section (over (stopped SampleLimit s)) =
      ap (left_in here w.machine.group w.machine.stack.frames) part ∙ stop_through here w.machine.group w.machine.stack.frames SampleLimit s refl stands.apart
      ∙ ap (λ o. leaving_open o (over (stopped SampleLimit s))) (sym lock) in
      limit_gives a a (and_end sampler_run) w w new SampleLimit step tt known (same_self w) refl
      (subst (λ k. Goes a (and_end sampler_run) [] k a) (ap and_end all ∙ limit_ends w.section SampleLimit s) (goes-nothing a (and_end sampler_run))) ends

  abbrev piped : Try Done
  piped = pipeline w.plan.now.elements (scope_of w.plan.now.elements number) number

  module _ (some : w.units ≡ 0 → ⊥) (a b : Account) (user : UserState) (stands : StandsIn w.plan.now w.machine) (lock : w.section ≡ open_lock w.machine.stack.frames) where
    abbrev own : Own
    own = record { units = w.units - 1; rounds = w.machine.rounds; places = w.machine.places; config = w.config.places }

    some_units : w.units ≡ suc (w.units - 1)
    some_units = omega arith

    -- a unit is used
    unit_used : sampler_part (here_in w.plan.now w.machine) number (slice_get w.plan.now.elements number) (state_in (standing_of w false))
        ≡ sampling w.plan.now.elements number w.machine.at_failure (state_of w.user own)
    unit_used =
        sampler-is (here_in w.plan.now w.machine) number (state_in (standing_of w false)) r.element r.there r.of_kind
        ∙ one-unit (state_in (standing_of w false)) (sampling w.plan.now.elements number w.machine.at_failure) (w.units - 1) some_units

    -- and the sampler has run
    ran : (res : Result Done VarError) → CameTo a (piped w.user) b (λ done. over (fine done user)) (over (past_limit user)) res
        → CameTo a sampler_run b (λ done. left_after w.plan.now w.machine (given number w.machine.at_failure done (state_of user own))) (leaving_open w.section (past (state_of user own))) res
    ran res came =
        subst (λ o. CameTo a sampler_run b (λ done. left_after w.plan.now w.machine (given number w.machine.at_failure done (state_of user own))) (leaving_open o (past (state_of user own))) res) (sym lock)
        (came_left (here_in w.plan.now w.machine) w.machine.group w.machine.stack.frames a b
        (sampler_part (here_in w.plan.now w.machine) number (slice_get w.plan.now.elements number) (state_in (standing_of w false)))
        (λ done. given number w.machine.at_failure done (state_of user own)) (state_of user own) res stands.apart
        (subst (λ k. CameTo a k b (λ done. given number w.machine.at_failure done (state_of user own)) (past (state_of user own)) res) (sym unit_used)
        (came-bind a b (piped w.user) (λ done. over (fine done user)) (over (past_limit user)) res (on_came own (given number w.machine.at_failure)) came)))

    -- its events are given, and what is left is left
    gave : (done : Done) (new : Runner) → w.pause ≡ 0 → w.last ≡ None → w.begun ≡ true → Goes a (piped w.user) [] (over (fine done user)) b
        → new ≡ record w { user = user; units = w.units - 1; machine = machine_behind w.machine done.sample; owed = new.owed; trace = new.trace }
        → Goes a (and_end sampler_run) (events_waited done.paused) (give (event_of number done.sample) (rest (standing_of new false))) b
    gave done new paused last begun goes new_is =
        let m : Position = machine_behind w.machine done.sample in
        let es : List Event = events_waited done.paused in
        let e : Event = event_of number done.sample in
        let at : Runner = record w { user = user; units = w.units - 1; machine = m; owed = new.owed; trace = new.trace } in
        let one : Goes a sampler_run [] (left_after w.plan.now w.machine (given number w.machine.at_failure done (state_of user own))) b = ran (Ok done) goes in
        let two : Goes a sampler_run es (give e (left_of w.plan.now m (state_of user own))) b =
        goes-append one (given_all b w.plan.now w.machine number (state_of user own) done.sample done.paused) in
        let three : Goes a (and_end sampler_run) es (give e (and_end (left_of w.plan.now m (state_of user own)))) b = goes-bind (λ e. give (Ended (end_of e.signal)) (over tt)) two in
        let left : rest (standing_of at false) ≡ and_end (left_of w.plan.now m (state_of user own)) = rest_on at paused last ∙ ap and_end (left_on at begun) in
        subst (λ n. Goes a (and_end sampler_run) es (give e (rest (standing_of n false))) b) (sym new_is)
        (subst (λ k. Goes a (and_end sampler_run) es (give e k) b) (sym left) three)

    abbrev own_label : ℕ
    own_label = label_of w.plan.now.elements r.element.name

    label_is : label_at w.plan.now.elements number ≡ own_label
    label_is = ap (λ o. unwrap_or (option_map (λ e. label_of w.plan.now.elements e.name) o) 0) r.there

    sampler_of : (n : ℕ) → n ≡ label_at w.plan.now.elements number → IsGiver Sampler w.plan.now number n
    sampler_of n is = record { element = r.element; there = r.there; kind_is = sampler_class r.element.kind r.of_kind; label_is = is ∙ label_is }

    -- a sample
    pub gave_sample : (done : Done) (sample : Sample) (t : Recorded) (new : Runner) (step : Step) → w.pause ≡ 0 → w.last ≡ None → w.begun ≡ true → done.sample ≡ Some sample
        → IfSome done.sample (λ s. s.label ≡ label_at w.plan.now.elements number)
        → Goes a (piped w.user) [] (over (fine done user)) b → t.items ≡ trace_paused w.trace.items done.paused
        → new ≡ record w { user = user; units = w.units - 1; owed = Some sample; machine = told sample w.machine; trace = t }
        → step ≡ SampledStep (entry_of sample) → Gives a b (and_end sampler_run) (standing_of w false) (standing_of new (is_end step)) step
    gave_sample done sample t new step paused last begun o_is labelled goes items new_is step_is =
        let n : Runner = record w { user = user; units = w.units - 1; owed = Some sample; machine = told sample w.machine; trace = t } in
        let d : Done = record { sample = Some sample; paused = done.paused } in
        let same : done ≡ d = ap (λ o. record { sample = o; paused = done.paused }) o_is in
        let at_sample : Goes a (piped w.user) [] (over (fine d user)) b = subst (λ k. Goes a (piped w.user) [] (over (fine k user)) b) same goes in
        let heard : Goes a (and_end sampler_run) (events_waited done.paused) (give (Sampled Sampler sample) (rest (standing_of n false))) b = gave d n paused last begun at_sample refl in
        let g : GivesSample a b (and_end sampler_run) (standing_of w false) (standing_of n false) (entry_of sample) = record {
          giver = Sampler;
          sample = sample;
          number = number;
          given_by = sampler_of sample.label (at_some done.sample sample (λ s. s.label ≡ label_at w.plan.now.elements number) o_is labelled);
          paused = done.paused;
          goes = paused_goes done.paused (Sampled Sampler sample) (and_end sampler_run) (rest (standing_of n false)) heard;
          heard = heard;
          entry_is = refl;
          unit = omega (arith, some_units);
          new_is = ap (λ k. record (standing_of n false) { begun = k }) begun ∙ ap (λ k. record (standing_of n false) { begun = true; trace = k }) items;
        } in
        subst (λ k. Gives a b (and_end sampler_run) (standing_of w false) (standing_of new (is_end k)) k) (sym step_is)
        (subst (λ k. GivesSample a b (and_end sampler_run) (standing_of w false) (standing_of k false) (entry_of sample)) (sym new_is) g)

    -- none
    pub gave_none : (done : Done) (t : Recorded) → w.pause ≡ 0 → w.last ≡ None → w.begun ≡ true → w.machine.signal ≡ Normal → done.sample ≡ None → Goes a (piped w.user) [] (over (fine done user)) b
        → t.items ≡ trace_paused w.trace.items done.paused ++ NullItem number ∷ []
        → GivesNone a b (and_end sampler_run) (standing_of w false) (standing_of (record w { user = user; units = w.units - 1; trace = t }) false)
    gave_none done t paused last begun calm o_is goes items =
        let n : Runner = record w { user = user; units = w.units - 1; trace = t } in
        let d : Done = record { sample = None; paused = done.paused } in
        let same : done ≡ d = ap (λ o. record { sample = o; paused = done.paused }) o_is in
        let at_none : Goes a (piped w.user) [] (over (fine d user)) b = subst (λ k. Goes a (piped w.user) [] (over (fine k user)) b) same goes in
        let heard : Goes a (and_end sampler_run) (events_waited done.paused) (give (Nothing number) (rest (standing_of n false))) b =
        gave d n paused last begun at_none (ap (λ k. record n { machine = record w.machine { signal = k } }) calm) in
        record {
          number = number;
          label = label_at w.plan.now.elements number;
          sampler = sampler_of (label_at w.plan.now.elements number) refl;
          paused = done.paused;
          goes = paused_goes done.paused (Nothing number) (and_end sampler_run) (rest (standing_of n false)) heard;
          heard = heard;
          unit = omega (arith, some_units);
          new_is = ap (λ k. record (standing_of n false) { begun = k }) begun ∙ ap (λ k. record (standing_of n false) { begun = true; trace = k }) items;
        }

    -- a refusal
    pub refused_there : (error : VarError) → CameTo {B = Done} a (piped w.user) b (λ done. over (fine done user)) (over (past_limit user)) (Err error)
        → IsRefusedAt a sampler_run b w (record w { user = user; units = w.units - 1 }) error
    refused_there error came = record {
      state = state_of user own;
      refused = ran (Err error) came;
      same = record { plan = refl; thread = refl; pause = refl; owed = refl; entering = refl; section = refl; last = refl; fewer = omega arith };
      trace = refl;
    }
