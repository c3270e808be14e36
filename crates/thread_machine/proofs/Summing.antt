-- What a transaction's sample makes of a thread.
use Rattle.std.proofs.Common.{◌≡◌, ℕ, ◌-◌, suc, true, false, [], Some, refl, sym, ap, ◌∙◌, subst, arith, None}
use Rattle.std.specs.Prelude.{slice_get, unwrap_or, IfSome}
use Rattle.std.specs.Option.{option_map}
use Rattle.jm_base.specs.declared.types.End.TheVariants.{SampleLimit}
use Rattle.jm_base.specs.declared.types.Sample.{Sample}
use Rattle.jm_base.specs.Run.{Run, over, give, Sampled, Transaction}
use Rattle.jm_base.specs.Outside.{Account, Goes}
use Rattle.jm_base.proofs.RunLaws.{goes-append, goes-give, goes-nothing}
use Rattle.thread_vars.specs.declared.error.VarError.TheVariants.{NoMemory}
use Rattle.var_functions.specs.Came.{by_memory}
use Rattle.element_tree.specs.Names.{label_of}
use Rattle.jm_meaning.specs.declared.transaction.Tally.{Tally}
use Rattle.jm_meaning.specs.State.{State, Own, Ending, state_of, stopped}
use Rattle.jm_meaning.specs.Transactions.{sample_by}
use Rattle.jm_meaning.specs.Sections.{leaving_open}
use Rattle.jm_meaning.specs.Meaning.{and_end}
use Rattle.jm_meaning.proofs.PartLaws.{no-units, one-unit}
use Rattle.control_machine.specs.declared.moves.Move.TheVariants.{TransactionSample}
use Rattle.control_machine.specs.Left.{here_in, left_after, left_of, moved, label_at, open_lock, IsTransaction, IsLock, StandsIn}
use Rattle.control_machine.proofs.StackLaws.{left_gives, stop_through}
use Rattle.thread_machine.specs.declared.runner.Runner.{Runner}
use Rattle.thread_machine.specs.declared.step.Step.{Step}
use Rattle.thread_machine.specs.declared.step.Step.TheVariants.{Sampled as SampledStep}
use Rattle.thread_machine.specs.Standing.{state_in, rest}
use Rattle.thread_machine.specs.Stepped.{entry_of, GivesSample, Gives}
use Rattle.thread_machine.specs.Inside.{standing_of}
use Rattle.thread_machine.specs.Ran.{is_end, IsRefusedAt, EndsBy}
use Rattle.thread_machine.proofs.Steps.{rest_on, left_on, same_self, limit_ends, limit_gives}

module _ (w : Runner) (number : ℕ) (tally : Tally) (r : IsTransaction w.plan.now.elements number) where
  abbrev label : ℕ
  label = label_at w.plan.now.elements number

  abbrev before : State
  before = state_in (standing_of w false)

  abbrev ending : Ending
  ending = record { state = before; signal = w.machine.signal }

  abbrev sum_run : Run Ending
  sum_run = moved w.plan.now w.machine before (TransactionSample number tally)

  -- no unit is left
  pub no_unit : (a : Account) (new : Runner) (step : Step) → w.units ≡ 0 → StandsIn w.plan.now w.machine → w.section ≡ open_lock w.machine.stack.frames → IfSome w.section (IsLock w.plan.now.elements)
      → EndsBy w.section w new SampleLimit step → Gives a a (and_end sum_run) (standing_of w false) (standing_of new (is_end step)) step
  no_unit a new step none stands lock known ends =
      let all : sum_run ≡ leaving_open w.section (over (stopped SampleLimit before)) =
      ap (left_after w.plan.now w.machine) (no-units before (λ s. give (Sampled Transaction (sample_by label tally)) (over (record { state = s; signal = w.machine.signal }))) none)
      ∙ stop_through (here_in w.plan.now w.machine) w.machine.group w.machine.stack.frames SampleLimit before refl stands.apart
      ∙ ap (λ o. leaving_open o (over (stopped SampleLimit before))) (sym lock) in
      limit_gives a a (and_end sum_run) w w new SampleLimit step tt known (same_self w) refl
      (subst (λ k. Goes a (and_end sum_run) [] k a) (ap and_end all ∙ limit_ends w.section SampleLimit before) (goes-nothing a (and_end sum_run))) ends

  -- a unit is used, and the sample is given
  module _ (some : w.units ≡ 0 → ⊥) (a : Account) where
    abbrev own : Own
    own = record { units = w.units - 1; rounds = w.machine.rounds; places = w.machine.places; config = w.config.places }

    some_units : w.units ≡ suc (w.units - 1)
    some_units = omega arith

    gave : sum_run ≡ give (Sampled Transaction (sample_by label tally)) (left_of w.plan.now w.machine (state_of w.user own))
    gave =
        ap (left_after w.plan.now w.machine) (one-unit before (λ s. give (Sampled Transaction (sample_by label tally)) (over (record { state = s; signal = w.machine.signal }))) (w.units - 1) some_units)
        ∙ left_gives (here_in w.plan.now w.machine) w.machine.group w.machine.stack.frames (Sampled Transaction (sample_by label tally)) (over (record { state = state_of w.user own; signal = w.machine.signal })) (λ t. refl)

    pub gave_sum : (sample : Sample) (l : ℕ) (new : Runner) (step : Step) → w.pause ≡ 0 → w.last ≡ None → w.begun ≡ true → sample ≡ sample_by l tally
        → IfSome (slice_get w.plan.now.elements number) (λ e. l ≡ label_of w.plan.now.elements e.name)
        → new ≡ record w { units = w.units - 1; owed = Some sample } → step ≡ SampledStep (entry_of sample)
        → Gives a a (and_end sum_run) (standing_of w false) (standing_of new (is_end step)) step
    gave_sum sample l new step paused last begun sample_is labels new_is step_is =
        let n : Runner = record w { units = w.units - 1; owed = Some sample } in
        let own_label : l ≡ label_of w.plan.now.elements r.element.name = rw r.there at labels in
        let at_number : label ≡ label_of w.plan.now.elements r.element.name =
        ap (λ o. unwrap_or (option_map (λ e. label_of w.plan.now.elements e.name) o) 0) r.there in
        let is : sample ≡ sample_by label tally = sample_is ∙ ap (λ k. sample_by k tally) (own_label ∙ sym at_number) in
        let left : rest (standing_of n false) ≡ and_end (left_of w.plan.now w.machine (state_of w.user own)) = rest_on n paused last ∙ ap and_end (left_on n begun) in
        let heard : Goes a (and_end sum_run) [] (give (Sampled Transaction sample) (rest (standing_of n false))) a =
        subst (λ k. Goes a (and_end sum_run) [] (give (Sampled Transaction k) (rest (standing_of n false))) a) (sym is)
        (subst (λ k. Goes a (and_end sum_run) [] (give (Sampled Transaction (sample_by label tally)) k) a) (sym left)
        (subst (λ k. Goes a (and_end sum_run) [] k a) (ap and_end gave) (goes-nothing a (and_end sum_run)))) in
        let g : GivesSample a a (and_end sum_run) (standing_of w false) (standing_of n false) (entry_of sample) = record {
          giver = Transaction;
          sample = sample;
          number = number;
          given_by = record { element = r.element; there = r.there; kind_is = r.kind; label_is = ap (λ s. s.label) sample_is ∙ own_label };
          paused = 0;
          goes = goes-append heard (goes-give a (Sampled Transaction sample) (rest (standing_of n false)));
          heard = heard;
          entry_is = refl;
          unit = omega (arith, some_units);
          new_is = ap (λ k. record (standing_of n false) { begun = k }) begun;
        } in
        subst (λ k. Gives a a (and_end sum_run) (standing_of w false) (standing_of new (is_end k)) k) (sym step_is)
        (subst (λ k. GivesSample a a (and_end sum_run) (standing_of w false) (standing_of k false) (entry_of sample)) (sym new_is) g)

  -- out of memory
  pub sum_wanting : (a : Account) → IsRefusedAt a sum_run a w w NoMemory
  sum_wanting a = record {
    state = before;
    refused = by_memory (_, goes-nothing a sum_run);
    same = same_self w;
    trace = refl;
  }
