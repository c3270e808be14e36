use Rattle.std.proofs.Common.{◌≡◌, false, true, refl, ap, sym, ◌∙◌, subst}
use Rattle.jm_base.specs.declared.types.End.TheVariants.{NoMemory}
use Rattle.thread_machine.specs.declared.step.Step.TheVariants.{Ended}
use Rattle.thread_machine.specs.Inside.{standing_of, IsSound}
use Rattle.thread_machine.specs.Stepped.{Steps}
use Rattle.thread_machine.proofs.Counts.{spent_behind}
use Rattle.thread_machine.proofs.Ends.{stands_after}
use Rattle.thread_machine.proofs.Sound.{begun_going, sound_behind, sound_cut}
use Rattle.thread_machine.proofs.Steps.{cut_ended}
use Rattle.thread_machine.proofs.worker.Worker.step.Goals as goal

pub try_step-requires-clause-on : goal.try_step-requires-clause-on
try_step-requires-clause-on g c =
    let going : c.self.inside.ended ≡ false = ap (λ s. s.ended) c.self.view_is ∙ c.requires.going in
    (rw going at c.self.invariant).going refl

pub invariant_of-self : goal.invariant_of-self
invariant_of-self g c =
    let going : c.self.inside.ended ≡ false = ap (λ s. s.ended) c.self.view_is ∙ c.requires.going in
    let owed = ap (λ s. s.owed) c.self.view_is ∙ c.requires.owed in
    rw c.is_end-self-inside.ensures
    (sound_behind _ _ c.self.inside.runner c.try_step.new.self (rw going at c.self.invariant) owed c.in-Ok.step c.in-Ok.ensures.steps c.in-Ok.ensures.on)

pub returns-in-Ok-clause-steps : goal.returns-in-Ok-clause-steps
returns-in-Ok-clause-steps g c =
    let going : c.self.inside.ended ≡ false = ap (λ s. s.ended) c.self.view_is ∙ c.requires.going in
    rw (← c.self.view_is, going, c.is_end-self-inside.ensures) c.in-Ok.ensures.steps

pub returns-in-Ok-clause-stands : goal.returns-in-Ok-clause-stands
returns-in-Ok-clause-stands g c = λ start options stands.
    let going : c.self.inside.ended ≡ false = ap (λ s. s.ended) c.self.view_is ∙ c.requires.going in
    let s = returns-in-Ok-clause-steps g c in
    stands_after start _ _ options _ _ c.in-Ok.step c.requires.owed c.requires.entering s
    (begun_going _ _ c.self.inside.runner _ s.between (rw going at c.self.invariant) (subst (λ e. standing_of c.self.inside.runner e ≡ c.args.self.now) going c.self.view_is) s.begins) stands

pub returns-in-Ok-clause-units : goal.returns-in-Ok-clause-units
returns-in-Ok-clause-units g c =
    spent_behind _ _ _ _ c.in-Ok.step c.requires.owed c.requires.entering (returns-in-Ok-clause-steps g c)

pub returns-in-Err-clause-steps : goal.returns-in-Err-clause-steps
returns-in-Err-clause-steps g c =
    let going : c.self.inside.ended ≡ false = ap (λ s. s.ended) c.self.view_is ∙ c.requires.going in
    rw (← c.self.view_is, going)
    (subst (λ r. Steps (g.O.Outside.account c.args.outside.now) (g.O.Outside.account c.try_step.new.outside) (standing_of c.self.inside.runner false) (standing_of r true) (Ended NoMemory)) (sym c.cut.ensures.kept)
    (cut_ended _ _ c.self.inside.runner c.try_step.new.self c.cut.new.self.trace c.in-Err.ensures.cut c.cut.ensures.items))

pub returns-in-Err-clause-stands : goal.returns-in-Err-clause-stands
returns-in-Err-clause-stands g c = λ start options stands.
    let going : c.self.inside.ended ≡ false = ap (λ s. s.ended) c.self.view_is ∙ c.requires.going in
    let s = returns-in-Err-clause-steps g c in
    stands_after start _ _ options _ _ (Ended NoMemory) c.requires.owed c.requires.entering s
    (begun_going _ _ c.self.inside.runner _ s.between (rw going at c.self.invariant) (subst (λ e. standing_of c.self.inside.runner e ≡ c.args.self.now) going c.self.view_is) s.begins) stands

pub returns-in-Err-clause-units : goal.returns-in-Err-clause-units
returns-in-Err-clause-units g c = spent_behind _ _ _ _ (Ended NoMemory) c.requires.owed c.requires.entering (returns-in-Err-clause-steps g c)

pub invariant_of-self-in-Err : goal.invariant_of-self-in-Err
invariant_of-self-in-Err g c =
    let going : c.self.inside.ended ≡ false = ap (λ s. s.ended) c.self.view_is ∙ c.requires.going in
    let owed = ap (λ s. s.owed) c.self.view_is ∙ c.requires.owed in
    let entering = ap (λ s. s.entering) c.self.view_is ∙ c.requires.entering in
    subst (λ r. IsSound r true) (sym c.cut.ensures.kept)
    (sound_cut _ _ c.self.inside.runner c.try_step.new.self c.cut.new.self.trace (rw going at c.self.invariant) owed entering c.in-Err.ensures.cut c.cut.ensures.items)
