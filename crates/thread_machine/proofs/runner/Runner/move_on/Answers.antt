use Rattle.std.proofs.Common.{ap, subst, refl, None, false}
use Rattle.std.proofs.lemmas.Result.{IfOk-weaker, IfErr-weaker}
use Rattle.control_machine.specs.declared.moves.Move.TheVariants.{RunSampler, TransactionSample, EnterSection}
use Rattle.control_machine.specs.Left.{IsLock}
use Rattle.thread_machine.specs.Standing.{state_in}
use Rattle.thread_machine.specs.Inside.{standing_of}
use Rattle.thread_machine.proofs.Steps.{finished, gives_behind, refused_behind, left_section}
use Rattle.thread_machine.proofs.Going.{moving_next, entering_next, left_goes, has_settled}
use Rattle.thread_machine.proofs.runner.Runner.move_on.Goals as goal

pub sample-requires-clause-moving : goal.sample-requires-clause-moving
sample-requires-clause-moving g c =
    let e = c.in-Ok-RunSampler.ensures in
    moving_next c.args.self.now c.next_move.new.self c.requires e.kept e.begun e.moved.stands e.moved.feeds (rw c.in-Ok-RunSampler.field-0-is at e.moved.lock)

pub returns-in-Ok-RunSampler-clause-gives : goal.returns-in-Ok-RunSampler-clause-gives
returns-in-Ok-RunSampler-clause-gives g c = IfOk-weaker c.sample.result _ _ (λ step given.
    gives_behind _ _ _ c.args.self.now c.next_move.new.self c.sample.new.self (state_in (standing_of c.next_move.new.self false)) c.in-Ok-RunSampler.field-0 (RunSampler c.in-Ok-RunSampler.number) step
    c.in-Ok-RunSampler.field-0-is c.in-Ok-RunSampler.ensures.came c.in-Ok-RunSampler.ensures.kept given) c.sample.ensures.gives

pub returns-in-Ok-RunSampler-clause-refused : goal.returns-in-Ok-RunSampler-clause-refused
returns-in-Ok-RunSampler-clause-refused g c = IfErr-weaker c.sample.result _ _ (λ error refused.
    refused_behind _ _ _ c.args.self.now c.next_move.new.self c.sample.new.self (state_in (standing_of c.next_move.new.self false)) c.in-Ok-RunSampler.field-0 (RunSampler c.in-Ok-RunSampler.number) error
    c.in-Ok-RunSampler.field-0-is c.in-Ok-RunSampler.ensures.came c.in-Ok-RunSampler.ensures.kept refused) c.sample.ensures.refused

pub sum_up-requires-clause-moving : goal.sum_up-requires-clause-moving
sum_up-requires-clause-moving g c =
    let e = c.in-Ok-TransactionSample.ensures in
    moving_next c.args.self.now c.next_move.new.self c.requires e.kept e.begun e.moved.stands e.moved.feeds (rw c.in-Ok-TransactionSample.field-0-is at e.moved.lock)

pub returns-in-Ok-TransactionSample-clause-gives : goal.returns-in-Ok-TransactionSample-clause-gives
returns-in-Ok-TransactionSample-clause-gives g c = IfOk-weaker c.sum_up.result _ _ (λ step given.
    gives_behind _ _ _ c.args.self.now c.next_move.new.self c.sum_up.new.self (state_in (standing_of c.next_move.new.self false)) c.in-Ok-TransactionSample.field-0 (TransactionSample c.in-Ok-TransactionSample.element c.in-Ok-TransactionSample.tally) step
    c.in-Ok-TransactionSample.field-0-is c.in-Ok-TransactionSample.ensures.came c.in-Ok-TransactionSample.ensures.kept given) (c.sum_up.ensures.gives _)

pub returns-in-Ok-TransactionSample-clause-refused : goal.returns-in-Ok-TransactionSample-clause-refused
returns-in-Ok-TransactionSample-clause-refused g c = IfErr-weaker c.sum_up.result _ _ (λ error refused.
    refused_behind _ _ _ c.args.self.now c.next_move.new.self c.sum_up.new.self (state_in (standing_of c.next_move.new.self false)) c.in-Ok-TransactionSample.field-0 (TransactionSample c.in-Ok-TransactionSample.element c.in-Ok-TransactionSample.tally) error
    c.in-Ok-TransactionSample.field-0-is c.in-Ok-TransactionSample.ensures.came c.in-Ok-TransactionSample.ensures.kept refused) (c.sum_up.ensures.refused _)

pub enter-requires : goal.enter-requires
enter-requires g c =
    let e = c.in-Ok-EnterSection.ensures in
    entering_next c.args.self.now c.next_move.new.self c.requires e.kept e.begun e.moved.stands e.moved.feeds c.in-Ok-EnterSection.lock (rw c.in-Ok-EnterSection.field-0-is at e.moved.lock) (rw c.in-Ok-EnterSection.field-0-is at e.moved.given)

pub returns-in-Ok-EnterSection-clause-gives : goal.returns-in-Ok-EnterSection-clause-gives
returns-in-Ok-EnterSection-clause-gives g c =
    gives_behind _ _ _ c.args.self.now c.next_move.new.self c.enter.new.self (state_in (standing_of c.next_move.new.self false)) c.in-Ok-EnterSection.field-0 (EnterSection c.in-Ok-EnterSection.lock) c.enter.result
    c.in-Ok-EnterSection.field-0-is c.in-Ok-EnterSection.ensures.came c.in-Ok-EnterSection.ensures.kept (c.enter.ensures.gives _)

pub returns-in-Ok-LeaveSection-clause-gives : goal.returns-in-Ok-LeaveSection-clause-gives
returns-in-Ok-LeaveSection-clause-gives g c =
    let e = c.in-Ok-LeaveSection.ensures in
    left_section _ _ c.args.self.now c.next_move.new.self (record c.next_move.new.self { section = None; trace = c.leave.new.self }) c.in-Ok-LeaveSection.lock c.in-Ok-LeaveSection.field-0 c.leave.result c.in-Ok-LeaveSection.field-0-is
    (subst (λ r. IsLock r.plan.now.elements c.in-Ok-LeaveSection.lock) e.kept (rw c.in-Ok-LeaveSection.field-0-is at e.moved.given))
    (rw c.in-Ok-LeaveSection.field-0-is at e.moved.lock).0 c.requires.pause c.requires.last e.came e.kept e.begun refl c.leave.ensures.items c.leave.ensures.step

pub returns-in-Ok-LeaveSection-clause-on : goal.returns-in-Ok-LeaveSection-clause-on
returns-in-Ok-LeaveSection-clause-on g c =
    let e = c.in-Ok-LeaveSection.ensures in
    left_goes c.args.self.now c.next_move.new.self (record c.next_move.new.self { section = None; trace = c.leave.new.self }) c.in-Ok-LeaveSection.lock c.leave.result c.leave.ensures.step c.requires
    e.kept e.begun refl c.leave.ensures.room e.moved.stands e.moved.feeds (rw c.in-Ok-LeaveSection.field-0-is at e.moved.lock).1

pub returns-in-Ok-Finished-clause-gives : goal.returns-in-Ok-Finished-clause-gives
returns-in-Ok-Finished-clause-gives g c =
    finished _ _ c.args.self.now c.next_move.new.self (record c.next_move.new.self { trace = c.finish.new.self }) (state_in (standing_of c.next_move.new.self false)) c.in-Ok-Finished.end c.in-Ok-Finished.field-0 c.finish.result
    c.in-Ok-Finished.field-0-is (rw c.in-Ok-Finished.field-0-is at c.in-Ok-Finished.ensures.moved.given) (rw c.in-Ok-Finished.field-0-is at c.in-Ok-Finished.ensures.moved.lock).0
    c.in-Ok-Finished.ensures.came c.in-Ok-Finished.ensures.kept refl c.finish.ensures.items c.finish.ensures.step

pub returns-in-Ok-Finished-clause-on : goal.returns-in-Ok-Finished-clause-on
returns-in-Ok-Finished-clause-on g c =
    let kept = c.in-Ok-Finished.ensures.kept in
    has_settled c.args.self.now (record c.next_move.new.self { trace = c.finish.new.self }) c.finish.result c.in-Ok-Finished.end c.finish.ensures.step (ap (λ r. r.owed) kept) (ap (λ r. r.entering) kept)
    (ap (λ r. r.section) kept) c.requires.owed c.requires.entering (rw c.in-Ok-Finished.field-0-is at c.in-Ok-Finished.ensures.moved.lock).0
