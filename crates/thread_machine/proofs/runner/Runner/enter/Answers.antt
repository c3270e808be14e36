use Rattle.std.proofs.Common.{◌-◌, refl}
use Rattle.jm_base.specs.declared.types.End.TheVariants.{SampleLimit}
use Rattle.thread_machine.proofs.Going.{has_settled, enters_goes}
use Rattle.thread_machine.proofs.Steps.{enters_none, enters_one}
use Rattle.thread_machine.proofs.runner.Runner.enter.Goals as goal

pub returns-then-self-eq0-clause-gives : goal.returns-then-self-eq0-clause-gives
returns-then-self-eq0-clause-gives c = λ a.
    enters_none c.args.self.now c.args.lock a c.requires.there c.requires.none_open (record c.args.self.now { trace = c.finish.new.self }) c.finish.result c.if-self-eq0.true refl c.finish.ensures.items c.finish.ensures.step

pub returns-then-self-eq0-clause-on : goal.returns-then-self-eq0-clause-on
returns-then-self-eq0-clause-on c =
    has_settled c.args.self.now (record c.args.self.now { trace = c.finish.new.self }) c.finish.result SampleLimit c.finish.ensures.step refl refl refl
    c.requires.owed c.requires.entering c.requires.none_open

pub returns-clause-gives : goal.returns-clause-gives
returns-clause-gives c = λ a.
    enters_one c.args.self.now c.args.lock a c.requires.there c.requires.none_open c.if-self-eq0.false c.requires.pause c.requires.last c.requires.begun

pub returns-clause-on : goal.returns-clause-on
returns-clause-on c =
    enters_goes c.args.self.now c.args.lock (c.args.self.now.units - 1) c.requires
