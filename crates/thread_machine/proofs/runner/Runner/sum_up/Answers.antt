use Rattle.std.proofs.Common.{◌<◌, ◌-◌, length, ap, arith}
use Rattle.std.proofs.lemmas.Option.{slice_get_within}
use Rattle.jm_base.specs.declared.types.End.TheVariants.{SampleLimit}
use Rattle.thread_machine.specs.Stepped.{entry_of}
use Rattle.thread_machine.proofs.Going.{lock_open, ends_on, summed_goes}
use Rattle.thread_machine.proofs.Summing.{no_unit, gave_sum, sum_wanting}
use Rattle.thread_machine.proofs.runner.Runner.sum_up.Goals as goal

pub returns-then-self-eq0-clause-gives : goal.returns-then-self-eq0-clause-gives
returns-then-self-eq0-clause-gives c = λ a.
    no_unit c.args.self.now c.args.element c.args.tally c.requires.there a c.end_by.new.self c.end_by.result c.if-self-eq0.true c.requires.moving.moves.stands
    (lock_open c.args.self.now c.requires.moving.moves c.requires.moving.entering) c.requires.moving.known c.end_by.ensures.ends

pub returns-then-self-eq0-clause-on : goal.returns-then-self-eq0-clause-on
returns-then-self-eq0-clause-on c =
    ends_on c.args.self.now c.end_by.new.self SampleLimit c.end_by.result (tt {0}) c.requires.moving.owed c.requires.moving.entering (let r = c.requires.moving.room in omega (arith, r)) c.end_by.ensures.room c.end_by.ensures.ends

pub label_of-label-requires : goal.label_of-label-requires
label_of-label-requires c =
    let within : c.args.element < length c.args.self.now.plan.now.elements = slice_get_within c.args.self.now.plan.now.elements c.args.element c.requires.there.element c.requires.there.there in
    within

pub returns-in_default-clause-refused : goal.returns-in_default-clause-refused
returns-in_default-clause-refused c = λ a. sum_wanting c.args.self.now c.args.element c.args.tally c.requires.there a

pub returns-clause-gives : goal.returns-clause-gives
returns-clause-gives c = λ a.
    gave_sum c.args.self.now c.args.element c.args.tally c.requires.there c.if-self-eq0.false a c.in-Ok.sum c.label_of-label.result (record c.args.self.now { units = c.args.self.now.units - 1; owed = c.owe.new.owed }) c.owe.result
    c.requires.moving.pause c.requires.moving.last c.requires.begun c.in-Ok.ensures c.label_of-label.ensures (ap (λ o. record c.args.self.now { units = c.args.self.now.units - 1; owed = o }) c.owe.ensures.owed) c.owe.ensures.step

pub returns-clause-on : goal.returns-clause-on
returns-clause-on c =
    summed_goes c.args.self.now c.requires.moving c.requires.begun
    (record c.args.self.now { units = c.args.self.now.units - 1; owed = c.owe.new.owed }) c.in-Ok.sum (entry_of c.in-Ok.sum) c.owe.result c.owe.ensures.step (ap (λ o. record c.args.self.now { units = c.args.self.now.units - 1; owed = o }) c.owe.ensures.owed)
