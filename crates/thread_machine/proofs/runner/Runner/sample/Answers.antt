use Rattle.std.proofs.Common.{◌≡◌, ◌-◌, ◌∙◌, ◌∷◌, ◌++◌, [], ap, Some, None, arith}
use Rattle.jm_base.specs.declared.types.End.TheVariants.{SampleLimit}
use Rattle.thread_machine.specs.declared.trace.TraceItem.TheVariants.{Null}
use Rattle.thread_machine.specs.Stepped.{entry_of, trace_paused}
use Rattle.thread_machine.proofs.Going.{lock_open, ends_on, sampled_goes, null_goes}
use Rattle.thread_machine.proofs.Samplers.{unit_wanting, told_owed, gave_sample, gave_none, refused_there}
use Rattle.thread_machine.proofs.Tables.{table_has}
use Rattle.thread_machine.proofs.runner.Runner.sample.Goals as goal

pub returns-then-self-eq0-clause-gives : goal.returns-then-self-eq0-clause-gives
returns-then-self-eq0-clause-gives g c =
    let w = c.args.self.now in
    unit_wanting w c.args.number c.requires.there _ c.end_by.new.self c.end_by.result c.if-self-eq0.true c.requires.moving.moves.stands
    (lock_open w c.requires.moving.moves c.requires.moving.entering) c.requires.moving.known c.end_by.ensures.ends

pub returns-then-self-eq0-clause-on : goal.returns-then-self-eq0-clause-on
returns-then-self-eq0-clause-on g c =
    let w = c.args.self.now in
    ends_on w c.end_by.new.self SampleLimit c.end_by.result (tt {0}) c.requires.moving.owed c.requires.moving.entering
    (let r = c.requires.moving.room in omega (arith, r)) c.end_by.ensures.room c.end_by.ensures.ends

pub package-requires : goal.package-requires
package-requires g c = table_has c.args.self.now.plan.now.elements c.args.self.now.table c.args.number c.requires.moving.moves.table c.requires.there

pub returns-in-Some-clause-gives : goal.returns-in-Some-clause-gives
returns-in-Some-clause-gives g c =
    let w = c.args.self.now in
    let found : c.in-Ok.field-0.sample ≡ Some c.in-Some.sample = (let a = c.in-Ok.sample-is in let b = c.in-Some.is in cc) in
    let items : c.put_pause.new.self.items ≡ trace_paused w.trace.items c.in-Ok.field-0.paused = (let a = c.in-Ok.paused-is in let b = c.put_pause.ensures.items in cc) in
    gave_sample w c.args.number c.requires.there c.if-self-eq0.false _ _ c.run.new.state c.requires.moving.moves.stands (lock_open w c.requires.moving.moves c.requires.moving.entering)
    c.in-Ok.field-0 c.in-Some.sample c.put_pause.new.self
    (record w { user = c.run.new.state; units = w.units - 1; trace = c.put_pause.new.self; machine = c.after.new.self; owed = c.owe.new.owed }) c.owe.result
    c.requires.moving.pause c.requires.moving.last c.requires.begun found c.in-Ok.ensures.label (rw (c.package.ensures c.args.self.now.plan.now.elements c.requires.moving.moves.table) at c.in-Ok.ensures.came) items
    (told_owed (record w { user = c.run.new.state; units = w.units - 1; trace = c.put_pause.new.self }) c.in-Some.sample c.owe.new.owed c.after.new.self c.owe.ensures.owed c.after.ensures.told) c.owe.ensures.step

pub returns-in-Some-clause-on : goal.returns-in-Some-clause-on
returns-in-Some-clause-on g c =
    let w = c.args.self.now in
    sampled_goes w c.requires.moving c.requires.begun c.run.new.state c.put_pause.new.self c.put_pause.ensures.room
    (record w { user = c.run.new.state; units = w.units - 1; trace = c.put_pause.new.self; machine = c.after.new.self; owed = c.owe.new.owed }) c.in-Some.sample (entry_of c.in-Some.sample) c.owe.result c.owe.ensures.step
    (told_owed (record w { user = c.run.new.state; units = w.units - 1; trace = c.put_pause.new.self }) c.in-Some.sample c.owe.new.owed c.after.new.self c.owe.ensures.owed c.after.ensures.told)
    (c.after.ensures.stands w.plan.now) c.after.ensures.lock

pub returns-in-None-clause-gives : goal.returns-in-None-clause-gives
returns-in-None-clause-gives g c =
    let w = c.args.self.now in
    let found : c.in-Ok.field-0.sample ≡ None = (let a = c.in-Ok.sample-is in let b = c.in-None.is in cc) in
    let items : c.put_pause.new.self.items ≡ trace_paused w.trace.items c.in-Ok.field-0.paused = (let a = c.in-Ok.paused-is in let b = c.put_pause.ensures.items in cc) in
    gave_none w c.args.number c.requires.there c.if-self-eq0.false _ _ c.run.new.state c.requires.moving.moves.stands (lock_open w c.requires.moving.moves c.requires.moving.entering)
    c.in-Ok.field-0 c.put.new.self c.requires.moving.pause c.requires.moving.last c.requires.begun c.requires.normal found (rw (c.package.ensures c.args.self.now.plan.now.elements c.requires.moving.moves.table) at c.in-Ok.ensures.came)
    (c.put.ensures.items ∙ ap (λ xs. xs ++ Null c.args.number ∷ []) items)

pub returns-in-None-clause-on : goal.returns-in-None-clause-on
returns-in-None-clause-on g c =
    null_goes c.args.self.now c.requires.moving c.requires.begun c.run.new.state c.put_pause.new.self c.put_pause.ensures.room c.put.new.self c.put.ensures.room

pub returns-in-Err-clause-refused : goal.returns-in-Err-clause-refused
returns-in-Err-clause-refused g c =
    refused_there c.args.self.now c.args.number c.requires.there c.if-self-eq0.false _ _ c.run.new.state c.requires.moving.moves.stands
    (lock_open c.args.self.now c.requires.moving.moves c.requires.moving.entering) c.in-Err.error (rw (c.package.ensures c.args.self.now.plan.now.elements c.requires.moving.moves.table) at c.in-Err.ensures.came)
