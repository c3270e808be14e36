use Rattle.std.proofs.Common.{Some, refl, sym, ap, subst}
use Rattle.std.specs.Prelude.{IsSome}
use Rattle.weave_engine.specs.declared.seat.Owed.TheVariants as by
use Rattle.weave_engine.proofs.LoadLaws.{entered_lightens}
use Rattle.weave_engine.proofs.SeatLaws.{entered_is, some_entering, worker_entered}
use Rattle.weave_engine.proofs.WriteLaws.{entered_out}
use Rattle.weave_engine.proofs.FollowLaws.{entered_keeps}
use Rattle.weave_engine.proofs.seat.Seat.entered.Goals as goal

pub entered-requires : goal.entered-requires
entered-requires c = subst IsSome (sym (some_entering c.args.self.now c.args.lock c.requires.is c.requires.owed)) refl

pub returns-clause-entered : goal.returns-clause-entered
returns-clause-entered c = λ t is. entered_is c.args.self.now _ t c.args.lock c.args.place is c.requires.owed c.entered.ensures.item refl refl refl refl refl

pub returns-clause-section : goal.returns-clause-section
returns-clause-section c = ap (λ w. w.section) (worker_entered c.args.self.now c.entered.new.self c.args.lock c.args.place c.requires.is c.requires.owed c.entered.ensures.item)

pub returns-clause-thread : goal.returns-clause-thread
returns-clause-thread c =
    let w = worker_entered c.args.self.now c.entered.new.self c.args.lock c.args.place c.requires.is c.requires.owed c.entered.ensures.item in
    record { number = ap (λ w. w.thread) w; plan = ap (λ w. w.plan) w }

pub returns-clause-lighter : goal.returns-clause-lighter
returns-clause-lighter c = entered_lightens c.args.self.now (record c.args.self.now { worker = c.entered.new.self; owed = by.Nothing; section = Some c.args.lock }) c.args.lock c.args.place c.requires.is c.requires.owed refl c.entered.ensures.item refl

pub returns-clause-out : goal.returns-clause-out
returns-clause-out c = entered_out c.args.self.now (record c.args.self.now { worker = c.entered.new.self; owed = by.Nothing; section = Some c.args.lock }) c.args.lock c.args.place c.requires.is c.requires.owed c.entered.ensures.item refl refl

pub returns-clause-keeps : goal.returns-clause-keeps
returns-clause-keeps c = entered_keeps c.args.self.now (record c.args.self.now { worker = c.entered.new.self; owed = by.Nothing; section = Some c.args.lock }) c.args.lock c.args.place c.requires.is c.requires.owed refl refl c.entered.ensures.item c.entered.ensures.stands
