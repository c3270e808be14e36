use Rattle.std.proofs.Common.{None, true, refl, sym, ap, ◌∙◌}
use Rattle.weave_engine.specs.declared.seat.Owed.TheVariants as by
use Rattle.weave_engine.proofs.LoadLaws.{stop_lightens}
use Rattle.weave_engine.proofs.SeatLaws.{stopped_is, stop_sections}
use Rattle.weave_engine.proofs.WriteLaws.{stop_out}
use Rattle.weave_engine.proofs.FollowLaws.{stop_keeps}
use Rattle.weave_engine.proofs.seat.Seat.stop.Goals as goal

pub returns-clause-stopped : goal.returns-clause-stopped
returns-clause-stopped c = λ t is. stopped_is c.args.self.now _ t is c.requires.owed c.stop.ensures.stopped refl refl refl refl refl

pub returns-clause-left : goal.returns-clause-left
returns-clause-left c = λ t is. is.section ∙ sym is.open_lock

pub returns-clause-sections : goal.returns-clause-sections
returns-clause-sections c = stop_sections c.args.self.now (record c.args.self.now { worker = c.stop.new.self; owed = by.Nothing; ended = true; section = None }) _ c.requires.is c.stop.ensures.stopped refl

pub returns-clause-thread : goal.returns-clause-thread
returns-clause-thread c = record { number = ap (λ w. w.thread) c.stop.ensures.stopped; plan = ap (λ w. w.plan) c.stop.ensures.stopped }

pub returns-clause-lighter : goal.returns-clause-lighter
returns-clause-lighter c = stop_lightens c.args.self.now (record c.args.self.now { worker = c.stop.new.self; owed = by.Nothing; ended = true; section = None }) c.requires.going c.requires.owed (ap (λ w. w.section) c.stop.ensures.stopped) refl refl

pub returns-clause-out : goal.returns-clause-out
returns-clause-out c = stop_out c.args.self.now (record c.args.self.now { worker = c.stop.new.self; owed = by.Nothing; ended = true; section = None }) c.requires.going c.requires.owed c.stop.ensures.stopped refl refl

pub returns-clause-keeps : goal.returns-clause-keeps
returns-clause-keeps c = stop_keeps c.args.self.now (record c.args.self.now { worker = c.stop.new.self; owed = by.Nothing; ended = true; section = None }) c.requires.is c.requires.owed c.requires.going c.stop.ensures.stopped refl refl c.stop.ensures.follows
