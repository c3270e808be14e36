use Rattle.std.proofs.Common.{refl, subst}
use Rattle.phaser_core.specs.declared.view.Event.TheVariants.{RaiseStop}
use Rattle.phaser_core.specs.Step.{next_state}
use Rattle.weave_engine.specs.Seats.{CoreIs}
use Rattle.weave_engine.proofs.LoadLaws.{stop_raised}
use Rattle.weave_engine.proofs.TurnLaws.{raise_turned}
use Rattle.weave_engine.proofs.turns.raise_turn.Goals as goal

pub returns-clause-turned : goal.returns-clause-turned
returns-clause-turned c = λ locks n s t there is core_is words room writes.
    raise_turned n s c.args.seat.now.worker.thread t there c.args.seat.now _ c.args.core.now c.apply.new.core is core_is room writes locks words c.requires.owed
    (subst (λ k. CoreIs c.apply.new.core n (next_state n s.core (RaiseStop k))) is.number (c.in_ok-apply.ensures n s.core core_is)) refl

pub returns-clause-thread : goal.returns-clause-thread
returns-clause-thread c = record { number = refl; plan = refl }

pub returns-clause-section : goal.returns-clause-section
returns-clause-section c = refl

pub returns-clause-lighter : goal.returns-clause-lighter
returns-clause-lighter c = stop_raised c.args.seat.now _ c.requires.owed refl

pub returns-clause-keeps : goal.returns-clause-keeps
returns-clause-keeps c = λ plan start options h. h
