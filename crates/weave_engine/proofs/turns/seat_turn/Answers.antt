use Rattle.std.proofs.Common.{inl, refl}
use Rattle.weave_engine.proofs.SeatLaws.{on_both}
use Rattle.weave_engine.proofs.turns.seat_turn.Goals as goal

pub returns-in-Record-clause-turned : goal.returns-in-Record-clause-turned
returns-in-Record-clause-turned c = on_both c.record_turn.result c.record_turn.ensures.turned c.record_turn.ensures.turned (λ turned same. turned c.args.locks.now.items)

pub returns-in-Record-clause-moves : goal.returns-in-Record-clause-moves
returns-in-Record-clause-moves c = on_both c.record_turn.result c.record_turn.ensures.section c.record_turn.ensures.section (λ section same. inl (section, refl))

pub returns-in-Record-clause-lighter : goal.returns-in-Record-clause-lighter
returns-in-Record-clause-lighter c = on_both c.record_turn.result c.record_turn.ensures.lighter c.record_turn.ensures.lighter (λ less same. inl less)

pub returns-in-Enter-clause-turned : goal.returns-in-Enter-clause-turned
returns-in-Enter-clause-turned c = c.try_turn.ensures.turned c.args.core.now

pub returns-in-Stop-clause-turned : goal.returns-in-Stop-clause-turned
returns-in-Stop-clause-turned c = on_both c.raise_turn.result c.raise_turn.ensures.turned c.raise_turn.ensures.turned (λ turned same. turned c.args.locks.now.items)

pub returns-in-Stop-clause-moves : goal.returns-in-Stop-clause-moves
returns-in-Stop-clause-moves c = on_both c.raise_turn.result c.raise_turn.ensures.section c.raise_turn.ensures.section (λ section same. inl (section, refl))

pub returns-in-Stop-clause-lighter : goal.returns-in-Stop-clause-lighter
returns-in-Stop-clause-lighter c = on_both c.raise_turn.result c.raise_turn.ensures.lighter c.raise_turn.ensures.lighter (λ less same. inl less)
