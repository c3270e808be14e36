use Rattle.std.proofs.Common.{◌/◌, inl, inr, Some, refl, sym, ap, ◌∙◌, subst, arith}
use Rattle.std.specs.Prelude.{slice_index}
use Rattle.phaser_core.specs.Cells.{is_odd}
use Rattle.thread_machine.specs.declared.trace.TraceItem.TheVariants.{Entered as EnteredItem}
use Rattle.weave_engine.specs.Steps.{Nought, shows, owes, opens}
use Rattle.weave_engine.specs.Seats.{Turned, SeatIs}
use Rattle.weave_engine.proofs.LoadLaws.{is_stuck}
use Rattle.weave_engine.proofs.SeatLaws.{enters_by}
use Rattle.weave_engine.proofs.TurnLaws.{blocked_turned, entered_turned}
use Rattle.weave_engine.proofs.turns.try_turn.Goals as goal

pub raise_word-requires : goal.raise_word-requires
raise_word-requires c = let h = c.requires.words.light c.args.lock in omega (arith, h)

pub returns-then-is_odd-clause-turned : goal.returns-then-is_odd-clause-turned
returns-then-is_odd-clause-turned c = λ core n s t there is core_is words room writes.
    blocked_turned n s c.args.seat.now.worker.thread t there c.args.seat.now c.args.seat.now core core is core_is room writes c.args.locks.now.items words c.args.lock c.requires.owed
    (ap is_odd (sym c.word_of-word.ensures) ∙ sym c.is_odd.ensures ∙ c.if-is_odd.true) refl refl

pub returns-then-is_odd-clause-thread : goal.returns-then-is_odd-clause-thread
returns-then-is_odd-clause-thread c = record { number = refl; plan = refl }

pub returns-then-is_odd-clause-moves : goal.returns-then-is_odd-clause-moves
returns-then-is_odd-clause-moves c = inl (refl, refl)

pub returns-then-is_odd-clause-lighter : goal.returns-then-is_odd-clause-lighter
returns-then-is_odd-clause-lighter c = inr (
  is_stuck c.args.locks.now.items c.args.seat.now c.args.lock c.requires.owed (ap is_odd (sym c.word_of-word.ensures) ∙ sym c.is_odd.ensures ∙ c.if-is_odd.true),
  refl,
  refl,
)

pub returns-then-is_odd-clause-keeps : goal.returns-then-is_odd-clause-keeps
returns-then-is_odd-clause-keeps c = λ plan start options h. h

pub returns-clause-turned : goal.returns-clause-turned
returns-clause-turned c = λ core n s t there is core_is words room writes.
    let place : SeatIs c.entered.new.self (opens (Some c.args.lock) (owes Nought (shows (EnteredItem c.args.lock (slice_index c.args.locks.now.items c.args.lock / 2)) t))) =
    subst (λ w. SeatIs c.entered.new.self (opens (Some c.args.lock) (owes Nought (shows (EnteredItem c.args.lock (w / 2)) t)))) c.word_of-word.ensures (c.entered.ensures.entered t is) in
    subst (Turned n c.args.seat.now.worker.thread s c.entered.new.self core) (sym c.raise_word.ensures)
    (entered_turned n s c.args.seat.now.worker.thread t there c.args.seat.now c.entered.new.self core core is core_is room writes c.args.locks.now.items words c.args.lock c.requires.owed
    (ap is_odd (sym c.word_of-word.ensures) ∙ sym c.is_odd.ensures ∙ c.if-is_odd.false) place c.entered.ensures.out refl)

pub returns-clause-thread : goal.returns-clause-thread
returns-clause-thread c = c.entered.ensures.thread

pub returns-clause-moves : goal.returns-clause-moves
returns-clause-moves c =
    let e = enters_by c.args.seat.now c.requires.is.0 c.args.lock c.requires.is.1 c.requires.owed in
    let known = e.known in
    let count = c.requires.words.count in
    inr (inl (
      c.args.lock,
      e.none_open,
      c.entered.ensures.section,
      omega (arith, known, count),
      ap is_odd (sym c.word_of-word.ensures) ∙ sym c.is_odd.ensures ∙ c.if-is_odd.false,
      c.raise_word.ensures,
    ))

pub returns-clause-lighter : goal.returns-clause-lighter
returns-clause-lighter c = inl c.entered.ensures.lighter

pub returns-clause-keeps : goal.returns-clause-keeps
returns-clause-keeps c = c.entered.ensures.keeps
