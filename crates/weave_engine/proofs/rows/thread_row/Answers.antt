use Rattle.std.proofs.Common.{◌≡◌, true, false, sym, ap, ◌∙◌}
use Rattle.std.specs.Prelude.{◌||◌}
use Rattle.weave_engine.specs.Turns.{thread_turn, ends_row}
use Rattle.weave_engine.specs.Seats.{RunsOn, is_free_at, is_blocked_at}
use Rattle.weave_engine.proofs.RowLaws.{row_of, continues_none, continues_more, row_moves, row_lightens}
use Rattle.weave_engine.proofs.rows.thread_row.Goals as goal

pub turns-init : goal.turns-init
turns-init c = record {
  on = λ n. continues_none (thread_turn n c.args.thread) (ends_row n c.args.thread) (RunsOn n c.args.seats.now.items c.args.core.now c.args.locks.now.items);
  locked = c.requires.locked;
  keeps = λ plan start options h. h;
}

pub thread_turn-requires : goal.thread_turn-requires
thread_turn-requires c = let r = c.requires.runs in let u = c.turns.invariant.on r.0 r.1 r.2 in record { runs = (r.0, u.0, u.1); locked = c.turns.invariant.locked }

pub returns-then-ends_row-clause-runs : goal.returns-then-ends_row-clause-runs
returns-then-ends_row-clause-runs c = λ n s runs.
    let d = c.args.thread in
    let new = c.thread_turn.new.seats.items in
    let is : c.ends_row.result ≡ (is_free_at new d || is_blocked_at c.turns.seats.items c.turns.locks.items d) =
    c.ends_row.ensures ∙ ap (λ b. b || c.is_busy-busy.result) c.is_free.ensures ∙ ap (λ b. is_free_at new d || b) c.is_busy-busy.ensures in
    row_of (thread_turn n d) (ends_row n d) (RunsOn n c.args.seats.now.items c.args.core.now c.args.locks.now.items) (RunsOn n c.turns.seats.items c.turns.core c.turns.locks.items)
    (RunsOn n new c.thread_turn.new.core c.thread_turn.new.locks.items) (c.turns.invariant.on n)
    (row_moves n d c.turns.seats.items new c.turns.core c.thread_turn.new.core c.turns.locks.items c.thread_turn.new.locks.items true c.in_ok-thread_turn.ensures.turned (sym c.if-ends_row.true ∙ is)) s runs

pub turns-smaller : goal.turns-smaller
turns-smaller c =
    let d = c.args.thread in
    let new = c.thread_turn.new.seats.items in
    let is : c.ends_row.result ≡ (is_free_at new d || is_blocked_at c.turns.seats.items c.turns.locks.items d) =
    c.ends_row.ensures ∙ ap (λ b. b || c.is_busy-busy.result) c.is_free.ensures ∙ ap (λ b. is_free_at new d || b) c.is_busy-busy.ensures in
    row_lightens c.turns.locks.items c.thread_turn.new.locks.items c.turns.seats.items new d c.in_ok-thread_turn.ensures.lighter (sym is ∙ c.if-ends_row.false)

pub turns-preserved : goal.turns-preserved
turns-preserved c = record {
  on = λ n.
      let d = c.args.thread in
      let new = c.thread_turn.new.seats.items in
      let is : c.ends_row.result ≡ (is_free_at new d || is_blocked_at c.turns.seats.items c.turns.locks.items d) =
      c.ends_row.ensures ∙ ap (λ b. b || c.is_busy-busy.result) c.is_free.ensures ∙ ap (λ b. is_free_at new d || b) c.is_busy-busy.ensures in
      continues_more (thread_turn n d) (ends_row n d) (RunsOn n c.args.seats.now.items c.args.core.now c.args.locks.now.items) (RunsOn n c.turns.seats.items c.turns.core c.turns.locks.items)
      (RunsOn n new c.thread_turn.new.core c.thread_turn.new.locks.items) (c.turns.invariant.on n)
      (row_moves n d c.turns.seats.items new c.turns.core c.thread_turn.new.core c.turns.locks.items c.thread_turn.new.locks.items false c.in_ok-thread_turn.ensures.turned (sym c.if-ends_row.false ∙ is));
  locked = c.in_ok-thread_turn.ensures.locked;
  keeps = λ plan start options h. c.in_ok-thread_turn.ensures.keeps plan start options (c.turns.invariant.keeps plan start options h);
}

pub returns-then-ends_row-clause-locked : goal.returns-then-ends_row-clause-locked
returns-then-ends_row-clause-locked c = c.in_ok-thread_turn.ensures.locked

pub returns-then-ends_row-clause-keeps : goal.returns-then-ends_row-clause-keeps
returns-then-ends_row-clause-keeps c = λ plan start options h. c.in_ok-thread_turn.ensures.keeps plan start options (c.turns.invariant.keeps plan start options h)
