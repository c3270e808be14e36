use Rattle.std.proofs.Common.{◌≡◌, true, false, length, refl, sym, ap, ◌∙◌, subst}
use Rattle.weave_engine.specs.Turns.{turns_to, ends_rounds}
use Rattle.weave_engine.specs.Seats.{RunsOn, all_seats_settled}
use Rattle.weave_engine.proofs.RowLaws.{row_of, continues_none, continues_more}
use Rattle.weave_engine.proofs.RoundLaws.{round_moves, round_lightens}
use Rattle.weave_engine.proofs.rounds.run_out.Goals as goal

pub round-requires-clause-locked : goal.round-requires-clause-locked
round-requires-clause-locked c = c.rounds.invariant.locked

pub round-requires-clause-runs : goal.round-requires-clause-runs
round-requires-clause-runs c = let r = c.requires.runs in let u = c.rounds.invariant.on r.0 r.1 r.2 in (r.0, u.0, u.1)

pub returns-then-all_settled-clause-runs : goal.returns-then-all_settled-clause-runs
returns-then-all_settled-clause-runs c = λ n s runs.
    let k = length c.args.seats.now.items in
    let is : c.all_settled.result ≡ all_seats_settled c.round.new.seats.items = c.all_settled.ensures ∙ ap all_seats_settled c.as_slice.ensures.value in
    row_of (turns_to n k) (ends_rounds n k) (RunsOn n c.args.seats.now.items c.args.core.now c.args.locks.now.items) (RunsOn n c.rounds.seats.items c.rounds.core c.rounds.locks.items)
    (RunsOn n c.round.new.seats.items c.round.new.core c.round.new.locks.items) (c.rounds.invariant.on n)
    (round_moves n k c.rounds.seats.items c.round.new.seats.items c.rounds.core c.round.new.core c.rounds.locks.items c.round.new.locks.items true
    (λ u r. subst (λ m. RunsOn n c.round.new.seats.items c.round.new.core c.round.new.locks.items (turns_to n m u)) c.rounds.invariant.count (c.in_ok-round.ensures.turned n u r)) (sym c.if-all_settled.true ∙ is)) s runs

pub rounds-smaller : goal.rounds-smaller
rounds-smaller c =
    let is : c.all_settled.result ≡ all_seats_settled c.round.new.seats.items = c.all_settled.ensures ∙ ap all_seats_settled c.as_slice.ensures.value in
    round_lightens c.rounds.seats.items c.round.new.seats.items c.in_ok-round.ensures.lighter (sym is ∙ c.if-all_settled.false)

pub rounds-preserved : goal.rounds-preserved
rounds-preserved c = record {
  on = λ n.
      let k = length c.args.seats.now.items in
      let is : c.all_settled.result ≡ all_seats_settled c.round.new.seats.items = c.all_settled.ensures ∙ ap all_seats_settled c.as_slice.ensures.value in
      continues_more (turns_to n k) (ends_rounds n k) (RunsOn n c.args.seats.now.items c.args.core.now c.args.locks.now.items) (RunsOn n c.rounds.seats.items c.rounds.core c.rounds.locks.items)
      (RunsOn n c.round.new.seats.items c.round.new.core c.round.new.locks.items) (c.rounds.invariant.on n)
      (round_moves n k c.rounds.seats.items c.round.new.seats.items c.rounds.core c.round.new.core c.rounds.locks.items c.round.new.locks.items false
      (λ u r. subst (λ m. RunsOn n c.round.new.seats.items c.round.new.core c.round.new.locks.items (turns_to n m u)) c.rounds.invariant.count (c.in_ok-round.ensures.turned n u r)) (sym c.if-all_settled.false ∙ is));
  locked = c.in_ok-round.ensures.locked;
  count = c.in_ok-round.ensures.count ∙ c.rounds.invariant.count;
  keeps = λ plan start options h. c.in_ok-round.ensures.keeps plan start options (c.rounds.invariant.keeps plan start options h);
}

pub returns-then-all_settled-clause-settled : goal.returns-then-all_settled-clause-settled
returns-then-all_settled-clause-settled c =
    let is : c.all_settled.result ≡ all_seats_settled c.round.new.seats.items = c.all_settled.ensures ∙ ap all_seats_settled c.as_slice.ensures.value in
    sym is ∙ c.if-all_settled.true

pub returns-then-all_settled-clause-count : goal.returns-then-all_settled-clause-count
returns-then-all_settled-clause-count c = c.in_ok-round.ensures.count ∙ c.rounds.invariant.count

pub returns-then-all_settled-clause-keeps : goal.returns-then-all_settled-clause-keeps
returns-then-all_settled-clause-keeps c = λ plan start options h. c.in_ok-round.ensures.keeps plan start options (c.rounds.invariant.keeps plan start options h)

pub rounds-init : goal.rounds-init
rounds-init c = record {
  on = λ n. continues_none (turns_to n (length c.args.seats.now.items)) (ends_rounds n (length c.args.seats.now.items)) (RunsOn n c.args.seats.now.items c.args.core.now c.args.locks.now.items);
  locked = c.requires.locked;
  count = refl;
  keeps = λ plan start options h. h;
}
