use Rattle.std.proofs.Common.{inl, inr, ◌≡◌, ◌<◌, Some, length, set, get_or, refl, sym, ap, ◌∙◌, subst, arith}
use Rattle.std.specs.Prelude.{slice_get}
use Rattle.std.proofs.lemmas.List.{get_or_default}
use Rattle.weave_engine.specs.Turns.{turn_of, thread_turn}
use Rattle.weave_engine.specs.Seats.{RunsOn, SeatIs, Turned, Lightens, TakesTurn, HasRoom, Writes}
use Rattle.weave_engine.proofs.LockedLaws.{words_for, turn_locked}
use Rattle.thread_machine.specs.Paired.{pairs}
use Rattle.weave_engine.specs.declared.seat.Seat.{Seat}
use Rattle.std.proofs.lemmas.Option.{slice_get-get_or}
use Rattle.weave_engine.proofs.TurnLaws.{none_there, seat_at, turned_runs}
use Rattle.weave_engine.proofs.SeatLaws.{on_both, on_three}
use Rattle.weave_engine.proofs.FollowLaws.{all_kept}
use Rattle.weave_engine.proofs.turns.thread_turn.Goals as goal

pub returns-then-index-len-clause-turned : goal.returns-then-index-len-clause-turned
returns-then-index-len-clause-turned c = λ n s runs.
    subst (RunsOn n c.args.seats.now.items c.args.core.now c.args.locks.now.items)
    (sym (ap (λ o. turn_of n c.args.thread o s) (none_there 0 c.args.seats.now.items s.threads c.args.thread runs.runs.threads
    (omega (arith, c.if-index-len.true, c.len.ensures, c.from-index.ensures, c.args.seats.now.ok.0))))) runs

pub returns-then-index-len-clause-locked : goal.returns-then-index-len-clause-locked
returns-then-index-len-clause-locked c = c.requires.locked

pub returns-then-index-len-clause-lighter : goal.returns-then-index-len-clause-lighter
returns-then-index-len-clause-lighter c = inl (omega (arith, c.if-index-len.true, c.len.ensures, c.from-index.ensures, c.args.seats.now.ok.0), refl, refl)

pub returns-then-index-len-clause-keeps : goal.returns-then-index-len-clause-keeps
returns-then-index-len-clause-keeps c = λ plan start options h. h

pub seat_turn-requires : goal.seat_turn-requires
seat_turn-requires c =
    let i = c.from-index.result in
    let items = c.args.seats.now.items in
    let within : i < length items = omega (arith, c.if-index-len.false, c.len.ensures, c.args.seats.now.ok.0) in
    let s = c.requires.runs.1 in
    let runs = c.requires.runs.2 in
    let r = seat_at 0 items s.threads i c.index_mut.result.now runs.runs.threads within in
    record {
      is = (r.0, subst (λ x. SeatIs x r.0) (sym c.index_mut.ensures.value) r.2);
      words = words_for items c.args.locks.now.items i c.index_mut.result.now within (c.index_mut.ensures.value ∙ get_or_default items i c.index_mut.result.now c.index_mut.result.now within) c.requires.locked;
    }

pub returns-clause-lighter : goal.returns-clause-lighter
returns-clause-lighter c = on_both c.seat_turn.result c.seat_turn.ensures.lighter c.seat_turn.ensures.lighter (λ lighter same.
    let i = c.from-index.result in
    let items = c.args.seats.now.items in
    let locks = c.args.locks.now.items in
    let locks' = c.seat_turn.new.locks.items in
    let within : i < length items = omega (arith, c.if-index-len.false, c.len.ensures, c.args.seats.now.ok.0) in
    let x = c.seat_turn.new.seat in
    subst (λ k. TakesTurn locks locks' items (set items i x) k) c.from-index.ensures
    (inr (x, within, refl, subst (λ y. Lightens locks locks' y x) (c.index_mut.ensures.value ∙ get_or_default items i c.index_mut.result.now x within) lighter)))

pub returns-clause-locked : goal.returns-clause-locked
returns-clause-locked c = on_three c.seat_turn.result c.seat_turn.ensures.moves c.seat_turn.ensures.thread c.seat_turn.ensures.lighter (λ moves stays lighter.
    let i = c.from-index.result in
    let items = c.args.seats.now.items in
    let within : i < length items = omega (arith, c.if-index-len.false, c.len.ensures, c.args.seats.now.ok.0) in
    turn_locked items c.args.locks.now.items c.seat_turn.new.locks.items i c.index_mut.result.now c.seat_turn.new.seat within
    (c.index_mut.ensures.value ∙ get_or_default items i c.index_mut.result.now c.index_mut.result.now within) c.requires.locked moves stays lighter)

pub returns-clause-turned : goal.returns-clause-turned
returns-clause-turned c = on_both c.seat_turn.result c.seat_turn.ensures.turned c.seat_turn.ensures.thread (λ turned stays. λ n s runs.
    let i = c.from-index.result in
    let items = c.args.seats.now.items in
    let locks' = c.seat_turn.new.locks.items in
    let within : i < length items = omega (arith, c.if-index-len.false, c.len.ensures, c.args.seats.now.ok.0) in
    let r = seat_at 0 items s.threads i c.index_mut.result.now runs.runs.threads within in
    let number : c.index_mut.result.now.worker.thread ≡ i = (let h = r.3 in let same = ap (λ x. x.worker.thread) c.index_mut.ensures.value in omega (arith, h, same)) in
    let there : slice_get s.threads c.index_mut.result.now.worker.thread ≡ Some r.0 = ap (slice_get s.threads) number ∙ r.1 in
    let seat_is : SeatIs c.index_mut.result.now r.0 = subst (λ x. SeatIs x r.0) (sym c.index_mut.ensures.value) r.2 in
    let mine = runs.runs.writers.each i (get_or items i c.index_mut.result.now) (slice_get-get_or items i c.index_mut.result.now within) in
    let h : Turned n i s c.seat_turn.new.seat c.seat_turn.new.core locks' = subst (λ k. Turned n k s c.seat_turn.new.seat c.seat_turn.new.core locks') number (turned n s r.0 there seat_is runs.runs.core_is runs.words
    (subst (HasRoom n) (sym c.index_mut.ensures.value) mine.0) (subst (λ k. Writes s.core.1 k c.index_mut.result.now.owed (pairs c.index_mut.result.now.worker.trace)) (sym number)
    (subst (λ (x : Seat). Writes s.core.1 i x.owed (pairs x.worker.trace)) (sym c.index_mut.ensures.value) mine.1))) in
    subst (λ k. RunsOn n (set items i c.seat_turn.new.seat) c.seat_turn.new.core locks' (thread_turn n k s)) c.from-index.ensures
    (turned_runs n s items c.args.core.now c.seat_turn.new.core locks' i c.seat_turn.new.seat runs.runs h (stays.number ∙ number)))

pub returns-clause-keeps : goal.returns-clause-keeps
returns-clause-keeps c = on_both c.seat_turn.result c.seat_turn.ensures.keeps c.seat_turn.ensures.keeps (λ keeps same.
    let i = c.from-index.result in
    let items = c.args.seats.now.items in
    let within : i < length items = omega (arith, c.if-index-len.false, c.len.ensures, c.args.seats.now.ok.0) in
    all_kept items i c.index_mut.result.now c.seat_turn.new.seat within
    (c.index_mut.ensures.value ∙ get_or_default items i c.index_mut.result.now c.index_mut.result.now within) keeps)
