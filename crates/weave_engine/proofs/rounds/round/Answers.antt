use Rattle.std.proofs.Common.{◌≡◌, ◌+◌, ◌<◌, suc, length, refl, ◌∙◌, subst, arith}
use Rattle.weave_engine.specs.Turns.{turns_to}
use Rattle.weave_engine.specs.Seats.{RunsOn}
use Rattle.weave_engine.proofs.LockedLaws.{all_settle}
use Rattle.weave_engine.proofs.RoundLaws.{so_far_none, so_far_more, so_far_all, length_turn}
use Rattle.weave_engine.proofs.rounds.round.Goals as goal

pub threads-init : goal.threads-init
threads-init c = record {
  most = omega arith;
  end = omega (arith, c.len-count.ensures, c.args.seats.now.ok.0);
  on = λ n s runs. runs;
  locked = c.requires.locked;
  light = so_far_none c.args.locks.now.items c.args.seats.now.items;
  count = refl;
  keeps = λ plan start options h. h;
}

pub thread_turn-requires : goal.thread_turn-requires
thread_turn-requires c = let r = c.requires.runs in record { runs = (r.0, turns_to r.0 c.threads.thread r.1, c.threads.invariant.on r.0 r.1 r.2); locked = c.threads.invariant.locked }

pub threads-preserved : goal.threads-preserved
threads-preserved c =
    let i = c.threads.thread in
    let within : i < length c.args.seats.now.items = omega (arith, c.threads-test.true, c.threads.invariant.end) in
    let next : suc i ≡ i + 1 = omega arith in
    record {
      most = omega (arith, c.threads-test.true);
      end = c.threads.invariant.end;
      on = λ n s runs. subst (λ k. RunsOn n c.thread_turn.new.seats.items c.thread_turn.new.core c.thread_turn.new.locks.items (turns_to n k s)) next
          (c.in_ok-thread_turn.ensures.turned n (turns_to n i s) (c.threads.invariant.on n s runs));
      locked = c.in_ok-thread_turn.ensures.locked;
      light = so_far_more c.args.locks.now.items c.threads.locks.items c.thread_turn.new.locks.items c.args.seats.now.items c.threads.seats.items c.thread_turn.new.seats.items i within c.threads.invariant.light c.in_ok-thread_turn.ensures.lighter;
      count = length_turn c.threads.locks.items c.thread_turn.new.locks.items c.threads.seats.items c.thread_turn.new.seats.items i c.in_ok-thread_turn.ensures.lighter ∙ c.threads.invariant.count;
      keeps = λ plan start options h. c.in_ok-thread_turn.ensures.keeps plan start options (c.threads.invariant.keeps plan start options h);
    }

pub returns-clause-turned : goal.returns-clause-turned
returns-clause-turned c = λ n s runs.
    let all : c.threads.thread ≡ length c.args.seats.now.items = omega (arith, c.threads-test.false, c.threads.invariant.most, c.threads.invariant.end) in
    subst (λ k. RunsOn n c.threads.seats.items c.threads.core c.threads.locks.items (turns_to n k s)) all (c.threads.invariant.on n s runs)

pub returns-clause-lighter : goal.returns-clause-lighter
returns-clause-lighter c =
    let r = c.requires.runs in
    so_far_all c.args.locks.now.items c.threads.locks.items c.args.seats.now.items c.threads.seats.items c.threads.thread (omega (arith, c.threads-test.false, c.threads.invariant.end))
    (all_settle c.args.seats.now.items r.1.threads c.args.locks.now.items r.2.runs.threads c.requires.locked) c.threads.invariant.light

pub returns-clause-count : goal.returns-clause-count
returns-clause-count c = c.threads.invariant.count

pub returns-clause-keeps : goal.returns-clause-keeps
returns-clause-keeps c = c.threads.invariant.keeps

pub returns-clause-locked : goal.returns-clause-locked
returns-clause-locked c = c.threads.invariant.locked
