use Rattle.std.proofs.Common.{◌≡◌, ◌+◌, suc, [], ◌∷◌, ◌++◌, length, sym, ap, ◌∙◌, subst, arith}
use Rattle.jm_meaning.specs.Beginning.{Options}
use Rattle.weave_engine.specs.Woven.{threads_to, thread_at_start}
use Rattle.weave_engine.specs.Seats.{AreSeats, AllFresh, AllStand, first_outside}
use Rattle.weave_engine.proofs.StartLaws.{seats_push, length_push, fresh_push}
use Rattle.weave_engine.proofs.FollowLaws.{stand_push}
use Rattle.weave_engine.proofs.weaving.first_seats.Goals as goal

pub threads-preserved : goal.threads-preserved
threads-preserved c =
    let i = c.threads.thread in
    let plan = c.args.plan.now in
    let options : Options = record { seed = c.args.seed; props = c.args.props.now; budget = c.args.budget } in
    let xs = c.threads.seats.items in
    let x = c.in_ok-first_seat.field-0 in
    let items : c.push.new.self.items ≡ xs ++ x ∷ [] = c.in_ok-push.ensures.items in
    let count = c.threads.invariant.count in
    let next : suc i ≡ i + 1 = omega arith in
    let number = c.in_ok-first_seat.ensures.thread in
    record {
      most = omega (arith, c.threads-test.true);
      end = c.threads.invariant.end;
      count = ap length items ∙ length_push xs x ∙ ap (λ k. k + 1) count;
      stand = subst (AllStand plan (first_outside plan) options) (sym items) (stand_push plan (first_outside plan) options xs x c.threads.invariant.stand c.in_ok-first_seat.ensures.stands);
      fresh = subst (AllFresh plan c.args.budget) (sym items) (fresh_push plan c.args.budget xs x c.threads.invariant.fresh c.in_ok-first_seat.ensures.fresh);
      seats = subst (λ l. AreSeats 0 l (threads_to plan options (i + 1))) (sym items)
          (subst (λ k. AreSeats 0 (xs ++ x ∷ []) (threads_to plan options k)) next
          (seats_push 0 xs (threads_to plan options i) x (thread_at_start plan options i) c.threads.invariant.seats c.in_ok-first_seat.ensures.seat (omega (arith, number, count))));
    }
