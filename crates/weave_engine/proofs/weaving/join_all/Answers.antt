use Rattle.std.proofs.Common.{◌≡◌, ◌+◌, ◌<◌, suc, length, subst, arith}
use Rattle.weave_engine.specs.Turns.{joined_to}
use Rattle.weave_engine.specs.Seats.{CoreIs, JoinsTo}
use Rattle.weave_engine.proofs.JoinLaws.{joins_none, joins_more, joined_done}
use Rattle.weave_engine.proofs.weaving.join_all.Goals as goal

pub writers-init : goal.writers-init
writers-init c = record {
  most = omega arith;
  end = omega (arith, c.len-count.ensures, c.args.seats.now.ok.0);
  on = λ n s runs. (runs.core_is, joins_none n c.args.seats.now.items c.args.core.now s runs c.requires.quiet c.requires.idle);
}

pub writers-preserved : goal.writers-preserved
writers-preserved c =
    let i = c.writers.writer in
    let seats = c.args.seats.now.items in
    let within : i < length seats = omega (arith, c.writers-test.true, c.writers.invariant.end) in
    let next : suc i ≡ i + 1 = omega arith in
    record {
      most = omega (arith, c.writers-test.true);
      end = c.writers.invariant.end;
      on = λ n s runs.
          let h = c.writers.invariant.on n s runs in (
            subst (λ k. CoreIs c.apply.new.core n (joined_to n k s.core)) next (c.in_ok-apply.ensures n (joined_to n i s.core) h.0),
            subst (λ k. JoinsTo (i + 1) seats (joined_to n k s.core).1) next (joins_more n i seats (joined_to n i s.core) within h.1),
          );
    }

pub returns-clause-joined : goal.returns-clause-joined
returns-clause-joined c = λ n s runs.
    let seats = c.args.seats.now.items in
    let all : c.writers.writer ≡ length seats = omega (arith, c.writers-test.false, c.writers.invariant.most, c.writers.invariant.end) in
    let h = c.writers.invariant.on n s runs in
    record {
      core_is = subst (λ k. CoreIs c.writers.core n (joined_to n k s.core)) all h.0;
      joins = subst (λ k. JoinsTo k seats (joined_to n k s.core).1) all h.1;
    }

pub returns-clause-done : goal.returns-clause-done
returns-clause-done c =
    let seats = c.args.seats.now.items in
    let all : c.writers.writer ≡ length seats = omega (arith, c.writers-test.false, c.writers.invariant.most, c.writers.invariant.end) in
    let r = c.requires.runs in
    let h = c.writers.invariant.on r.0 r.1 r.2 in
    joined_done r.0 seats c.writers.core (joined_to r.0 (length seats) r.1.core) (record {
      core_is = subst (λ k. CoreIs c.writers.core r.0 (joined_to r.0 k r.1.core)) all h.0;
      joins = subst (λ k. JoinsTo k seats (joined_to r.0 k r.1.core).1) all h.1;
    })
