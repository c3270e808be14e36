use Rattle.std.proofs.Common.{◌≡◌, ◌+◌, ◌-◌, ◌*◌, ◌≤◌, suc, length, sym, subst, arith}
use Rattle.element_tree.specs.Tree.{threads_of}
use Rattle.weave_engine.specs.Woven.{numbers_of, split_to}
use Rattle.weave_engine.specs.Seats.{CoreIs}
use Rattle.weave_engine.proofs.StartLaws.{numbers_same, core_first}
use Rattle.weave_engine.proofs.weaving.first_core.Goals as goal

pub writers-init : goal.writers-init
writers-init c =
    let plan = c.threads.ensures.plan in
    record {
      low = omega arith;
      most = (let some = plan.some_thread in let count = c.threads-writer-end.ensures.count in omega (arith, some, count));
      end = c.threads-writer-end.ensures.count;
      core = λ options is.
          core_first (record { labels = c.labels.result; writers = c.threads.result; budget = c.args.budget }) (numbers_of c.args.plan.now options) c.in_ok-core.core
          (numbers_same c.args.plan.now options c.labels.result c.threads.result c.args.budget c.labels.ensures c.threads.ensures.count is)
          c.in_ok-core.ensures.made c.in_ok-core.ensures.shows
          (plan.labels, plan.some_thread, plan.few_threads, subst (λ b. length (threads_of c.args.plan.now) * b ≤ 4194304) (sym is) c.requires);
    }

pub writers-preserved : goal.writers-preserved
writers-preserved c =
    let w = c.writers._writer in
    let low = c.writers.invariant.low in
    record {
      low = omega (arith, low);
      most = omega (arith, c.writers-test.true);
      end = c.writers.invariant.end;
      core = λ options is.
          let n = numbers_of c.args.plan.now options in
          let next : suc (w - 1) ≡ w + 1 - 1 = omega (arith, low) in
          subst (λ k. CoreIs c.apply.new.core n (split_to n k)) next (c.in_ok-apply.ensures n (split_to n (w - 1)) (c.writers.invariant.core options is));
    }

pub returns-clause-core : goal.returns-clause-core
returns-clause-core c = λ options is.
    let n = numbers_of c.args.plan.now options in
    let all : c.writers._writer ≡ length (threads_of c.args.plan.now) = omega (arith, c.writers-test.false, c.writers.invariant.most, c.writers.invariant.end) in
    subst (λ k. CoreIs c.writers.core n (split_to n (k - 1))) all (c.writers.invariant.core options is)
