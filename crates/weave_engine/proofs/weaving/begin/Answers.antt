use Rattle.std.proofs.Common.{◌≤◌, ◌*◌, length, refl, sym, ap, ◌∙◌, subst, arith}
use Rattle.std.specs.Prelude.{replicate}
use Rattle.element_tree.specs.Names.{locks_of}
use Rattle.weave_engine.specs.Seats.{Locked}
use Rattle.weave_engine.proofs.LockedLaws.{start_locked}
use Rattle.jm_meaning.specs.Beginning.{Options}
use Rattle.weave_engine.proofs.StartLaws.{start_runs}
use Rattle.weave_engine.proofs.weaving.begin.Goals as goal

pub returns : goal.returns
returns c =
    let plan = c.args.plan.now in
    let options : Options = record { seed = c.args.seed; props = c.args.props.now; budget = c.args.budget } in
    let seats = c.in_ok-seats.ensures in
    let threads = c.in_ok-core.ensures.threads in
    let items = c.in_ok-locks.ensures.items_if_clones_equal (λ y same. same) in
    let words = ap (λ k. replicate k 0) (c.from.ensures ∙ c.locks.ensures) in
    record {
      runs = record {
        runs = start_runs plan options c.in_ok-seats.seats.items c.in_ok-core.core seats.seats (c.in_ok-core.ensures.core options refl) seats.fresh seats.count threads.0;
        words = sym (items ∙ words);
      };
      locked = subst (Locked c.in_ok-seats.seats.items) (sym (items ∙ words))
          (start_locked plan c.args.budget c.in_ok-seats.seats.items (length (locks_of plan.elements)) seats.fresh refl
          (let few = threads.1 in let count = seats.count in omega (arith, few, count)) (subst (λ k. k * c.args.budget ≤ 4194304) (sym seats.count) c.requires));
      count = seats.count;
      few = threads.1;
      stand = seats.stand;
    }
