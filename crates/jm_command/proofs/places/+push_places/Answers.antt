use Rattle.std.proofs.Common.{◌++◌, ◌∷◌, [], List, ℕ, ap, ◌∙◌, refl, rules, arith}
use Rattle.plan_json.proofs.ShapeLaws.{popped}
use Rattle.jm_command.proofs.PlaceLaws.{first_place, skipped, added, all_placed}
use Rattle.jm_command.proofs.places.+push_places.Goals as goal

pub below-init : goal.below-init
below-init t c = record {
  here = refl;
  all = rw c.deref-child-items.ensures.value (first_place c.args.here.now.items c.args.tree.now c.args.all.now.items _ _ c.in_ok-push.ensures.items (search rules));
}

pub below-preserved-then-not-child : goal.below-preserved-then-not-child
below-preserved-then-not-child t c = record {
  here = c.below.invariant.here;
  all = skipped _ _ _ _ c.below-test.true c.child-item.is _ _ c.below.invariant.all c.if-not-child.true;
}

pub below-preserved : goal.below-preserved
below-preserved t c =
    let at = c.in_ok-push-2.ensures.items ∙ ap (λ (ps : List ℕ). ps ++ c.below.place ∷ []) c.below.invariant.here in
    record {
      here = c.pop.ensures.rest ∙ popped c.push_places.new.here.items c.args.here.now.items c.below.place _ (let k = c.push_places.new.here.ok in k.0)
          (c.in_ok-push_places.ensures.here ∙ at);
      all = added _ _ _ _ c.below-test.true c.child-item.is _ _ c.below.invariant.all _ _ c.if-not-child.false at c.in_ok-push_places.ensures.all;
    }

pub returns-clause-all : goal.returns-clause-all
returns-clause-all t c = all_placed _ _ _ _ _ (omega arith) c.below.invariant.all
