use Rattle.std.proofs.Common.{◌≡◌, ◌+◌, ◌≤◌, ◌<◌, ◌++◌, ◌∷◌, [], sym, ap, ◌∙◌, refl, arith, map, length, length-append, append_assoc, List, ℕ}
use Rattle.std.proofs.lemmas.List.{append-nil}
use Rattle.std.proofs.lemmas.Result.{err_from_is_err_and}
use Rattle.plan_json.proofs.ShapeLaws.{popped}
use Rattle.plan_json.specs.declared.raw.RawElement.{out-RawElement}
use Rattle.element_props.proofs.ReadsLaws.{no_memory_after}
use Rattle.element_tree.specs.declared.kinds.Element.{Element}
use Rattle.element_tree.specs.Walk.{node, with_children}
use Rattle.element_tree.proofs.WalkLaws.{walk_init, walk_fails, walk_end, child_skipped, child_added, child_stops, with_middle, len_with}
use Rattle.element_tree.proofs.tree_walk.+walk.Goals as goal

pub returns-in_err-kind-clause-adds : goal.returns-in_err-kind-clause-adds
returns-in_err-kind-clause-adds g t c =
    let p = err_from_is_err_and c.from_residual.result c.from_residual.ensures.1 in
    let n : c.len-number.result ≡ length c.args.out.now.items = let k = c.args.out.now.ok in c.len-number.ensures ∙ k.0 in
    rw (p.1, p.2, ← n, ← c.deref.ensures.value) (walk_fails _ _ _ _ _ _ c.in_err-kind.ensures.gives)

pub below-init : goal.below-init
below-init g t c =
    let n : c.len-number.result ≡ length c.args.out.now.items = let k = c.args.out.now.ok in c.len-number.ensures ∙ k.0 in
    let m : length c.push.new.self.items ≡ c.len-number.result + 1 = rw (c.in_ok-push.ensures.items, length-append, ← n) refl in
    record {
      made = c.in_ok-kind.made;
      added = [];
      out = c.in_ok-push.ensures.items ∙ ap (λ (e : Element). c.args.out.now.items ++ e ∷ []) c.in_ok-childless.ensures ∙ sym (append-nil _);
      kept = rw (← n) (walk_init _ _ _ _ c.in_ok-kind.kind _ _ _ _ _ _ c.new-numbers.ensures.items c.spot_below-below.ensures c.deref-child-items.ensures.value m (rw c.deref.ensures.value at c.in_ok-kind.ensures.gives));
      places = refl;
      room = rw m (omega (arith, c.in_ok-kind.ensures.few));
    }

pub below-preserved-then-not-child : goal.below-preserved-then-not-child
below-preserved-then-not-child g t c = record {
  made = c.below.invariant.made;
  added = c.below.invariant.added;
  out = c.below.invariant.out;
  kept = child_skipped _ _ _ _ _ _ _ _ _ _ _ _ _ c.below-test.true c.child-item.is c.below.invariant.kept c.if-not-child.true;
  places = c.below.invariant.places;
  room = c.below.invariant.room;
}

pub below-preserved : goal.below-preserved
below-preserved g t c =
    let n : c.len.result ≡ length c.below.out.items = let k = c.below.out.ok in c.len.ensures ∙ k.0 in
    let adds = c.in_ok-walk.ensures.adds in
    record {
      made = c.below.invariant.made;
      added = c.below.invariant.added ++ adds.0;
      out = adds.1 ∙ ap (λ (es : List Element). es ++ adds.0) c.below.invariant.out ∙ append_assoc (c.args.out.now.items ++ node (out-RawElement c.args.raw.now).name c.below.invariant.made c.args.spot.parent [] ∷ []) c.below.invariant.added adds.0;
      kept = child_added _ _ _ _ _ _ _ _ _ _ _ _ _ c.below-test.true c.child-item.is c.below.invariant.kept _ adds.0 _ _ _ _ c.if-not-child.false
          (c.in_ok-push-3.ensures.items ∙ ap (λ (ps : List ℕ). ps ++ c.below.place ∷ []) c.below.invariant.places) n c.in_ok-push-2.ensures.items (ap length adds.1 ∙ length-append _ _) adds.2;
      places = c.pop.ensures.rest ∙ popped c.walk.new.places.items c.args.places.now.items c.below.place _ (let k = c.walk.new.places.ok in k.0)
          (c.in_ok-walk.ensures.places ∙ c.in_ok-push-3.ensures.items ∙ ap (λ (ps : List ℕ). ps ++ c.below.place ∷ []) c.below.invariant.places);
      room = c.in_ok-walk.ensures.room;
    }

pub returns-in_err-walk-clause-adds : goal.returns-in_err-walk-clause-adds
returns-in_err-walk-clause-adds g t c =
    let p = err_from_is_err_and c.from_residual-in_err-walk.result c.from_residual-in_err-walk.ensures.1 in
    rw (p.1, p.2) (child_stops _ _ _ _ _ _ _ _ _ _ _ _ _ c.below-test.true c.child-item.is c.below.invariant.kept _ _ _ c.if-not-child.false
    (c.in_ok-push-3.ensures.items ∙ ap (λ (ps : List ℕ). ps ++ c.below.place ∷ []) c.below.invariant.places) c.in_err-walk.ensures.adds)

pub returns-clause-adds : goal.returns-clause-adds
returns-clause-adds g t c =
    let n : c.len-number.result ≡ length c.args.out.now.items = let k = c.args.out.now.ok in c.len-number.ensures ∙ k.0 in (
      node (out-RawElement c.args.raw.now).name c.below.invariant.made c.args.spot.parent c.below.numbers.items ∷ c.below.invariant.added,
      c.set_children.ensures ∙ ap (λ (es : List Element). with_children es c.len-number.result c.below.numbers.items) c.below.invariant.out ∙ with_middle c.args.out.now.items _ _ _ _ n,
      walk_end _ _ _ _ _ _ _ _ _ _ _ _ (omega arith) c.below.invariant.kept,
    )

pub returns-clause-room : goal.returns-clause-room
returns-clause-room g t c = rw (c.set_children.ensures, len_with c.below.out.items c.len-number.result c.below.numbers.items) c.below.invariant.room

pub returns-in_err-childless-clause-adds : goal.returns-in_err-childless-clause-adds
returns-in_err-childless-clause-adds g t c =
    let p = err_from_is_err_and c.from_residual-in_err-childless.result c.from_residual-in_err-childless.ensures.1 in
    let n : c.len-number.result ≡ length c.args.out.now.items = let k = c.args.out.now.ok in c.len-number.ensures ∙ k.0 in
    rw (p.1, ← n, ← c.deref.ensures.value) (walk_fails _ _ _ _ _ _ (no_memory_after _ _ _ _ _ c.in_ok-kind.ensures.gives p.2))

pub returns-in_err-push-clause-adds : goal.returns-in_err-push-clause-adds
returns-in_err-push-clause-adds g t c =
    let p = err_from_is_err_and c.from_residual-in_err-push.result c.from_residual-in_err-push.ensures.1 in
    let n : c.len-number.result ≡ length c.args.out.now.items = let k = c.args.out.now.ok in c.len-number.ensures ∙ k.0 in
    rw (p.1, ← n, ← c.deref.ensures.value) (walk_fails _ _ _ _ _ _ (no_memory_after _ _ _ _ _ c.in_ok-kind.ensures.gives p.2))

pub returns-in_err-push-2-clause-adds : goal.returns-in_err-push-2-clause-adds
returns-in_err-push-2-clause-adds g t c =
    let p = err_from_is_err_and c.from_residual-in_err-push-2.result c.from_residual-in_err-push-2.ensures.1 in
    rw p.1 (no_memory_after _ _ _ _ _ c.below.invariant.kept p.2)

pub returns-in_err-push-3-clause-adds : goal.returns-in_err-push-3-clause-adds
returns-in_err-push-3-clause-adds g t c =
    let p = err_from_is_err_and c.from_residual-in_err-push-3.result c.from_residual-in_err-push-3.ensures.1 in
    rw p.1 (no_memory_after _ _ _ _ _ c.below.invariant.kept p.2)
