use Rattle.std.proofs.Common.{[], ◌∷◌, ◌++◌, map, ap, sym, ◌∙◌, arith}
use Rattle.std.proofs.lemmas.List.{map-append}
use Rattle.serde_json.specs.View.{view}
use Rattle.plan_json.specs.Shape.{shape}
use Rattle.plan_json.specs.TreeSeen.{raw_view, has_objects}
use Rattle.plan_json.proofs.ShapeLaws.{shape_refused, shape_unknown, child_depth, child_done, child_fault, all_done, own_gives, one_more, all_objects, on_ok_same, fails_along, popped}
use Rattle.std.proofs.lemmas.Result.{err_from_is_err_and}
use Rattle.plan_json.proofs.read.+element_of.Goals as goal

pub returns-then-not-is_element-clause-shape : goal.returns-then-not-is_element-clause-shape
returns-then-not-is_element-clause-shape t c = rw (c.in_ok-path_at.ensures) (shape_refused _ _ (grind (arith, c.is_element.ensures, c.if-not-is_element.true)))

pub returns-then-has_other_key-clause-shape : goal.returns-then-has_other_key-clause-shape
returns-then-has_other_key-clause-shape t c = rw (c.in_ok-path_at-2.ensures) (shape_unknown _ _ (sym c.is_element.ensures ∙ grind (arith, c.if-not-is_element.false)) (sym c.has_other_key.ensures ∙ c.if-has_other_key.true))

pub element_of-requires : goal.element_of-requires
element_of-requires t c = ((let less = child_depth (view c.args.value.now) c.items_of-item-items.result.now c.below.place c.item-item.result c.items_of-item-items.ensures c.below-test.true in rw (c.item-item.is) (omega (arith, less, c.decreases))), tt)

pub returns-in_err-element_of-clause-shape : goal.returns-in_err-element_of-clause-shape
returns-in_err-element_of-clause-shape t c =
    let p = err_from_is_err_and c.from_residual-in_err-element_of.result c.from_residual-in_err-element_of.ensures.1 in
    rw (p.1, p.2) (fails_along _ (shape c.push.new.self.items (view c.item-item.result)) _ c.in_err-element_of.ensures.shape (λ f e.
    child_fault c.args.places.now.items c.push.new.self.items c.items_of-item-items.result.now c.below.place c.item-item.result (map raw_view c.below.children.items) c.below-test.true c.item-item.is
    (c.in_ok-push.ensures.items ∙ ap (λ ps. ps ++ c.below.place ∷ []) c.below.invariant.places) c.below.invariant.below (view c.args.value.now) f
    (sym c.is_element.ensures ∙ grind (arith, c.if-not-is_element.false)) (sym c.has_other_key.ensures ∙ c.if-has_other_key.false) c.items_of-item-items.ensures e))

pub below-preserved : goal.below-preserved
below-preserved t c = record {
  below = rw (c.in_ok-push-2.ensures.items, map-append) (child_done c.args.places.now.items c.push.new.self.items c.items_of-item-items.result.now c.below.place c.item-item.result (map raw_view c.below.children.items) c.below-test.true c.item-item.is
      (c.in_ok-push.ensures.items ∙ ap (λ ps. ps ++ c.below.place ∷ []) c.below.invariant.places) c.below.invariant.below _ c.in_ok-element_of.ensures.shape);
  places = c.pop.ensures.rest ∙ popped c.element_of.new.places.items c.args.places.now.items c.below.place _ (let h = c.element_of.new.places.ok in h.0) (c.in_ok-element_of.ensures.places ∙ c.in_ok-push.ensures.items ∙ ap (λ ps. ps ++ c.below.place ∷ []) c.below.invariant.places);
  objects = rw (c.in_ok-push-2.ensures.items, map-append) (one_more (map has_objects c.below.children.items) (has_objects c.in_ok-element_of.field-0) c.below.invariant.objects c.in_ok-element_of.ensures.objects);
  items = c.below.invariant.items;
}

pub returns-clause-shape : goal.returns-clause-shape
returns-clause-shape t c = own_gives c.own_element.result c.args.places.now.items (view c.args.value.now) c.below.children.items c.own_element.ensures.element
    (all_done c.args.places.now.items c.items_of-item-items.result.now c.below.place _ (view c.args.value.now) (omega arith) c.below.invariant.below
    (sym c.is_element.ensures ∙ grind (arith, c.if-not-is_element.false)) (sym c.has_other_key.ensures ∙ c.if-has_other_key.false) c.items_of-item-items.ensures)

pub returns-clause-places : goal.returns-clause-places
returns-clause-places t c = on_ok_same c.own_element.result c.below.invariant.places

pub returns-clause-objects : goal.returns-clause-objects
returns-clause-objects t c = all_objects c.own_element.result c.below.children.items c.own_element.ensures.objects c.below.invariant.objects
