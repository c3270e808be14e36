use Rattle.std.proofs.Common.{◌≡◌, drop, false}
use Rattle.serde_json.specs.View.{items_view}
use Rattle.element_props.specs.Forms.{all_of, pair_in, items_have_long, AreShort}
use Rattle.element_props.proofs.PropLaws.{before}
use Rattle.element_props.proofs.forms.pairs_in.Given as goal

-- the pairs so far, before those that are left
abbrev pub invariant-pairs : goal.invariant-pairs
invariant-pairs l = record {
  kept : before l.found.items (all_of pair_in (items_view (drop l.item-index l.items))) ≡ all_of pair_in (items_view l.items);
  short : items_have_long 65536 (items_view (drop l.item-index l.items)) ≡ false;
  fit : AreShort l.found.items;
}
