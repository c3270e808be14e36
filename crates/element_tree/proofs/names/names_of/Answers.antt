use Rattle.std.proofs.Common.{◌≡◌, ℕ, ◌+◌, ◌<◌, List, length, drop, sym, ap, ◌∙◌, arith}
use Rattle.std.specs.List.{filter_map}
use Rattle.element_tree.specs.Names.{names_of, distinct_after, name_by}
use Rattle.element_tree.proofs.NameLaws.{too_many, names_step}
use Rattle.element_tree.proofs.names.names_of.Goals as goal

pub returns-then-len-gt-NAME_LIMIT : goal.returns-then-len-gt-NAME_LIMIT
returns-then-len-gt-NAME_LIMIT c =
    let n : c.len.result ≡ length c.add_name.new.texts.items = let k = c.add_name.new.texts.ok in c.len.ensures ∙ k.0 in
    let more : 256 < length c.add_name.new.texts.items = omega arith in
    let rest = filter_map (name_by c.args.naming) (drop (c.elements.element-index + 1) c.args.elements.now) in
    too_many 256 c.add_name.new.texts.items rest (names_of c.args.naming c.args.elements.now)
    (ap (λ (seen : List (List ℕ)). distinct_after seen rest) c.in_ok-add_name.ensures
    ∙ sym (names_step c.args.naming c.elements.names.items c.args.elements.now c.elements.element-index c.element-item.result c.elements-test.true c.element-item.is) ∙ c.elements.invariant.left) more
