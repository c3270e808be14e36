use Rattle.std.proofs.Common.{sym, ap, length, arith}
use Rattle.std.proofs.lemmas.Option.{slice_get_within}
use Rattle.std.proofs.lemmas.List.FromFn.{length-map-range_with_len}
use Rattle.node_table.specs.ElementLinks.{link_of}
use Rattle.control_machine.proofs.Starting.{new_stands, new_whole}
use Rattle.control_machine.proofs.machine.Machine.new.Goals as goal

pub count-children-requires : goal.count-children-requires
count-children-requires c =
    let within = slice_get_within c.args.plan.now.elements c.group_of-number.result c.in-Some.element.now (sym c.in-Some.ensures) in
    omega (arith, within, ap length c.in_ok-links.ensures, length-map-range_with_len (link_of c.args.plan.now.elements) 0 (length c.args.plan.now.elements))

pub returns-clause-stands : goal.returns-clause-stands
returns-clause-stands c =
    new_stands c.args.plan.now c.group_of-number.result c.in-Some.element.now c.in-ThreadGroup.loops c.in-ThreadGroup.on_error c.count-children.result c.new.result c.in_ok-places.places c.signal_of.result c.in_ok-links.links
    c.group_of-number.ensures.group c.in-Some.ensures (c.count-children.ensures c.args.plan.now.elements c.in-Some.element.now c.in_ok-links.ensures (sym c.in-Some.ensures)) c.new.ensures c.signal_of.ensures c.in_ok-links.ensures

pub returns-clause-whole : goal.returns-clause-whole
returns-clause-whole c = λ user own same.
    new_whole c.args.plan.now c.args.thread c.group_of-number.result c.in-Some.element.now c.in-ThreadGroup.loops c.in-ThreadGroup.on_error c.in-ThreadGroup.ramp_ms c.in-ThreadGroup.threads c.count-children.result c.new.result c.in_ok-places.places c.signal_of.result c.in_ok-links.links
    user own c.group_of-number.ensures.number c.in-Some.ensures c.in-ThreadGroup.is (c.count-children.ensures c.args.plan.now.elements c.in-Some.element.now c.in_ok-links.ensures (sym c.in-Some.ensures)) c.new.ensures c.signal_of.ensures
