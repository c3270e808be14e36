use Rattle.std.proofs.Common.{◌∙◌, sym, ap, arith}
use Rattle.serde_json.specs.View.{members_view}
use Rattle.element_props.proofs.WrittenLaws.{written_none}
use Rattle.element_props.proofs.written.written_members.Goals as goal

pub loop-left-init : goal.loop-left-init
loop-left-init c = record {
  rows = omega (arith, c.min-left.ensures);
  values = omega (arith, c.min-left.ensures);
  done = ap members_view c.new-map.ensures.empty ∙ sym (written_none c.args.rows.now c.args.values.now c.min-left.result c.min-left.ensures);
}
