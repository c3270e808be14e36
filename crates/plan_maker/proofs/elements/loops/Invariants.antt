use Rattle.std.proofs.Common.{◌≡◌, map}
use Rattle.plan_json.specs.TreeSeen.{raw_view}
use Rattle.plan_maker.specs.Generated.{numbers_below}
use Rattle.plan_maker.specs.Raws.{loop_raw}
use Rattle.plan_maker.proofs.elements.loops.Given as goal

abbrev pub invariant-loop-place : goal.invariant-loop-place
invariant-loop-place l = map raw_view l.loops.items ≡ map loop_raw (numbers_below l.place)
