-- An outside of a script may go to another thread: what it holds by parts, each by its own search.
use denote.Param.Send.{IsSend, recorded_send, view_send, sendable}
use denote.Param.SendFields.{declared_send}
use Rattle.std.proofs.Crossing.{Box-send, crosses}
use Rattle.outside_world.proofs.closed.Closed.TheLaws.TheKnot as knot
use Rattle.outside_world.specs.contracts.closed.Closed as Closed
use Rattle.outside_world.specs.contracts.script.Opening as Opening
use Rattle.outside_world.specs.contracts.script.ScriptOutside as ScriptOutside
use Rattle.outside_world.specs.contracts.script.ScriptOutside.TheInside as Inside

ruleset parts = (crosses, sendable)

-- what was closed is a list, each of whose parts holds the one before
closed_field : IsSend Closed.the_field.row
closed_field = knot.send-Closed (search parts depth 60) (search parts depth 60) Box-send

closed : IsSend Closed.the_row
closed = recorded_send Closed.the_field.row _ _ Closed.the_type.to_one closed_field

opening : IsSend Opening.the_row
opening = declared_send Opening.the_type (search parts depth 60, (search parts depth 60, (search (closed, parts) depth 60, tt)))

pub script : IsSend ScriptOutside.the_row
script = view_send Inside.the_row _ _ _ _ (declared_send Inside.the_type (
  search parts depth 60,
  (
    search parts depth 60,
    (
      search parts depth 60,
      (search parts depth 60, (search parts depth 60, (search parts depth 60, (search parts depth 60, (search (opening, parts) depth 60, tt))))),
    ),
  ),
))
