-- An outside over sockets may go to another thread, where its dialer and its clock may.
use denote.RattleType.{RattleType}
use denote.Param.Send.{IsSend, recorded_send, view_send, sendable}
use denote.Struct.Field.{row_field}
use denote.Param.SendFields.{as_row_send, declared_send}
use Rattle.std.proofs.Crossing.{Box-send, crosses}
use Rattle.http_sampler.proofs.opening.Closed.TheLaws.TheKnot as knot
use Rattle.http_sampler.specs.contracts.opening.Closed as Closed
use Rattle.http_sampler.specs.contracts.opening.Opening as Opening
use Rattle.http_sampler.specs.contracts.outside.HttpOutside as HttpOutside
use Rattle.http_sampler.specs.contracts.outside.HttpOutside.TheInside as Inside
use Rattle.http_sampler.specs.contracts.sockets.SocketDialer as SocketDialer
use Rattle.http_sampler.specs.contracts.sockets.SocketDialer.TheInside as DialerInside
use Rattle.http_sampler.specs.contracts.sockets.RealClock as RealClock
use Rattle.outside_sends.proofs.Crossing.{script}

ruleset parts = (crosses, sendable)

closed_field : IsSend Closed.the_field.row
closed_field = knot.send-Closed (search parts depth 60) Box-send

closed : IsSend Closed.the_row
closed = recorded_send Closed.the_field.row _ _ Closed.the_type.to_one closed_field

opening : IsSend Opening.the_row
opening = declared_send Opening.the_type (search parts depth 60, (search parts depth 60, (search (closed, parts) depth 60, tt)))

pub over_streams : (D C : RattleType) → IsSend D → IsSend C → IsSend (HttpOutside.the_row D C)
over_streams D C d c = view_send (Inside.the_row D C) _ _ _ _ (declared_send (Inside.the_type D C)
    (search parts depth 60, (search (script, parts) depth 60, (search (d, parts) depth 60, (search (c, parts) depth 60, (search (opening, parts) depth 60, tt))))))

dialer : (R : RattleType) → IsSend R → IsSend (SocketDialer.the_row R)
dialer R r = view_send (DialerInside.the_row R) _ _ _ _ (declared_send (DialerInside.the_type R) (as_row_send (row_field R) r, (search parts depth 60, (search parts depth 60, tt))))

clock : (R : RattleType) → IsSend R → IsSend (RealClock.the_row R)
clock R r = declared_send (RealClock.the_type R) (as_row_send (row_field R) r, tt)

-- and so where what is kept of the runtime may
pub over_sockets : (R : RattleType) → IsSend R → IsSend (HttpOutside.the_row (SocketDialer.the_row R) (RealClock.the_row R))
over_sockets R r = over_streams (SocketDialer.the_row R) (RealClock.the_row R) (dialer R r) (clock R r)
