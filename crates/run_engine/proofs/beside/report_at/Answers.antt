use Rattle.run_engine.proofs.beside.report_at.Goals as goal

pub returns-clause-reported : goal.returns-clause-reported
returns-clause-reported g c =
    let at = c.report_until-seat.ensures in
    record { seat = at.seat; rows = at.rows; counted = at.counted; few = at.few; joined = at.joined; ticked = at.ticked; reported = at.reported; prefix = at.prefix; ok = at.ok; cause = at.cause }
