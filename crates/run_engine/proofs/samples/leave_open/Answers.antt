use Rattle.std.proofs.Common.{subst}
use Rattle.critical_section.specs.SectionSeats.{view_of}
use Rattle.run_engine.specs.SectionsRun.{HeldAs}
use Rattle.run_engine.proofs.samples.leave_open.Goals as goal

pub leave-requires-clause-open : goal.leave-requires-clause-open
leave-requires-clause-open c = subst (λ o. HeldAs o (view_of c.args.seat.now)) c.in-Some.is c.requires.held
