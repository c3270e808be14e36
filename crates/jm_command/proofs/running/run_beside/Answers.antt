use Rattle.std.proofs.Common.{length, ap, refl, inl, ◌∙◌}
use Rattle.interval_tables.proofs.Sums.{length-sum_of}
use Rattle.recorder_core.specs.RecorderSeats.{books_of, last_report, all_reports_of}
use Rattle.jm_command.proofs.StartLaws.{labelled_all, ticked_reports, ticked_so_far, few_opened, stopped_before, books_say}
use Rattle.jm_command.proofs.running.run_beside.Goals as goal

pub print_books-status-requires-clause-threads : goal.print_books-status-requires-clause-threads
print_books-status-requires-clause-threads g c = c.in-Ok.ensures.ends.0

pub print_books-status-requires-clause-labels : goal.print_books-status-requires-clause-labels
print_books-status-requires-clause-labels g c = labelled_all _ _ c.in-Ok.ensures.labelled

pub print_books-status-requires-clause-rows : goal.print_books-status-requires-clause-rows
print_books-status-requires-clause-rows g c = ap length c.in-Ok.ensures.total ∙ length-sum_of _ _

pub returns-in-Ok-clause-prints : goal.returns-in-Ok-clause-prints
returns-in-Ok-clause-prints g c =
    books_say c.args.run.now c.args.plan.now _ _ c.in-Ok.books.traces (all_reports_of c.in-Ok.books.books) c.in-Ok.books.total
    (record {
      opened = c.in-Ok.ensures.world.opened_are;
      threads = c.in-Ok.ensures.ends.0;
      ends = c.in-Ok.ensures.ends.1;
      sections = c.in-Ok.ensures.sections;
      labelled = c.in-Ok.ensures.labelled;
      follows = c.in-Ok.ensures.follows;
      parted = c.in-Ok.ensures.parted;
      total_is = c.in-Ok.ensures.total;
      stopped = stopped_before c.args.run.now.limit c.in-Ok.books.traces (books_of c.in-Ok.books.books).closed (last_report (books_of c.in-Ok.books.books)) c.in-Ok.ensures.stopped;
    })
    (ticked_reports (books_of c.in-Ok.books.books).closed (last_report (books_of c.in-Ok.books.books)) _ _ _ _ _ c.in-Ok.ensures.count c.every.ensures c.in-Ok.ensures.ticked)
    _ _ _ _ _ _ _ _ _ _ c.in-Ok.ensures.written c.in-Ok.ensures.ok c.print_books-status.result c.print_books-status.ensures

pub returns-in-Err-WriteFault-clause-prints : goal.returns-in-Err-WriteFault-clause-prints
returns-in-Err-WriteFault-clause-prints g c =
    let e = c.in-Err-WriteFault.ensures in
    inl (record {
      begun = e.prefix;
      ticked = ticked_so_far _ _ _ _ c.every.ensures e.asked;
      few = few_opened _ _ _ _ e.closed;
      heard = e.heard;
      rose = rw c.in-Err-WriteFault.field-0-is at e.cause;
      nothing = record { results = refl; result_faults = refl };
    })

pub returns-in-Err-NoMemory-clause-prints : goal.returns-in-Err-NoMemory-clause-prints
returns-in-Err-NoMemory-clause-prints g c =
    let e = c.in-Err-NoMemory.ensures in
    inl (record {
      begun = e.prefix;
      ticked = ticked_so_far _ _ _ _ c.every.ensures e.asked;
      few = few_opened _ _ _ _ e.closed;
      heard = e.heard;
      report_calm = rw c.in-Err-NoMemory.field-0-is at e.cause;
      nothing = record { results = refl; result_faults = refl };
    })
