use Rattle.std.proofs.Common.{◌∙◌, ◌*◌, ◌≤◌, List, ℕ, length, ap, sym, subst}
use Rattle.std.specs.Io.KnownBytes.{Appends}
use Rattle.element_tree.specs.Names.{labels_of}
use Rattle.interval_tables.specs.declared.report.Report.{Report}
use Rattle.interval_tables.specs.Rows.{sum_of, IsInBounds}
use Rattle.output_lines.specs.Reports.{report_text}
use Rattle.phaser_core.specs.declared.view.ReporterView.{ReporterView}
use Rattle.phaser_core.specs.Shares.{Partition}
use Rattle.phaser_words.specs.RecorderKinds.{lists_of}
use Rattle.recorder_core.specs.RecorderSeats.{reports, numbers_of, all_reports_of}
use Rattle.reporter_loop.specs.ReportsWritten.{texts_of, AppendsPrefix}
use Rattle.reporter_loop.proofs.Judging.{cut_after}
use Rattle.reporter_loop.proofs.Texts.{written_more}
use Rattle.phaser_core.specs.Keeps.{all_entries}
use Rattle.thread_machine.specs.Paired.{pairs_of}
use Rattle.run_engine.proofs.Totalling.{few_lists, all_counted, all_fit}
use Rattle.run_engine.proofs.finish.finish_run.Goals as goal

pub add_last-requires-clause-room : goal.add_last-requires-clause-room
add_last-requires-clause-room g c =
    let n = numbers_of c.args.recorder in let r = reports c.args.seat in let all = all_reports_of c.finish-books.result in let lists = pairs_of c.args.traces.items in
    let parted = subst (λ ls. Partition n.labels ls all) (ap (λ (q : ReporterView). lists_of q.joined) c.finish-books.ensures.lists ∙ c.requires.lists) c.finish-books.ensures.parted in
    let few : length lists * n.budget ≤ 4194304 = few_lists c.args.traces.items n.budget c.args.ask.now.budget c.requires.budget c.requires.few in
    all_fit n.labels r c.args.counts.total c.finish-books.new.into lists all c.requires.counted c.finish-books.ensures.reports parted n.budget c.requires.keep few

pub returns-in-Ok-clause-total : goal.returns-in-Ok-clause-total
returns-in-Ok-clause-total g c =
    let n = numbers_of c.args.recorder in let r = reports c.args.seat in let all = all_reports_of c.finish-books.result in let lists = pairs_of c.args.traces.items in
    let parted = subst (λ ls. Partition n.labels ls all) (ap (λ (q : ReporterView). lists_of q.joined) c.finish-books.ensures.lists ∙ c.requires.lists) c.finish-books.ensures.parted in
    c.add_last.ensures.total ∙ all_counted n.labels r c.args.counts.total c.finish-books.new.into lists all c.requires.counted c.finish-books.ensures.reports parted
    ∙ ap (λ (k : ℕ). sum_of k (all_entries lists)) c.requires.labels
    ∙ ap (λ ts. sum_of (length (labels_of c.args.ask.now.plan.now.elements)) (all_entries (pairs_of ts))) (sym c.of.ensures)

pub returns-in-Ok-clause-bounds : goal.returns-in-Ok-clause-bounds
returns-in-Ok-clause-bounds g c =
    let n = numbers_of c.args.recorder in let r = reports c.args.seat in let all = all_reports_of c.finish-books.result in let lists = pairs_of c.args.traces.items in
    let parted = subst (λ ls. Partition n.labels ls all) (ap (λ (q : ReporterView). lists_of q.joined) c.finish-books.ensures.lists ∙ c.requires.lists) c.finish-books.ensures.parted in
    let few : length lists * n.budget ≤ 4194304 = few_lists c.args.traces.items n.budget c.args.ask.now.budget c.requires.budget c.requires.few in
    subst IsInBounds (sym c.add_last.ensures.total) (all_fit n.labels r c.args.counts.total c.finish-books.new.into lists all c.requires.counted c.finish-books.ensures.reports parted n.budget c.requires.keep few)

pub returns-in-Ok-clause-written : goal.returns-in-Ok-clause-written
returns-in-Ok-clause-written g c = λ limit old h.
    let text = report_text c.args.ask.now.plan.now in
    subst (λ (rs : List Report). Appends old (g.K.Sink.written c.write_report.new.sink) (texts_of text rs)) (sym c.finish-books.ensures.reports)
    (written_more text (reports c.args.seat).closed c.finish-books.new.into old (g.K.Sink.written c.args.sink.now) (g.K.Sink.written c.write_report.new.sink) h.written
    (subst (λ (x : Report). Appends (g.K.Sink.written c.args.sink.now) (g.K.Sink.written c.write_report.new.sink) (text x)) c.add_last.ensures.last c.in-Ok.ensures.written))

pub returns-in-Err-clause-prefix : goal.returns-in-Err-clause-prefix
returns-in-Err-clause-prefix g c = λ limit old h.
    let text = report_text c.args.ask.now.plan.now in
    cut_after text limit (reports c.args.seat) c.finish-books.new.into old (g.K.Sink.written c.args.sink.now) (g.K.Sink.written c.write_report.new.sink) h c.finish-books.ensures.interval
    (subst (λ (x : Report). AppendsPrefix (g.K.Sink.written c.args.sink.now) (g.K.Sink.written c.write_report.new.sink) (text x)) c.add_last.ensures.last c.in-Err.ensures.cut)
